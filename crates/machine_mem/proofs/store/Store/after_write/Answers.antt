use Rattle.std.proofs.Common.{rules, arith, take, length, ◌≤◌}
use Rattle.std.proofs.lemmas.List.{length-take}
use Rattle.machine_mem.proofs.WrittenLemmas.{written_allowed, AreBytes-from_fits, AreBytes-take}
use Rattle.machine_mem.proofs.store.Store.after_write.Goals as goal

pub invariant_of-result-clause-allowed : goal.invariant_of-result-clause-allowed
invariant_of-result-clause-allowed c =
    let bytes = c.args.bytes.now in
    let came = AreBytes-take c.args.landed bytes (AreBytes-from_fits bytes c.type_inv.bytes) in
    let short : length (take c.args.landed bytes) ≤ length bytes = omega (arith, length-take c.args.landed bytes) in
    written_allowed c.args.at (length bytes) (take c.args.landed bytes) c.args.self.now.allowed came short (search rules) (search rules) (search rules)
