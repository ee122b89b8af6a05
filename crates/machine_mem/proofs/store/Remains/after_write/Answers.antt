use Rattle.std.proofs.Common.{rules}
use Rattle.machine_mem.proofs.WrittenLemmas.{written_sound, AreBytes-from_fits}
use Rattle.machine_mem.proofs.store.Remains.after_write.Goals as goal

pub invariant_of-result : goal.invariant_of-result
invariant_of-result c = record {
  sound = written_sound c.args.at c.args.bytes.now c.args.self.now.sound (AreBytes-from_fits _ c.type_inv.bytes) c.requires (search rules) (search rules) (search rules);
}
