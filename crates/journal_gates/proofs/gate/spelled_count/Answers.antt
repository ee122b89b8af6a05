use Rattle.std.proofs.Common.{arith, rules}
use Rattle.std.proofs.lemmas.Nat.{be_bytes_4}
use Rattle.journal_gates.proofs.gate.spelled_count.Goals as goal

pub returns : goal.returns
returns c = be_bytes_4 c.args.bytes.now _ c.requires (λ i. omega (arith, c.type_inv.bytes i)) (search rules)
