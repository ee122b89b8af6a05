use Rattle.std.proofs.Common.{arith, rules}
use Rattle.std.proofs.lemmas.Nat.{be_bytes_8}
use Rattle.journal_packets.proofs.first.number_in.Goals as goal

pub returns-clause-spelled : goal.returns-clause-spelled
returns-clause-spelled c = be_bytes_8 c.args.bytes.now _ c.requires (λ i. omega (arith, c.type_inv.bytes i)) (search rules)
