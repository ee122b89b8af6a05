use Rattle.std.proofs.Common.{arith}
use Rattle.std.proofs.lemmas.Bool.Decides.{nat_tests}
use Rattle.plans_kinds.proofs.capping.keeps_cap.Goals as goal

pub returns-then-cuts-boundaries : goal.returns-then-cuts-boundaries
returns-then-cuts-boundaries c list horizon t = grind (arith, nat_tests, c.space_of.ensures list horizon t, c.postings.ensures.count list horizon t)
