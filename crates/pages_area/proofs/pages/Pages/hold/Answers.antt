use Rattle.std.proofs.Common.{arith, rules}
use Rattle.std.proofs.lemmas.Bool.Decides.{nat_tests}
use Rattle.pages_area.proofs.TakenLemmas.{one_more}
use Rattle.pages_area.proofs.pages.Pages.hold.Goals as goal

pub returns-clause-held : goal.returns-clause-held
returns-clause-held c extents has free = one_more c.args.self.now _ extents c.args.extent free (search rules) (grind (arith, nat_tests)) has
