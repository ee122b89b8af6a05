use Rattle.std.proofs.Common.{◌++◌, arith, rules}
use Rattle.std.proofs.lemmas.Bool.Decides.{nat_tests}
use Rattle.std.proofs.lemmas.List.Sorted.{IsPermutation-middle}
use Rattle.pages_area.proofs.OrderLemmas.{taken_permuted}
use Rattle.pages_area.proofs.TakenLemmas.{one_less, none_less}
use Rattle.pages_area.proofs.pages.Pages.give_back.Goals as goal

pub returns-then-extent-eq0 : goal.returns-then-extent-eq0
returns-then-extent-eq0 c = record { freed = λ before after has. none_less c.args.self.now (before ++ after) c.args.extent c.if-extent-eq0.true (taken_permuted c.args.self.now _ _ (IsPermutation-middle before c.args.extent after) has) }

pub returns : goal.returns
returns c = record {
  freed = λ before after has.
      one_less c.args.self.now _ (before ++ after) c.args.extent (search rules) (grind (arith, nat_tests)) (taken_permuted c.args.self.now _ _ (IsPermutation-middle before c.args.extent after) has);
}
