use Rattle.std.proofs.Common.{List, subst}
use Rattle.std.proofs.lemmas.Result.{IfOk-weaker}
use Rattle.base_types.specs.declared.posting.Posting.{Posting}
use Rattle.lists_postings.specs.Lists.{IsList}
use Rattle.lists_approx.specs.Approximations.{IsLongestFirst}
use Rattle.archive_questions.proofs.RoughLemmas.{sorted_short}
use Rattle.archive_questions.proofs.approximating.shortened.Goals as goal

pub returns-then-is_list-2 : goal.returns-then-is_list-2
returns-then-is_list-2 c =
    let list = c.in_ok-list.list.items in
    let ordered = subst (λ (l : List Posting). IsList l) c.deref.ensures.value (c.is_list-2.ensures c.if-is_list-2.true) in
    IfOk-weaker c.approximate-then-is_list-2.result _ _
    (λ short first. sorted_short c.args.tolerance c.args.postings.now list short.items c.in_ok-list.ensures ordered
    (subst (λ (l : List Posting). IsLongestFirst c.args.tolerance l short.items) c.deref-then-is_list-2.ensures.value first)) c.approximate-then-is_list-2.ensures.longest_first
