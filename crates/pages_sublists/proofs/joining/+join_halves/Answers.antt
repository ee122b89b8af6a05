use Rattle.std.proofs.Common.{◌/◌, length}
use Rattle.std.proofs.lemmas.Result.{IfOk-weaker}
use Rattle.lists_postings.specs.Unions.{IsUnion}
use Rattle.pages_sublists.specs.Joining.{AreJoined}
use Rattle.pages_sublists.proofs.JoinLemmas.{halves_joined, union_of_same}
use Rattle.pages_sublists.proofs.joining.+join_halves.Goals as goal

pub returns : goal.returns
returns t c =
    let lists = c.args.lists.now in
    let one = c.in_ok-one.one.items in
    let other = c.in_ok-other.other.items in
    IfOk-weaker c.merge_distinct.result (λ v. IsUnion c.deref.result.now c.deref-2.result.now v.items) (λ v. AreJoined lists v.items)
    (λ v union. halves_joined (length lists / 2) c.split_at.result.0.now c.split_at.result.1.now lists one other v.items c.split_at.ensures.front c.split_at.ensures.back c.in_ok-one.ensures c.in_ok-other.ensures
    (union_of_same c.deref.result.now one c.deref-2.result.now other v.items c.deref.ensures.value c.deref-2.ensures.value union)) c.merge_distinct.ensures.union
