use Rattle.std.proofs.Common.{◌≡◌, List, sym, subst, ◌∙◌}
use Rattle.std.proofs.lemmas.Result.{IfOk-weaker}
use Rattle.base_types.specs.declared.posting.Posting.{Posting}
use Rattle.pages_sublists.specs.Joining.{AreJoined}
use Rattle.pages_sublists.proofs.JoinLemmas.{first_joined}
use Rattle.pages_sublists.proofs.joining.copied.Goals as goal

pub returns-in-Some : goal.returns-in-Some
returns-in-Some c =
    let lists = c.args.lists.now in
    let first = c.in-Some.ensures.item in
    IfOk-weaker c.from_slice.result (λ v. v.items ≡ c.postings.result.now) (λ v. AreJoined lists v.items)
    (λ v is. subst (λ (l : List Posting). AreJoined lists l) (sym (is ∙ c.postings.ensures)) (first_joined lists c.in-Some.list.now c.requires.few first.3.0 first.1 c.requires.lists)) c.from_slice.ensures.items
