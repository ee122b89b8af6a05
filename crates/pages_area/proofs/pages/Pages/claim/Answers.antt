use Rattle.std.proofs.Common.{ℕ, List, refl, ap, subst, ◌∙◌, rules}
use Rattle.pages_area.specs.Runs.{pages_for}
use Rattle.pages_area.specs.Edges.{AreFree}
use Rattle.pages_area.specs.Taken.{PagesState}
use Rattle.pages_area.proofs.TakenLemmas.{none_more, taken_page}
use Rattle.pages_area.proofs.pages.Pages.claim.Goals as goal

pub returns-then-extent-eq0-clause-yes : goal.returns-then-extent-eq0-clause-yes
returns-then-extent-eq0-clause-yes c free extents has = none_more c.args.self.now extents c.args.extent c.if-extent-eq0.true has

pub returns-then-not-are_free-clause-no : goal.returns-then-not-are_free-clause-no
returns-then-not-are_free-clause-no c not_free extents has = taken_page c.args.self.now extents c.args.extent has (search rules)

pub returns-clause-yes : goal.returns-clause-yes
returns-clause-yes c free extents has =
    let same = c.deref.ensures.value ∙ ap (λ (s : PagesState). s.edges) c.self.view_is in
    let were_free = subst (λ (es : List ℕ). AreFree es c.args.extent.first (pages_for c.args.extent.bytes)) same (c.if-not-are_free.ensures.yes refl) in
    c.in_ok-hold.ensures.held extents has were_free
