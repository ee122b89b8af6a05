use Rattle.std.proofs.Common.{[], ◌++◌, List, sym, subst}
use Rattle.journal_entries.specs.declared.place.Place.{Place}
use Rattle.pages_area.specs.Taken.{HasTaken}
use Rattle.pages_sublists.specs.Preparing.{extents}
use Rattle.pages_sublists.specs.Caching.{SublistsState}
use Rattle.pages_sublists.proofs.store.Sublists.forget.Goals as goal

pub returns-clause-freed : goal.returns-clause-freed
returns-clause-freed c = λ live has.
    let S : SublistsState → Type 0 = λ s. HasTaken s.pages (extents c.places.result.now ++ live) in
    let P : List Place → Type 0 = λ ps. HasTaken c.args.self.now.pages (extents ps ++ live) in
    c.release.ensures.freed [] live (subst S (sym c.self.view_is) (subst P (sym c.places.ensures.value) has))
