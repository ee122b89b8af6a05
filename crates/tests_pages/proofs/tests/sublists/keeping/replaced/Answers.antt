use Rattle.std.proofs.Common.{[], ◌++◌, List, ap, sym, subst, ◌∙◌, ◌≡◌}
use Rattle.std.proofs.lemmas.List.{append-nil}
use Rattle.base_types.specs.declared.extent.Extent.{Extent}
use Rattle.journal_entries.specs.declared.place.Place.{Place}
use Rattle.pages_area.specs.Taken.{HasTaken}
use Rattle.pages_area.specs.Caches.{Kept}
use Rattle.pages_area.specs.CacheLaws.{LieIn}
use Rattle.pages_sublists.specs.Preparing.{extents}
use Rattle.pages_sublists.specs.Caching.{without_all}
use Rattle.pages_sublists.proofs.KeptLemmas.{kept_apart, lie_behind, lie_without}
use Rattle.tests_pages.proofs.tests.sublists.keeping.replaced.Goals as goal

pub write-requires-clause-unkept : goal.write-requires-clause-unkept
write-requires-clause-unkept g c =
    let mine = extents c.expect-prepared.result.places in
    let old = extents c.args.old.now in
    let L : List Kept → Type 0 = λ cache. LieIn old cache in
    let both : HasTaken c.prepare.new.self.pages (mine ++ old) = rw c.expect-prepared.ensures at (c.prepare.ensures.taken old c.requires.taken) in
    kept_apart mine old c.prepare.new.self.cache both.apart (subst L (sym c.prepare.ensures.cache) c.requires.lie)

pub returns-clause-taken : goal.returns-clause-taken
returns-clause-taken g c =
    let mine = extents c.expect-prepared.result.places in
    let old = extents c.args.old.now in
    let same : c.expect-places.result.items ≡ c.expect-prepared.result.places = rw c.expect-places.ensures at c.from_slice.ensures.items ∙ c.places.ensures.value in
    let both : HasTaken c.prepare.new.self.pages (mine ++ old) = rw c.expect-prepared.ensures at (c.prepare.ensures.taken old c.requires.taken) in
    let O : List Extent → Type 0 = λ es. HasTaken c.prepare.new.self.pages (mine ++ es) in
    let M : List Extent → Type 0 = λ es. HasTaken c.adopt.new.self.pages es in
    let P : List Place → Type 0 = λ ps. HasTaken c.adopt.new.self.pages (extents ps) in
    subst P (sym same) (subst M (append-nil mine) (c.adopt.ensures.freed [] (subst O (sym (append-nil old)) both)))

pub returns-clause-lie : goal.returns-clause-lie
returns-clause-lie g c =
    let mine = extents c.expect-prepared.result.places in
    let old = extents c.args.old.now in
    let same : c.expect-places.result.items ≡ c.expect-prepared.result.places = rw c.expect-places.ensures at c.from_slice.ensures.items ∙ c.places.ensures.value in
    let cache = c.args.sublists.now.cache in
    let left = c.adopt.ensures.cache ∙ ap (λ (kept : List Kept). without_all old kept) c.prepare.ensures.cache in
    let O : List Extent → Type 0 = λ es. LieIn (mine ++ es) cache in
    let M : List Extent → Type 0 = λ es. LieIn es (without_all old cache) in
    let L : List Kept → Type 0 = λ kept. LieIn mine kept in
    let P : List Place → Type 0 = λ ps. LieIn (extents ps) c.adopt.new.self.cache in
    subst P (sym same) (subst L (sym left) (subst M (append-nil mine) (lie_without mine old [] cache (subst O (sym (append-nil old)) (lie_behind mine old cache c.requires.lie)))))
