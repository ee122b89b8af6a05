use Rattle.std.proofs.Common.{ℕ, List, ◌+◌, ◌++◌, All, OnOk, sym, subst, take, drop}
use Rattle.journal_entries.specs.declared.place.Place.{Place}
use Rattle.pages_area.specs.Crash.{ChangesOnly}
use Rattle.pages_area.specs.Runs.{IsTaken}
use Rattle.pages_area.specs.Taken.{HasTaken, AreApart}
use Rattle.pages_area.specs.Caches.{Kept, StandsFor}
use Rattle.pages_sublists.specs.Paged.{WrotePages, page_ranges, pages_of}
use Rattle.pages_sublists.specs.Preparing.{PreparedState, extents, pieces_of}
use Rattle.pages_sublists.proofs.PagedLemmas.{places_apart, counted_still}
use Rattle.pages_sublists.proofs.store.Sublists.write_some.Goals as goal

pub write_pages-requires-clause-apart : goal.write_pages-requires-clause-apart
write_pages-requires-clause-apart g c =
    let places = c.prepared.inside.places.items in
    let live = c.requires.taken.0 in
    let H : PreparedState → Type 0 = λ s. HasTaken c.args.self.now.pages (extents s.places ++ live) in
    let P : List Place → Type 0 = λ ps. AreApart (extents ps) in
    subst P (sym c.deref.ensures.value) (places_apart c.args.self.now.pages places live (subst H (sym c.prepared.view_is) c.requires.taken.1))

pub returns-clause-images : goal.returns-clause-images
returns-clause-images g c = λ tells.
    let places = c.prepared.inside.places.items in
    let old = g.D.Disk.disk c.args.disk.now in
    let new = g.D.Disk.disk c.write_pages.new.disk in
    let P : List Place → Type 0 = λ ps. ChangesOnly (page_ranges (take c.args.pages (drop c.args.from (pages_of (pieces_of ps c.deref-2.result.now))))) old new in
    let B : List (List ℕ) → Type 0 = λ bs. ChangesOnly (page_ranges (take c.args.pages (drop c.args.from (pages_of (pieces_of places bs))))) old new in
    let S : PreparedState → Type 0 = λ s. ChangesOnly (page_ranges (take c.args.pages (drop c.args.from (pages_of (pieces_of s.places s.spellings))))) old new in
    subst S c.prepared.view_is (subst B c.deref-2.ensures.value (subst P c.deref.ensures.value (c.write_pages.ensures.images tells)))

pub returns-clause-counted : goal.returns-clause-counted
returns-clause-counted g c = λ tells.
    let places = c.prepared.inside.places.items in
    let all = c.prepared.inside.spellings.items in
    let cache = c.args.self.now.cache in
    let live = c.requires.taken.0 in
    let old = g.D.Disk.disk c.args.disk.now in
    let new = g.D.Disk.disk c.write_pages.new.disk in
    let H : PreparedState → Type 0 = λ s. HasTaken c.args.self.now.pages (extents s.places ++ live) in
    let U : PreparedState → Type 0 = λ s. All (λ (k : Kept). IsTaken (extents s.places) k.page → ⊥) cache in
    let P : List Place → Type 0 = λ ps. OnOk c.write_pages.result (WrotePages (take c.args.pages (drop c.args.from (pages_of (pieces_of ps c.deref-2.result.now)))) old.holds new.holds) in
    let B : List (List ℕ) → Type 0 = λ bs. OnOk c.write_pages.result (WrotePages (take c.args.pages (drop c.args.from (pages_of (pieces_of places bs)))) old.holds new.holds) in
    let S : PreparedState → Type 0 = λ s. StandsFor (cache ++ take c.args.from (pages_of (pieces_of s.places s.spellings))) old.holds.pages
    → OnOk c.write_pages.result (StandsFor (cache ++ take (c.args.from + c.args.pages) (pages_of (pieces_of s.places s.spellings))) new.holds.pages) in
    subst S c.prepared.view_is (counted_still c.write_pages.result cache places all c.args.pages c.args.from old.holds new.holds c.prepared.invariant.0
    (places_apart c.args.self.now.pages places live (subst H (sym c.prepared.view_is) c.requires.taken.1)) (subst U (sym c.prepared.view_is) c.requires.unkept)
    (subst B c.deref-2.ensures.value (subst P c.deref.ensures.value (c.write_pages.ensures.wrote tells))))
