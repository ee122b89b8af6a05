use Rattle.std.proofs.Common.{ℕ, List, ◌++◌, All, OnOk, sym, subst}
use Rattle.journal_entries.specs.declared.place.Place.{Place}
use Rattle.pages_area.specs.Runs.{IsTaken}
use Rattle.pages_area.specs.Taken.{HasTaken, AreApart}
use Rattle.pages_area.specs.Wrote.{Stored, extents_of}
use Rattle.pages_area.specs.Caches.{Kept}
use Rattle.pages_sublists.specs.Preparing.{PreparedState, extents, pieces_of}
use Rattle.pages_sublists.proofs.WriteLemmas.{pieces_apart, stands_still}
use Rattle.pages_sublists.proofs.store.Sublists.write.Goals as goal

pub write_all-requires-clause-apart : goal.write_all-requires-clause-apart
write_all-requires-clause-apart g c =
    let places = c.prepared.inside.places.items in
    let all = c.prepared.inside.spellings.items in
    let live = c.requires.taken.0 in
    let H : PreparedState → Type 0 = λ s. HasTaken c.args.self.now.pages (extents s.places ++ live) in
    let P : List Place → Type 0 = λ ps. AreApart (extents_of (pieces_of ps all)) in
    let B : List (List ℕ) → Type 0 = λ bs. AreApart (extents_of (pieces_of c.deref.result.now bs)) in
    subst B (sym c.deref-2.ensures.value) (subst P (sym c.deref.ensures.value) (pieces_apart c.args.self.now.pages places all live c.prepared.invariant.0 (subst H (sym c.prepared.view_is) c.requires.taken.1)))

pub returns-clause-stays : goal.returns-clause-stays
returns-clause-stays g c = λ tells.
    let places = c.prepared.inside.places.items in
    let all = c.prepared.inside.spellings.items in
    let cache = c.args.self.now.cache in
    let old = g.D.Disk.disk c.args.disk.now in
    let new = g.D.Disk.disk c.write_all.new.disk in
    let U : PreparedState → Type 0 = λ s. All (λ (k : Kept). IsTaken (extents s.places) k.page → ⊥) cache in
    let P : List Place → Type 0 = λ ps. OnOk c.write_all.result (Stored (pieces_of ps c.deref-2.result.now) old new) in
    let B : List (List ℕ) → Type 0 = λ bs. OnOk c.write_all.result (Stored (pieces_of places bs) old new) in
    stands_still c.write_all.result cache places all old new c.prepared.invariant.0 (subst U (sym c.prepared.view_is) c.requires.unkept)
    (subst B c.deref-2.ensures.value (subst P c.deref.ensures.value (c.write_all.ensures.stored tells)))
