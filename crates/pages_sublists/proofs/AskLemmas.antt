-- Pages that are asked for, place by place.
use Rattle.std.proofs.Common.{◌≡◌, ℕ, ◌+◌, ◌<◌, zero, suc, add-zero, add_assoc, List, [], ◌∷◌, ◌++◌, length, get_or, refl, ap, sym, subst, ◌∙◌, inl, inr, arith}
use Rattle.std.proofs.lemmas.List.{append_assoc, append-nil}
use Rattle.std.proofs.lemmas.Grind.{flat_map-append}
use Rattle.base_types.specs.declared.extent.Extent.{Extent}
use Rattle.machine_model.specs.Areas.{Both, replaced}
use Rattle.machine_model.specs.declared.area.Area.TheVariants.{Pages}
use Rattle.journal_entries.specs.declared.place.Place.{Place}
use Rattle.pages_area.specs.Runs.{IsPageOf, IsTaken, pages_for}
use Rattle.pages_area.specs.Caches.{Kept, after_asking_all, missed_by_all}
use Rattle.pages_area.specs.Pieces.{pieces, first_pieces}
use Rattle.pages_area.specs.CacheLaws.{LieIn}
use Rattle.pages_area.proofs.CacheLawLemmas.{askings-join, misses-join, asked-in-taken}
use Rattle.pages_sublists.specs.Gathering.{Chosen}
use Rattle.pages_sublists.specs.Preparing.{extents}
use Rattle.pages_sublists.specs.Caching.{pieces_at, pieces_of_all}

-- ---- one place

-- what is kept lies where it did, and in the extent whose pages were asked for
pub lie_asked : (taken : List Extent) (e : Extent) (bytes : List ℕ) (old new : List Kept) → length bytes ≡ e.bytes → new ≡ after_asking_all (pieces e.first bytes) old
    → ((p : ℕ) → IsPageOf e p → IsTaken taken p) → LieIn taken old → LieIn taken new
lie_asked taken e bytes old new long asked among lie =
    let L : List Kept → Type 0 = λ cache. LieIn taken cache in
    subst L (sym asked) (asked-in-taken taken e (pages_for (length bytes)) bytes old among (omega (arith, long)) lie)

-- also where not all of them were
pub lie_partly : (taken : List Extent) (e : Extent) (bytes : List ℕ) (old new : List Kept) → (n : ℕ) × ((n < pages_for e.bytes) × (new ≡ after_asking_all (first_pieces n e.first bytes) old))
    → ((p : ℕ) → IsPageOf e p → IsTaken taken p) → LieIn taken old → LieIn taken new
lie_partly taken e bytes old new (n, (few, asked)) among lie =
    let L : List Kept → Type 0 = λ cache. LieIn taken cache in
    subst L (sym asked) (asked-in-taken taken e n bytes old among (omega (arith, few)) lie)

-- the pages of a place are among those of all
pub among_all : (places : List Place) (k : ℕ) (place : Place) (p : ℕ) → k < length places → place ≡ get_or places k place → IsPageOf place.extent p → IsTaken (extents places) p
among_all [] k place p within is mine = absurd (omega (arith, within))
among_all (q ∷ places) zero place p within is mine = inl (subst (λ (x : Place). IsPageOf x.extent p) is mine)
among_all (q ∷ places) (suc k) place p within is mine = inr (among_all places k place p (omega (arith, within)) is mine)

-- ---- place by place

-- The pages of these segments' places were asked for, and those of the rest make those of all.
pub record HasAsked (pages : List ℕ) (was now : List Kept) (old new : Both ℕ) (rest all : List Chosen) : Type 0 where
  pub done : List Chosen
  pub is : done ++ rest ≡ all
  pub asked : now ≡ after_asking_all (pieces_of_all pages done) was
  pub count : new ≡ replaced old Pages (old.pages + missed_by_all (pieces_of_all pages done) was)

pub asked_none : (pages : List ℕ) (was : List Kept) (old : Both ℕ) (all : List Chosen) → HasAsked pages was was old old all all
asked_none pages was old all = record { done = []; is = refl; asked = refl; count = ap (λ (n : ℕ). replaced old Pages n) (sym (add-zero old.pages)) }

pub asked_same : (pages : List ℕ) (was now : List Kept) (old mid : Both ℕ) (rest new all : List Chosen) → new ≡ rest → HasAsked pages was now old mid rest all → HasAsked pages was now old mid new all
asked_same pages was now old mid rest new all same asked = subst (λ (r : List Chosen). HasAsked pages was now old mid r all) (sym same) asked

pieces_more : (pages : List ℕ) (done : List Chosen) (c : Chosen) → pieces_of_all pages (done ++ c ∷ []) ≡ pieces_of_all pages done ++ pieces_at pages c.place.extent
pieces_more pages done c =
    let at : Chosen → List Kept = λ (x : Chosen). pieces_at pages x.place.extent in
    flat_map-append at done (c ∷ []) ∙ ap (λ (ks : List Kept). pieces_of_all pages done ++ ks) (append-nil (at c))

pub asked_more : (pages were : List ℕ) (was mid now : List Kept) (old between new : Both ℕ) (rest left all : List Chosen) (c : Chosen) → were ≡ pages → rest ≡ c ∷ left
    → now ≡ after_asking_all (pieces_at were c.place.extent) mid → new ≡ replaced between Pages (between.pages + missed_by_all (pieces_at were c.place.extent) mid)
    → HasAsked pages was mid old between rest all → HasAsked pages was now old new left all
asked_more pages were was mid now old between new rest left all c same is asked count so_far =
    let at : List ℕ → List Kept = λ (ps : List ℕ). pieces_at ps c.place.extent in
    let ks : List Kept = pieces_of_all pages so_far.done in
    let ls : List Kept = pieces_at pages c.place.extent in
    let both : pieces_of_all pages (so_far.done ++ c ∷ []) ≡ ks ++ ls = pieces_more pages so_far.done c in
    let missed : (old.pages + missed_by_all ks was) + missed_by_all ls mid ≡ old.pages + missed_by_all (pieces_of_all pages (so_far.done ++ c ∷ [])) was =
    add_assoc old.pages (missed_by_all ks was) (missed_by_all ls mid)
    ∙ ap (λ (n : ℕ). old.pages + n) (ap (λ (cache : List Kept). missed_by_all ks was + missed_by_all ls cache) so_far.asked ∙ sym (misses-join ks ls was) ∙ ap (λ (all : List Kept). missed_by_all all was) (sym both)) in
    record {
      done = so_far.done ++ c ∷ [];
      is = append_assoc so_far.done (c ∷ []) left ∙ ap (λ (cs : List Chosen). so_far.done ++ cs) (sym is) ∙ so_far.is;
      asked = asked ∙ ap (λ (ps : List ℕ). after_asking_all (at ps) mid) same ∙ ap (λ (cache : List Kept). after_asking_all ls cache) so_far.asked ∙ sym (askings-join ks ls was) ∙ ap (λ (all : List Kept). after_asking_all all was) (sym both);
      count = count ∙ ap (λ (ps : List ℕ). replaced between Pages (between.pages + missed_by_all (at ps) mid)) same ∙ ap (λ (m : Both ℕ). replaced m Pages (m.pages + missed_by_all ls mid)) so_far.count ∙ ap (λ (n : ℕ). replaced old Pages n) missed;
    }
