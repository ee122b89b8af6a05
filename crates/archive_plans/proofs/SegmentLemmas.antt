-- The segment of a plan that has a time is the only one.
use Rattle.std.proofs.Common.{◌≡◌, ◌⊎◌, ℕ, zero, suc, ◌+◌, ◌<◌, ◌≤◌, ◌&&◌, ◌==◌, nat_lt, Bool, true, false, if◌then◌else◌, List, [], ◌∷◌, ◌++◌, length, drop, get_or, slice_index, refl, ap, sym, subst, ◌∙◌, arith, inl, inr}
use Rattle.std.proofs.lemmas.Bool.Decides.{nat_tests}
use Rattle.std.specs.List.Sorted.{IsStrictlyIncreasing}
use Rattle.base_types.specs.declared.time.Time.{Time}
use Rattle.journal_entries.specs.declared.place.Place.{Place}
use Rattle.journal_entries.specs.declared.plan.PlanEntry.{PlanEntry}
use Rattle.pages_area.specs.Runs.{IsPageOf, IsTaken}
use Rattle.pages_sublists.specs.Fetching.{IfDamaged}
use Rattle.pages_sublists.specs.Gathering.{Chosen, chosen}
use Rattle.pages_sublists.specs.Preparing.{extents}
use Rattle.pages_sublists.specs.declared.why.Damage.{Damage}
use Rattle.pages_sublists.specs.declared.why.FetchError.{FetchError}
use Rattle.pages_sublists.specs.declared.why.FetchError.TheVariants as fetches
use Rattle.pages_sublists.specs.Segments.{next_cut, seconds}
use Rattle.archive_plans.specs.Framing.{AreInTurn, chosen_at}

-- whether a segment has the time
has : (f g t : ℕ) → f ≤ t → t < g → (nat_lt f (t + 1) && nat_lt t g) ≡ true
has f g t a b = grind (arith, nat_tests)

pub misses : (f g t : ℕ) → (t < f) ⊎ (g ≤ t) → (nat_lt f (t + 1) && nat_lt t g) ≡ false
misses f g t (inl a) = grind (arith, nat_tests)
misses f g t (inr b) = grind (arith, nat_tests)

pub behind : (xs : List ℕ) (x : ℕ) → IsStrictlyIncreasing (x ∷ xs) → IsStrictlyIncreasing xs
behind xs x up = λ k l. let plus : suc k + 1 ≡ suc (k + 1) = omega arith in subst (λ j. slice_index xs k < slice_index (x ∷ xs) j) plus (up (suc k) (omega (arith, l)))

first-two : (f h : ℕ) (cuts : List ℕ) → IsStrictlyIncreasing (f ∷ cuts ++ h ∷ []) → f < next_cut cuts h
first-two f h [] up = up 0 (omega arith)
first-two f h (g ∷ cuts) up = up 0 (omega arith)

-- no segment begins later and has the time
pub none-later : (t h : ℕ) (first : Bool) (cuts : List ℕ) (places : List Place) → IsStrictlyIncreasing (cuts ++ h ∷ []) → t < next_cut cuts h → chosen t (t + 1) h first cuts places ≡ []
none-later t h first [] places up l = refl
none-later t h first (f ∷ cuts) [] up l = refl
none-later t h first (f ∷ cuts) (p ∷ places) up l =
    ap (λ b. (if b then record { from = f; to = next_cut cuts h; place = p; first = first } ∷ [] else []) ++ chosen t (t + 1) h false cuts places) (misses f (next_cut cuts h) t (inl l))
    ∙ none-later t h false cuts places (behind (cuts ++ h ∷ []) f up) (omega (arith, l, first-two f h cuts up))

-- the segments from one on, by their number
abbrev pub chosen_from : ℕ → ℕ → List Time → List Place → ℕ → List Chosen
chosen_from t h cuts places k = chosen t (t + 1) h (k == 0) (seconds (drop k cuts)) (drop k places)

pub drop-place : (k : ℕ) (places : List Place) (d : Place) → k < length places → drop k places ≡ get_or places k d ∷ drop (k + 1) places
drop-place k [] d l = absurd (omega (arith, l))
drop-place zero (p ∷ places) d l = refl
drop-place (suc k) (p ∷ places) d l =
    let plus : suc k + 1 ≡ suc (k + 1) = omega arith in drop-place k places d (omega (arith, l)) ∙ ap (λ j. get_or places k d ∷ drop j (p ∷ places)) (sym plus)

-- the left ends of the segments from one on
pub seconds-at : (k : ℕ) (cuts : List Time) (d : Time) → k < length cuts → seconds (drop k cuts) ≡ (get_or cuts k d).seconds ∷ seconds (drop (k + 1) cuts)
seconds-at k [] d l = absurd (omega (arith, l))
seconds-at zero (c ∷ cuts) d l = refl
seconds-at (suc k) (c ∷ cuts) d l =
    let plus : suc k + 1 ≡ suc (k + 1) = omega arith in
    seconds-at k cuts d (omega (arith, l)) ∙ ap (λ j. (get_or cuts k d).seconds ∷ seconds (drop j (c ∷ cuts))) (sym plus)

-- segments that stand in turn do so from each on
pub in-turn-from : (h k : ℕ) (cuts : List Time) → IsStrictlyIncreasing (seconds cuts ++ h ∷ []) → IsStrictlyIncreasing (seconds (drop k cuts) ++ h ∷ [])
in-turn-from h zero cuts up = up
in-turn-from h (suc k) [] up = up
in-turn-from h (suc k) (c ∷ cuts) up = in-turn-from h k cuts (behind (seconds cuts ++ h ∷ []) c.seconds up)

-- one that doesn't have the time is passed over
pub passed : (t h k : ℕ) (cuts : List Time) (places : List Place) (f : ℕ) (d : Place) → seconds (drop k cuts) ≡ f ∷ seconds (drop (k + 1) cuts) → k < length places → (t < f) ⊎ (next_cut (seconds (drop (k + 1) cuts)) h ≤ t)
    → chosen_from t h cuts places k ≡ chosen_from t h cuts places (k + 1)
passed t h k cuts places f d at l out =
    let flag : (k + 1 == 0) ≡ false = grind (arith, nat_tests) in
    let g = next_cut (seconds (drop (k + 1) cuts)) h in
    ap (λ cs. chosen t (t + 1) h (k == 0) cs (drop k places)) at
    ∙ ap (λ ps. chosen t (t + 1) h (k == 0) (f ∷ seconds (drop (k + 1) cuts)) ps) (drop-place k places d l)
    ∙ ap (λ b. (if b then record { from = f; to = g; place = get_or places k d; first = k == 0 } ∷ [] else []) ++ chosen t (t + 1) h false (seconds (drop (k + 1) cuts)) (drop (k + 1) places)) (misses f g t out)
    ∙ ap (λ b. chosen t (t + 1) h b (seconds (drop (k + 1) cuts)) (drop (k + 1) places)) (sym flag)

-- one that has it is the only one from there on
pub only : (t h k : ℕ) (cuts : List Time) (places : List Place) (f : ℕ) (d : Place) → seconds (drop k cuts) ≡ f ∷ seconds (drop (k + 1) cuts) → k < length places → f ≤ t → t < next_cut (seconds (drop (k + 1) cuts)) h
    → IsStrictlyIncreasing (seconds cuts ++ h ∷ [])
    → chosen_from t h cuts places k ≡ record { from = f; to = next_cut (seconds (drop (k + 1) cuts)) h; place = get_or places k d; first = k == 0 } ∷ []
only t h k cuts places f d at l from to up =
    let g = next_cut (seconds (drop (k + 1) cuts)) h in
    let c : Chosen = record { from = f; to = g; place = get_or places k d; first = k == 0 } in
    ap (λ cs. chosen t (t + 1) h (k == 0) cs (drop k places)) at
    ∙ ap (λ ps. chosen t (t + 1) h (k == 0) (f ∷ seconds (drop (k + 1) cuts)) ps) (drop-place k places d l)
    ∙ ap (λ b. (if b then c ∷ [] else []) ++ chosen t (t + 1) h false (seconds (drop (k + 1) cuts)) (drop (k + 1) places)) (has f g t from to)
    ∙ ap (λ cs. c ∷ cs) (none-later t h false (seconds (drop (k + 1) cuts)) (drop (k + 1) places) (in-turn-from h (k + 1) cuts up) to)

-- one segment at most has the time
pub few : (t h : ℕ) (first : Bool) (cuts : List ℕ) (places : List Place) → IsStrictlyIncreasing (cuts ++ h ∷ []) → (chosen t (t + 1) h first cuts places ≡ []) ⊎ ((c : Chosen) × (chosen t (t + 1) h first cuts places ≡ c ∷ []))
few t h first [] places up = inl refl
few t h first (f ∷ cuts) [] up = inl refl
few t h first (f ∷ cuts) (p ∷ places) up = go (nat_lt f (t + 1) && nat_lt t (next_cut cuts h)) refl (few t h false cuts places (behind (cuts ++ h ∷ []) f up))
  where
    one : Chosen
    one = record { from = f; to = next_cut cuts h; place = p; first = first }

    go : (b : Bool) → (nat_lt f (t + 1) && nat_lt t (next_cut cuts h)) ≡ b → (chosen t (t + 1) h false cuts places ≡ []) ⊎ ((c : Chosen) × (chosen t (t + 1) h false cuts places ≡ c ∷ []))
        → ((if b then one ∷ [] else []) ++ chosen t (t + 1) h false cuts places ≡ []) ⊎ ((c : Chosen) × ((if b then one ∷ [] else []) ++ chosen t (t + 1) h false cuts places ≡ c ∷ []))
    go true e rest = inr (one, ap (λ cs. one ∷ cs) (none-later t h false cuts places (behind (cuts ++ h ∷ []) f up) (grind (arith, nat_tests, e))))
    go false e rest = rest

-- the segment that has the time, where those in front of it were passed over
pub found-here : (plan : PlanEntry) (t k : ℕ) (cuts : List Time) (places : List Place) (f g : ℕ) (p : Place) (d : Time) → cuts ≡ plan.cuts → places ≡ plan.places
    → chosen_from t plan.horizon.seconds cuts places 0 ≡ chosen_from t plan.horizon.seconds cuts places k → k < length cuts → k < length places → f ≡ (get_or cuts k d).seconds → p ≡ get_or places k p
    → g ≡ next_cut (seconds (drop (k + 1) cuts)) plan.horizon.seconds → f ≤ t → t < g → AreInTurn plan → chosen_at plan t ≡ record { from = f; to = g; place = p; first = k == 0 } ∷ []
found-here plan t k cuts places f g p d cuts_are places_are front l m from place to after before up =
    let h = plan.horizon.seconds in
    let at : seconds (drop k cuts) ≡ f ∷ seconds (drop (k + 1) cuts) = seconds-at k cuts d l ∙ ap (λ x. x ∷ seconds (drop (k + 1) cuts)) (sym from) in
    let turn : IsStrictlyIncreasing (seconds cuts ++ h ∷ []) = subst (λ (cs : List Time). IsStrictlyIncreasing (seconds cs ++ h ∷ [])) (sym cuts_are) up in
    let one = only t h k cuts places f p at m after (omega (arith, before, to)) turn in
    ap (λ (cs : List Time). chosen_from t h cs plan.places 0) (sym cuts_are) ∙ ap (λ (ps : List Place). chosen_from t h cuts ps 0) (sym places_are) ∙ front ∙ one
    ∙ ap (λ (x : ℕ). record { from = f; to = x; place = get_or places k p; first = k == 0 } ∷ []) (sym to)
    ∙ ap (λ (x : Place). record { from = f; to = g; place = x; first = k == 0 } ∷ []) (sym place)

-- a page of one of the places
pub place-taken : (places : List Place) (k p : ℕ) (place : Place) → k < length places → place ≡ get_or places k place → IsPageOf place.extent p → IsTaken (extents places) p
place-taken [] k p place l is of = absurd (omega (arith, l))
place-taken (q ∷ places) zero p place l is of = inl (subst (λ (x : Place). IsPageOf x.extent p) is of)
place-taken (q ∷ places) (suc k) p place l is of = inr (place-taken places k p place (omega (arith, l)) is of)

-- P holds of the damage, so Q does
pub if-damaged : (P Q : Damage → Type 0) → ((d : Damage) → P d → Q d) → (e : FetchError) → IfDamaged P e → IfDamaged Q e
if-damaged P Q f (fetches.Damaged d) is = f d is
if-damaged P Q f fetches.Failed is = tt
if-damaged P Q f fetches.Memory is = tt
