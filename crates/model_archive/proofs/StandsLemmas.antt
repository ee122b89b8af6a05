-- Bytes stand for one history at most, and are refused at one place at most.
use Rattle.std.proofs.Common.{◌≡◌, ◌⊎◌, ℕ, zero, suc, ◌+◌, ◌≤◌, List, [], ◌∷◌, ◌++◌, length, map, take, get_or, All, inl, inr, refl, ap, subst, sym, ◌∙◌, arith}
use Rattle.std.specs.List.{flat_map}
use Rattle.std.proofs.lemmas.Bool.{cases_lt}
use Rattle.std.proofs.lemmas.List.{take-take}
use Rattle.std.proofs.lemmas.List.Elements.{All-nil, All-cons, All-head, All-tail, All-append, All-take}
use Rattle.machine_model.specs.Areas.{Bytes}
use Rattle.journal_gates.specs.Records.{front}
use Rattle.journal_gates.specs.Spelled.{Spells}
use Rattle.journal_gates.proofs.SpellingLemmas.{spells_once, spelled_not_refused, refused_once}
use Rattle.journal_entries.specs.Spelling.{spelling, IsEntry}
use Rattle.journal_entries.specs.Faults.{IsFault}
use Rattle.journal_entries.specs.declared.entry.Entry.{Entry}
use Rattle.journal_entries.proofs.EntryLemmas.{one_entry}
use Rattle.journal_entries.proofs.FaultLemmas.{one_fault as one_place}
use Rattle.base_types.specs.declared.extent.Extent.{Extent}
use Rattle.pages_area.specs.Runs.{IsTaken}
use Rattle.pages_area.specs.Taken.{AreApart}
use Rattle.pages_area.specs.Live.{AreLive, IsInside}
use Rattle.journal_entries.specs.declared.place.Place.{Place}
use Rattle.pages_sublists.specs.Segments.{seconds, next_cut, EachSegment, HoldsSublist}
use Rattle.model_archive.specs.declared.stored.StoredPlan.{StoredPlan}
use Rattle.model_archive.specs.Histories.{History}
use Rattle.model_archive.specs.Legal.{IsLoadable, IsLoadableEntry}
use Rattle.model_archive.specs.Plans.{live_plans, live_extents, live_gates, extents_of}
use Rattle.model_archive.specs.Holding.{HoldsPlan}
use Rattle.model_archive.specs.Stands.{bodies_of, Stands, IsMisspelled, IsIllegal, IsBadEntry, IsBadPlace, IsNotArchive}
use Rattle.model_archive.proofs.HistoryLemmas.{loadable-middle, same_history, split_bodies}

-- bytes are loaded as one history at most, and stand for one at most
pub spells_one_history : (bytes : List ℕ) (a b : History) → Spells bytes (bodies_of a) → IsLoadable a → Spells bytes (bodies_of b) → IsLoadable b → a ≡ b
spells_one_history bytes a b one p other q = same_history a b p q (spells_once bytes (bodies_of a) (bodies_of b) one other)

pub stands_once : (a b : History) (image : Bytes) → Stands a image → Stands b image → a ≡ b
stands_once a b image one other = spells_one_history image.journal a b one.spelled one.loadable other.spelled other.loadable

-- what is wrong with an entry: the place is behind the gate by so many bytes
abbrev pub Fault : History → List ℕ → ℕ → ℕ → Type 0
Fault before body gate at = ((offset : ℕ) × IsMisspelled body offset × (at ≡ gate + 5 + offset)) ⊎ (IsIllegal before body × (at ≡ gate))

-- a spelling has no fault
spelled_no_fault : (e : Entry) (at : ℕ) → IsEntry e → IsFault (spelling e) at → ⊥
spelled_no_fault e at fits fault = fault.misspelled e fits refl

-- an entry that loads has no fault
loads_no_fault : (before : History) (e : Entry) (body : List ℕ) (gate at : ℕ) → IsLoadableEntry before e → spelling e ≡ body → Fault before body gate at → ⊥
loads_no_fault before e body gate at loads same (inl wrong) =
    let P : List ℕ → Type 0 = λ b. IsMisspelled b wrong.0 in spelled_no_fault e wrong.0 loads.ranges (subst P (sym same) wrong.1)
loads_no_fault before e body gate at loads same (inr illegal) =
    let one : e ≡ illegal.0.entry = one_entry e illegal.0.entry loads.ranges illegal.0.ranges (same ∙ illegal.0.spelled) in
    let P : Entry → Type 0 = λ x. IsLoadableEntry before x in
    illegal.0.refused (subst P one loads)

-- no entry of a history that loads has a fault
no_fault_within : (h before : History) (body : List ℕ) (rest : List (List ℕ)) (gate at : ℕ) → IsLoadable h → IsLoadable before
    → bodies_of h ≡ bodies_of before ++ body ∷ rest → Fault before body gate at → ⊥
no_fault_within h before body rest gate at loads early same fault =
    let parts = split_bodies h (bodies_of before) body rest same in
    let there = loadable-middle parts.0 parts.1 parts.2 (subst IsLoadable parts.3 loads) in
    let one : parts.0 ≡ before = same_history parts.0 before there.0 early parts.4 in
    let P : History → Type 0 = λ g. IsLoadableEntry g parts.1 in
    loads_no_fault before parts.1 body gate at (subst P one there.1) parts.5 fault

-- the first of some extents are live where all are
pub live_front : (live : List Extent) (reach n : ℕ) → AreLive live reach → AreLive (take n live) reach
live_front live reach n good = (All-take (IsInside reach) n live good.0, apart_front live n good.1)
  where
    front_taken : (live : List Extent) (n p : ℕ) → IsTaken (take n live) p → IsTaken live p
    front_taken [] zero p taken = absurd taken
    front_taken [] (suc n) p taken = absurd taken
    front_taken (e ∷ live) zero p taken = absurd taken
    front_taken (e ∷ live) (suc n) p (inl is) = inl is
    front_taken (e ∷ live) (suc n) p (inr more) = inr (front_taken live n p more)

    apart_front : (live : List Extent) (n : ℕ) → AreApart live → AreApart (take n live)
    apart_front [] zero apart = tt
    apart_front [] (suc n) apart = tt
    apart_front (e ∷ live) zero apart = tt
    apart_front (e ∷ live) (suc n) apart = ((λ p is taken. apart.0 p is (front_taken live n p taken)), apart_front live n apart.1)

-- where the live places lie well, none lies badly
bad_place_none : (image : Bytes) (h : History) (at : ℕ) → Spells image.journal (bodies_of h) → IsLoadable h → AreLive (live_extents h) (length image.pages) → IsBadPlace image at → ⊥
bad_place_none image h at spelled loads live bad =
    let same = spells_one_history image.journal h bad.history spelled loads bad.spelled bad.loadable in
    let L : History → Type 0 = λ g. AreLive (live_extents g) (length image.pages) in
    bad.bad (live_front (live_extents bad.history) (length image.pages) (bad.index + 1) (subst L same live))

-- bytes that are loaded are no archive's nowhere
pub loaded_is_archive : (image : Bytes) (h : History) (at : ℕ) → Spells image.journal (bodies_of h) → IsLoadable h → AreLive (live_extents h) (length image.pages) → IsNotArchive image at → ⊥
loaded_is_archive image h at spelled loads live (inl refused) = spelled_not_refused image.journal (bodies_of h) at spelled refused
loaded_is_archive image h at spelled loads live (inr (inl bad)) =
    no_fault_within h bad.before bad.body bad.rest (length (front (bodies_of bad.before))) at loads bad.loadable
    (spells_once image.journal (bodies_of h) (bodies_of bad.before ++ bad.body ∷ bad.rest) spelled bad.spelled) bad.fault
loaded_is_archive image h at spelled loads live (inr (inr bad)) = bad_place_none image h at spelled loads live bad

-- places that hold sublists lie inside
places_inside : (R : ℕ → ℕ → Place → Type 0) (reach : ℕ) → ((f g : ℕ) (p : Place) → R f g p → IsInside reach p.extent)
    → (cuts : List ℕ) (h : ℕ) (places : List Place) → EachSegment R cuts h places → All (IsInside reach) (map (λ (p : Place). p.extent) places)
places_inside R reach inside [] h [] each = All-nil (IsInside reach)
places_inside R reach inside [] h (p ∷ places) each = absurd each
places_inside R reach inside (f ∷ cuts) h [] each = absurd each
places_inside R reach inside (f ∷ cuts) h (p ∷ places) each =
    All-cons (IsInside reach) p.extent (map (λ (p : Place). p.extent) places) (inside f (next_cut cuts h) p each.0) (places_inside R reach inside cuts h places each.1)

pub held_inside : (h : History) (pages : List ℕ) (live : List StoredPlan) → All (λ stored. HoldsPlan h pages stored.plan) live → All (IsInside (length pages)) (flat_map (λ (stored : StoredPlan). extents_of stored.plan) live)
held_inside h pages [] each = All-nil (IsInside (length pages))
held_inside h pages (s ∷ live) each =
    let P : StoredPlan → Type 0 = λ stored. HoldsPlan h pages stored.plan in
    let here = All-head P s live each in
    All-append (IsInside (length pages)) (extents_of s.plan) (flat_map (λ (stored : StoredPlan). extents_of stored.plan) live)
    (places_inside (HoldsSublist s.plan.layout here.list pages) (length pages) (λ f g p holds. holds.inside) (seconds s.plan.cuts) s.plan.horizon.seconds s.plan.places here.each)
    (held_inside h pages live (All-tail P s live each))

pub stands_live : (h : History) (image : Bytes) → Stands h image → AreLive (live_extents h) (length image.pages)
stands_live h image stands = (held_inside h image.pages (live_plans h) stands.held.each, stands.held.apart)

pub stands_is_archive : (h : History) (image : Bytes) (at : ℕ) → Stands h image → IsNotArchive image at → ⊥
stands_is_archive h image at stands refused = loaded_is_archive image h at stands.spelled stands.loadable (stands_live h image stands) refused

-- two lists with a part in front and an item behind it: the parts are one, or one is in front of the other
meet : (a b : List (List ℕ)) (x y : List ℕ) (s t : List (List ℕ)) → a ++ x ∷ s ≡ b ++ y ∷ t
    → ((a ≡ b) × (x ≡ y)) ⊎ (((r : List (List ℕ)) × (b ≡ a ++ x ∷ r)) ⊎ ((r : List (List ℕ)) × (a ≡ b ++ y ∷ r)))
meet [] [] x y s t same = inl (refl, cc)
meet [] (p ∷ b) x y s t same = inr (inl (b, cc))
meet (p ∷ a) [] x y s t same = inr (inr (a, cc))
meet (p ∷ a) (q ∷ b) x y s t same =
    let head : p ≡ q = cc in
    let rest : a ++ x ∷ s ≡ b ++ y ∷ t = cc in
    elim (meet a b x y s t rest) [
      | inl both ↦ inl (let one = both.0 in cc, both.1)
      | inr (inl more) ↦ inr (inl (more.0, let tail = more.1 in cc))
      | inr (inr more) ↦ inr (inr (more.0, let tail = more.1 in cc))
    ]

-- one entry behind one history has one fault
one_fault : (before : History) (body : List ℕ) (gate one other : ℕ) → Fault before body gate one → Fault before body gate other → one ≡ other
one_fault before body gate one other (inl a) (inl b) =
    let same : a.0 ≡ b.0 = one_place body a.0 b.0 a.1 b.1 in
    omega (arith, same, a.2, b.2)
one_fault before body gate one other (inl a) (inr b) =
    let P : List ℕ → Type 0 = λ l. IsMisspelled l a.0 in absurd (spelled_no_fault b.0.entry a.0 b.0.ranges (subst P b.0.spelled a.1))
one_fault before body gate one other (inr a) (inl b) =
    let P : List ℕ → Type 0 = λ l. IsMisspelled l b.0 in absurd (spelled_no_fault a.0.entry b.0 a.0.ranges (subst P a.0.spelled b.1))
one_fault before body gate one other (inr a) (inr b) = a.1 ∙ sym b.1

bad_once : (image : Bytes) (one other : ℕ) → IsBadEntry image one → IsBadEntry image other → one ≡ other
bad_once image one other a b =
    let gate : History → ℕ = λ h. length (front (bodies_of h)) in
    elim (meet (bodies_of a.before) (bodies_of b.before) a.body b.body a.rest b.rest
    (spells_once image.journal (bodies_of a.before ++ a.body ∷ a.rest) (bodies_of b.before ++ b.body ∷ b.rest) a.spelled b.spelled)) as (λ _. one ≡ other) [
      | inl same ↦
          let before : a.before ≡ b.before = same_history a.before b.before a.loadable b.loadable same.0 in
          let P : History → Type 0 = λ h. Fault h a.body (gate h) one in
          let Q : List ℕ → Type 0 = λ l. Fault b.before l (gate b.before) one in
          one_fault b.before b.body (gate b.before) one other (subst Q same.1 (subst P before a.fault)) b.fault
      | inr (inl more) ↦ absurd (no_fault_within b.before a.before a.body more.0 (gate a.before) one b.loadable a.loadable more.1 a.fault)
      | inr (inr more) ↦ absurd (no_fault_within a.before b.before b.body more.0 (gate b.before) other a.loadable b.loadable more.1 b.fault)
    ]

-- the place that is the first to lie badly is one
bad_place_once : (image : Bytes) (one other : ℕ) → IsBadPlace image one → IsBadPlace image other → one ≡ other
bad_place_once image one other a b =
    let same = spells_one_history image.journal b.history a.history b.spelled b.loadable a.spelled a.loadable in
    let P : History → Type 0 = λ h. AreLive (take b.index (live_extents h)) (length image.pages) in
    let Q : History → Type 0 = λ h. AreLive (take (b.index + 1) (live_extents h)) (length image.pages) → ⊥ in
    let index : a.index ≡ b.index = elim (cases_lt a.index b.index) [
      | inl less ↦ absurd (a.bad (front_of (live_extents a.history) (length image.pages) (a.index + 1) b.index (omega (arith, less)) (subst P same b.good)))
      | inr more ↦ elim (cases_lt b.index a.index) [
        | inl less ↦ absurd (subst Q same b.bad (front_of (live_extents a.history) (length image.pages) (b.index + 1) a.index (omega (arith, less)) a.good))
        | inr not_less ↦ omega (arith, more, not_less)
      ]
    ] in
    a.at_is ∙ ap (λ n. get_or (live_gates a.history) n 0) index ∙ ap (λ (h : History). get_or (live_gates h) b.index 0) (sym same) ∙ sym b.at_is
  where
    front_of : (live : List Extent) (reach n m : ℕ) → n ≤ m → AreLive (take m live) reach → AreLive (take n live) reach
    front_of live reach n m less good = let L : List Extent → Type 0 = λ es. AreLive es reach in subst L (take-take n m live less) (live_front (take m live) reach n good)

-- no entry has a fault where a place lies badly
bad_entry_or_place : (image : Bytes) (one other : ℕ) → IsBadEntry image one → IsBadPlace image other → ⊥
bad_entry_or_place image one other a b =
    no_fault_within b.history a.before a.body a.rest (length (front (bodies_of a.before))) one b.loadable a.loadable
    (spells_once image.journal (bodies_of b.history) (bodies_of a.before ++ a.body ∷ a.rest) b.spelled a.spelled) a.fault

-- bytes that are no archive's show it at one place
pub not_archive_once : (image : Bytes) (one other : ℕ) → IsNotArchive image one → IsNotArchive image other → one ≡ other
not_archive_once image one other (inl a) (inl b) = refused_once image.journal one other a b
not_archive_once image one other (inl a) (inr (inl b)) = absurd (spelled_not_refused image.journal (bodies_of b.before ++ b.body ∷ b.rest) one b.spelled a)
not_archive_once image one other (inl a) (inr (inr b)) = absurd (spelled_not_refused image.journal (bodies_of b.history) one b.spelled a)
not_archive_once image one other (inr (inl a)) (inl b) = absurd (spelled_not_refused image.journal (bodies_of a.before ++ a.body ∷ a.rest) other a.spelled b)
not_archive_once image one other (inr (inl a)) (inr (inl b)) = bad_once image one other a b
not_archive_once image one other (inr (inl a)) (inr (inr b)) = absurd (bad_entry_or_place image one other a b)
not_archive_once image one other (inr (inr a)) (inl b) = absurd (spelled_not_refused image.journal (bodies_of a.history) other a.spelled b)
not_archive_once image one other (inr (inr a)) (inr (inl b)) = absurd (bad_entry_or_place image other one b a)
not_archive_once image one other (inr (inr a)) (inr (inr b)) = bad_place_once image one other a b
