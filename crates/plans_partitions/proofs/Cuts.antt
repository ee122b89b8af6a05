-- Cuts by their places.
use Rattle.std.proofs.Common.{arith, sym, subst, nat_eq, ◌≡◌, ◌↔◌, ℕ, ◌+◌, ◌-◌, ◌<◌, ◌≤◌, Bool, IsTrue, List, drop, length, slice_index, All, Contains}
use Rattle.std.specs.List.Sorted.{IsStrictlyIncreasing}
use Rattle.std.proofs.lemmas.List.{at_drop_more, at_drop_all}
use Rattle.std.proofs.lemmas.Bool.Decides.{nat_tests}
use Rattle.std.proofs.lemmas.List.Elements.{All-get_or}
use Rattle.base_types.specs.declared.posting.Posting.{Posting}
use Rattle.base_types.specs.declared.fraction.Fraction.{Fraction}
use Rattle.lists_postings.specs.Sizes.{size}
use Rattle.plans_partitions.specs.Partitions.{IsAdmissible, space}
use Rattle.plans_partitions.specs.Counts.{Counts, Tabulates, AdmissibleBetween}
use Rattle.plans_partitions.proofs.Places.{place_of, rises}
use Rattle.plans_partitions.proofs.Tables.{admissible_from_counts, counts_from_admissible}

-- what a test of two numbers tells
pub eq_from : (a b : ℕ) → IsTrue (nat_eq a b) → a ≡ b
eq_from a b h = grind (arith, nat_tests)

pub is_eq : (a b : ℕ) → a ≡ b → IsTrue (nat_eq a b)
is_eq a b h = grind (arith, nat_tests)

-- where a number would stand is where it stands
pub found_there : (xs : List ℕ) (t n : ℕ) → ((k : ℕ) → k < n → slice_index xs k < t) → ((k : ℕ) → n ≤ k → k < length xs → t ≤ slice_index xs k) → IsStrictlyIncreasing xs → Contains xs t → (n < length xs) × (slice_index xs n ≡ t)
found_there xs t n below above up c =
    let (i, l, e) = place_of xs t c in
    let from : n ≤ i = grind (arith, below i) in
    let to : i ≤ n = grind (arith, above n (omega arith) (omega arith), rises xs up n i) in
    let q : i ≡ n = omega arith in
    (omega arith, subst (λ k. slice_index xs k ≡ t) q e)

-- the boundaries of a table, by another name
pub there : (times boundaries cuts : List ℕ) (k : ℕ) → times ≡ boundaries → k < length cuts → All (Contains boundaries) cuts → Contains times (slice_index cuts k)
there times boundaries cuts k same l all = subst (λ (xs : List ℕ). Contains xs (slice_index cuts k)) (sym same) (All-get_or (Contains boundaries) cuts k 0 l all)

-- where there is a cut, there is a boundary
pub some_inside : (times cuts : List ℕ) → 0 < length cuts → All (Contains times) cuts → 0 < length times
some_inside times cuts some all = let (k, l, e) = place_of times _ (All-get_or (Contains times) cuts 0 0 some all) in omega arith

-- a segment between places is one between times
pub segment_is : (list : List Posting) (horizon : ℕ) (table : Counts) (factor : Fraction) → Tabulates list horizon table → (j k f g : ℕ) → j < k → k < length table.boundaries
    → slice_index table.boundaries j ≡ f → slice_index table.boundaries k ≡ g → (b : Bool) → (IsTrue b ↔ AdmissibleBetween table factor j k) → IsTrue b ↔ IsAdmissible list factor f g
segment_is list horizon table factor t j k f g lt l d e b h =
    let w : IsTrue b ↔ IsAdmissible list factor (slice_index table.boundaries j) (slice_index table.boundaries k) =
    (λ x. admissible_from_counts list horizon table factor t j k lt l (h.0 x), λ a. h.1 (counts_from_admissible list horizon table factor t j k lt l a)) in
    rw (d, e) at w

-- one more segment of what is left
pub space_step : (list : List Posting) (cuts : List ℕ) (k f total s whole : ℕ) → k < length cuts → s ≡ size f (slice_index cuts k) list → total + space list f (drop k cuts) ≡ whole
    → total + s + space list (slice_index cuts k) (drop (k + 1) cuts) ≡ whole
space_step list cuts k f total s whole l e h = omega (arith, at_drop_more (λ cs. space list f cs) cuts k 0 l)

pub space_end : (list : List Posting) (cuts : List ℕ) (k total f whole : ℕ) → length cuts ≤ k → total + space list f (drop k cuts) ≡ whole → total ≡ whole
space_end list cuts k total f whole l h = omega (arith, at_drop_all (λ cs. space list f cs) cuts k l)
