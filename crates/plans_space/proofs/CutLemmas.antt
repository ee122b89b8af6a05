-- The cuts of a course are a partition that fits the table.
use Rattle.std.specs.Prelude.{◌≡◌, ℕ, suc, ◌-◌, ◌<◌, ◌≤◌, Option, Some, IfSome, List, [], ◌∷◌, map, length, slice_index, All, Contains, refl}
use Rattle.std.specs.List.Sorted.{IsStrictlyIncreasing}
use Rattle.std.proofs.Common.{arith, ap, sym, ◌∙◌, subst, inl, inr}
use Rattle.std.proofs.lemmas.List.{length-map}
use Rattle.std.proofs.lemmas.List.Elements.{All-nil, All-cons, Contains-get_or}
use Rattle.plans_partitions.specs.Counts.{Counts}
use Rattle.plans_partitions.specs.Partitions.{IsFitting, IsPartition}
use Rattle.plans_partitions.proofs.Places.{rises}
use Rattle.plans_partitions.proofs.Ordering.{Rise, increasing}
use Rattle.plans_space.specs.Steps.{AreStops, Falls, IsChosen}
use Rattle.plans_space.proofs.StopLemmas.{stop_falls, stop_inside, stop_first, stop_last}

module _ (times places : List ℕ) (many : 2 ≤ length times) (up : IsStrictlyIncreasing times) (s : AreStops (length times) places) where
  path_rises : (i : ℕ) (path : List ℕ) (low : ℕ) → low ≤ slice_index times (slice_index places i) → i < length places → Falls i path → Rise low (map (λ k. slice_index times (slice_index places k)) (i ∷ path))
  path_rises i [] low b l f = (b, tt)
  path_rises i (j ∷ path) low b l (lt, f) = (b, path_rises j path (suc (slice_index times (slice_index places i))) (rises times up (slice_index places i) (slice_index places j) (stop_falls (length times) places many s j i lt l) (stop_inside (length times) places many s j (omega arith))) (omega arith) f)

  path_last : (path : List ℕ) (i : ℕ) → Falls i path → slice_index (map (λ k. slice_index times (slice_index places k)) (i ∷ path)) (length path) ≡ slice_index times (slice_index places 0)
  path_last [] i f = ap (λ k. slice_index times (slice_index places k)) f
  path_last (j ∷ path) i (lt, f) = path_last path j f

  path_inside : (path : List ℕ) (i : ℕ) → i < length places → Falls i path → All (Contains times) (map (λ k. slice_index times (slice_index places k)) (i ∷ path))
  path_inside [] i l f = All-cons (Contains times) (slice_index times (slice_index places i)) [] (Contains-get_or times (slice_index places i) 0 (stop_inside (length times) places many s i l)) (All-nil (Contains times))
  path_inside (j ∷ path) i l (lt, f) = All-cons (Contains times) (slice_index times (slice_index places i)) (map (λ k. slice_index times (slice_index places k)) (j ∷ path)) (Contains-get_or times (slice_index places i) 0 (stop_inside (length times) places many s i l)) (path_inside path j (omega arith) f)

  path_some : (path : List ℕ) (i : ℕ) → 0 < i → Falls i path → 1 ≤ length path
  path_some [] i lt f = absurd (omega (arith, f))
  path_some (j ∷ path) i lt f = omega arith

  path_parts : (path : List ℕ) → Falls (length places - 1) path → IsPartition (map (λ k. slice_index times (slice_index places k)) ((length places - 1) ∷ path))
  path_parts path f = record {
    many = omega (arith, length-map path (λ k. slice_index times (slice_index places k)), path_some path (length places - 1) (omega (arith, s.some)) f);
    ascending = increasing 0 (map (λ k. slice_index times (slice_index places k)) ((length places - 1) ∷ path)) (path_rises (length places - 1) path 0 (omega arith) (omega (arith, s.some)) f);
  }

  path_fits : (path : List ℕ) → Falls (length places - 1) path → IsFitting times (map (λ k. slice_index times (slice_index places k)) ((length places - 1) ∷ path))
  path_fits path f = record {
    first = ap (λ p. slice_index times p) (stop_first (length times) places s);
    last = ap (λ n. slice_index (map (λ k. slice_index times (slice_index places k)) ((length places - 1) ∷ path)) n) count ∙ (path_last path (length places - 1) f ∙ ap (λ p. slice_index times p) (stop_last (length times) places s));
    inside = path_inside path (length places - 1) (omega (arith, s.some)) f;
  }
    where
      count : length (map (λ k. slice_index times (slice_index places k)) ((length places - 1) ∷ path)) - 1 ≡ length path
      count = omega (arith, length-map path (λ k. slice_index times (slice_index places k)))

  -- the one piece is the path of one leg
  pub one_leg : Falls (length places - 1) (0 ∷ [])
  one_leg = (omega (arith, s.some), refl)

  pub one_piece : map (λ k. slice_index times (slice_index places k)) ((length places - 1) ∷ 0 ∷ []) ≡ slice_index times 0 ∷ slice_index times (length times - 1) ∷ []
  one_piece = ap (λ p. slice_index times p ∷ slice_index times (slice_index places 0) ∷ []) (stop_first (length times) places s) ∙ ap (λ p. slice_index times 0 ∷ slice_index times p ∷ []) (stop_last (length times) places s)

  pub parts : (path cuts : List ℕ) → Falls (length places - 1) path → cuts ≡ map (λ k. slice_index times (slice_index places k)) ((length places - 1) ∷ path) → IsPartition cuts × IsFitting times cuts
  parts path cuts f e = subst (λ (c : List ℕ). IsPartition c × IsFitting times c) (sym e) (path_parts path f, path_fits path f)

pub chosen_parts : (table : Counts) (unit' budget' : ℕ) (sums places : List ℕ) (cells : List (Option ℕ)) (cuts : List ℕ) (v : ℕ) → 2 ≤ length table.boundaries → IsStrictlyIncreasing table.boundaries → AreStops (length table.boundaries) places
    → IsChosen table unit' budget' sums places cells cuts v → IsPartition cuts × IsFitting table.boundaries cuts
chosen_parts table unit' budget' sums places cells cuts v many up s (least, inl (e, f)) = parts table.boundaries places many up s (0 ∷ []) cuts (one_leg table.boundaries places many up s) (e ∙ sym (one_piece table.boundaries places many up s))
chosen_parts table unit' budget' sums places cells cuts v many up s (least, inr w) = parts table.boundaries places many up s w.path cuts w.falls w.are

pub made_of : (r : Option (List ℕ)) (p cuts : List ℕ) → r ≡ Some p → IfSome r (λ q. q ≡ cuts) → p ≡ cuts
made_of r p cuts u v = subst (λ (o : Option (List ℕ)). IfSome o (λ q. q ≡ cuts)) u v
