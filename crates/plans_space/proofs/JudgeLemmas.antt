-- The cuts of a partition that is there, as a path of stops.
use Rattle.std.specs.Prelude.{◌≡◌, ◌⊎◌, Option, ℕ, ◌+◌, ◌-◌, ◌<◌, ◌≤◌, List, [], ◌∷◌, map, drop, length, slice_index, refl}
use Rattle.std.proofs.Common.{arith, ap, sym, ◌∙◌, subst, inl, inr}
use Rattle.std.specs.List.Sorted.{IsStrictlyIncreasing}
use Rattle.std.proofs.lemmas.Bool.{cases_lt}
use Rattle.std.proofs.lemmas.List.{length-drop}
use Rattle.base_types.specs.declared.fraction.Fraction.{Fraction}
use Rattle.base_types.specs.declared.posting.Posting.{Posting}
use Rattle.plans_partitions.specs.Counts.{Counts, Tabulates}
use Rattle.plans_partitions.proofs.Places.{rises}
use Rattle.plans_partitions.proofs.Tables.{last_is_horizon}
use Rattle.plans_space.specs.Costs.{along, expected_cost}
use Rattle.plans_space.specs.Plans.{IsEligible}
use Rattle.plans_space.specs.Steps.{AreStops, Falls, IsNoPath, IsSurvey, IsWay, leg_charge, leg_cost, whole_cost}
use Rattle.plans_space.proofs.BestLemmas.{before_end, eligible_path, path_eligible, piece_cost}
use Rattle.plans_space.proofs.StopLemmas.{stop_falls, stop_inside}

-- ---- a path, cut by cut

head_same : (x y : ℕ) (xs ys : List ℕ) → x ∷ xs ≡ y ∷ ys → x ≡ y
head_same x y xs ys e = cc

tail_same : (x y : ℕ) (xs ys : List ℕ) → x ∷ xs ≡ y ∷ ys → xs ≡ ys
tail_same x y xs ys e = cc

pub no_stop : (times places : List ℕ) (at cut : ℕ) (behind : List ℕ) → ((j : ℕ) → j < at → slice_index times (slice_index places j) ≡ cut → ⊥) → IsNoPath times places at (cut ∷ behind)
no_stop times places at cut behind none [] falls are = cc
no_stop times places at cut behind none (j ∷ path) falls are = none j falls.0 (head_same _ _ _ _ are)

module _ (times places : List ℕ) (some : 2 ≤ length times) (up : IsStrictlyIncreasing times) (s : AreStops (length times) places) where
  -- two stops of one time are one
  one_stop : (i j : ℕ) → i < length places → j < length places → slice_index times (slice_index places i) ≡ slice_index times (slice_index places j) → i ≡ j
  one_stop i j l m e = go (cases_lt i j) (cases_lt j i)
    where
      lower : (a b : ℕ) → a < b → b < length places → slice_index times (slice_index places b) < slice_index times (slice_index places a)
      lower a b lt k = rises times up (slice_index places b) (slice_index places a) (stop_falls (length times) places some s a b lt k) (stop_inside (length times) places some s a (omega (arith, lt, k)))

      go : ((i < j) ⊎ (j ≤ i)) → ((j < i) ⊎ (i ≤ j)) → i ≡ j
      go (inl h) d = absurd (omega (arith, lower i j h m, e))
      go (inr h) (inl d) = absurd (omega (arith, lower j i d l, e))
      go (inr h) (inr d) = omega (arith, h, d)

  pub no_rest : (at next cut : ℕ) (behind : List ℕ) → at < length places → next < at → slice_index times (slice_index places next) ≡ cut → IsNoPath times places next behind → IsNoPath times places at (cut ∷ behind)
  no_rest at next cut behind l lt is none [] falls are = cc
  no_rest at next cut behind l lt is none (j ∷ path) falls are =
      let same : j ≡ next = one_stop j next (omega (arith, l, falls.0)) (omega (arith, l, lt)) (head_same _ _ _ _ are ∙ sym is) in
      none path (subst (λ k. Falls k path) same falls.1) (tail_same _ _ _ _ are)

  -- and two paths of the same times
  pub one_path : (at : ℕ) (p q : List ℕ) → at < length places → Falls at p → Falls at q → map (λ k. slice_index times (slice_index places k)) p ≡ map (λ k. slice_index times (slice_index places k)) q → p ≡ q
  one_path at [] [] l f g e = refl
  one_path at [] (j ∷ q) l f g e = cc
  one_path at (i ∷ p) [] l f g e = cc
  one_path at (i ∷ p) (j ∷ q) l f g e =
      let same : i ≡ j = one_stop i j (omega (arith, l, f.0)) (omega (arith, l, g.0)) (head_same _ _ _ _ e) in
      let rest : p ≡ q = one_path i p q (omega (arith, l, f.0)) f.1 (subst (λ k. Falls k q) (sym same) g.1) (tail_same _ _ _ _ e) in
      ap (λ k. k ∷ p) same ∙ ap (λ (xs : List ℕ). j ∷ xs) rest

pub way_more : (table : Counts) (unit' : ℕ) (sums places : List ℕ) (at next cut : ℕ) (behind : List ℕ) (charge cost charged costs : ℕ) → next < at → slice_index table.boundaries (slice_index places next) ≡ cut
    → charge ≡ leg_charge table unit' places at next → cost ≡ leg_cost table sums places at next → IsWay table unit' sums places next behind charged costs → IsWay table unit' sums places at (cut ∷ behind) (charge + charged) (cost + costs)
way_more table unit' sums places at next cut behind charge cost charged costs lt is charge_is cost_is w = record {
  path = next ∷ w.path;
  falls = (lt, w.falls);
  are = ap (λ k. k ∷ map (λ k. slice_index table.boundaries (slice_index places k)) w.path) is ∙ ap (λ (xs : List ℕ). cut ∷ xs) w.are;
  charged_is = ap (λ c. c + charged) charge_is ∙ ap (λ c. leg_charge table unit' places at next + c) w.charged_is;
  cost_is = ap (λ c. c + costs) cost_is ∙ ap (λ c. leg_cost table sums places at next + c) w.cost_is;
}

-- ---- what may be chosen

two_cuts : (cuts : List ℕ) (h : ℕ) → length cuts ≡ 2 → slice_index cuts (length cuts - 1) ≡ h → drop 1 cuts ≡ h ∷ []
two_cuts [] h l e = cc
two_cuts (a ∷ []) h l e = absurd (omega (arith, l))
two_cuts (a ∷ b ∷ []) h l e = ap (λ x. x ∷ []) e
two_cuts (a ∷ b ∷ c ∷ cuts) h l e = absurd (omega (arith, l))

module _ (list : List Posting) (horizon : ℕ) (table : Counts) (factor : Fraction) (unit' budget' : ℕ) (weights sums places : List ℕ) (cells : List (Option ℕ)) (t : Tabulates list horizon table)
    (s : IsSurvey table factor unit' budget' weights sums places cells) (cuts : List ℕ) (last : slice_index cuts (length cuts - 1) ≡ slice_index table.boundaries (length table.boundaries - 1)) where
  ends : slice_index cuts (length cuts - 1) ≡ horizon
  ends = last ∙ last_is_horizon list horizon table.boundaries t.boundaries t.early

  pub piece : length cuts ≡ 2 → IsEligible list table.boundaries factor (slice_index table.boundaries 0) horizon (drop 1 cuts)
      × (whole_cost table sums ≡ expected_cost list (slice_index table.boundaries 0) (drop 1 cuts) table.boundaries weights)
  piece two =
      let E : List ℕ → Type 0 = λ l. IsEligible list table.boundaries factor (slice_index table.boundaries 0) horizon l × (whole_cost table sums ≡ expected_cost list (slice_index table.boundaries 0) l table.boundaries weights) in
      subst E (sym (two_cuts cuts horizon two ends)) (inl (before_end list horizon table factor unit' budget' weights sums places cells t s, refl), sym (piece_cost list horizon table factor unit' budget' weights sums places cells t s))

  -- the only path of these cuts decides
  pub no_path : (length cuts ≡ 2 → ⊥) → 2 ≤ length cuts → IsNoPath table.boundaries places (length places - 1) (drop 1 cuts) → IsEligible list table.boundaries factor (slice_index table.boundaries 0) horizon (drop 1 cuts) → ⊥
  no_path more many none may = elim (eligible_path list horizon table factor unit' budget' weights sums places cells t s (drop 1 cuts) may) [
    | inl one ↦ more (omega (arith, ap (λ (l : List ℕ). length l) one, length-drop 1 cuts, many))
    | inr p ↦ none p.0 p.1 p.2
  ]

  pub too_much : (length cuts ≡ 2 → ⊥) → 2 ≤ length cuts → (charged cost : ℕ) → IsWay table unit' sums places (length places - 1) (drop 1 cuts) charged cost → budget' < charged
      → IsEligible list table.boundaries factor (slice_index table.boundaries 0) horizon (drop 1 cuts) → ⊥
  too_much more many charged cost w over may = elim (eligible_path list horizon table factor unit' budget' weights sums places cells t s (drop 1 cuts) may) [
    | inl one ↦ more (omega (arith, ap (λ (l : List ℕ). length l) one, length-drop 1 cuts, many))
    | inr p ↦ (
        let same : p.0 ≡ w.path = one_path table.boundaries places s.many t.boundaries.ascending s.stops (length places - 1) p.0 w.path (omega (arith, s.stops.some)) p.1 w.falls (p.2 ∙ sym w.are) in
        absurd (omega (arith, p.3, over, w.charged_is, ap (λ (q : List ℕ). along (leg_charge table unit' places) (length places - 1) q) same)))
  ]

  pub enough : (charged cost : ℕ) → IsWay table unit' sums places (length places - 1) (drop 1 cuts) charged cost → charged ≤ budget'
      → IsEligible list table.boundaries factor (slice_index table.boundaries 0) horizon (drop 1 cuts) × (cost ≡ expected_cost list (slice_index table.boundaries 0) (drop 1 cuts) table.boundaries weights)
  enough charged cost w within =
      let e = path_eligible list horizon table factor unit' budget' weights sums places cells t s (drop 1 cuts) w.path w.falls w.are (omega (arith, within, w.charged_is)) in
      (e.0, w.cost_is ∙ e.1)
