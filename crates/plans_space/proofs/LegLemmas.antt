-- One more leg.
use Rattle.std.specs.Prelude.{◌≡◌, ◌⊎◌, ℕ, ◌+◌, ◌-◌, ◌*◌, ◌^◌, ◌<◌, ◌≤◌, List, [], ◌∷◌, ◌++◌, length, slice_index}
use Rattle.std.proofs.Common.{arith, sym, subst, inl, inr, length-append}
use Rattle.std.proofs.Math.Nat.{mul-le-mul}
use Rattle.std.proofs.lemmas.Bool.{cases_lt}
use Rattle.std.proofs.lemmas.List.{get_or_append_left, get_or_push}
use Rattle.std.proofs.lemmas.List.Elements.{All-append, All-cons, All-nil}
use Rattle.plans_partitions.specs.Counts.{Counts}
use Rattle.plans_space.specs.Steps.{AreLegs, leg_charge, leg_cost}

-- what is so of each place of a list and of the next one, of the list with one element more
pub each_pushed : (P : ℕ → ℕ → Type 0) (xs : List ℕ) (y n : ℕ) → length xs ≡ n → ((j : ℕ) → j < n → P j (slice_index xs j)) → P n y → (j : ℕ) → j < n + 1 → P j (slice_index (xs ++ y ∷ []) j)
each_pushed P xs y n long each new j l = go (cases_lt j n)
  where
    go : ((j < n) ⊎ (n ≤ j)) → P j (slice_index (xs ++ y ∷ []) j)
    go (inl lt) = subst (λ v. P j v) (sym (get_or_append_left xs (y ∷ []) 0 j (omega (arith, long)))) (each j lt)
    go (inr ge) = let e : n ≡ j = omega arith in subst (λ i. P i (slice_index (xs ++ y ∷ []) i)) e (subst (λ v. P n v) (sym (get_or_push xs y 0 n long)) new)

pub legs_more : (table : Counts) (unit : ℕ) (sums places : List ℕ) (i n : ℕ) (charges costs : List ℕ) (q k : ℕ) → AreLegs table unit sums places i n charges costs
    → q ≡ leg_charge table unit places i n → k ≡ leg_cost table sums places i n → k ≤ 2 ^ 118 → AreLegs table unit sums places i (n + 1) (charges ++ q ∷ []) (costs ++ k ∷ [])
legs_more table unit sums places i n charges costs q k s e f small = record {
  charges_long = omega (arith, length-append charges (q ∷ []), s.charges_long);
  costs_long = omega (arith, length-append costs (k ∷ []), s.costs_long);
  charge = each_pushed (λ j x. x ≡ leg_charge table unit places i j) charges q n s.charges_long s.charge e;
  cost = each_pushed (λ j x. x ≡ leg_cost table sums places i j) costs k n s.costs_long s.cost f;
  small = All-append (λ w. w ≤ 2 ^ 118) costs (k ∷ []) s.small (All-cons (λ w. w ≤ 2 ^ 118) k [] small (All-nil (λ w. w ≤ 2 ^ 118)));
}

pub leg_fits : (a b z : ℕ) → a ≤ 2 ^ 80 → z < 2 ^ 38 → (a - b) * z ≤ 2 ^ 118
leg_fits a b z l m = mul-le-mul {n₁ = a - b} {m₁ = z} {n₂ = 2 ^ 80} {m₂ = 2 ^ 38} (omega arith) (omega arith)
