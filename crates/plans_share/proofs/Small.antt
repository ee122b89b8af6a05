-- Expected costs by small weights.
use Rattle.std.specs.Prelude.{ℕ, suc, ◌*◌, ◌^◌, ◌<◌, ◌≤◌, Bool, true, false, cond, ◌&&◌, nat_le, nat_lt, List, [], ◌∷◌, length, All}
use Rattle.std.proofs.Common.{arith}
use Rattle.std.proofs.Math.Nat.{mul-le-mul}
use Rattle.std.proofs.lemmas.List.Sums.{count_by-le-length}
use Rattle.base_types.specs.declared.posting.Posting.{Posting}
use Rattle.lists_postings.specs.Lists.{meets}
use Rattle.lists_postings.specs.Sizes.{size}
use Rattle.plans_space.specs.Costs.{size_at, expected_cost}

size-at-le : (list : List Posting) (f : ℕ) (cuts : List ℕ) (t : ℕ) → size_at list f cuts t ≤ length list
size-at-le list f [] t = omega arith
size-at-le list f (g ∷ cuts) t = go (nat_le f t && nat_lt t g) (count_by-le-length (meets f g) list) (size-at-le list g cuts t)
  where
    go : (b : Bool) → size f g list ≤ length list → size_at list g cuts t ≤ length list → cond b (size f g list) (size_at list g cuts t) ≤ length list
    go true h k = h
    go false h k = k

cost-le : (list : List Posting) (f : ℕ) (cuts times weights : List ℕ) (n : ℕ) → length list ≤ n → All (λ w. w ≤ 2 ^ 20) weights → expected_cost list f cuts times weights ≤ length weights * (2 ^ 20 * n)
cost-le list f cuts [] weights n l h = omega arith
cost-le list f cuts (t ∷ times) [] n l h = omega arith
cost-le list f cuts (t ∷ times) (w ∷ weights) n l h =
    let a : w * size_at list f cuts t ≤ 2 ^ 20 * n = mul-le-mul (h 0 w (omega arith)) (omega (arith, size-at-le list f cuts t, l)) in
    let b : expected_cost list f cuts times weights ≤ length weights * (2 ^ 20 * n) = cost-le list f cuts times weights n l (λ k d m. h (suc k) d (omega (arith, m))) in
    omega (arith, a, b)

pub costs_small : (list : List Posting) (f : ℕ) (cuts times weights : List ℕ) → length list ≤ 2 ^ 38 → length weights ≤ 2 ^ 40 → All (λ w. w ≤ 2 ^ 20) weights → expected_cost list f cuts times weights < 2 ^ 100
costs_small list f cuts times weights l m h = omega (arith, cost-le list f cuts times weights (2 ^ 38) l h, m)
