-- A partition that may be chosen takes at most the cap.
use Rattle.std.specs.Prelude.{ℕ, ◌*◌, ◌<◌, ◌≤◌, List, [], ◌∷◌, length}
use Rattle.std.proofs.Common.{arith, subst, inl, inr, sym}
use Rattle.std.proofs.Math.Nat.{add-mul, div-mul-le_self, le-div_iff_mul-le, mul-le-mul_right, mul_comm}
use Rattle.std.proofs.lemmas.Grind.{div_ceil_times}
use Rattle.std.proofs.lemmas.List.Sums.{count_by-le-length}
use Rattle.base_types.specs.declared.posting.Posting.{Posting}
use Rattle.base_types.specs.declared.fraction.Fraction.{Fraction}
use Rattle.lists_postings.specs.Lists.{meets}
use Rattle.lists_postings.specs.Sizes.{size}
use Rattle.plans_partitions.specs.Partitions.{space}
use Rattle.plans_space.specs.Caps.{cap, unit, charge, budget}
use Rattle.plans_space.specs.Costs.{charges}
use Rattle.plans_space.specs.Laws.{EligibleIsCapped}

unit_some : (most : ℕ) → 0 < unit most
unit_some most = omega arith

-- a segment takes at most what it is charged
taken : (u z : ℕ) → 0 < u → z ≤ charge u z * u
taken u z p = (div_ceil_times z u p).0

charged : (list : List Posting) (u f : ℕ) (cuts : List ℕ) → 0 < u → space list f cuts ≤ charges list u f cuts * u
charged list u f [] p = omega arith
charged list u f (g ∷ cuts) p = omega (arith, taken u (size f g list) p, charged list u g cuts p, add-mul (charge u (size f g list)) (charges list u g cuts) u)

-- the budget's units are at most the cap
budgeted : (most n : ℕ) → n ≤ budget most → n * unit most ≤ most
budgeted most n l = omega (arith, mul-le-mul_right {m = n} {n = budget most} (unit most) l, div-mul-le_self most (unit most))

-- the list is at most the cap, since the factor is at least one
listed : (factor : Fraction) (n : ℕ) → n ≤ cap factor n
listed factor n = (le-div_iff_mul-le {k = factor.under} {x = n} {y = factor.over * n} factor.proper).1 (omega (arith, mul_comm n factor.under, mul-le-mul_right {m = factor.under} {n = factor.over} n factor.at_least_one))

pub capped : EligibleIsCapped
capped list times factor f horizon cuts (inl (lt, e)) = subst (λ (c : List ℕ). space list f c ≤ cap factor (length list)) (sym e) (omega (arith, count_by-le-length (meets f horizon) list, listed factor (length list)))
capped list times factor f horizon cuts (inr w) =
    omega (arith, charged list (unit (cap factor (length list))) f cuts (unit_some (cap factor (length list))), budgeted (cap factor (length list)) (charges list (unit (cap factor (length list))) f cuts) w.charged)
