-- How far a frequency may be from another.
use Rattle.std.specs.Prelude.{◌≡◌, ℕ, ◌+◌, ◌*◌, ◌/◌, ◌<◌, ◌≤◌}
use Rattle.std.specs.Int.{abs_diff}
use Rattle.std.proofs.Common.{arith, rules}
use Rattle.std.proofs.Math.Nat.{le-div_iff_mul-le, mul-le-mul_right, mul-le-mul_left, mul-sub}
use Rattle.lists_approx.specs.Approximations.{IsNear}
use Rattle.base_types.specs.declared.tolerance.Tolerance.{Tolerance}

-- the tolerance's part of p, rounded down
abbrev pub slack : Tolerance → ℕ → ℕ
slack tolerance p = tolerance.part * p / tolerance.whole

some : (tolerance : Tolerance) → 0 < tolerance.whole
some tolerance = let h : tolerance.part < tolerance.whole = tolerance.below in omega (arith, h)

pub near-from : (tolerance : Tolerance) (r p : ℕ) → p ≤ r + slack tolerance p → r ≤ p + slack tolerance p → IsNear tolerance r p
near-from tolerance r p a b = let k : abs_diff p r ≤ slack tolerance p = omega (arith, a, b) in (le-div_iff_mul-le (some tolerance)).0 k

-- a frequency near one that is none is none
pub near_none : (tolerance : Tolerance) (r p : ℕ) → IsNear tolerance r p → p ≡ 0 → r ≡ 0
near_none tolerance r p h e = search rules

-- only one that is none is near none
pub none_near : (tolerance : Tolerance) (r p : ℕ) → IsNear tolerance r p → r ≡ 0 → p ≡ 0
none_near tolerance r p h e = search rules

pub near_self : (tolerance : Tolerance) (p : ℕ) → IsNear tolerance p p
near_self tolerance p = near-from tolerance p p (omega arith) (omega arith)

sum-le : (a b c w m p q : ℕ) → c ≤ a + b → a * w ≤ m * p → b * w ≤ m * q → c * w ≤ m * (p + q)
sum-le a b c w m p q l h k = let d : c * w ≤ (a + b) * w = mul-le-mul_right w l in omega (arith, d, h, k)

pub near_sum : (tolerance : Tolerance) (r s p q : ℕ) → IsNear tolerance r p → IsNear tolerance s q → IsNear tolerance (r + s) (p + q)
near_sum tolerance r s p q h k = sum-le (abs_diff p r) (abs_diff q s) (abs_diff (p + q) (r + s)) tolerance.whole tolerance.part p q (omega arith) h k

weighted-le : (v a c w m p : ℕ) → c ≡ v * a → a * w ≤ m * p → c * w ≤ m * (v * p)
weighted-le v a c w m p e h = let d : v * (a * w) ≤ v * (m * p) = mul-le-mul_left v h in rw e (omega (arith, d))

pub near_weighted : (tolerance : Tolerance) (w r p : ℕ) → IsNear tolerance r p → IsNear tolerance (w * r) (w * p)
near_weighted tolerance w r p h = weighted-le w (abs_diff p r) (abs_diff (w * p) (w * r)) tolerance.whole tolerance.part p (omega (arith, mul-sub w p r, mul-sub w r p)) h
