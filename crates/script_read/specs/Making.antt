-- Values made from numbers, where these pass what a value asks of them.
use Rattle.std.specs.Prelude.{◌≡◌, ℕ, ◌≤◌, ◌<◌, ◌^◌, Bool, true, false, nat_lt, nat_le, Option, Some, None, option_and_then, refl}
use Rattle.std.proofs.Common.{ltb-true}
use Rattle.std.proofs.lemmas.Bool.{leb-true}
use Rattle.base_types.specs.declared.fraction.Fraction.{Fraction}

-- What is made of the value that is there, where one is.
infixl 10 ◌>>=◌
abbrev pub ◌>>=◌ : {A B : Type 0} → Option A → (A → Option B) → Option B
o >>= make = option_and_then make o

-- The fact that a test tells, where the test holds.
abbrev pub fact : {P : Type 0} → (b : Bool) → (b ≡ true → P) → Option P
fact true tells = Some (tells refl)
fact false tells = None

-- The fact that one number is at most another, or below it, where it is.
infix 40 ◌≤?◌
abbrev pub ◌≤?◌ : (a b : ℕ) → Option (a ≤ b)
a ≤? b = fact (nat_le a b) (leb-true a b)

infix 40 ◌<?◌
abbrev pub ◌<?◌ : (a b : ℕ) → Option (a < b)
a <? b = fact (nat_lt a b) (ltb-true a b)

-- The factor a / b, where 1 ≤ b ≤ a < 2^32.
abbrev pub fraction_of : ℕ → ℕ → Option Fraction
fraction_of a b = do
  proper ← 1 ≤? b
  at_least_one ← b ≤? a
  in_range ← a <? 2 ^ 32
  Some (record { over = a; under = b; proper = proper; at_least_one = at_least_one; in_range = in_range })
