-- Reading bytes from left to right. A reading gives what it read, or how many bytes are left at the place of the first fault.
use Rattle.std.specs.Prelude.{ℕ, Option, Some, None, Result, Ok, Err}

-- one step after another, up to the first that fails
infixl 10 ◌>>=◌
abbrev pub ◌>>=◌ : {A B : Type 0} → Result A ℕ → (A → Result B ℕ) → Result B ℕ
(Ok x) >>= f = f x
(Err left) >>= f = Err left

-- this value if there is one, where so many bytes are left
abbrev pub value_or : {A : Type 0} → ℕ → Option A → Result A ℕ
value_or left (Some x) = Ok x
value_or left None = Err left
