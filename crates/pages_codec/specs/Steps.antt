-- Reading from left to right. A reading gives what it read, or how many bytes are left at the place
-- of the first fault.
use Rattle.std.specs.Prelude.{ℕ, zero, suc, ◌+◌, List, [], ◌∷◌, ◌++◌, length, Option, Some, Result, Ok, Err}
use Rattle.base_types.specs.Reading.{◌>>=◌}

-- the last of these values, or the one before them
abbrev pub last_of : {A : Type 0} → Option A → List A → Option A
last_of before [] = before
last_of before (x ∷ xs) = last_of (Some x) xs

-- What all the bytes spell, by readings of a front that gives some values, each of which is given
-- the value before. It ends where the bytes do, after no more readings than there are bytes.
abbrev pub all_at : {A : Type 0} → (Option A → List ℕ → Result (List A × List ℕ) ℕ) → ℕ → Option A → List ℕ → Result (List A) ℕ
all_at front_at readings before [] = Ok []
all_at front_at zero before (b ∷ bytes) = Err (length bytes + 1)
all_at front_at (suc readings) before (b ∷ bytes) = do
  front ← front_at before (b ∷ bytes)
  others ← all_at front_at readings (last_of before front.0) front.1
  Ok (front.0 ++ others)
