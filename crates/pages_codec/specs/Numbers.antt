-- Numbers as short as they can be: 7 bits a byte, the lowest first, the highest bit set in each byte but the last.
use Rattle.std.specs.Prelude.{ℕ, zero, suc, ◌+◌, ◌-◌, ◌*◌, ◌/◌, ◌%◌, ◌==◌, List, [], ◌∷◌, Option, Some, None, nat_lt, if◌then◌else◌}

-- the bytes of a number below 128 ^ most: its lowest 7 bits, and then the bytes of the rest unless that is 0
unfoldable pub number_bytes : ℕ → ℕ → List ℕ
number_bytes zero n = []
number_bytes (suc most) n = if nat_lt n 128 then n ∷ [] else (n % 128 + 128) ∷ number_bytes most (n / 128)

-- a number whose lowest bits are those of this byte, if the rest isn't 0
abbrev pub with_low : ℕ → Option (ℕ × List ℕ) → Option (ℕ × List ℕ)
with_low b None = None
with_low b (Some read) = if read.0 == 0 then None else Some (b - 128 + 128 * read.0, read.1)

-- a number of so many bytes at most, and the bytes after it: none where no byte is the last, and none where the last is 0 behind others
unfoldable pub number_at : ℕ → List ℕ → Option (ℕ × List ℕ)
number_at zero bytes = None
number_at (suc most) [] = None
number_at (suc most) (b ∷ bytes) = if nat_lt b 128 then Some (b, bytes) else with_low b (number_at most bytes)
