-- Which bytes are no journal, and where that shows.
use Rattle.std.specs.Prelude.{◌≡◌, ◌≢◌, ◌⊎◌, ℕ, ◌+◌, ◌<◌, ◌≤◌, List, ◌∷◌, ◌++◌, length, take, slice_index}
use Rattle.std.specs.Int.{w32, from_be_bytes}
use Rattle.journal_gates.specs.Header.{header}
use Rattle.journal_gates.specs.Records.{new_bytes, open_gate, front, Fit}

-- this is the first byte that differs from the header's
pub record IsFirstWrong (bytes : List ℕ) (at : ℕ) : Type 0 where
  pub inside : at < length header
  pub before : take at bytes ≡ take at header
  pub wrong : slice_index bytes at ≢ slice_index header at

-- behind an open gate the length isn't whole, or the place of the next gate lies past the end
abbrev pub IsCut : List ℕ → Type 0
IsCut rest = (length rest < 4) ⊎ (length rest ≤ 4 + from_be_bytes w32 (take 4 rest))

-- behind whole records an open gate stands here whose length isn't whole or whose next gate lies past the end
pub record IsCutShort (bytes : List ℕ) (at : ℕ) : Type 0 where
  pub bodies : List (List ℕ)
  pub rest : List ℕ
  pub fit : Fit bodies
  pub whole : bytes ≡ front bodies ++ open_gate ∷ rest
  pub at_is : at ≡ length (front bodies)
  pub cut : IsCut rest

-- these bytes are more than a new journal and no journal, which shows at this place
abbrev pub IsNotJournal : List ℕ → ℕ → Type 0
IsNotJournal bytes at = (new_bytes < length bytes) × (IsFirstWrong bytes at ⊎ IsCutShort bytes at)
