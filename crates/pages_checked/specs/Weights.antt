-- Bytes that were checked, and how many bytes of memory they take while they are remembered.
use Rattle.std.specs.Prelude.{◌≡◌, ◌+◌, ◌*◌, ◌<◌, ◌≤◌, ◌^◌, ℕ, List, Option, length, sum_by}
use Rattle.std.specs.Option.{option_map_or}
use Rattle.base_types.specs.declared.posting.Posting.{Posting}
use Rattle.journal_entries.specs.declared.place.Layout.{Layout}

-- bytes whose digest was checked: the first page of their place, their layout and digest, and the list that they spell, once it was read
pub record CheckedState : Type 0 where
  pub page : ℕ
  pub layout : Layout
  pub digest : List ℕ
  pub bytes : List ℕ
  pub list : Option (List Posting)

-- how many bytes they take in memory, about: each posting takes 32, and what stands beside bytes and postings 256
abbrev pub weight : CheckedState → ℕ
weight k = length k.bytes + 32 * option_map_or length k.list 0 + 256

-- these are the bytes that were checked, in this layout and by this digest
abbrev pub AreBytes : Layout → List ℕ → List ℕ → CheckedState → Type 0
AreBytes layout digest bytes k = (k.layout ≡ layout) × (k.digest ≡ digest) × (k.bytes ≡ bytes)

-- they are put away once others are checked: there are some, and they take no more than all may
abbrev pub IsLight : CheckedState → Type 0
IsLight k = (0 < length k.bytes) × (weight k ≤ 2 ^ 26)

-- how many bytes those take that were put away, each under the first page of its place
abbrev pub weight_of_all : List (ℕ × CheckedState) → ℕ
weight_of_all known = sum_by (λ (e : ℕ × CheckedState). weight e.1) known
