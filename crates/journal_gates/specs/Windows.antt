-- Bytes of a journal that are in hand.
use Rattle.std.specs.Prelude.{◌≡◌, ℕ, ◌+◌, ◌-◌, ◌≤◌, List, length, take, drop}

-- the end up to which a journal is read, and bytes of it from a place on
pub record WindowState : Type 0 where
  pub end : ℕ
  pub from : ℕ
  pub bytes : List ℕ

-- these bytes stand in the journal from that place on
abbrev pub IsView : WindowState → List ℕ → Type 0
IsView window journal = window.bytes ≡ take (length window.bytes) (drop window.from journal)

-- so many bytes from this place on are in hand
pub record Covers (window : WindowState) (at count : ℕ) : Type 0 where
  pub begins : window.from ≤ at
  pub ends : at + count ≤ window.from + length window.bytes

-- so many of the bytes in hand, from this place of the journal on
abbrev pub piece_of : WindowState → ℕ → ℕ → List ℕ
piece_of window at count = take count (drop (at - window.from) window.bytes)
