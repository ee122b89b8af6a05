-- What a journal in hand is.
use Rattle.std.specs.Prelude.{ℕ, Bool}

-- the place behind the closed gate that ends its records, and whether it may be appended to
pub record JournalState : Type 0 where
  pub end : ℕ
  pub live : Bool
