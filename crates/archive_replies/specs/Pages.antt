-- A page on which replies are written.
use Rattle.std.specs.Prelude.{ℕ, List}

-- the bytes that are written on a page, and how many more it has room for
pub record Page : Type 0 where
  pub bytes : List ℕ
  pub room : ℕ

-- the room of an empty page is at least this: enough for any reply that takes no memory
abbrev pub reply_room : ℕ
reply_room = 192
