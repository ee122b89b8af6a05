-- The bodies of a loaded journal, one after another.
use Rattle.std.specs.Prelude.{◌≡◌, ℕ, List, ◌∷◌, ◌++◌, length}
use Rattle.journal_gates.specs.declared.head.Head.{Head}
use Rattle.journal_gates.specs.Records.{first_gate, front}
use Rattle.journal_gates.specs.Heads.{heads_of, AreInRow, AreBodies, LiesBefore}
use Rattle.journal_gates.specs.Windows.{WindowState, IsView, Covers, piece_of}

-- the heads of the bodies that are left, and the bytes in hand
pub record BodiesState : Type 0 where
  pub left : List Head
  pub window : WindowState

-- the body in hand to which a head leads
abbrev pub body_at : BodiesState → Head → List ℕ
body_at reader head = piece_of reader.window head.body head.bytes

-- the head was the next one, and its body is in hand now
pub record IsNext (old new : BodiesState) (head : Head) : Type 0 where
  pub is : old.left ≡ head ∷ new.left
  pub lies : LiesBefore old.window.end head
  pub covers : Covers new.window head.body head.bytes

-- of a row of heads those are left that lie behind these bodies
pub record AreBehind (heads : List Head) (bodies : List (List ℕ)) (reader : BodiesState) : Type 0 where
  pub heads_are : heads ≡ heads_of first_gate bodies ++ reader.left
  pub row : AreInRow (length (front bodies)) reader.left reader.window.end

-- the heads that are left lead to these bodies of the journal, and the bytes in hand are the journal's
pub record AreLeft (journal : List ℕ) (reader : BodiesState) (bodies : List (List ℕ)) : Type 0 where
  pub lead : AreBodies journal reader.left bodies
  pub view : IsView reader.window journal
