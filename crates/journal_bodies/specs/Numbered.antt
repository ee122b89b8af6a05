-- The bodies of a loaded journal by their numbers.
use Rattle.std.specs.Prelude.{◌≡◌, ℕ, ◌-◌, List, take, drop, slice_get, Some}
use Rattle.journal_gates.specs.declared.head.Head.{Head}
use Rattle.journal_gates.specs.Records.{first_gate}
use Rattle.journal_gates.specs.Heads.{heads_of}
use Rattle.journal_gates.specs.Spelled.{Spells}
use Rattle.journal_gates.specs.Windows.{WindowState, IsView}

-- where the bodies lie, the bytes in hand, and for how many more there is room
pub record NumberedState : Type 0 where
  pub heads : List Head
  pub window : WindowState
  pub room : ℕ

-- these are the bodies of a journal
pub record AreIn (journal : List ℕ) (bodies : List (List ℕ)) (numbered : NumberedState) : Type 0 where
  pub spelled : Spells journal bodies
  pub heads_are : numbered.heads ≡ heads_of first_gate bodies
  pub view : IsView numbered.window journal

-- the body of a number, from 1 on, lies in the journal where this head says
abbrev pub LiesAt : List ℕ → List (List ℕ) → ℕ → Head → Type 0
LiesAt journal bodies number head = slice_get bodies (number - 1) ≡ Some (take head.bytes (drop head.body journal))
