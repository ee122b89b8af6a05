-- What a load finds in a journal.
use Rattle.std.specs.Prelude.{◌≡◌, ℕ, ◌+◌, List, length}
use Rattle.journal_gates.specs.declared.head.Head.{Head}
use Rattle.journal_gates.specs.Records.{first_gate, front}
use Rattle.journal_gates.specs.Heads.{heads_of}
use Rattle.journal_gates.specs.Spelled.{Spells}
use Rattle.journal_gates.specs.Refused.{IsNotJournal}

-- the end is the place behind the closed gate, and the heads say where these bodies lie
pub record IsLaidOut (bodies : List (List ℕ)) (end : ℕ) (heads : List Head) : Type 0 where
  pub end_is : end ≡ length (front bodies) + 1
  pub heads_are : heads ≡ heads_of first_gate bodies

-- the bytes spell bodies, which lie where the heads say, and they aren't refused anywhere
pub record IsFound (bytes : List ℕ) (end : ℕ) (heads : List Head) : Type 0 where
  pub bodies : List (List ℕ)
  pub spelled : Spells bytes bodies
  pub laid_out : IsLaidOut bodies end heads
  pub not_refused : (at : ℕ) → IsNotJournal bytes at → ⊥
