-- What happens to tails: turns of documents, and the frequency after them.
use Rattle.std.specs.Prelude.{◌≡◌, ℕ, ◌<◌, ◌==◌, if◌then◌else◌, List, [], ◌∷◌, All, ⊤}
use Rattle.base_types.specs.declared.posting.Posting.{Posting}
use Rattle.lists_tails.specs.Turns.{turned, IsTurned}

-- One thing that happens to tails.
pub data Act : Type 0 where
  -- from a time on (second) a document (first) has other weights, by word
  Turns : ℕ → ℕ → (ℕ → ℕ) → Act

-- The frequency of each word, document and time after the turns, the last one first: what the document's last turn up
-- to the time gave the word, or 0.
abbrev pub frequency_after : List Act → ℕ → ℕ → ℕ → ℕ
frequency_after [] w d t = 0
frequency_after (Turns doc at new ∷ earlier) w d t = turned (frequency_after earlier) doc at new w d t

-- The weight of a word that a document has open after the turns, the last one first: what its last turn gave, or 0.
abbrev pub open_after : List Act → ℕ → ℕ → ℕ
open_after [] w d = 0
open_after (Turns doc at new ∷ earlier) w d = if (d == doc) then new w else open_after earlier w d

-- It isn't a turn of the document up to the time.
abbrev pub IsNoTurn : ℕ → ℕ → Act → Type 0
IsNoTurn doc t (Turns d at new) = d ≡ doc → t < at

-- An earlier turn lets a document turn at the time: it isn't one of the document at that time or later.
abbrev pub LetsTurn : ℕ → ℕ → Act → Type 0
LetsTurn doc at (Turns d t new) = d ≡ doc → t < at

-- The turns, the last one first: each is after the earlier ones of its document.
abbrev pub AreInOrder : List Act → Type 0
AreInOrder [] = ⊤
AreInOrder (Turns doc at new ∷ earlier) = All (LetsTurn doc at) earlier × AreInOrder earlier

-- What a turn makes of the tails, by word, after the earlier ones, the last one first: it passes each word's tail on from the weight that
-- the document has open.
abbrev pub IsStep : List Act → Act → (ℕ → List Posting) → (ℕ → List Posting) → Type 0
IsStep earlier (Turns doc at new) before after = (w : ℕ) → IsTurned doc at (open_after earlier w doc) (new w) (before w) (after w)

-- The turns, the last one first, make the tails from empty ones.
abbrev pub Make : List Act → (ℕ → List Posting) → Type 0
Make [] tails = (w : ℕ) → tails w ≡ []
Make (act ∷ earlier) tails = (before : ℕ → List Posting) × Make earlier before × IsStep earlier act before tails
