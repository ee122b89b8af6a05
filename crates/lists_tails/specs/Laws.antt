-- What follows from the definition of turns.
use Rattle.std.specs.Prelude.{◌≡◌, ℕ, ◌≤◌, List, ◌∷◌, ◌++◌, All}
use Rattle.base_types.specs.declared.posting.Posting.{Posting}
use Rattle.lists_tails.specs.Turns.{AreTails}
use Rattle.lists_tails.specs.Acts.{Act, Turns, IsNoTurn, frequency_after, AreInOrder, Make}

-- Whatever turns make of empty tails, each tail is the list of the frequency that they define.
abbrev pub TailsOfActs : Type 0
TailsOfActs = (acts : List Act) (tails : ℕ → List Posting) → AreInOrder acts → Make acts tails → AreTails (frequency_after acts) tails

-- The frequency that the turns define is what the document's last turn up to the time gave the word.
abbrev pub FrequencyOfLastTurn : Type 0
FrequencyOfLastTurn = (later earlier : List Act) (doc at t w : ℕ) (new : ℕ → ℕ) → at ≤ t → All (IsNoTurn doc t) later
    → frequency_after (later ++ Turns doc at new ∷ earlier) w doc t ≡ new w

-- It is 0 before the document's first turn.
abbrev pub FrequencyOfNoTurn : Type 0
FrequencyOfNoTurn = (acts : List Act) (doc t w : ℕ) → All (IsNoTurn doc t) acts → frequency_after acts w doc t ≡ 0
