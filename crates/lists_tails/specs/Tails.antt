-- The tails of all words.
use Rattle.std.specs.Prelude.{ℕ, ◌≤◌, List, [], get_or, All}
use Rattle.base_types.specs.declared.posting.Posting.{Posting}
use Rattle.lists_tails.specs.States.{TailState}
use Rattle.lists_tails.specs.declared.weight.Weight.{Weight}

-- What is held for word w, where the words stand in the order of their numbers: nothing behind the last.
abbrev pub held_of : List TailState → ℕ → TailState
held_of tails w = get_or tails w (record { list = []; room = 0 })

-- The tail of word w.
abbrev pub tail_of : List TailState → ℕ → List Posting
tail_of tails w = (held_of tails w).list

-- How many more postings fit into the tail of word w without memory.
abbrev pub room_of : List TailState → ℕ → ℕ
room_of tails w = (held_of tails w).room

-- Each word of the weights has room for a turn.
abbrev pub HaveRoom : List Weight → List TailState → Type 0
HaveRoom weights tails = All (λ x. 1 ≤ room_of tails x.word.number) weights
