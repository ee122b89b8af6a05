-- How far a turn of a document has come over the words of two lists of weights.
use Rattle.std.specs.Prelude.{◌≡◌, ◌⊎◌, ℕ, ◌+◌, ◌≤◌, ◌==◌, if◌then◌else◌, List, [], ◌∷◌, length, All}
use Rattle.lists_tails.specs.declared.weight.Weight.{Weight}
use Rattle.lists_tails.specs.States.{TailState}
use Rattle.lists_tails.specs.Tails.{held_of, tail_of, room_of, HaveRoom}
use Rattle.lists_tails.specs.Turns.{IsTurned}
use Rattle.lists_tails.specs.Weights.{AreWeights, weight_of}

-- The weight of word w where the list begins with it, or 0.
abbrev pub first_of : ℕ → List Weight → ℕ
first_of w [] = 0
first_of w (x ∷ weights) = if (x.word.number == w) then x.tf else 0

-- The list without word w where it begins with it.
abbrev pub behind : ℕ → List Weight → List Weight
behind w [] = []
behind w (x ∷ weights) = if (x.word.number == w) then weights else x ∷ weights

-- No word of the list is before word w.
abbrev pub AreFrom : ℕ → List Weight → Type 0
AreFrom w weights = All (λ x. w ≤ x.word.number) weights

-- Word w is passed on.
pub record IsDone (doc at : ℕ) (old new lost gained : List Weight) (was now : List TailState) (w : ℕ) : Type 0 where
  pub none_lost : weight_of w lost ≡ 0
  pub none_gained : weight_of w gained ≡ 0
  pub turned : IsTurned doc at (weight_of w old) (weight_of w new) (tail_of was w) (tail_of now w)
  pub longer : length (tail_of now w) ≤ length (tail_of was w) + 1
  pub same : weight_of w old ≡ weight_of w new → held_of now w ≡ held_of was w
  pub shorter : weight_of w new ≡ 0 → length (tail_of now w) ≤ length (tail_of was w)
  pub none : weight_of w new ≡ 0 → room_of was w ≤ room_of now w
  pub room : room_of was w ≤ room_of now w + 1

-- Word w stands as it was.
pub record IsLeft (old new lost gained : List Weight) (was now : List TailState) (w : ℕ) : Type 0 where
  pub held : held_of now w ≡ held_of was w
  pub to_lose : weight_of w lost ≡ weight_of w old
  pub to_gain : weight_of w gained ≡ weight_of w new

-- Each word is passed on or stands as it was; the words that may still change are those of the lists `lost` and `gained`.
pub record IsPassing (doc at : ℕ) (old new lost gained : List Weight) (was now : List TailState) : Type 0 where
  pub lost_words : AreWeights lost
  pub gained_words : AreWeights gained
  pub gained_room : HaveRoom gained now
  pub each : (w : ℕ) → IsDone doc at old new lost gained was now w ⊎ IsLeft old new lost gained was now w
