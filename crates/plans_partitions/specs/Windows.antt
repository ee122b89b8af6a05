-- Windows over the values of a function, and the queue of entries by which the least value is found.
use Rattle.std.specs.Prelude.{◌≡◌, ℕ, ◌+◌, ◌<◌, ◌≤◌, List, [], ◌∷◌, ⊤}

-- How many values were added, the place from which on they are in the window, and the queue: places with their values.
pub record Window : Type 0 where
  pub next : ℕ
  pub from : ℕ
  pub queue : List (ℕ × ℕ)

-- The place is in the window from one place on and before another, and no value of f in the window is less than the one there.
pub record IsLeastIn (f : ℕ → ℕ) (from next place : ℕ) : Type 0 where
  pub after : from ≤ place
  pub before : place < next
  pub least : (i : ℕ) → from ≤ i → i < next → f place ≤ f i

-- An entry is a place of the window where its least value stands, with this value.
pub record IsEntry (f : ℕ → ℕ) (from next : ℕ) (entry : ℕ × ℕ) : Type 0 where
  pub least : IsLeastIn f from next entry.0
  pub value : entry.1 ≡ f entry.0

-- The queue of a window: none where the window is empty; else an entry, and then the queue of the window from the place behind it.
abbrev pub IsQueue : (ℕ → ℕ) → ℕ → ℕ → List (ℕ × ℕ) → Type 0
IsQueue f from next [] = from ≡ next
IsQueue f from next (e ∷ queue) = IsEntry f from next e × IsQueue f (e.0 + 1) next queue

-- The window is one over f: the values that were added are those of f at their places.
pub record IsOver (f : ℕ → ℕ) (window : Window) : Type 0 where
  pub queue : IsQueue f window.from window.next window.queue

-- It is one over some function.
pub record IsWindow (window : Window) : Type 0 where
  pub values : ℕ → ℕ
  pub over : IsOver values window

-- The same but for places at the end, whose values are all at least the one that is given.
abbrev pub IsFront : (ℕ → ℕ) → ℕ → ℕ → ℕ → List (ℕ × ℕ) → Type 0
IsFront f value from next [] = (from ≤ next) × ((i : ℕ) → from ≤ i → i < next → value ≤ f i)
IsFront f value from next (e ∷ queue) = IsEntry f from next e × IsFront f value (e.0 + 1) next queue

-- The first entry stands before a place.
abbrev pub StartsBefore : ℕ → List (ℕ × ℕ) → Type 0
StartsBefore place [] = ⊥
StartsBefore place (e ∷ queue) = e.0 < place

-- The value of the last entry, where there is one, is less than a value.
abbrev pub EndsBelow : ℕ → List (ℕ × ℕ) → Type 0
EndsBelow value [] = ⊤
EndsBelow value (e ∷ []) = e.1 < value
EndsBelow value (e ∷ d ∷ queue) = EndsBelow value (d ∷ queue)
