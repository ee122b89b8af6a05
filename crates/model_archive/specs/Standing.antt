-- Where a run stands, as a recursion on its outcomes. This is what a loop over events carries; what `Reopens` says of an image follows
-- from it.
use Rattle.std.specs.Prelude.{◌≡◌, ◌⊎◌, Bool, true, List, [], ◌∷◌, ◌++◌, ℕ}
use Rattle.machine_model.specs.Areas.{Bytes}
use Rattle.machine_model.specs.States.{DiskState}
use Rattle.machine_model.specs.Moments.{LeavesOnly, GoesOn}
use Rattle.machine_model.specs.Pushes.{IsPrefix}
use Rattle.model_archive.specs.Runs.{Outcome, IsRunWith}

-- An image, with the bytes that the run has shown then: at the state before the outcomes with nothing shown, at the next state with a
-- part of the first reply shown, or further on.
abbrev pub StandsAlong : {S R : Type 0} → (R → List ℕ) → (S → Bytes → Type 0) → S → List (Outcome R S) → Bytes → List ℕ → Type 0
StandsAlong text stands state [] image shown = stands state image × (shown ≡ [])
StandsAlong text stands state (outcome ∷ outcomes) image shown = (stands state image × (shown ≡ []))
    ⊎ ((stands outcome.next image × IsPrefix shown (text outcome.reply))
    ⊎ ((rest : List ℕ) × (shown ≡ text outcome.reply ++ rest) × StandsAlong text stands outcome.next outcomes image rest))

-- the state after all outcomes
abbrev pub last_state : {S R : Type 0} → S → List (Outcome R S) → S
last_state state [] = state
last_state state (outcome ∷ outcomes) = last_state outcome.next outcomes

-- A run but for its last stint: a run over all events but the last, which came while work was under way, and the outcome of that; behind it no stint
-- was done.
pub record LacksStint {S E R : Type 0} (step : S → E → R → S → Type 0) (stint : S → R → S → Type 0) (at_work : S → Bool) (state : S)
    (events : List E) (outcomes : List (Outcome R S)) : Type 0 where
  pub before : List E
  pub event : E
  pub events_are : events ≡ before ++ event ∷ []
  pub done : List (Outcome R S)
  pub outcome : Outcome R S
  pub outcomes_are : outcomes ≡ done ++ outcome ∷ []
  pub run : IsRunWith step stint at_work state before done
  pub working : at_work (last_state state done) ≡ true
  pub last : step (last_state state done) event outcome.reply outcome.next

-- Outcomes that were carried out: each image left since the start stands by what was shown of the run then.
pub record Carried {S R : Type 0} (text : R → List ℕ) (stands : S → Bytes → Type 0) (state : S) (outcomes : List (Outcome R S))
    (before : List ℕ) (old new : DiskState) : Type 0 where
  pub goes_on : GoesOn old new
  pub images : LeavesOnly old new (λ image beside. (shown : List ℕ) × (beside ≡ before ++ shown)
      × StandsAlong text stands state outcomes image shown)

-- an outcome whose reply has no text leaves what stands as it was
abbrev pub IsQuiet : {S R : Type 0} → (R → List ℕ) → (S → Bytes → Type 0) → S → R → S → Type 0
IsQuiet text stands state reply next = text reply ≡ [] → (image : Bytes) → stands state image → stands next image

-- so does each of these
abbrev pub AreQuiet : {S R : Type 0} → (R → List ℕ) → (S → Bytes → Type 0) → S → List (Outcome R S) → Type 0
AreQuiet text stands state [] = Unit {0}
AreQuiet text stands state (outcome ∷ outcomes) = IsQuiet text stands state outcome.reply outcome.next
    × AreQuiet text stands outcome.next outcomes
