-- Runs of a machine that may choose, what a run has acknowledged, and what the images that it left stand for. The machine is any:
-- its states, events and replies, its step, the text of a reply, and which images stand for a state. An event is what takes the machine
-- on and has a reply: here each is an item of the input.
use Rattle.std.specs.Prelude.{◌≡◌, ◌⊎◌, ℕ, Bool, true, false, ◌+◌, ◌≤◌, zero, suc, List, [], ◌∷◌, ◌++◌, length, take}
use Rattle.std.specs.List.{flat_map}
use Rattle.machine_model.specs.Areas.{Bytes}
use Rattle.machine_model.specs.Pushes.{IsPrefix}

-- what comes of an event: the reply, and the state after it
pub record Outcome (R S : Type 0) : Type 0 where
  pub reply : R
  pub next : S

-- a run from a state: an outcome for each event, each a step from the state before
abbrev pub IsRun : {S E R : Type 0} → (S → E → R → S → Type 0) → S → List E → List (Outcome R S) → Type 0
IsRun step state [] [] = Unit {0}
IsRun step state (event ∷ events) (outcome ∷ outcomes) = step state event outcome.reply outcome.next
    × IsRun step outcome.next events outcomes
IsRun step state events outcomes = ⊥

-- Behind an event: where work is under way, one stint of it comes, and then the rest; where none is, the rest alone.
abbrev pub AfterStint : {S R : Type 0} → (S → R → S → Type 0) → Bool → S → List (Outcome R S) → (S → List (Outcome R S) → Type 0) → Type 0
AfterStint stint false state outcomes Rest = Rest state outcomes
AfterStint stint true state [] Rest = ⊥
AfterStint stint true state (work ∷ outcomes) Rest = stint state work.reply work.next × Rest work.next outcomes

-- A run of a machine that works on its own too: an outcome for each event, each a step from the state before; and behind an event that came while work
-- was under way one for a stint of the work.
abbrev pub IsRunWith : {S E R : Type 0} → (S → E → R → S → Type 0) → (S → R → S → Type 0) → (S → Bool) → S → List E → List (Outcome R S)
    → Type 0
IsRunWith step stint at_work state [] outcomes = outcomes ≡ []
IsRunWith step stint at_work state (event ∷ events) [] = ⊥
IsRunWith step stint at_work state (event ∷ events) (outcome ∷ outcomes) = step state event outcome.reply outcome.next
    × AfterStint stint (at_work state) outcome.next outcomes (λ next rest. IsRunWith step stint at_work next events rest)

-- stints in a row
abbrev pub AreStints : {S R : Type 0} → (S → R → S → Type 0) → S → List (Outcome R S) → Type 0
AreStints stint state [] = Unit {0}
AreStints stint state (work ∷ outcomes) = stint state work.reply work.next × AreStints stint work.next outcomes

-- the state after so many outcomes
abbrev pub state_after : {S R : Type 0} → S → List (Outcome R S) → ℕ → S
state_after state outcomes zero = state
state_after state [] (suc j) = state
state_after state (outcome ∷ outcomes) (suc j) = state_after outcome.next outcomes j

-- the texts of the replies, joined
abbrev pub shown_by : {S R : Type 0} → (R → List ℕ) → List (Outcome R S) → List ℕ
shown_by text outcomes = flat_map (λ outcome. text outcome.reply) outcomes

-- bytes shown acknowledge so many outcomes: the greatest number of replies whose texts stand whole in them
pub record IsAcknowledged {S R : Type 0} (text : R → List ℕ) (outcomes : List (Outcome R S)) (shown : List ℕ) (k : ℕ) : Type 0 where
  pub within : k ≤ length outcomes
  pub whole : IsPrefix (shown_by text (take k outcomes)) shown
  pub greatest : (m : ℕ) → m ≤ length outcomes → IsPrefix (shown_by text (take m outcomes)) shown → m ≤ k

-- An image, with the bytes shown when it was left, stands for the state after j outcomes, where j is the number of outcomes that
-- the bytes shown in this run acknowledge, or one more. What was shown before the run doesn't count.
pub record Reopens {S R : Type 0} (text : R → List ℕ) (stands : S → Bytes → Type 0) (state : S) (outcomes : List (Outcome R S))
    (before : List ℕ)
    (image : Bytes) (beside : List ℕ) : Type 0 where
  pub shown : List ℕ
  pub shown_is : beside ≡ before ++ shown
  pub k : ℕ
  pub acknowledged : IsAcknowledged text outcomes shown k
  pub j : ℕ
  pub one_more : (j ≡ k) ⊎ (j ≡ k + 1)
  pub reached : j ≤ length outcomes
  pub holds : stands (state_after state outcomes j) image
