-- A run while it goes on, and when it has ended: what it pulled, and what it did.
use Rattle.std.specs.Prelude.{◌≡◌, ◌⊎◌, ℕ, true, false, List, [], ◌∷◌, ◌++◌, map, All, Option, Some, None, Result, Ok, Err}
use Rattle.machine_model.specs.Pulls.{Pull}
use Rattle.machine_model.specs.States.{DiskState, MachineState, SinkState, SourceState}
use Rattle.base_commands.specs.declared.command.Item.{Item}
use Rattle.script_items.specs.Reading.{ReaderState, IsAwaited, IsCalm, Says, Reads}
use Rattle.script_items.specs.Items.{Splits}
use Rattle.script_read.specs.declared.error.ScriptError.{ScriptError}
use Rattle.model_archive.specs.Steps.{Reply}
use Rattle.model_archive.specs.Replies.{reply_text}
use Rattle.model_archive.specs.Runs.{Outcome, AreStints, IsRunWith, shown_by}
use Rattle.model_archive.specs.Standing.{Carried, last_state}
use Rattle.archive_hand.specs.States.{ArchiveState, AreInStepBy}
use Rattle.archive_hand.specs.Stored.{Store, EachStandsBy, Spoils, StandsBy, StoreStep, StoreStint, is_at_work}
use Rattle.run_script.specs.Outcomes.{IsShort}
use Rattle.run_script.specs.Headline.{ArePulled, CarriesOutAll, ComesAfterReplies, EndsEarly, InputAt, Ran}
use Rattle.pages_sublists.specs.declared.why.Damage.{Damage}
use Rattle.run_script.specs.declared.status.Status.{Status}
use Rattle.run_script.specs.declared.status.Status.TheVariants.{Damaged, Disk, Done, Memory}
use Rattle.run_script.specs.Statuses.{status_of_script}

-- Since a run began, these bytes were pulled: items that were given out, and then what is held.
pub record Pulling (old now : SourceState) (held : ReaderState) : Type 0 where
  pub pulled : List ℕ
  pub pulled_are : old.left ≡ pulled ++ now.left
  pub told : held.parts.ended ≡ true → now.left ≡ []
  pub items : List Item
  pub since : List ℕ
  pub reads : Reads pulled items since held

-- What an answer of the reader is to a run: the next item, or how the run ends where there is none.
abbrev pub next_by : Result (Option Item) ScriptError → Result Item Status
next_by (Ok (Some item)) = Ok item
next_by (Ok None) = Err Done
next_by (Err error) = Err (status_of_script error)

-- What a call of the reader gave, behind these bytes since the last item: the bytes that it pulled, and what they say.
pub record Gives (held held_now : ReaderState) (since : List ℕ) (next : Result Item Status) (before after : SourceState) : Type 0 where
  pub answer : Result (Option Item) ScriptError
  pub next_is : next ≡ next_by answer
  pub more : List ℕ
  pub gave : before.left ≡ more ++ after.left
  pub calm : IsCalm since held more held_now
  pub says : Says held since more answer held_now
  pub told : held_now.parts.ended ≡ true → after.left ≡ []

-- What was left before each pull of a call: nothing waited, and the end was not told.
abbrev pub AreAwaited : ReaderState → List ℕ → List ℕ → List (List ℕ) → Type 0
AreAwaited held since all lefts = All (λ left. IsAwaited since all left × (held.parts.ended ≡ false)) lefts

-- The pulls of a machine that shows this, where this was left before each.
abbrev pub pulls_beside : List ℕ → List (List ℕ) → List Pull
pulls_beside shown lefts = map (λ left. record { left = left; shown = shown }) lefts

-- the statuses at which nothing came of the item behind those that are shown
abbrev pub IsUndoneAt : Status → Type 0
IsUndoneAt Memory = Unit {0}
IsUndoneAt (Damaged damage) = Unit {0}
IsUndoneAt status = ⊥

-- a run by what reads give, with a stint behind each item that came while a plan was being written
abbrev pub IsStoreRun : Store → List Item → List (Outcome Reply Store) → Type 0
IsStoreRun store items outcomes = IsRunWith StoreStep StoreStint is_at_work store items outcomes

-- a pull came after the replies of such a run
abbrev pub ComesAfter : Store → SourceState → SinkState → List Item → List (Outcome Reply Store) → Pull → Type 0
ComesAfter store input output items outcomes pull = ComesAfterReplies StoreStep StoreStint is_at_work store input output items outcomes pull

-- Since a run began, each whole item of the bytes pulled was carried out and its reply shown, with the stints behind them, and the archive is in step
-- with its disk then.
pub record Serving (store : Store) (old now : MachineState) (archive : ArchiveState) (held : ReaderState) (pulls : List Pull)
    : Type 0 where
  pub pulling : Pulling old.source now.source held
  pub outcomes : List (Outcome Reply Store)
  pub run : IsStoreRun store pulling.items outcomes
  pub shown : now.sink.shown ≡ old.sink.shown ++ shown_by reply_text outcomes
  pub carried : Carried reply_text StandsBy store outcomes old.sink.shown old.disk now.disk
  pub in_step : AreInStepBy now.disk archive (last_state store outcomes)
  pub after_replies : All (ComesAfter store old.source old.sink pulling.items outcomes) pulls

-- Since a run began, the input was gone over, each of its items was carried out, and then some stints were; all that they say was shown, and the archive
-- is in step with its disk then.
pub record Closing (store : Store) (old now : MachineState) (archive : ArchiveState) (pulls : List Pull) : Type 0 where
  pub pulled : List ℕ
  pub pulled_are : old.source.left ≡ pulled ++ now.source.left
  pub none_left : now.source.left ≡ []
  pub items : List Item
  pub split : Splits true pulled items []
  pub input_at : (status : Status) → EndsEarly status ⊎ (status ≡ Done) → InputAt status true pulled []
  pub by_items : List (Outcome Reply Store)
  pub run : IsStoreRun store items by_items
  pub closing : List (Outcome Reply Store)
  pub closes : AreStints StoreStint (last_state store by_items) closing
  pub shown : now.sink.shown ≡ old.sink.shown ++ shown_by reply_text (by_items ++ closing)
  pub carried : Carried reply_text StandsBy store (by_items ++ closing) old.sink.shown old.disk now.disk
  pub in_step : AreInStepBy now.disk archive (last_state store (by_items ++ closing))
  pub after_replies : All (ComesAfter store old.source old.sink items (by_items ++ closing)) pulls

-- A run that began from this state has ended with this status: what `ReadingRun` says of it, with what each image left since stands along.
pub record Serves (store : Store) (status : Status) (old new : MachineState) (pulls : List Pull) : Type 0 where
  pub ran : Ran StoreStep StoreStint is_at_work store status old.source new.source old.sink new.sink pulls
  pub carried : Carried reply_text StandsBy store ran.outcomes old.sink.shown old.disk new.disk
  -- the outcomes that are shown whole, and of those behind them a part of the first reply
  pub whole : List (Outcome Reply Store)
  pub others : List (Outcome Reply Store)
  pub part : List ℕ
  pub outcomes_are : ran.outcomes ≡ whole ++ others
  pub shown_is : ran.shown ≡ shown_by reply_text whole ++ part
  pub short : IsShort part others
  -- where memory ran out or a sublist is damaged, all that were reached are shown, and each image stands for the last state
  pub undone : IsUndoneAt status → (others ≡ []) × (part ≡ [])
  pub steady : (status ≡ Disk → ⊥) → EachStandsBy new.disk (last_state store ran.outcomes)
  pub damaged : (damage : Damage) → status ≡ Damaged damage → (item : Item) × (rest : List Item) × (ran.behind ≡ item ∷ rest)
      × Spoils (last_state store ran.outcomes) item damage
  pub read : CarriesOutAll status → new.disk.bytes_read.pages ≡ (last_state store ran.outcomes).read

-- Going over the items has ended with this status: at the end of the input stints may be left, and otherwise the run has ended.
pub record HasGoneOver (store : Store) (status : Status) (old new : MachineState) (archive : ArchiveState) (pulls : List Pull)
    : Type 0 where
  pub closing : status ≡ Done → Closing store old new archive pulls
  pub serves : (status ≡ Done → ⊥) → Serves store status old new pulls

-- ---- by the disk alone

-- Since a call or a loop began, these items were carried out, from what was stored. Where the source tells, they are the next of those of the bytes
-- pulled.
pub record HasPassed (tells : Type 0) (store : Store) (d : DiskState) (archive : ArchiveState) (source source_now : SourceState)
    (held held_now : ReaderState) : Type 0 where
  pub items : List Item
  pub outcomes : List (Outcome Reply Store)
  pub run : IsStoreRun store items outcomes
  pub in_step : AreInStepBy d archive (last_state store outcomes)
  pub pulled : tells → (began : SourceState) → (p : Pulling began source held) → (q : Pulling began source_now held_now)
      × (q.items ≡ p.items ++ items)

-- And then this is the first damage of what is read for the next item.
pub record HasSpoiled (tells : Type 0) (store : Store) (d : DiskState) (source source_now : SourceState) (held : ReaderState)
    (damage : Damage) : Type 0 where
  pub before : List Item
  pub outcomes : List (Outcome Reply Store)
  pub run : IsStoreRun store before outcomes
  pub item : Item
  pub spoiled : Spoils (last_state store outcomes) item damage
  pub pages_are : d.holds.pages ≡ (last_state store outcomes).pages
  pub pulled : tells → (began : SourceState) → (p : Pulling began source held)
      → ArePulled began source_now (p.items ++ (before ++ item ∷ []))
