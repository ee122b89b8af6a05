-- What is promised of a run over a script: one run of a machine over the items of the bytes pulled, what is shown of it and when, for what each image
-- left at any moment stands, and where the input was.
use Rattle.std.specs.Prelude.{◌≡◌, ◌⊎◌, ℕ, ◌<◌, ◌≤◌, ◌^◌, Bool, true, false, List, [], ◌∷◌, ◌++◌, length, All, None}
use Rattle.machine_model.specs.Areas.{Bytes}
use Rattle.machine_model.specs.Causes.{Rose}
use Rattle.machine_model.specs.Images.{MayLeave}
use Rattle.machine_model.specs.Moments.{LeavesOnly}
use Rattle.machine_model.specs.Pulls.{Pull}
use Rattle.machine_model.specs.Pushes.{IsPrefix}
use Rattle.machine_model.specs.States.{DiskState, MachineState, SinkState, SourceState}
use Rattle.pages_area.specs.Live.{AreLive}
use Rattle.base_commands.specs.declared.command.Item.{Item}
use Rattle.script_items.specs.Items.{Begins, IsScript, Splits, IsBrokenAt}
use Rattle.script_read.specs.declared.first.First.TheVariants.{More}
use Rattle.journal_gates.specs.Spelled.{Spells}
use Rattle.model_archive.specs.Histories.{History}
use Rattle.model_archive.specs.Legal.{IsLoadable}
use Rattle.model_archive.specs.Plans.{live_extents}
use Rattle.model_archive.specs.Replies.{reply_text}
use Rattle.model_archive.specs.Runs.{Outcome, AreStints, IsRunWith, IsAcknowledged, state_after, shown_by, Reopens}
use Rattle.model_archive.specs.Standing.{LacksStint, last_state}
use Rattle.model_archive.specs.Stands.{IsNotArchive, StandsIn, bodies_of}
use Rattle.model_archive.specs.Steps.{Reply, Step, Works}
use Rattle.model_archive.specs.Worlds.{at_work, world_of}
use Rattle.archive_hand.specs.Stored.{Store, Spoils, StandsBy, StoreStep, StoreStint, is_at_work}
use Rattle.pages_sublists.specs.declared.why.Damage.{Damage}
use Rattle.run_script.specs.declared.status.Status.{Status}
use Rattle.run_script.specs.declared.status.Status.TheVariants.{Done, NotArchive, Disk, Source, Sink, Script, Damaged, Budget, Memory}

-- the statuses before which each whole item of the bytes pulled is carried out and its reply shown
abbrev pub CarriesOutAll : Status → Type 0
CarriesOutAll Done = Unit {0}
CarriesOutAll Source = Unit {0}
CarriesOutAll (Script at) = Unit {0}
CarriesOutAll Budget = Unit {0}
CarriesOutAll other = ⊥

-- the statuses of an event that may end a run before its input is gone over: a fault of the disk or the sink, want of memory, and a damaged sublist
abbrev pub EndsEarly : Status → Type 0
EndsEarly status = (status ≡ Disk) ⊎ ((status ≡ Sink) ⊎ ((status ≡ Memory) ⊎ ((damage : Damage) × (status ≡ Damaged damage))))

-- Where the input was when the run ended: whether its end was told, the bytes pulled, and what is left of them behind the last whole item.
pub record InputAt (status : Status) (ended : Bool) (pulled rest : List ℕ) : Type 0 where
  -- the end was told, and nothing is left
  pub done : status ≡ Done → (ended ≡ true) × (rest ≡ [])
  -- no item is whole in what is left, and it isn't broken so far
  pub source : status ≡ Source → Begins ended rest More × (ended ≡ false) × (length pulled < 2 ^ 40)
  pub budget : status ≡ Budget → Begins ended rest More × (ended ≡ false) × (length pulled ≡ 2 ^ 40)
  -- the script is broken there; and where it is broken, this is the status unless another event came first
  pub script : (at : ℕ) → status ≡ Script at → IsBrokenAt ended pulled at
  pub broken : (at : ℕ) → IsBrokenAt ended pulled at → (status ≡ Script at) ⊎ EndsEarly status

-- A run ended with this status: these bytes were pulled, and there the input was. Nothing is asked of the disk.
pub record Ends (status : Status) (old new : SourceState) : Type 0 where
  pub pulled : List ℕ
  pub pulled_are : old.left ≡ pulled ++ new.left
  pub ended : Bool
  pub ended_is : ended ≡ true → new.left ≡ []
  pub rest : List ℕ
  pub input_at : InputAt status ended pulled rest

-- A pull comes after the replies: no whole item waited for its own. What had been pulled by then is some of the items and a rest that begins with no
-- whole one; the replies to all of these had been shown, and what was told of the stints behind them.
pub record ComesAfterReplies {S : Type 0} (step : S → Item → Reply → S → Type 0) (stint : S → Reply → S → Type 0)
    (working : S → Bool) (state : S) (input : SourceState) (output : SinkState) (items : List Item)
    (outcomes : List (Outcome Reply S)) (pull : Pull) : Type 0 where
  pub pulled : List ℕ
  pub pulled_are : input.left ≡ pulled ++ pull.left
  pub before : List Item
  pub behind : List Item
  pub items_are : items ≡ before ++ behind
  pub rest : List ℕ
  pub split : Splits false pulled before rest
  pub answered : List (Outcome Reply S)
  pub to_come : List (Outcome Reply S)
  pub outcomes_are : outcomes ≡ answered ++ to_come
  pub run : IsRunWith step stint working state before answered
  pub shown : pull.shown ≡ output.shown ++ shown_by reply_text answered

-- One run of a machine from this state over the items of the bytes pulled, as far as they were reached, with a stint behind each that came while work was
-- under way, and what was shown of it. At the end of the input the work is brought to its end.
pub record Ran {S : Type 0} (step : S → Item → Reply → S → Type 0) (stint : S → Reply → S → Type 0) (working : S → Bool) (state : S)
    (status : Status) (input input_now : SourceState) (output output_now : SinkState) (pulls : List Pull) : Type 0 where
  -- the bytes pulled, and whether the end of the input was told
  pub pulled : List ℕ
  pub pulled_are : input.left ≡ pulled ++ input_now.left
  pub ended : Bool
  pub ended_is : ended ≡ true → input_now.left ≡ []
  -- the items of these bytes, those that were reached and those behind them, and what is left behind the last whole one
  pub reached : List Item
  pub behind : List Item
  pub rest : List ℕ
  pub split : Splits ended pulled (reached ++ behind) rest
  pub input_at : InputAt status ended pulled rest
  -- one run of the machine over the items that were reached (the last stint lacks only where the disk or the sink failed), and then stints behind
  -- the end of the input
  pub outcomes : List (Outcome Reply S)
  pub by_items : List (Outcome Reply S)
  pub closing : List (Outcome Reply S)
  pub outcomes_are : outcomes ≡ by_items ++ closing
  pub run : IsRunWith step stint working state reached by_items
      ⊎ (LacksStint step stint working state reached by_items × (closing ≡ []) × ((status ≡ Disk) ⊎ (status ≡ Sink)))
  pub closes : AreStints stint (last_state state by_items) closing
  pub at_end : (closing ≡ []) ⊎ ((ended ≡ true) × (rest ≡ []) × (behind ≡ []))
  -- where the input was gone over, no work is left
  pub closed : status ≡ Done → working (last_state state outcomes) ≡ false
  -- what was shown is a front of the joined texts of its replies
  pub shown : List ℕ
  pub shown_is : output_now.shown ≡ output.shown ++ shown
  pub front : IsPrefix shown (shown_by reply_text outcomes)
  -- where all items are carried out, all were reached, and all their replies are shown
  pub all : CarriesOutAll status → behind ≡ []
  pub whole : CarriesOutAll status → shown ≡ shown_by reply_text outcomes
  -- a fault of the disk or the sink leaves a reply unshown, an item that wasn't reached, or work that isn't at its end, or it came before anything was
  -- pulled
  pub unfinished : (status ≡ Disk) ⊎ (status ≡ Sink) → (pulled ≡ [])
      ⊎ ((behind ≡ [] → ⊥) ⊎ ((length shown < length (shown_by reply_text outcomes)) ⊎ (working (last_state state outcomes) ≡ true)))
  -- each pull was made when the replies to all items that were whole by then had been shown
  pub after_replies : All (ComesAfterReplies step stint working state input output (reached ++ behind) outcomes) pulls

-- each image that a stop may leave now stands for this state
abbrev pub EachOf : {S : Type 0} → (S → Bytes → Type 0) → DiskState → S → Type 0
EachOf stands d state = (image : Bytes) → MayLeave d.now image → stands state image

-- A run from this state: its status, the machine before and after, and the pulls among its calls.
pub record Headline {S : Type 0} (step : S → Item → Reply → S → Type 0) (stint : S → Reply → S → Type 0) (working : S → Bool)
    (stands : S → Bytes → Type 0) (state : S) (status : Status) (old new : MachineState) (pulls : List Pull) : Type 0 where
  pub ran : Ran step stint working state status old.source new.source old.sink new.sink pulls
  -- each image left since, with the bytes shown then, stands for the state after as many outcomes as these acknowledge, or one more
  pub images : EachOf stands old.disk state → LeavesOnly old.disk new.disk (Reopens reply_text stands state ran.outcomes old.sink.shown)
  -- where all items are carried out, each image stands for the last state
  pub last : CarriesOutAll status → EachOf stands new.disk (state_after state ran.outcomes (length ran.outcomes))
  -- where the disk didn't fail, all images stand for one state
  pub steady : EachOf stands old.disk state → (status ≡ Disk → ⊥) → (j : ℕ) × (j ≤ length ran.outcomes)
      × EachOf stands new.disk (state_after state ran.outcomes j)
  -- where memory ran out, each image stands for the state after just as many outcomes as the bytes shown acknowledge
  pub starved : EachOf stands old.disk state → status ≡ Memory → (k : ℕ) × IsAcknowledged reply_text ran.outcomes ran.shown k
      × EachOf stands new.disk (state_after state ran.outcomes k)

-- On a disk that stands for a history: one run of the abstract archive over all items of the bytes pulled; and no sublist is damaged.
pub record StandingRun (history : History) (status : Status) (old new : MachineState) (pulls : List Pull) : Type 0 where
  pub headline : Headline Step Works at_work StandsIn (world_of history) status old new pulls
  pub over_all : headline.ran.behind ≡ []
  pub with_stints : IsRunWith Step Works at_work (world_of history) headline.ran.reached headline.ran.by_items
  pub undamaged : (damage : Damage) → status ≡ Damaged damage → ⊥

-- On any disk that a load takes: one run by what reads give. Where it ends at a damaged sublist, all items in front of one were carried out and their
-- replies shown, and this is the first damage of what is read for that one. At the end, as many bytes of Pages were read as its last
-- state says: each query asks for just the pages of the lists that are chosen for it.
pub record ReadingRun (store : Store) (status : Status) (old new : MachineState) (pulls : List Pull) : Type 0 where
  pub headline : Headline StoreStep StoreStint is_at_work StandsBy store status old new pulls
  pub damaged : (damage : Damage) → status ≡ Damaged damage → (item : Item) × (rest : List Item) × (headline.ran.behind ≡ item ∷ rest)
      × Spoils (last_state store headline.ran.outcomes) item damage
      × (headline.ran.shown ≡ shown_by reply_text headline.ran.outcomes)
  pub read : CarriesOutAll status → new.disk.bytes_read.pages ≡ (last_state store headline.ran.outcomes).read

-- These are the first of the items of the bytes that were pulled; that their end is the input's is known only where it was told.
pub record ArePulled (old new : SourceState) (items : List Item) : Type 0 where
  pub pulled : List ℕ
  pub pulled_are : old.left ≡ pulled ++ new.left
  pub ended : Bool
  pub ended_is : ended ≡ true → new.left ≡ []
  pub behind : List Item
  pub rest : List ℕ
  pub split : Splits ended pulled (items ++ behind) rest

-- A run that ended at a damaged sublist, by the disk alone: items were carried out, and by what reads of Pages give now this is the first damage of what
-- is read for the next one. Where the source tells, these are the items of the bytes pulled.
pub record EndsSpoiled (tells : Type 0) (store : Store) (old new : SourceState) (disk : DiskState) (damage : Damage) : Type 0 where
  pub before : List Item
  pub outcomes : List (Outcome Reply Store)
  pub run : IsRunWith StoreStep StoreStint is_at_work store before outcomes
  pub item : Item
  pub spoiled : Spoils (last_state store outcomes) item damage
  pub pages_are : disk.holds.pages ≡ (last_state store outcomes).pages
  pub pulled : tells → ArePulled old new (before ++ item ∷ [])

-- A load takes an image for this history's: its journal spells the history's entries, which load, and the live places lie well. (What they hold isn't
-- looked at.)
pub record LoadsAs (history : History) (image : Bytes) : Type 0 where
  pub spelled : Spells image.journal (bodies_of history)
  pub loadable : IsLoadable history
  pub live : AreLive (live_extents history) (length image.pages)

-- what is stored then on a disk, of which no page is kept yet, of which nothing was asked, and with no plan under way
abbrev pub store_of : History → DiskState → Store
store_of history d = record { history = history; asked = []; pages = d.holds.pages; kept = []; read = d.bytes_read.pages; job = None }

-- Unless the bytes were refused, the disk failed or memory ran out, a load took the image for a history's.
abbrev pub IsLoadedFrom : Bytes → Status → Type 0
IsLoadedFrom image status = ((history : History) × LoadsAs history image)
    ⊎ (((at : ℕ) × (status ≡ NotArchive at)) ⊎ ((status ≡ Disk) ⊎ (status ≡ Memory)))

-- Where nothing is wrong, a run comes to the end of the input: the bytes are an archive's, the input is a script of less than 2^40 bytes, and no
-- count of faults rose. Then it may only run out of memory, or come to a sublist that is damaged.
abbrev pub IsComplete : Status → MachineState → MachineState → Type 0
IsComplete status old new =
    ((at : ℕ) → IsNotArchive old.disk.holds at → ⊥) → IsScript old.source.left → length old.source.left < 2 ^ 40
    → (Rose old.disk.faults new.disk.faults → ⊥) → (Rose old.source.faults new.source.faults → ⊥)
    → (Rose old.sink.faults new.sink.faults → ⊥)
    → (status ≡ Done) ⊎ ((status ≡ Memory) ⊎ ((damage : Damage) × (status ≡ Damaged damage)))
