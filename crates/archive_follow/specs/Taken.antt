-- What is said of an archive that takes an entry from another one.
use Rattle.std.specs.Prelude.{◌≡◌, ◌⊎◌, ◌↔◌, ℕ, ◌+◌, ◌<◌, ◌≤◌, List, [], ◌∷◌, ◌++◌, length, Option, Some, None, Result, Ok, Err, IfOk, IfSome, IsSomeAnd, IsOk, IsTrue}
use Rattle.machine_model.specs.Causes.{Rose}
use Rattle.machine_model.specs.States.{DiskState}
use Rattle.base_types.specs.declared.posting.Posting.{Posting}
use Rattle.base_commands.specs.declared.batch.BatchItem.{BatchItem}
use Rattle.base_commands.specs.declared.batch.BatchItem.TheVariants as members
use Rattle.base_commands.specs.declared.text.Text.TheVariants as texts
use Rattle.journal_entries.specs.Spelling.{spelling, IsEntry}
use Rattle.journal_entries.specs.declared.act.Act.{Act}
use Rattle.journal_entries.specs.declared.act.Act.TheVariants as acts
use Rattle.journal_entries.specs.declared.entry.Entry.{Entry}
use Rattle.journal_entries.specs.declared.entry.Entry.TheVariants.{Planned}
use Rattle.journal_entries.specs.declared.place.Place.{Place}
use Rattle.journal_entries.specs.declared.plan.PlanEntry.{PlanEntry}
use Rattle.model_archive.specs.Histories.{History}
use Rattle.model_archive.specs.Legal.{IsLegalEntry}
use Rattle.model_archive.specs.Planning.{IsListUpTo}
use Rattle.model_archive.specs.Plans.{plan_of}
use Rattle.archive_hand.specs.Adding.{IsSpentBut}
use Rattle.archive_hand.specs.Changing.{KeepsBy, LeadsBy}
use Rattle.archive_hand.specs.States.{ArchiveState, AreInStepBy, CacheStands, Reaches, StandsFor}
use Rattle.archive_hand.specs.Stored.{Store, Stocks}
use Rattle.archive_hand.specs.declared.error.ChangeError.{ChangeError}
use Rattle.archive_hand.specs.declared.error.ChangeError.TheVariants as changes
use Rattle.archive_hand.specs.declared.storing_at.PutError.{PutError}
use Rattle.archive_hand.specs.declared.storing_at.PutError.TheVariants as puts
use Rattle.model_follow.specs.Taking.{SpellsNext}
use Rattle.archive_follow.specs.declared.error.TakeEntryError.{TakeEntryError}
use Rattle.archive_follow.specs.declared.error.TakeEntryError.TheVariants as takes

-- the entry was taken or may not come next, and so the archive isn't spent
abbrev pub IsDone : Result ℕ TakeEntryError → Type 0
IsDone result = IsOk result ⊎ (result ≡ Err takes.NotNext)

-- After an entry was to be taken, on any disk: `tells` says that the disk tells, and `uncalled` that the disk is as it was.
pub record AfterTaking (tells uncalled : Type 0) (result : Result ℕ TakeEntryError) (d e : DiskState)
    (old new : ArchiveState) : Type 0 where
  -- it failed only where a call of the disk failed
  pub failed : result ≡ Err takes.Failed → Rose d.faults e.faults
  -- the disk reaches as far as what the archive may read
  pub within : Reaches e.reach new
  -- it is live unless it is spent
  pub live : IsTrue new.live ↔ IsDone result
  -- an entry that may not come next calls no disk, and neither does want of memory: all of it is taken before the first call
  pub same : (result ≡ Err takes.NotNext) ⊎ (result ≡ Err takes.Memory) → uncalled
  -- unless it is spent, the pages that it keeps go on being what reads give
  pub cached : tells → CacheStands d old → IsDone result → CacheStands e new
  -- where it is spent, it has the entries, the texts and the plans that it had; what it tells of words isn't claimed
  pub spent : (result ≡ Err takes.Memory) ⊎ (result ≡ Err takes.Failed) → IsSpentBut old new

-- At Ok an archive that stood for a history stands for that and the entry, and tells how many entries there are.
abbrev pub ComesBehind : History → List ℕ → Result ℕ TakeEntryError → ArchiveState → Type 0
ComesBehind history body result new = IfOk result (λ n. (entry : Entry) × (body ≡ spelling entry) × StandsFor new (history ++ entry ∷ [])
    × (n ≡ length history + 1))

-- What an archive in hand says of an entry that was to be taken, for a history that it stood for, on any disk: it is not the next one exactly where
-- the bytes spell none that may be taken (but for want of memory), and then the archive stands for what it stood for.
pub record TakesBody (history : History) (body : List ℕ) (result : Result ℕ TakeEntryError) (new : ArchiveState) : Type 0 where
  pub refused : result ≡ Err takes.NotNext → (SpellsNext history body → ⊥) × StandsFor new history
  pub allowed : IsOk result ⊎ (result ≡ Err takes.Failed) → SpellsNext history body
  pub stands : ComesBehind history body result new

-- The entry that the bytes spell comes behind what is stored: each live place keeps its bytes, a plan's places hold its sublists, and each image left
-- since is as before the entry or after it.
pub record Takes (store next : Store) (body : List ℕ) (old new : DiskState) : Type 0 where
  pub entry : Entry
  pub ranges : IsEntry entry
  pub spelled : body ≡ spelling entry
  pub next_is : next.history ≡ store.history ++ entry ∷ []
  pub job_is : next.job ≡ store.job
  pub stocks : Stocks store next
  pub leads : LeadsBy store next old new

-- The same by what reads give, whatever lies in Pages.
abbrev pub TakesBy : Store → List ℕ → Result ℕ TakeEntryError → DiskState → DiskState → ArchiveState → Type 0
TakesBy store body (Ok n) old new archive_now = (next : Store) × Takes store next body old new × AreInStepBy new archive_now next
TakesBy store body (Err takes.NotNext) old new archive_now = AreInStepBy new archive_now store
TakesBy store body (Err takes.Memory) old new archive_now = KeepsBy store old new
TakesBy store body (Err takes.Failed) old new archive_now = KeepsBy store old new ⊎ ((next : Store) × Takes store next body old new)

-- ---- parts of the call

-- how a change ends that comes from another archive: one that is refused may not come next
abbrev pub as_taken : Result ℕ ChangeError → Result ℕ TakeEntryError
as_taken (Ok n) = Ok n
as_taken (Err (changes.Refused why)) = Err takes.NotNext
as_taken (Err changes.Failed) = Err takes.Failed
as_taken (Err changes.Memory) = Err takes.Memory

-- an act as an item of a batch
abbrev pub item_by : Act → BatchItem
item_by (acts.Arrive doc at text) = members.Arrive doc at (texts.Bytes text)
item_by (acts.Delete doc at) = members.Delete doc at

-- how storing a plan in its own places ends: where they can't be taken, it may not come next
abbrev pub as_put : Result ℕ PutError → Result ℕ TakeEntryError
as_put (Ok n) = Ok n
as_put (Err puts.NoRoom) = Err takes.NotNext
as_put (Err puts.Failed) = Err takes.Failed
as_put (Err puts.Memory) = Err takes.Memory

-- a place without bytes is at page 0
abbrev pub IsProper : Place → Type 0
IsProper place = place.extent.bytes ≡ 0 → place.extent.first ≡ 0

-- a plan's horizon isn't before that of its word's live plan
abbrev pub IsNotBefore : History → PlanEntry → Type 0
IsNotBefore history plan = IfSome (plan_of history plan.word) (λ live. live.horizon.seconds ≤ plan.horizon.seconds)

-- it is before that
abbrev pub IsBeforeLive : History → PlanEntry → Type 0
IsBeforeLive history plan = IsSomeAnd (plan_of history plan.word) (λ live. plan.horizon.seconds < live.horizon.seconds)

-- A plan may come next but for its places and the journal's room: it is legal, its list is this one, and its horizon isn't before that of the word's
-- live plan.
pub record MayBePut (history : History) (plan : PlanEntry) (list : List Posting) : Type 0 where
  pub legal : IsLegalEntry history (Planned plan)
  pub list_is : IsListUpTo history plan.word plan.horizon.seconds list
  pub later : IsNotBefore history plan

-- what is found of a plan: the list of its word up to its horizon, where it may come next but for places and room
abbrev pub IsFoundOf : History → PlanEntry → Option (List Posting) → Type 0
IsFoundOf history plan (Some list) = MayBePut history plan list
IsFoundOf history plan None = (list : List Posting) → MayBePut history plan list → ⊥
