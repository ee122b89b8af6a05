-- What a call of the archive does for an item of the input: a step of the abstract archive, and what it leaves.
use Rattle.std.specs.Prelude.{◌≡◌, ◌⊎◌, Result, Ok, Err}
use Rattle.machine_model.specs.declared.area.Failed.{Failed}
use Rattle.machine_model.specs.States.{DiskState}
use Rattle.base_commands.specs.declared.command.Item.{Item}
use Rattle.pages_sublists.specs.declared.why.Damage.{Damage}
use Rattle.model_archive.specs.declared.summary.Summary.{Summary}
use Rattle.model_archive.specs.Steps.{Reply, Finished, Refused, Silent}
use Rattle.archive_hand.specs.States.{ArchiveState, AreInStepBy}
use Rattle.archive_hand.specs.Stored.{Store, IsSameStore, Spoils, StoreStep, StoreStint, TellsNoEntry}
use Rattle.archive_hand.specs.declared.job.Stint.{Stint}
use Rattle.archive_hand.specs.declared.job.Stint.TheVariants as stints
use Rattle.archive_hand.specs.Changing.{KeepsBy, LeadsBy}

-- how a call ends: by a reply, for want of memory, by a fault of the disk, or at a sublist that is damaged
pub data Ending : Type 0 where
  Replied : Reply → Ending
  Starved : Ending
  Faulted : Ending
  Spoiled : Damage → Ending

-- The item has this outcome. Each image left since the start of the call stands for what was before it or after it.
pub record Comes (store : Store) (item : Item) (reply : Reply) (next : Store) (old new : DiskState) : Type 0 where
  pub step : StoreStep store item reply next
  pub leads : LeadsBy store next old new
  -- a reply that tells of no entry leaves the history and Pages as they are
  pub still : TellsNoEntry reply → IsSameStore store next

-- What a call does for an item. Where it replies, that is an outcome, and the archive is in step with what came of it. Where memory ran out, or a
-- sublist is damaged (the first of what is read for the item), all is as it was. Where the disk failed, it is so, or there is an outcome.
abbrev pub TakesBy : Store → Item → Ending → DiskState → DiskState → ArchiveState → Type 0
TakesBy store item (Replied reply) old new archive_now = (next : Store) × Comes store item reply next old new
    × AreInStepBy new archive_now next
TakesBy store item Starved old new archive_now = KeepsBy store old new
TakesBy store item Faulted old new archive_now = KeepsBy store old new
    ⊎ ((reply : Reply) × (next : Store) × Comes store item reply next old new)
TakesBy store item (Spoiled damage) old new archive_now = KeepsBy store old new × Spoils store item damage × (new.holds.pages ≡ store.pages)

-- what a stint says
abbrev pub said : Stint → Reply
said (stints.Wrote left) = Silent
said (stints.Done summary) = Finished summary
said (stints.Dropped why) = Refused why

-- What a stint does: it is one of the abstract archive's, and the archive is in step with what came of it. Where the disk failed, all is as it was, or
-- the plan is stored. Each image left since stands for what was before it or after it.
abbrev pub TakesStint : Store → Result Stint Failed → DiskState → DiskState → ArchiveState → Type 0
TakesStint store (Ok stint) old new archive_now = (next : Store) × StoreStint store (said stint) next × LeadsBy store next old new
    × AreInStepBy new archive_now next
TakesStint store (Err failed) old new archive_now = KeepsBy store old new
    ⊎ ((told : Summary) × (next : Store) × StoreStint store (Finished told) next × LeadsBy store next old new)
