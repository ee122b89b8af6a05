-- What holds after each call that changes an open archive.
use Rattle.std.specs.Prelude.{◌≡◌, ◌⊎◌, ◌↔◌, Result, Err, IsTrue}
use Rattle.machine_model.specs.Causes.{Rose}
use Rattle.machine_model.specs.States.{DiskState}
use Rattle.model_archive.specs.declared.refusal.Refusal.{Refusal}
use Rattle.archive_hand.specs.Adding.{IsDone}
use Rattle.archive_hand.specs.States.{ArchiveState, CacheStands, Reaches}
use Rattle.archive_hand.specs.declared.error.ChangeError.{ChangeError}
use Rattle.archive_hand.specs.declared.error.ChangeError.TheVariants as changes

-- After a call that changes an archive, on any disk: `Spent` says what an archive that is spent keeps, `tells` that the disk tells, `refused` what
-- a refusal leaves as it was, and `uncalled` that the disk is as it was.
pub record AfterChange {T : Type 0} (Spent : ArchiveState → ArchiveState → Type 0) (tells refused uncalled : Type 0)
    (result : Result T ChangeError) (d e : DiskState) (old new : ArchiveState) : Type 0 where
  -- it failed only where a call of the disk failed
  pub failed : result ≡ Err changes.Failed → Rose d.faults e.faults
  -- the disk reaches as far as what the archive may read
  pub within : Reaches e.reach new
  -- it is live unless it is spent
  pub live : IsTrue new.live ↔ IsDone result
  -- a refusal changes nothing
  pub same : (why : Refusal) → result ≡ Err (changes.Refused why) → refused
  -- all memory is taken before the first call of the disk
  pub memory : result ≡ Err changes.Memory → uncalled
  -- unless it is spent, the pages that it keeps go on being what reads give
  pub cached : tells → CacheStands d old → IsDone result → CacheStands e new
  -- where it is spent, it keeps what Spent says
  pub spent : (result ≡ Err changes.Memory) ⊎ (result ≡ Err changes.Failed) → Spent old new
