-- What is left of a machine and its archive over a load and while items are gone over, and with which statuses that may end.
use Rattle.std.specs.Prelude.{◌≡◌, ℕ, ◌≤◌, List, []}
use Rattle.machine_model.specs.Causes.{Rose}
use Rattle.machine_model.specs.Moments.{GoesOn}
use Rattle.machine_model.specs.States.{DiskState, MachineState}
use Rattle.model_archive.specs.Stands.{EachStands}
use Rattle.archive_hand.specs.Changing.{KeepsHistory}
use Rattle.archive_hand.specs.States.{ArchiveState, CacheStands}
use Rattle.run_script.specs.Outcomes.{CanGoOn}
use Rattle.run_script.specs.Statuses.{OfPackets}
use Rattle.run_script.specs.declared.status.Status.{Status}
use Rattle.run_script.specs.declared.status.Status.TheVariants.{Usage, NotArchive, Disk, Source, Sink, NotEmpty}

-- no count of faults fell
pub record IsLater (old new : MachineState) : Type 0 where
  -- how often a pull failed
  pub source : old.source.faults ≤ new.source.faults
  -- how often a push failed
  pub sink : old.sink.faults ≤ new.sink.faults
  -- how often a call of the disk failed
  pub disk : old.disk.faults ≤ new.disk.faults

-- Going over items may end with this status: a fault comes only where the machine's count rose, and what is known before the first item is no
-- cause any more.
pub record MayEnd (status : Status) (old new : MachineState) : Type 0 where
  -- a pull failed
  pub source : status ≡ Source → Rose old.source.faults new.source.faults
  -- a push failed
  pub sink : status ≡ Sink → Rose old.sink.faults new.sink.faults
  -- a call of the disk failed
  pub disk : status ≡ Disk → Rose old.disk.faults new.disk.faults
  -- the words ask for something
  pub no_usage : status ≡ Usage → ⊥
  -- the journal is an archive's
  pub no_load : (at : ℕ) → status ≡ NotArchive at → ⊥
  -- the archive may have entries
  pub not_full : (length : ℕ) → status ≡ NotEmpty length → ⊥
  -- no packet is read
  pub no_packets : OfPackets status → ⊥

-- After an item a run can go on with the archive: `tells` says that the disk tells.
pub record IsLeft (tells : Type 0) (old new : DiskState) (archive archive_now : ArchiveState) : Type 0 where
  -- it is live, and its disk reaches as far
  pub ready : CanGoOn archive_now new.reach
  -- the pages that it keeps go on being what reads give
  pub cached : tells → CacheStands old archive → CacheStands new archive_now

-- A load led from that disk to this one, with these bytes shown: nothing was shown, and where each image stood for no entry, each left since does.
abbrev pub IsLoaded : List ℕ → DiskState → DiskState → Type 0
IsLoaded shown began loaded = (began.now.beside ≡ shown) × (loaded.now.beside ≡ shown) × GoesOn began loaded
    × (EachStands began [] → KeepsHistory [] began loaded)
