-- What a machine tells that tells no content: its lengths, and how often the calls of each trait failed.
use Rattle.std.specs.Prelude.{◌≡◌, ℕ, ◌≤◌, Bool, true, []}
use Rattle.machine_model.specs.Areas.{Both}
use Rattle.machine_model.specs.States.{SourceState, SinkState, DiskState}
use Rattle.machine_model.specs.Pulls.{Pull}

-- the meanings of the three traits, and whether a sync has failed
pub record FilesState : Type 0 where
  pub source : SourceState
  pub sink : SinkState
  pub disk : DiskState
  pub has_lost : Bool

-- a pull of a machine in this state
abbrev pub IsBefore : FilesState → Pull → Type 0
IsBefore x pull = (x.source.left ≡ pull.left) × (x.sink.shown ≡ pull.shown)

-- no byte is told
abbrev pub source_from : ℕ → SourceState
source_from faults = record { left = []; faults = faults }

abbrev pub sink_from : ℕ → SinkState
sink_from faults = record { shown = []; faults = faults }

abbrev pub disk_from : Both ℕ → ℕ → DiskState
disk_from reach faults = record {
  reach = reach;
  holds = record { journal = []; pages = [] };
  faults = faults;
  bytes_read = record { journal = 0; pages = 0 };
  past = [];
  now = record {
    stable = record { journal = []; pages = [] };
    pending = record { journal = []; pages = [] };
    beside = [];
  };
}

-- calls of the source alone
pub record OnlySource (x y : FilesState) : Type 0 where
  pub sink : y.sink ≡ x.sink
  pub disk : y.disk ≡ x.disk
  pub lost : y.has_lost ≡ x.has_lost
  pub faults : x.source.faults ≤ y.source.faults

-- calls of the sink alone
pub record OnlySink (x y : FilesState) : Type 0 where
  pub source : y.source ≡ x.source
  pub disk : y.disk ≡ x.disk
  pub lost : y.has_lost ≡ x.has_lost
  pub faults : x.sink.faults ≤ y.sink.faults

-- calls of the disk alone: no count falls, no file grows shorter, and a sync that failed isn't forgotten
pub record OnlyDisk (x y : FilesState) : Type 0 where
  pub source : y.source ≡ x.source
  pub sink : y.sink ≡ x.sink
  pub faults : x.disk.faults ≤ y.disk.faults
  pub journal : x.disk.reach.journal ≤ y.disk.reach.journal
  pub pages : x.disk.reach.pages ≤ y.disk.reach.pages
  pub lost : x.has_lost ≡ true → y.has_lost ≡ true
