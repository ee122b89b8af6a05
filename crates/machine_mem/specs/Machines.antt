-- What the calls of one trait do to a machine.
use Rattle.std.specs.Prelude.{◌≡◌, ℕ, ◌+◌, ◌-◌, ◌^◌, ◌≤◌, min, max, Bool, true, List, [], ◌∷◌, ◌++◌, take, drop, length, Result}
use Rattle.machine_model.specs.Areas.{Bytes, part, replaced}
use Rattle.machine_model.specs.States.{SourceState, SinkState, DiskState}
use Rattle.machine_model.specs.Moments.{GoesOn}
use Rattle.machine_model.specs.Calls.{written}
use Rattle.machine_model.specs.Pulls.{Pull}
use Rattle.machine_model.specs.Pushes.{IsSameBeside, OnlyShows, IsShownByPiece, taken}
use Rattle.machine_mem.specs.Moments.{along}
use Rattle.machine_model.specs.declared.area.Area.{Area}
use Rattle.machine_model.specs.declared.area.Failed.{Failed}

-- the meanings of the three traits, the bytes of both areas as last written, by failed writes too, the most bytes that one pull gives, and whether a sync has failed
pub record MemoryState : Type 0 where
  pub source : SourceState
  pub sink : SinkState
  pub disk : DiskState
  pub last : Bytes
  pub pull_limit : ℕ
  pub has_lost : Bool

-- a pull of a machine in this state
abbrev pub IsBefore : MemoryState → Pull → Type 0
IsBefore x pull = (x.source.left ≡ pull.left) × (x.sink.shown ≡ pull.shown)

-- the calls of the source alone
pub record OnlySource (x y : MemoryState) : Type 0 where
  pub sink : y.sink ≡ x.sink
  pub disk : y.disk ≡ x.disk
  pub lost : y.has_lost ≡ x.has_lost
  pub faults : x.source.faults ≤ y.source.faults

-- the calls of the sink alone
pub record OnlySink (x y : MemoryState) : Type 0 where
  pub source : y.source ≡ x.source
  pub beside : IsSameBeside x.disk y.disk
  pub shows : OnlyShows x.disk y.disk x.sink.shown y.sink.shown
  pub lost : y.has_lost ≡ x.has_lost
  pub faults : x.sink.faults ≤ y.sink.faults

-- the calls of the disk alone; a sync that failed isn't forgotten
pub record OnlyDisk (x y : MemoryState) : Type 0 where
  pub source : y.source ≡ x.source
  pub sink : y.sink ≡ x.sink
  pub faults : x.disk.faults ≤ y.disk.faults
  pub reach : (area : Area) → part x.disk.reach area ≤ part y.disk.reach area
  pub read : (area : Area) → part x.disk.bytes_read area ≤ part y.disk.bytes_read area
  pub beside : y.disk.now.beside ≡ x.disk.now.beside
  pub goes_on : GoesOn x.disk y.disk
  pub lost : x.has_lost ≡ true → y.has_lost ≡ true

-- one push
pub record Pushed (x : MemoryState) (piece : List ℕ) (answer : Result ℕ Failed) (y : MemoryState) : Type 0 where
  pub shown : y.sink.shown ≡ x.sink.shown ++ take (taken answer) piece
  pub moments : IsShownByPiece x.sink.shown piece (taken answer) x.disk y.disk

-- a machine after so many bytes were pulled
abbrev pub pulled : ℕ → MemoryState → MemoryState
pulled n x = record x { source = record x.source { left = drop n x.source.left } }

-- a machine after so many bytes of an area were read
abbrev pub did_read : Area → ℕ → MemoryState → MemoryState
did_read area n x = record x { disk = record x.disk { bytes_read = replaced x.disk.bytes_read area (part x.disk.bytes_read area + n) } }

-- a machine after a write of which so many bytes came through
abbrev pub wrote : Area → ℕ → List ℕ → ℕ → MemoryState → MemoryState
wrote area at bytes landed x = record x {
  disk = record x.disk {
    reach = replaced x.disk.reach area (max (part x.disk.reach area) (at + landed));
    holds = replaced x.disk.holds area (written at (take landed bytes) (part x.disk.holds area));
    past = x.disk.past ++ x.disk.now ∷ [];
    now = record x.disk.now {
      pending = replaced x.disk.now.pending area
          (record { at = at; count = length bytes } ∷ part x.disk.now.pending area);
    };
  };
  last = replaced x.last area (written at bytes (part x.last area));
}

-- a machine after a good sync
abbrev pub synced : MemoryState → MemoryState
synced x = record x {
  disk = record x.disk {
    past = x.disk.past ++ x.disk.now ∷ [];
    now = record x.disk.now { stable = x.disk.holds; pending = record { journal = []; pages = [] } };
  };
  last = x.disk.holds;
}

-- a machine after a piece was shown
abbrev pub showed : List ℕ → MemoryState → MemoryState
showed piece x = record x {
  sink = record x.sink { shown = x.sink.shown ++ piece };
  disk = record x.disk {
    past = x.disk.past ++ along x.disk.now piece;
    now = record x.disk.now { beside = x.disk.now.beside ++ piece };
  };
}

-- a machine after a call that failed and may have changed nothing
abbrev pub passed : MemoryState → MemoryState
passed x = record x { disk = record x.disk { past = x.disk.past ++ x.disk.now ∷ [] } }

-- a count after one more; it stays at its last value
abbrev pub risen : ℕ → ℕ
risen n = min (n + 1) (2 ^ 64 - 1)

-- a machine after a call of one trait failed once more
abbrev pub failed_source : MemoryState → MemoryState
failed_source x = record x { source = record x.source { faults = risen x.source.faults } }

abbrev pub failed_sink : MemoryState → MemoryState
failed_sink x = record x { sink = record x.sink { faults = risen x.sink.faults } }

abbrev pub failed_disk : MemoryState → MemoryState
failed_disk x = record x { disk = record x.disk { faults = risen x.disk.faults } }

-- a machine after a sync failed
abbrev pub failed_sync : MemoryState → MemoryState
failed_sync x = record (failed_disk x) { has_lost = true }
