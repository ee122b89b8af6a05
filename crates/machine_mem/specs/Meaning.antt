-- What a machine in memory means: a source, a sink and a disk.
use Rattle.std.specs.Prelude.{ℕ, List, length, sum}
use Rattle.machine_model.specs.Areas.{Both}
use Rattle.machine_model.specs.States.{SourceState, SinkState, Moment, DiskState}
use Rattle.machine_mem.specs.Inputs.{bytes_left}
use Rattle.machine_mem.specs.Machines.{MemoryState}
use Rattle.machine_mem.specs.Snapshots.{Snapshot}
use Rattle.machine_mem.specs.Differences.{Holding, holding_of, first_of, snapshot_at, moments_of}
use Rattle.machine_mem.specs.declared.machine.MemMachine.{MemMachine}

-- what a stop may leave now
abbrev pub snapshot_of : MemMachine → Snapshot
snapshot_of x = (holding_of x.history.current).snapshot

-- what a stop may leave after so many calls
abbrev pub after_calls : MemMachine → ℕ → Snapshot
after_calls x n = snapshot_at n (first_of x.history.first) x.history.differences.items

-- the disk that holds this, with these moments before, so many faults and so many bytes read
abbrev pub disk_from : List Moment → Holding → ℕ → Both ℕ → DiskState
disk_from past x faults read = record {
  reach = record { journal = length x.holds.journal; pages = length x.holds.pages };
  holds = x.holds;
  faults = faults;
  bytes_read = read;
  past = past;
  now = x.snapshot.moment;
}

abbrev pub source_state : MemMachine → SourceState
source_state x = record { left = bytes_left x.input; faults = x.source_faults.value }

abbrev pub sink_state : MemMachine → SinkState
sink_state x = record { shown = (snapshot_of x).moment.beside; faults = x.sink_faults.value }

abbrev pub disk_state : MemMachine → DiskState
disk_state x = disk_from (moments_of (first_of x.history.first) x.history.differences.items)
    (holding_of x.history.current) x.disk_faults.value
    (record { journal = sum x.read_journal.parts.items; pages = sum x.read_pages.parts.items })

-- all of these, with the bytes as last written, the limit of a pull, and whether a sync has failed
abbrev pub meaning : MemMachine → MemoryState
meaning x = record {
  source = source_state x;
  sink = sink_state x;
  disk = disk_state x;
  last = (snapshot_of x).last;
  pull_limit = x.input.limit;
  has_lost = x.has_lost;
}
