-- What a source, a sink and a disk have, and a machine of all three, as plain records.
use Rattle.std.specs.Prelude.{List, ℕ, length}
use Rattle.machine_model.specs.Areas.{Both, Bytes}
use Rattle.machine_model.specs.declared.range.Range.{Range}

-- the bytes left to pull, and how often a pull failed
pub record SourceState : Type 0 where
  pub left : List ℕ
  pub faults : ℕ

-- the bytes shown so far, and how often a push failed
pub record SinkState : Type 0 where
  pub shown : List ℕ
  pub faults : ℕ

-- a disk between two calls: the bytes at the last good sync, the ranges written since, the newest first, and what stands beside it
pub record Moment : Type 0 where
  pub stable : Bytes
  pub pending : Both (List Range)
  pub beside : List ℕ

-- a disk: its lengths, the bytes that reads give, how often a call failed, how many bytes were read, its moments so far and the one now
pub record DiskState : Type 0 where
  pub reach : Both ℕ
  pub holds : Bytes
  pub faults : ℕ
  pub bytes_read : Both ℕ
  pub past : List Moment
  pub now : Moment

-- a machine: its source, its sink and its disk
pub record MachineState : Type 0 where
  pub source : SourceState
  pub sink : SinkState
  pub disk : DiskState

-- the state of a machine of any type, by the meanings of its three traits
abbrev pub state_by : {M : Type 0} → (M → SourceState) → (M → SinkState) → (M → DiskState) → M → MachineState
state_by source sink disk m = record { source = source m; sink = sink m; disk = disk m }

-- the number of the moment now
abbrev pub moment : DiskState → ℕ
moment d = length d.past
