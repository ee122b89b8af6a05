-- What a stop may leave between two calls of a machine.
use Rattle.std.specs.Prelude.{ℕ, List}
use Rattle.machine_model.specs.Areas.{Bytes}
use Rattle.machine_model.specs.States.{Moment}
use Rattle.machine_mem.specs.declared.store.Remains.{Remains}

-- the allowed images with the bytes shown, and the bytes as last written
pub record Snapshot : Type 0 where
  pub moment : Moment
  pub last : Bytes

abbrev pub snapshot_from : Remains → Remains → List ℕ → Snapshot
snapshot_from journal pages shown = record {
  moment = record {
    stable = record { journal = journal.stable.items; pages = pages.stable.items };
    pending = record { journal = journal.pending.items; pages = pages.pending.items };
    beside = shown;
  };
  last = record { journal = journal.written.items; pages = pages.written.items };
}
