-- What a source over bytes in memory has.
use Rattle.machine_model.specs.States.{SourceState}
use Rattle.machine_mem.specs.declared.slice_source.SliceSource.{SliceSource}

abbrev pub slice_state : SliceSource → SourceState
slice_state x = record { left = x.left.now; faults = 0 }
