-- What a machine on files means.
use Rattle.machine_model.specs.States.{SourceState, SinkState, DiskState}
use Rattle.machine_files.specs.Stores.{lengths}
use Rattle.machine_files.specs.Telling.{FilesState, source_from, sink_from, disk_from}
use Rattle.machine_files.specs.declared.machine.FileMachine.{FileMachine}

abbrev pub source_state : {F I O : Type 0} → FileMachine F I O → SourceState
source_state x = source_from x.source_faults.value

abbrev pub sink_state : {F I O : Type 0} → FileMachine F I O → SinkState
sink_state x = sink_from x.sink_faults.value

abbrev pub disk_state : {F I O : Type 0} → FileMachine F I O → DiskState
disk_state x = disk_from (lengths x.store) x.disk_faults.value

-- all three, and whether a sync has failed
abbrev pub meaning : {F I O : Type 0} → FileMachine F I O → FilesState
meaning x = record { source = source_state x; sink = sink_state x; disk = disk_state x; has_lost = x.store.has_lost }
