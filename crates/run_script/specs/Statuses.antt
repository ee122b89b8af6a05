-- How a run ends: its exit status, and the line that is printed of it.
use Rattle.std.specs.Prelude.{ℕ, List, ◌++◌, codes}
use Rattle.std.specs.Fmt.{decimal}
use Rattle.script_read.specs.declared.error.ScriptError.{ScriptError}
use Rattle.script_read.specs.declared.error.ScriptError.TheVariants as errors
use Rattle.archive_entries.specs.declared.error.LoadError.{LoadError}
use Rattle.archive_entries.specs.declared.error.LoadError.TheVariants as loads
use Rattle.run_follow.specs.declared.error.ExportError.{ExportError}
use Rattle.run_follow.specs.declared.error.ExportError.TheVariants as exports
use Rattle.run_sample.specs.declared.error.FillError.{FillError}
use Rattle.run_sample.specs.declared.error.FillError.TheVariants as fills
use Rattle.run_taking.specs.declared.ended.Ended.{Ended}
use Rattle.run_taking.specs.declared.ended.Ended.TheVariants as ends
use Rattle.pages_sublists.specs.declared.why.Why.{Why}
use Rattle.pages_sublists.specs.declared.why.Why.TheVariants.{Form, Digest, Astray, Clash, Bare}
use Rattle.run_script.specs.declared.stop.Halt.{Halt}
use Rattle.run_script.specs.declared.stop.Halt.TheVariants as halts
use Rattle.run_script.specs.declared.stop.Stop.{Stop}
use Rattle.run_script.specs.declared.stop.Stop.TheVariants as stops
use Rattle.run_script.specs.declared.status.Status.{Status}
use Rattle.run_script.specs.declared.status.Status.TheVariants.{Done, Usage, NotArchive, Disk, Source, Sink, Script, Damaged, Budget, NotEmpty, Memory, Gap, Conflict, Packet}

-- the exit status
abbrev pub code_of : Status → ℕ
code_of Done = 0
code_of Usage = 2
code_of (NotArchive at) = 3
code_of Disk = 4
code_of Source = 5
code_of Sink = 6
code_of (Script at) = 7
code_of (Damaged damage) = 8
code_of Budget = 9
code_of (NotEmpty length) = 10
code_of Memory = 12
code_of (Gap have got) = 13
code_of (Conflict number place kept got) = 14
code_of (Packet at) = 15

-- the statuses that speak of packets
abbrev pub OfPackets : Status → Type 0
OfPackets (Gap have got) = Unit {0}
OfPackets (Conflict number place kept got) = Unit {0}
OfPackets (Packet at) = Unit {0}
OfPackets other = ⊥

-- what is told of why a sublist is damaged
abbrev pub why_text : Why → List ℕ
why_text Form = codes "form"
why_text (Digest stored got) = codes "digest"
why_text (Astray posting) = codes "astray"
why_text (Clash one other) = codes "clash"
why_text Bare = codes "bare"

-- the line, without its end
abbrev pub status_text : Status → List ℕ
status_text Done = codes "tt_archive: done"
status_text Usage = codes "tt_archive: usage: tt_archive [--generate SEED --count COUNT | --export FROM | --follow]"
status_text (NotArchive at) = codes "tt_archive: not an archive at byte " ++ decimal at ++ codes " of the journal"
status_text Disk = codes "tt_archive: disk fault"
status_text Source = codes "tt_archive: source fault"
status_text Sink = codes "tt_archive: sink fault"
status_text (Script at) = codes "tt_archive: script fault at byte " ++ decimal at
status_text (Damaged damage) = codes "tt_archive: damaged sublist at page " ++ decimal damage.page ++ codes ": " ++ why_text damage.why
status_text Budget = codes "tt_archive: no end after 1099511627776 bytes"
status_text (NotEmpty length) = codes "tt_archive: the archive has " ++ decimal length ++ codes " entries"
status_text Memory = codes "tt_archive: no memory"
status_text (Gap have got) = codes "tt_archive: have " ++ decimal have ++ codes " entries, got number " ++ decimal got
status_text (Conflict number place kept got) = codes "tt_archive: entry " ++ decimal number ++ codes " differs at byte " ++ decimal place
status_text (Packet at) = codes "tt_archive: bad packet at byte " ++ decimal at

-- how a run ends where there is no next item
abbrev pub status_of_script : ScriptError → Status
status_of_script (errors.Broken at) = Script at
status_of_script errors.Budget = Budget
status_of_script errors.Failed = Source
status_of_script errors.Memory = Memory

-- how a run ends that was stopped at a command
abbrev pub status_of_stop : Stop → Status
status_of_stop stops.Disk = Disk
status_of_stop (stops.Damaged damage) = Damaged damage
status_of_stop stops.Sink = Sink
status_of_stop stops.Memory = Memory

-- a halt, as an event that stops a run
abbrev pub stop_of_halt : Halt → Stop
stop_of_halt halts.Disk = stops.Disk
stop_of_halt (halts.Damaged damage) = stops.Damaged damage
stop_of_halt halts.Memory = stops.Memory

-- how a run ends that was stopped at a command of a sample
abbrev pub status_of_fill : FillError → Status
status_of_fill fills.Failed = Disk
status_of_fill (fills.Damaged damage) = Damaged damage
status_of_fill fills.Memory = Memory

-- how a run ends in which not all entries were shown
abbrev pub status_of_export : ExportError → Status
status_of_export exports.Disk = Disk
status_of_export exports.Sink = Sink
status_of_export (exports.NotArchive at) = NotArchive at
status_of_export exports.Memory = Memory

-- how a run ends in which packets were taken
abbrev pub status_of_ended : Ended → Status
status_of_ended ends.Done = Done
status_of_ended (ends.NotArchive at) = NotArchive at
status_of_ended ends.Disk = Disk
status_of_ended ends.Source = Source
status_of_ended ends.Sink = Sink
status_of_ended ends.Budget = Budget
status_of_ended ends.Memory = Memory
status_of_ended (ends.Gap have got) = Gap have got
status_of_ended (ends.Conflict number place kept got) = Conflict number place kept got
status_of_ended (ends.Packet at) = Packet at

-- how a run ends where there is no archive
abbrev pub status_of_load : LoadError → Status
status_of_load loads.Failed = Disk
status_of_load (loads.NotArchive at) = NotArchive at
status_of_load loads.Memory = Memory
