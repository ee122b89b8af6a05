-- How an audit ends: its exit status, and the line that is printed of it.
use Rattle.std.specs.Prelude.{ℕ, List, ◌++◌, codes}
use Rattle.std.specs.Fmt.{decimal}
use Rattle.model_archive.specs.declared.verdict.Verdict.{Verdict}
use Rattle.model_archive.specs.declared.verdict.Verdict.TheVariants as verdicts
use Rattle.archive_check.specs.declared.finding.Finding.{Finding}
use Rattle.archive_check.specs.declared.finding.Finding.TheVariants as findings
use Rattle.archive_entries.specs.declared.error.LoadError.{LoadError}
use Rattle.archive_entries.specs.declared.error.LoadError.TheVariants as loads
use Rattle.run_audit.specs.declared.status.AuditStatus.{AuditStatus}
use Rattle.run_audit.specs.declared.status.AuditStatus.TheVariants.{Sound, Faulty, Usage, NotArchive, Disk, Sink, Memory}

-- the exit status
abbrev pub code_of : AuditStatus → ℕ
code_of Sound = 0
code_of Faulty = 1
code_of Usage = 2
code_of (NotArchive at) = 3
code_of Disk = 4
code_of Sink = 6
code_of Memory = 12

-- the line, without its end
abbrev pub status_text : AuditStatus → List ℕ
status_text Sound = codes "tt_verify: sound"
status_text Faulty = codes "tt_verify: not sound"
status_text Usage = codes "tt_verify: usage: tt_verify"
status_text (NotArchive at) = codes "tt_verify: not an archive at byte " ++ decimal at ++ codes " of the journal"
status_text Disk = codes "tt_verify: disk fault"
status_text Sink = codes "tt_verify: sink fault"
status_text Memory = codes "tt_verify: no memory"

-- how an audit ends that came to a verdict
abbrev pub status_of_verdict : Verdict → AuditStatus
status_of_verdict (verdicts.Sound words segments) = Sound
status_of_verdict (verdicts.Differs word segment place found wanted) = Faulty
status_of_verdict (verdicts.NotLeast word taken least) = Faulty
status_of_verdict (verdicts.BadText doc at) = Faulty

-- and one that found something: a digest that is wrong is a fault
abbrev pub status_of_finding : Finding → AuditStatus
status_of_finding (findings.Told verdict) = status_of_verdict verdict
status_of_finding (findings.BadDigest word segment) = Faulty

-- how an audit ends where there is no archive
abbrev pub status_of_load : LoadError → AuditStatus
status_of_load loads.Failed = Disk
status_of_load (loads.NotArchive at) = NotArchive at
status_of_load loads.Memory = Memory

-- the statuses of an audit that showed nothing
abbrev pub ShowsNothing : AuditStatus → Type 0
ShowsNothing Sound = ⊥
ShowsNothing Faulty = ⊥
ShowsNothing Usage = Unit {0}
ShowsNothing (NotArchive at) = Unit {0}
ShowsNothing Disk = Unit {0}
ShowsNothing Sink = ⊥
ShowsNothing Memory = Unit {0}

-- the statuses of an audit that found nothing to tell
abbrev pub EndsEarly : AuditStatus → Type 0
EndsEarly Sound = ⊥
EndsEarly Faulty = ⊥
EndsEarly Usage = ⊥
EndsEarly (NotArchive at) = Unit {0}
EndsEarly Disk = Unit {0}
EndsEarly Sink = ⊥
EndsEarly Memory = Unit {0}
