-- Why not all entries are shown, by why a call fails.
use Rattle.journal_gates.specs.declared.error.JournalError.{JournalError}
use Rattle.journal_gates.specs.declared.error.JournalError.TheVariants as journals
use Rattle.run_follow.specs.declared.error.ExportError.{ExportError}
use Rattle.run_follow.specs.declared.error.ExportError.TheVariants.{Disk, NotArchive, Memory}

abbrev pub export_error_of : JournalError → ExportError
export_error_of journals.Failed = Disk
export_error_of (journals.NotJournal at) = NotArchive at
export_error_of journals.Memory = Memory
