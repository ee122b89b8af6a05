-- Why a load is answered by an error.
use Rattle.journal_gates.specs.declared.error.JournalError.{JournalError}
use Rattle.journal_gates.specs.declared.error.JournalError.TheVariants as journals
use Rattle.archive_entries.specs.declared.error.LoadError.{LoadError}
use Rattle.archive_entries.specs.declared.error.LoadError.TheVariants as loads

-- a journal's error, as one of an archive: bytes that are no journal are no archive
abbrev pub load_error_of : JournalError → LoadError
load_error_of journals.Failed = loads.Failed
load_error_of (journals.NotJournal at) = loads.NotArchive at
load_error_of journals.Memory = loads.Memory
