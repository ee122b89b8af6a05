-- Why words aren't read, by the kind of the error that `clap` gives.
use Rattle.clap.specs.declared.error.kind.ErrorKind.{ErrorKind}
use Rattle.clap.specs.declared.error.kind.ErrorKind.TheVariants as kinds
use Rattle.run_words.specs.declared.error.WordsError.{WordsError}
use Rattle.run_words.specs.declared.error.WordsError.TheVariants.{Refused, Memory}

abbrev pub error_of_kind : ErrorKind → WordsError
error_of_kind kinds.OutOfMemory = Memory
error_of_kind kind = Refused
