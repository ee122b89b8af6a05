-- What the decoder returns.
use Rattle.std.specs.Prelude.{◌≡◌, Result, Ok, Err}
use Rattle.journal_entries.specs.declared.entry.Entry.{Entry}
use Rattle.journal_entries.specs.declared.error.CodecError.{CodecError}
use Rattle.journal_entries.specs.declared.error.CodecError.TheVariants.{Form, Memory}

-- this entry was returned, or memory ran out
abbrev pub IsReadAs : Entry → Result Entry CodecError → Type 0
IsReadAs e (Ok x) = x ≡ e
IsReadAs e (Err Memory) = Unit {0}
IsReadAs e (Err (Form at)) = ⊥
