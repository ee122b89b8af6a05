-- What a reader of fields returns.
use Rattle.std.specs.Prelude.{◌≡◌, ℕ, Result, Ok, Err}
use Rattle.journal_entries.specs.declared.fields.FieldError.{FieldError}
use Rattle.journal_entries.specs.declared.fields.FieldError.TheVariants.{Form, Memory}

-- this failure is the reading's, or memory ran out
abbrev pub Fails : {Y : Type 0} → FieldError → Result Y ℕ → Type 0
Fails Memory read = Unit {0}
Fails (Form left) read = read ≡ Err left

-- what was returned, seen by view, is what reading gives, unless memory ran out
abbrev pub Gives : {X Y : Type 0} → (X → Y) → Result X FieldError → Result Y ℕ → Type 0
Gives view (Ok x) read = read ≡ Ok (view x)
Gives view (Err e) read = Fails e read
