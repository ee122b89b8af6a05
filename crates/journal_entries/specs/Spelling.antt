-- How entries are spelled in the journal.
use Rattle.std.specs.Prelude.{ℕ, List, [], ◌∷◌}
use Rattle.journal_entries.specs.declared.entry.Entry.{Entry}
use Rattle.journal_entries.specs.declared.entry.Entry.TheVariants.{Arrive, Delete, Planned, Format, Batch}
use Rattle.journal_entries.specs.declared.act.Act.TheVariants as acts
use Rattle.journal_entries.specs.Acts.{act_spelling, batch_spelling, IsAct, IsBatch}
use Rattle.journal_entries.specs.PlanSpelling.{plan_spelling, IsPlanEntry}

-- the bytes of an entry: the tag, and its fields; the mark has the number of the format
abbrev pub spelling : Entry → List ℕ
spelling (Arrive doc at text) = act_spelling (acts.Arrive doc at text)
spelling (Delete doc at) = act_spelling (acts.Delete doc at)
spelling (Planned plan) = plan_spelling plan
spelling Format = 5 ∷ 0 ∷ 2 ∷ []
spelling (Batch batch) = batch_spelling batch

-- the fields of an entry are in their ranges: this is what has a spelling
abbrev pub IsEntry : Entry → Type 0
IsEntry (Arrive doc at text) = IsAct (acts.Arrive doc at text)
IsEntry (Delete doc at) = IsAct (acts.Delete doc at)
IsEntry (Planned plan) = IsPlanEntry plan
IsEntry Format = Unit {0}
IsEntry (Batch batch) = IsBatch batch
