-- How the code reads an entry, from left to right. It fails with the number of bytes left where the field begins that is cut short or not
-- allowed, or at the first surplus byte: proofs show that this is where the bytes are at fault (`Faults`).
use Rattle.std.specs.Prelude.{ℕ, zero, suc, ◌+◌, List, [], ◌∷◌, length, take, drop, Result, Ok, Err, nat_le, nat_lt, ◌&&◌, if◌then◌else◌}
use Rattle.std.specs.Int.{w16, w32}
use Rattle.std.specs.Str.{is_utf8}
use Rattle.base_types.specs.declared.ids.DocId.{DocId}
use Rattle.base_types.specs.declared.time.Time.{Time}
use Rattle.journal_entries.specs.declared.entry.Entry.{Entry}
use Rattle.journal_entries.specs.declared.entry.Entry.TheVariants.{Planned, Format, Batch}
use Rattle.journal_entries.specs.declared.act.Act.{Act}
use Rattle.journal_entries.specs.declared.act.Act.TheVariants.{Arrive, Delete}
use Rattle.journal_entries.specs.Acts.{alone, most_text, most_acts}
use Rattle.base_types.specs.Reading.{◌>>=◌}
use Rattle.journal_entries.specs.FieldReading.{number_at, doc_at, time_at, end_at}
use Rattle.journal_entries.specs.PlanReading.{named_at, if_within, number_in, plan_at}

-- a text that takes all the bytes
abbrev pub text_at : List ℕ → Result (List ℕ) ℕ
text_at bytes =
    if nat_le (length bytes) most_text && is_utf8 bytes
    then Ok bytes
    else Err (length bytes)

-- the document and the time of a change, and the bytes after them
unfoldable pub change_at : List ℕ → Result ((DocId × Time) × List ℕ) ℕ
change_at bytes = do
  doc ← doc_at bytes
  at ← time_at doc.1
  Ok ((doc.0, at.0), at.1)

-- an arrival, from behind its tag
unfoldable pub arrive_at : List ℕ → Result Act ℕ
arrive_at bytes = do
  change ← change_at bytes
  text ← text_at change.1
  Ok (Arrive change.0.0 change.0.1 text)

-- a deletion, from behind its tag
unfoldable pub delete_at : List ℕ → Result Act ℕ
delete_at bytes = do
  change ← change_at bytes
  end ← end_at change.1
  Ok (Delete change.0.0 change.0.1)

-- an act that takes all the bytes
unfoldable pub act_at : List ℕ → Result Act ℕ
act_at [] = Err 0
act_at (zero ∷ bytes) = Err (length bytes + 1)
act_at (suc zero ∷ bytes) = arrive_at bytes
act_at (suc (suc zero) ∷ bytes) = delete_at bytes
act_at (suc (suc (suc tag)) ∷ bytes) = Err (length bytes + 1)

-- what was read, with the bytes behind those that were read of
abbrev pub with_rest : Result Act ℕ → List ℕ → Result (Act × List ℕ) ℕ
with_rest (Ok act) rest = Ok (act, rest)
with_rest (Err left) rest = Err (left + length rest)

-- the act that takes so many bytes; where there are fewer, it is cut short
abbrev pub act_of : ℕ → List ℕ → Result (Act × List ℕ) ℕ
act_of len bytes =
    if nat_lt (length bytes) len
    then Err (length bytes)
    else with_rest (act_at (take len bytes)) (drop len bytes)

-- an act behind how many bytes it has
unfoldable pub sized_at : List ℕ → Result (Act × List ℕ) ℕ
sized_at bytes = do
  len ← number_at w32 bytes
  act_of len.0 len.1

-- so many acts
unfoldable pub acts_at : ℕ → List ℕ → Result (List Act × List ℕ) ℕ
acts_at zero bytes = Ok ([], bytes)
acts_at (suc count) bytes = do
  act ← sized_at bytes
  others ← acts_at count act.1
  Ok (act.0 ∷ others.0, others.1)

-- a batch, from behind its tag: how many acts there are, and the acts
unfoldable pub batch_at : List ℕ → Result (List Act) ℕ
batch_at bytes = do
  count ← number_in 1 most_acts bytes
  acts ← acts_at count.0 count.1
  end ← end_at acts.1
  Ok acts.0

-- the mark, from behind its tag: the number of the format is 2, in two bytes
unfoldable pub format_at : List ℕ → Result Entry ℕ
format_at bytes = do
  number ← named_at w16 (if_within 2 2) bytes
  end ← end_at number.1
  Ok Format

-- an entry that takes all the bytes
unfoldable pub entry_at : List ℕ → Result Entry ℕ
entry_at [] = Err 0
entry_at (zero ∷ bytes) = Err (length bytes + 1)
entry_at (suc zero ∷ bytes) = do
  act ← arrive_at bytes
  Ok (alone act)
entry_at (suc (suc zero) ∷ bytes) = do
  act ← delete_at bytes
  Ok (alone act)
entry_at (suc (suc (suc zero)) ∷ bytes) = do
  plan ← plan_at bytes
  Ok (Planned plan)
entry_at (suc (suc (suc (suc zero))) ∷ bytes) = do
  acts ← batch_at bytes
  Ok (Batch acts)
entry_at (suc (suc (suc (suc (suc zero)))) ∷ bytes) = format_at bytes
entry_at (suc (suc (suc (suc (suc (suc tag))))) ∷ bytes) = Err (length bytes + 1)
