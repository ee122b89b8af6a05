-- The history of an archive: what it is, why a change of it is refused, and which texts are alive at a time.
use Rattle.std.specs.Prelude.{ℕ, ◌+◌, nat_lt, Bool, true, false, not, List, [], ◌∷◌, ◌++◌, length, map, sum_by, Option, Some, None}
use Rattle.std.specs.List.{flat_map, filter_map, list_any}
use Rattle.std.specs.Option.{option_map}
use Rattle.base_types.specs.Limits.{limit_of}
use Rattle.base_types.specs.declared.ids.DocId.{DocId}
use Rattle.base_types.specs.declared.which.Which.TheVariants.{Words}
use Rattle.journal_gates.specs.Records.{new_bytes, gate_bytes}
use Rattle.text_words.specs.Terms.{keys}
use Rattle.text_words.specs.Words.{distinct}
use Rattle.lists_versions.specs.declared.change.Change.{Change}
use Rattle.lists_versions.specs.Changes.{held_at, documents}
use Rattle.lists_versions.specs.Refusals.{arrive_refusal, delete_refusal}
use Rattle.lists_versions.specs.Tests.{first_of, when}
use Rattle.journal_entries.specs.Spelling.{spelling}
use Rattle.journal_entries.specs.Acts.{act_length, alone}
use Rattle.journal_entries.specs.declared.act.Act.{Act}
use Rattle.journal_entries.specs.declared.act.Act.TheVariants as batched
use Rattle.journal_entries.specs.declared.entry.Entry.{Entry}
use Rattle.journal_entries.specs.declared.entry.Entry.TheVariants.{Arrive, Delete, Planned, Format, Batch}
use Rattle.model_archive.specs.declared.refusal.Refusal.{Refusal}
use Rattle.model_archive.specs.declared.refusal.Refusal.TheVariants as refusals
use Rattle.model_archive.specs.Refusals.{refusal_of}

-- a history: the entries of an archive, in order
abbrev pub History : Type 0
History = List Entry

-- the change of a document that an act of a batch makes, with the text
abbrev pub change_by : Act → Change (List ℕ)
change_by (batched.Arrive doc at text) = record { doc = doc; at = at; held = Some text }
change_by (batched.Delete doc at) = record { doc = doc; at = at; held = None }

-- the changes of documents that an entry makes, with the texts; those of a batch in the order of its acts
abbrev pub acts : Entry → List (Change (List ℕ))
acts (Arrive doc at text) = record { doc = doc; at = at; held = Some text } ∷ []
acts (Delete doc at) = record { doc = doc; at = at; held = None } ∷ []
acts (Planned plan) = []
acts Format = []
acts (Batch batch) = map change_by batch

-- the changes of documents that a history makes
abbrev pub changes : History → List (Change (List ℕ))
changes history = flat_map acts history

-- the keys of the words of an act's text, each as often as it occurs
abbrev pub act_keys : Act → List (List ℕ)
act_keys (batched.Arrive doc at text) = keys text
act_keys (batched.Delete doc at) = []

-- the keys of the words of an entry's texts, each as often as it occurs
abbrev pub entry_keys : Entry → List (List ℕ)
entry_keys (Arrive doc at text) = keys text
entry_keys (Batch batch) = flat_map act_keys batch
entry_keys other = []

-- the distinct words of all texts, in the order of first occurrence
abbrev pub vocabulary : History → List (List ℕ)
vocabulary history = distinct (flat_map entry_keys history)

-- the entry is the mark of a journal that may have batches
abbrev pub is_mark : Entry → Bool
is_mark Format = true
is_mark other = false

-- one of a history's entries is the mark
abbrev pub is_marked : History → Bool
is_marked history = list_any is_mark history

-- the refusal of an entry with which there would be more words than there may be
abbrev pub full_words : History → Entry → Option Refusal
full_words before entry = when (nat_lt (limit_of Words) (length (vocabulary (before ++ entry ∷ [])))) (refusals.Full Words (limit_of Words))

-- why an act may not come after a history, as an entry of its own: the first cause in order
abbrev pub act_refusal : History → Act → Option Refusal
act_refusal before (batched.Arrive doc at text) = first_of (option_map refusal_of (arrive_refusal doc at (changes before))
    ∷ full_words before (Arrive doc at text) ∷ [])
act_refusal before (batched.Delete doc at) = option_map refusal_of (delete_refusal doc at (changes before))

-- why acts may not come after a history, each behind those before it: the cause of the first that may not
abbrev pub acts_refusal : History → List Act → Option Refusal
acts_refusal before [] = None
acts_refusal before (act ∷ batch) = first_of (act_refusal before act ∷ acts_refusal (before ++ alone act ∷ []) batch ∷ [])

-- the history has no mark
abbrev pub old_format : History → Option Refusal
old_format before = when (not (is_marked before)) refusals.OldFormat

-- the most bytes that the texts of a batch have together
abbrev pub most_batch : ℕ
most_batch = 16777216

-- the texts of a batch have together more bytes than they may
abbrev pub long_batch : ℕ → Option Refusal
long_batch bytes = when (nat_lt most_batch bytes) (refusals.BatchTooLong most_batch)

-- why an entry may not come after a history: for a change and a batch the first cause in order; for the mark that there is one; for a plan there is
-- no cause (what is asked of it is in Legal)
abbrev pub entry_refusal : History → Entry → Option Refusal
entry_refusal before (Arrive doc at text) = act_refusal before (batched.Arrive doc at text)
entry_refusal before (Delete doc at) = act_refusal before (batched.Delete doc at)
entry_refusal before (Planned plan) = None
entry_refusal before Format = when (is_marked before) refusals.HasFormat
entry_refusal before (Batch batch) = first_of (old_format before ∷ long_batch (sum_by act_length batch) ∷ acts_refusal before batch ∷ [])

-- the acts of a batch as entries of their own
abbrev pub singles : List Act → History
singles batch = map alone batch

-- the text of a document that is alive at a time
abbrev pub text_at : History → DocId → ℕ → Option (List ℕ)
text_at history doc t = held_at doc t (changes history)

-- the documents alive at a time with their texts, ascending
abbrev pub alive : History → ℕ → List (DocId × List ℕ)
alive history t = filter_map (λ doc. option_map (λ text. (doc, text)) (text_at history doc t)) (documents (changes history))

-- where the journal of a history ends: behind the header and one closed gate, and for each entry its gate, its length and its spelling
abbrev pub end_of : History → ℕ
end_of history = new_bytes + sum_by (λ entry. length (spelling entry) + gate_bytes) history
