-- An entry, the change that it makes, and why that may not come next.
use Rattle.std.specs.Prelude.{◌≡◌, ℕ, List, [], ◌∷◌, length, Option, Some, None, option_map, Result, Ok, Err}
use Rattle.std.proofs.Common.{lit<}
use Rattle.base_types.specs.declared.ids.DocId.{DocId}
use Rattle.base_types.specs.declared.time.Time.{Time}
use Rattle.base_types.specs.declared.text_place.TextPlace.{TextPlace}
use Rattle.lists_versions.specs.declared.change.Change.{Change}
use Rattle.lists_versions.specs.Tests.{first_of}
use Rattle.journal_entries.specs.Spelling.{spelling}
use Rattle.journal_entries.specs.declared.entry.Entry.{Entry}
use Rattle.journal_entries.specs.declared.entry.Entry.TheVariants.{Arrive, Delete}
use Rattle.model_archive.specs.declared.refusal.Refusal.{Refusal}
use Rattle.model_archive.specs.Histories.{History}
use Rattle.model_archive.specs.Legal.{IsLegalEntry}
use Rattle.model_archive.specs.Steps.{full_journal}
use Rattle.lists_index.specs.Indexes.{IndexState, IsPreparedFor}
use Rattle.archive_entries.specs.Places.{pair_of}
use Rattle.archive_entries.specs.declared.preparing.Prepared.{Prepared}
use Rattle.archive_entries.specs.declared.error.Declined.{Declined}
use Rattle.archive_entries.specs.declared.error.Declined.TheVariants as declines

-- the entry is a change of a document
abbrev pub IsChange : Entry → Type 0
IsChange (Arrive doc at text) = Unit {0}
IsChange (Delete doc at) = Unit {0}
IsChange other = ⊥

-- the change that an entry makes, with the length of its text; a plan, the mark and a batch make none
abbrev pub Makes : Entry → Change ℕ → Type 0
Makes (Arrive doc at text) change = (doc ≡ change.doc) × (at ≡ change.at) × (change.held ≡ Some (length text))
Makes (Delete doc at) change = (doc ≡ change.doc) × (at ≡ change.at) × (change.held ≡ None)
Makes other change = ⊥

-- the document of a change, its time, and the text that it has then (what changes no document has the first of each, and no text)
abbrev pub document_of : Entry → DocId
document_of (Arrive doc at text) = doc
document_of (Delete doc at) = doc
document_of other = record { 0 = 0 }

abbrev pub time_of : Entry → Time
time_of (Arrive doc at text) = at
time_of (Delete doc at) = at
time_of other = record { seconds = 0; before_now = lit< tt }

abbrev pub text_of : Entry → Option (List ℕ)
text_of (Arrive doc at text) = Some text
text_of other = None

-- what is held of a text of so many bytes that lies at this place, or of none
abbrev pub IsHeld : ℕ → Option ℕ → Option TextPlace → Type 0
IsHeld at bytes held = option_map pair_of held ≡ option_map (λ n. (at, n)) bytes

-- an entry may come next after a history, makes this change, and has this spelling
pub record IsNext (history : History) (entry : Entry) (change : Change ℕ) (body : List ℕ) : Type 0 where
  pub legal : IsLegalEntry history entry
  pub makes : Makes entry change
  pub spelled : body ≡ spelling entry

-- An entry is prepared that may come next after a history, but for the journal's room; or this is why it may not.
abbrev pub IsPrepared : History → IndexState → Entry → Option Refusal → Result Prepared Declined → Type 0
IsPrepared history index entry refusal (Ok p) = IsNext history entry p.change p.body.items
    × IsPreparedFor index (document_of entry) (text_of entry) p.words
    × (refusal ≡ first_of (full_journal history entry ∷ []))
IsPrepared history index entry refusal (Err (declines.Refused why)) = refusal ≡ Some why
IsPrepared history index entry refusal (Err declines.Memory) = Unit {0}
