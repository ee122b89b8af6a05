-- Changes of documents with the places of their texts in the journal.
use Rattle.std.specs.Prelude.{◌≡◌, ℕ, ◌+◌, List, [], ◌∷◌, ◌++◌, length, map, Some, None}
use Rattle.base_types.specs.declared.text_place.TextPlace.{TextPlace}
use Rattle.journal_gates.specs.Records.{gate_bytes}
use Rattle.lists_versions.specs.declared.change.Change.{Change}
use Rattle.lists_versions.specs.Changes.{mapped}
use Rattle.journal_entries.specs.Spelling.{spelling}
use Rattle.journal_entries.specs.Acts.{act_bytes}
use Rattle.journal_entries.specs.declared.act.Act.{Act}
use Rattle.journal_entries.specs.declared.act.Act.TheVariants as batched
use Rattle.journal_entries.specs.declared.entry.Entry.{Entry}
use Rattle.journal_entries.specs.declared.entry.Entry.TheVariants.{Arrive, Delete, Batch}
use Rattle.model_archive.specs.Histories.{History}

-- where a text lies: the place of its first byte in the journal, and how many bytes it has
abbrev pub pair_of : TextPlace → ℕ × ℕ
pair_of place = (place.at, place.bytes)

-- where the text of an arrival begins in its spelling: behind the tag, the document and the time
abbrev pub text_offset : ℕ
text_offset = 13

-- where the first act of a batch begins in its spelling: behind the tag and how many acts there are
abbrev pub acts_offset : ℕ
acts_offset = 5

-- where the text of an act begins behind the place of the act's length, which has four bytes
abbrev pub act_text_offset : ℕ
act_text_offset = 4 + text_offset

-- the change that an act makes, with where its text lies; the act's length is at this place
abbrev pub placed_act : ℕ → Act → Change (ℕ × ℕ)
placed_act at (batched.Arrive doc t text) = record { doc = doc; at = t; held = Some (at + act_text_offset, length text) }
placed_act at (batched.Delete doc t) = record { doc = doc; at = t; held = None }

-- those of acts; the first act's length is at this place
abbrev pub placed_acts : ℕ → List Act → List (Change (ℕ × ℕ))
placed_acts at [] = []
placed_acts at (act ∷ batch) = placed_act at act ∷ placed_acts (at + length (act_bytes act)) batch

-- the changes that an entry makes, with where their texts lie; the entry's gate is at this place
abbrev pub placed_by : ℕ → Entry → List (Change (ℕ × ℕ))
placed_by gate (Arrive doc at text) = record { doc = doc; at = at; held = Some (gate + (gate_bytes + text_offset), length text) } ∷ []
placed_by gate (Delete doc at) = record { doc = doc; at = at; held = None } ∷ []
placed_by gate (Batch batch) = placed_acts (gate + (gate_bytes + acts_offset)) batch
placed_by gate other = []

-- those of entries; the first entry's gate is at this place
abbrev pub places : ℕ → History → List (Change (ℕ × ℕ))
places gate [] = []
places gate (entry ∷ entries) = placed_by gate entry ++ places (gate + gate_bytes + length (spelling entry)) entries

-- these are the changes that entries make, with the places of the texts
abbrev pub ArePlaced : ℕ → History → List (Change TextPlace) → Type 0
ArePlaced gate history changes = map (mapped pair_of) changes ≡ places gate history
