-- The changes of documents in order, and which version of a document is valid at a time.
use Rattle.std.specs.Prelude.{ℕ, ◌==◌, ◌-◌, ◌&&◌, nat_lt, nat_le, if◌then◌else◌, List, [], ◌∷◌, filter, fold, length, slice_get, Option, None, is_some}
use Rattle.std.specs.Option.{option_map}
use Rattle.base_types.specs.declared.ids.DocId.{DocId}
use Rattle.base_types.specs.declared.time.Time.{Time}
use Rattle.lists_versions.specs.declared.change.Change.{Change}

-- the changes of one document
abbrev pub changes_of : {A : Type 0} → DocId → List (Change A) → List (Change A)
changes_of doc changes = filter (λ c. c.doc.0 == doc.0) changes

-- the last of a list
abbrev pub last_of : {A : Type 0} → List A → Option A
last_of xs = slice_get xs (length xs - 1)

-- what is valid at a time of one document's changes: each from its time until the time of the next one
abbrev pub valid_at : {A : Type 0} → ℕ → List (Change A) → Option A
valid_at t [] = None
valid_at t (c ∷ []) = if nat_le c.at.seconds t then c.held else None
valid_at t (c ∷ d ∷ changes) = if (nat_le c.at.seconds t && nat_lt t d.at.seconds) then c.held else valid_at t (d ∷ changes)

-- what the document's version holds that is valid at a time; none where the document isn't alive then
abbrev pub held_at : {A : Type 0} → DocId → ℕ → List (Change A) → Option A
held_at doc t changes = valid_at t (changes_of doc changes)

-- the document's latest version or tombstone
abbrev pub latest : {A : Type 0} → DocId → List (Change A) → Option (Change A)
latest doc changes = last_of (changes_of doc changes)

-- the time of the last change of all
abbrev pub last_time : {A : Type 0} → List (Change A) → Option Time
last_time changes = option_map (λ c. c.at) (last_of changes)

-- a document put among others, which ascend
abbrev pub put : DocId → List DocId → List DocId
put d [] = d ∷ []
put d (e ∷ es) = if nat_lt d.0 e.0 then d ∷ e ∷ es else (if d.0 == e.0 then e ∷ es else e ∷ put d es)

-- the documents that ever changed, each once, ascending
abbrev pub documents : {A : Type 0} → List (Change A) → List DocId
documents changes = fold (λ found c. put c.doc found) [] changes

-- the documents alive at a time, ascending
abbrev pub alive : {A : Type 0} → ℕ → List (Change A) → List DocId
alive t changes = filter (λ doc. is_some (held_at doc t changes)) (documents changes)

-- the same change, which holds something else
abbrev pub mapped : {A B : Type 0} → (A → B) → Change A → Change B
mapped f c = record { doc = c.doc; at = c.at; held = option_map f c.held }
