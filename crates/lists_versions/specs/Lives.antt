-- When documents are alive.
use Rattle.std.specs.Prelude.{◌≡◌, ◌⊎◌, ℕ, ◌<◌, ◌≤◌, ◌==◌, if◌then◌else◌, List, Option, None, Contains}
use Rattle.std.specs.List.{list_any}
use Rattle.std.specs.Option.{option_map}
use Rattle.base_types.specs.declared.ids.DocId.{DocId}
use Rattle.base_types.specs.declared.time.Time.{Time}
use Rattle.lists_postings.specs.Kinds.{life_kind}
use Rattle.lists_postings.specs.Stretches.{AreStretches}
use Rattle.lists_postings.specs.declared.event.Event.{Event}
use Rattle.lists_postings.specs.declared.life.Life.{Life}
use Rattle.lists_versions.specs.declared.change.Change.{Change}
use Rattle.lists_versions.specs.Changes.{held_at}

-- that a document is alive at a time, or nothing
abbrev pub lived : {A : Type 0} → List (Change A) → ℕ → ℕ → Option (Unit {0})
lived changes d t = option_map (λ _. tt) (held_at (record { 0 = d }) t changes)

-- The lives in [a, b): the longest stretches inside it at whose every time a document is alive, so that versions that touch are one life.
abbrev pub AreLives : {A : Type 0} → List (Change A) → ℕ → ℕ → List Life → Type 0
AreLives changes a b lives = AreStretches life_kind (lived changes) a b lives

-- There is one list of lives.
abbrev pub LivesAreOne : Type 0 → Type 0
LivesAreOne A = (changes : List (Change A)) (a b : ℕ) (one other : List Life) → AreLives changes a b one → AreLives changes a b other
    → one ≡ other

-- the event of a document at a time, and of a change
abbrev pub start_of : Time → DocId → Event
start_of at doc = record { doc = doc; at = at }

abbrev pub event_of : {A : Type 0} → Change A → Event
event_of c = record { doc = c.doc; at = c.at }

-- events inside [a, b): one at its start for each of these documents, and one for each change behind its start
pub record AreEvents {A : Type 0} (changes : List (Change A)) (docs : List DocId) (a b : ℕ) (events : List Event) : Type 0 where
  pub inside : (x : Event) → Contains events x → (a ≤ x.at.seconds) × (x.at.seconds < b)
  pub started : (doc : DocId) → Contains docs doc → (x : Event) × Contains events x × (x.doc ≡ doc) × (x.at.seconds ≡ a)
  pub changed : (c : Change A) → Contains changes c → a < c.at.seconds → c.at.seconds < b
      → (x : Event) × Contains events x × (x.doc ≡ c.doc) × (x.at.seconds ≡ c.at.seconds)

-- what is said of these documents alone
abbrev pub lived_of : {A : Type 0} → List DocId → List (Change A) → ℕ → ℕ → Option (Unit {0})
lived_of docs changes d t = if list_any (λ doc. d == doc.0) docs then lived changes d t else None

-- these events, and some more of one document inside [a, b): one at its start, and one for each of its changes behind that
pub record AreNoted {A : Type 0} (changes : List (Change A)) (doc : DocId) (a b : ℕ) (old new : List Event) : Type 0 where
  pub kept : (x : Event) → Contains old x → Contains new x
  pub only : (x : Event) → Contains new x → Contains old x ⊎ ((x.doc ≡ doc) × (a ≤ x.at.seconds) × (x.at.seconds < b))
  pub started : (x : Event) × Contains new x × (x.doc ≡ doc) × (x.at.seconds ≡ a)
  pub changed : (c : Change A) → Contains changes c → c.doc ≡ doc → a < c.at.seconds → c.at.seconds < b
      → (x : Event) × Contains new x × (x.doc ≡ doc) × (x.at.seconds ≡ c.at.seconds)

-- events of these documents inside [a, b)
pub record AreEventsOf {A : Type 0} (changes : List (Change A)) (docs : List DocId) (a b : ℕ) (events : List Event) : Type 0 where
  pub inside : (x : Event) → Contains events x → Contains docs x.doc × (a ≤ x.at.seconds) × (x.at.seconds < b)
  pub started : (doc : DocId) → Contains docs doc → (x : Event) × Contains events x × (x.doc ≡ doc) × (x.at.seconds ≡ a)
  pub changed : (c : Change A) → Contains changes c → Contains docs c.doc → a < c.at.seconds → c.at.seconds < b
      → (x : Event) × Contains events x × (x.doc ≡ c.doc) × (x.at.seconds ≡ c.at.seconds)
