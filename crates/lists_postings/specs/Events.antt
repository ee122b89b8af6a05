-- Times at which something may change of a document.
use Rattle.std.specs.Prelude.{◌≡◌, ◌⊎◌, ℕ, ◌<◌, ◌≤◌, ◌==◌, ◌&&◌, ◌||◌, Bool, true, if◌then◌else◌, nat_le, nat_lt, List, [], ◌∷◌, Option, None, Contains}
use Rattle.lists_postings.specs.Lists.{EachNext}
use Rattle.lists_postings.specs.declared.event.Event.{Event}

-- in an earlier document, or in the same one and not later
abbrev pub NotAfter : Event → Event → Type 0
NotAfter x y = (x.doc.0 < y.doc.0) ⊎ ((x.doc.0 ≡ y.doc.0) × (x.at.seconds ≤ y.at.seconds))

-- the events stand by document and then by time
abbrev pub AreInOrder : List Event → Type 0
AreInOrder events = EachNext NotAfter events

-- no event of the document lies behind the time e and not behind t
abbrev pub NoneIn : List Event → ℕ → ℕ → ℕ → Type 0
NoneIn events d e t = (x : Event) → Contains events x → x.doc.0 ≡ d → e < x.at.seconds → x.at.seconds ≤ t → ⊥

-- Inside [a, b) what f says of a document changes at its events alone, and before the first of them f says nothing.
pub record ChangesAt {V : Type 0} (events : List Event) (a b : ℕ) (f : ℕ → ℕ → Option V) : Type 0 where
  pub inside : (x : Event) → Contains events x → (a ≤ x.at.seconds) × (x.at.seconds < b)
  pub still : (d e t : ℕ) → a ≤ e → e ≤ t → t < b → NoneIn events d e t → f d e ≡ f d t
  pub none : (d t : ℕ) → a ≤ t → t < b → ((x : Event) → Contains events x → x.doc.0 ≡ d → x.at.seconds ≤ t → ⊥) → f d t ≡ None

-- the time t of the document d lies before all these events, which are in order
abbrev pub is_done : List Event → ℕ → ℕ → Bool
is_done [] d t = true
is_done (x ∷ events) d t = nat_lt d x.doc.0 || ((d == x.doc.0) && nat_lt t x.at.seconds)

-- what f says inside [a, b)
abbrev pub inside : {V : Type 0} → (ℕ → ℕ → Option V) → ℕ → ℕ → ℕ → ℕ → Option V
inside f a b d t = if (nat_le a t && nat_lt t b) then f d t else None

-- what f says inside [a, b) before the events that are left
abbrev pub done : {V : Type 0} → (ℕ → ℕ → Option V) → ℕ → ℕ → List Event → ℕ → ℕ → Option V
done f a b left d t = if is_done left d t then inside f a b d t else None

-- where the piece ends that begins at an event: at the document's next one, or at the end
abbrev pub end_of : Event → List Event → ℕ → ℕ
end_of x [] b = b
end_of x (y ∷ events) b = if x.doc.0 == y.doc.0 then y.at.seconds else b
