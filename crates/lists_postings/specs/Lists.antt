-- Posting lists, and what they say of a document at a time.
use Rattle.std.specs.Prelude.{◌≡◌, ◌⊎◌, ℕ, ◌<◌, ◌≤◌, ◌==◌, ◌&&◌, Bool, if◌then◌else◌, nat_le, nat_lt, List, [], ◌∷◌, filter, ⊤}
use Rattle.base_types.specs.declared.posting.Posting.{Posting}

-- The posting's span holds the time t.
abbrev pub holds : ℕ → Posting → Bool
holds t p = nat_le p.span.from t && nat_lt t p.span.to

-- The posting's span has a time in [f, g).
abbrev pub meets : ℕ → ℕ → Posting → Bool
meets f g p = nat_lt p.span.from g && nat_lt f p.span.to

-- The postings that hold the time t.
abbrev pub rows_at : ℕ → List Posting → List Posting
rows_at t list = filter (holds t) list

-- The sublist for [f, g): the postings that have a time in it.
abbrev pub sublist : ℕ → ℕ → List Posting → List Posting
sublist f g list = filter (meets f g) list

-- R holds of each element and the next one.
abbrev pub EachNext : {X : Type 0} → (X → X → Type 0) → List X → Type 0
EachNext R [] = ⊤
EachNext R (x ∷ []) = ⊤
EachNext R (x ∷ y ∷ ys) = R x y × EachNext R (y ∷ ys)

-- p stands before q: in an earlier document, or in the same one and over when q begins.
abbrev pub ComesBefore : Posting → Posting → Type 0
ComesBefore p q = (p.doc.0 < q.doc.0) ⊎ ((p.doc.0 ≡ q.doc.0) × (p.span.to ≤ q.span.from))

-- A posting list: in the order of (document, start), and no two postings of one document overlap.
abbrev pub IsList : List Posting → Type 0
IsList list = EachNext ComesBefore list

-- The frequency that a list gives document d at the time t: that of the document's posting which holds t, or 0.
abbrev pub frequency : ℕ → ℕ → List Posting → ℕ
frequency d t [] = 0
frequency d t (p ∷ list) = if (p.doc.0 == d && holds t p) then p.tf else frequency d t list

-- Two lists have the same rows at each time.
abbrev pub SameRows : List Posting → List Posting → Type 0
SameRows a b = (d t : ℕ) → frequency d t a ≡ frequency d t b

-- q goes on where p ends, in p's document and with p's frequency.
pub record Continues (p q : Posting) : Type 0 where
  pub doc : p.doc.0 ≡ q.doc.0
  pub tf : p.tf ≡ q.tf
  pub at : p.span.to ≡ q.span.from

-- No posting goes on where the one before it ends.
abbrev pub IsCoalesced : List Posting → Type 0
IsCoalesced list = EachNext (λ p q. ¬ (Continues p q)) list
