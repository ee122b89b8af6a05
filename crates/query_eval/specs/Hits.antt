-- What hits say of a document.
use Rattle.std.specs.Prelude.{◌≡◌, ◌↔◌, ◌<◌, ◌≤◌, nat_le, nat_lt, ℕ, ◌==◌, ◌+◌, Bool, true, if◌then◌else◌, List, [], ◌∷◌, ◌++◌, length, get_or, filter, map, Contains}
use Rattle.std.specs.List.{filter_map}
use Rattle.base_types.specs.declared.ids.DocId.{DocId}
use Rattle.base_types.specs.declared.posting.Posting.{Posting}
use Rattle.lists_postings.specs.Lists.{rows_at}
use Rattle.query_lang.specs.Grammar.{Query}
use Rattle.query_lang.specs.Meaning.{words_of}
use Rattle.query_eval.specs.Found.{row_of}
use Rattle.query_eval.specs.declared.answer.Row.{Row}
use Rattle.query_eval.specs.declared.hit.Hit.{Hit}
use Rattle.query_eval.specs.declared.part.Part.{Part}

-- the hit of a posting of the word at a place
abbrev pub hit_of : ℕ → Posting → Hit
hit_of place p = record { doc = p.doc; place = place; tf = p.tf }

-- the hits of a list at a time
abbrev pub hits_in : ℕ → ℕ → List Posting → List Hit
hits_in t place list = map (hit_of place) (rows_at t list)

-- the hits of parts, of which the first is that of the word at a place
abbrev pub gathered : ℕ → ℕ → List Part → List Hit
gathered t place [] = []
gathered t place (part ∷ parts) = hits_in t place part.list.items ++ gathered t (place + 1) parts

-- the hit is of a document, of one before it, of one up to it
abbrev pub is_of : ℕ → Hit → Bool
is_of d h = h.doc.0 == d

abbrev pub is_before : ℕ → Hit → Bool
is_before d h = nat_lt h.doc.0 d

abbrev pub is_up_to : ℕ → Hit → Bool
is_up_to d h = nat_le h.doc.0 d

-- the hits of a document
abbrev pub hits_of : DocId → List Hit → List Hit
hits_of doc hits = filter (is_of doc.0) hits

-- how often the word at a place occurs, as the first hit of it says; 0 where there is none
abbrev pub found : List Hit → ℕ → ℕ
found [] place = 0
found (h ∷ hits) place = if h.place == place then h.tf else found hits place

-- the hits of each document say how often it has each of these words
abbrev pub Tell : List Hit → List (List ℕ) → (DocId → List ℕ → ℕ) → Type 0
Tell hits words often = (doc : DocId) (k : ℕ) → k < length words → found (hits_of doc hits) k ≡ often doc (get_or words k [])

-- the hits before a place are of earlier documents than those from it on
abbrev pub IsCut : List Hit → ℕ → Type 0
IsCut hits n = (i j : ℕ) (h : Hit) → i < n → n ≤ j → j < length hits → (get_or hits i h).doc.0 < (get_or hits j h).doc.0

-- the rows, before they are sorted, of the documents of some of the hits that are alive, by all hits of each
pub record AreMade (alive : DocId → Bool) (query : Query) (hits some : List Hit) (made : List Row) : Type 0 where
  pub docs : List DocId
  pub had : (d : DocId) → (Contains docs d ↔ (Contains (map (λ h. h.doc) some) d × (alive d ≡ true)))
  pub rows : (often : DocId → List ℕ → ℕ) → Tell hits (words_of query) often → made ≡ filter_map (λ doc. row_of query (often doc) doc) docs
