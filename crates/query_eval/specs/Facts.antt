-- What is known of documents over time, and what it says at a time.
use Rattle.std.specs.Prelude.{◌≡◌, ◌<◌, ◌≤◌, ℕ, ◌+◌, ◌==◌, ◌&&◌, Bool, true, if◌then◌else◌, nat_le, nat_lt, max, List, [], ◌∷◌, ◌++◌, length, get_or, filter, map, Contains, Option, Some, None}
use Rattle.std.specs.List.{filter_map, list_any}
use Rattle.base_types.specs.declared.posting.Posting.{Posting}
use Rattle.lists_postings.specs.declared.event.Event.{Event}
use Rattle.lists_postings.specs.declared.life.Life.{Life}
use Rattle.query_lang.specs.Grammar.{Query}
use Rattle.query_lang.specs.Meaning.{matches, score, words_of}
use Rattle.query_eval.specs.Hits.{hit_of, found}
use Rattle.query_eval.specs.declared.facts.Fact.{Fact}
use Rattle.query_eval.specs.declared.hit.Hit.{Hit}
use Rattle.query_eval.specs.declared.part.Part.{Part}

-- the fact of a life, and of a posting of the word at a place, which shows that the document is alive, or doesn't
abbrev pub life_fact : Life → Fact
life_fact l = record { doc = l.doc; span = l.span; alive = true; hit = None }

abbrev pub word_fact : Bool → ℕ → Posting → Fact
word_fact shows place p = record { doc = p.doc; span = p.span; alive = shows; hit = Some (hit_of place p) }

-- the facts of parts, of which the first is that of the word at a place
abbrev pub facts_of : Bool → ℕ → List Part → List Fact
facts_of shows place [] = []
facts_of shows place (part ∷ parts) = map (word_fact shows place) part.list.items ++ facts_of shows (place + 1) parts

-- the fact is of a document, before one, up to one
abbrev pub of_doc : ℕ → Fact → Bool
of_doc d f = f.doc.0 == d

-- the fact holds at a time
abbrev pub covers : ℕ → Fact → Bool
covers t f = nat_le f.span.from t && nat_lt t f.span.to

-- what facts say at a time: the hits, and that the document is alive
abbrev pub hits_now : ℕ → List Fact → List Hit
hits_now t facts = filter_map (λ f. f.hit) (filter (covers t) facts)

abbrev pub alive_now : ℕ → List Fact → Bool
alive_now t facts = list_any (λ f. f.alive) (filter (covers t) facts)

-- how often each word occurs is as hits say
abbrev pub TellWords : Query → List Hit → (List ℕ → ℕ) → Type 0
TellWords query hits often = (k : ℕ) → k < length (words_of query) → found hits k ≡ often (get_or (words_of query) k [])

-- the score of a document that is alive and matches
abbrev pub score_if : Bool → Query → (List ℕ → ℕ) → Option ℕ
score_if alive query often = if (alive && matches query often) then Some (score query often) else None

-- f gives each document at each time its score by these facts
abbrev pub IsScored : Query → List Fact → (ℕ → ℕ → Option ℕ) → Type 0
IsScored query facts f = (d t : ℕ) → (often : List ℕ → ℕ) × TellWords query (hits_now t (filter (of_doc d) facts)) often
    × (f d t ≡ score_if (alive_now t (filter (of_doc d) facts)) query often)

-- events inside [a, b): one where each fact begins there or holds already, and one where it ends
pub record AreEvents (facts : List Fact) (a b : ℕ) (events : List Event) : Type 0 where
  pub inside : (x : Event) → Contains events x → (a ≤ x.at.seconds) × (x.at.seconds < b)
  pub begun : (f : Fact) → Contains facts f → f.span.from < b → (x : Event) × Contains events x × (x.doc ≡ f.doc)
      × (x.at.seconds ≡ max f.span.from a)
  pub ended : (f : Fact) → Contains facts f → a ≤ f.span.to → f.span.to < b → (x : Event) × Contains events x × (x.doc ≡ f.doc)
      × (x.at.seconds ≡ f.span.to)
