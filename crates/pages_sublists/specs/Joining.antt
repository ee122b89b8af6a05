-- Lists that were fetched, and what they come to where they are joined.
use Rattle.std.specs.Prelude.{◌≡◌, ◌⊎◌, ◌↔◌, ℕ, List, [], ◌∷◌, length, sum_by, Contains, Result, Ok, Err}
use Rattle.base_types.specs.declared.posting.Posting.{Posting}
use Rattle.journal_entries.specs.declared.place.Layout.{Layout}
use Rattle.lists_postings.specs.Lists.{IsList}
use Rattle.lists_postings.specs.Unions.{IsUnion, IsClash}
use Rattle.pages_sublists.specs.Fetching.{IsFetched, Explains}
use Rattle.pages_sublists.specs.Gathering.{Chosen, IsBare, bytes_of}
use Rattle.pages_sublists.specs.declared.why.Why.{Why}
use Rattle.pages_sublists.specs.declared.why.Why.TheVariants.{Bare, Clash}
use Rattle.pages_sublists.specs.declared.why.Damage.{Damage}

-- the first page of a list's place, and the list
abbrev pub Paged : Type 0
Paged = ℕ × List Posting

-- how many postings the lists have, added up
abbrev pub size_of_all : List Paged → ℕ
size_of_all lists = sum_by (λ (l : Paged). length l.1) lists

-- one of the lists has the posting
abbrev pub IsAmong : List Paged → Posting → Type 0
IsAmong [] p = ⊥
IsAmong (l ∷ lists) p = Contains l.1 p ⊎ IsAmong lists p

-- the list has each posting of the lists, and so each distinct one once, and no other
pub record AreJoined (lists : List Paged) (union : List Posting) : Type 0 where
  pub ordered : IsList union
  pub each : (p : Posting) → Contains union p ↔ IsAmong lists p

-- the lists are joined in turn to the union so far, up to the first one that clashes with those in front of it
abbrev pub JoinInTurn : List Paged → List Posting → Result (List Posting) Damage → Type 0
JoinInTurn [] union outcome = outcome ≡ Ok union
JoinInTurn (l ∷ lists) union outcome =
    ((one : Posting) × ((other : Posting) × (IsClash union l.1 one other × (outcome ≡ Err (record { page = l.0; why = Clash one other })))))
    ⊎ ((both : List Posting) × (IsUnion union l.1 both × JoinInTurn lists both outcome))

-- what is fetched of the segment, and that it may stand there
pub record IsFound (layout : Layout) (h : ℕ) (pages : List ℕ) (c : Chosen) (l : Paged) : Type 0 where
  pub page_is : l.0 ≡ c.place.extent.first
  pub fetched : IsFetched layout c.place.digest c.from c.to h (bytes_of c pages) l.1
  pub some : ¬ (IsBare c.first l.1)

-- the lists are those of the first of the segments, in order, and these segments are left
abbrev pub AreFetched : Layout → (h : ℕ) → List ℕ → List Chosen → List Paged → List Chosen → Type 0
AreFetched layout h pages segments [] rest = rest ≡ segments
AreFetched layout h pages [] (l ∷ lists) rest = ⊥
AreFetched layout h pages (c ∷ segments) (l ∷ lists) rest = IsFound layout h pages c l × AreFetched layout h pages segments lists rest

-- why the segment is refused by the bytes of its place, whatever stands in front of it
abbrev pub RefusesAlone : Layout → ℕ → List ℕ → Chosen → Why → Type 0
RefusesAlone layout h bytes c why =
    Explains layout c.place.digest c.from c.to h bytes why
    ⊎ ((list : List Posting) × (IsFetched layout c.place.digest c.from c.to h bytes list × (IsBare c.first list × (why ≡ Bare))))

-- the first of the segments is refused
abbrev pub StopsAt : Layout → ℕ → List ℕ → List Chosen → Damage → Type 0
StopsAt layout h pages [] d = ⊥
StopsAt layout h pages (c ∷ segments) d = (d.page ≡ c.place.extent.first) × RefusesAlone layout h (bytes_of c pages) c d.why
