-- What follows from the definitions: bytes lead to one answer.
use Rattle.std.specs.Prelude.{◌≡◌, ◌⊎◌, ℕ, ◌≤◌, ◌<◌, List, [], Ok, Err, true}
use Rattle.base_types.specs.declared.posting.Posting.{Posting}
use Rattle.journal_entries.specs.declared.place.Layout.{Layout}
use Rattle.journal_entries.specs.declared.place.Place.{Place}
use Rattle.lists_postings.specs.Lists.{frequency}
use Rattle.pages_sublists.specs.Segments.{EachSegment, HoldsSublist, AreCutsOf}
use Rattle.pages_sublists.specs.Fetching.{IsFetched, Explains}
use Rattle.pages_sublists.specs.Gathering.{Chosen, ListOrDamage, Gathers, chosen, stored_size}
use Rattle.pages_sublists.specs.declared.why.Why.{Why}
use Rattle.pages_sublists.specs.declared.why.Why.TheVariants.{Clash}

-- Of the causes against a fetch one holds at most.
abbrev pub OneCause : Type 0
OneCause = (layout : Layout) (digest : List ℕ) (f g h : ℕ) (bytes : List ℕ) (a b : Why) → Explains layout digest f g h bytes a
    → Explains layout digest f g h bytes b → a ≡ b

-- There is none against what is fetched.
abbrev pub NoCauseAgainstFetched : Type 0
NoCauseAgainstFetched =
    (layout : Layout) (digest : List ℕ) (f g h : ℕ) (bytes : List ℕ) (list : List Posting) (why : Why)
    → IsFetched layout digest f g h bytes list → ¬ (Explains layout digest f g h bytes why)

-- One list is fetched at most.
abbrev pub OneFetched : Type 0
OneFetched = (layout : Layout) (digest : List ℕ) (f g h : ℕ) (bytes : List ℕ) (a b : List Posting) → IsFetched layout digest f g h bytes a
    → IsFetched layout digest f g h bytes b → a ≡ b

-- both outcomes are clashes at this page
pub record AreClashes (page : ℕ) (a b : ListOrDamage) : Type 0 where
  pub one : Posting
  pub other : Posting
  pub this : Posting
  pub that : Posting
  pub first : a ≡ Err (record { page = page; why = Clash one other })
  pub second : b ≡ Err (record { page = page; why = Clash this that })

-- What is gathered has one outcome; where it is a clash, which two postings are named is free.
abbrev pub OneGathering : Type 0
OneGathering =
    (layout : Layout) (h : ℕ) (pages : List ℕ) (segments : List Chosen) (union : List Posting) (read : ℕ) (a b : ListOrDamage)
    → Gathers layout h pages segments union read a → Gathers layout h pages segments union read b → (a ≡ b)
    ⊎ ((page : ℕ) × AreClashes page a b)

-- what is gathered is a list that says of each time in the window what the other list says, and as many postings are read as its segments have
pub record IsGathered (list : List Posting) (cuts : List ℕ) (a b h : ℕ) (outcome : ListOrDamage) : Type 0 where
  pub stored : List Posting
  pub is : outcome ≡ Ok (stored, stored_size a b h list cuts)
  pub tells : (d t : ℕ) → a ≤ t → t < b → frequency d t stored ≡ frequency d t list

-- Where the places of a list's segments hold its sublists, nothing is damaged, and what is gathered is of the list.
abbrev pub HeldIsGathered : Type 0
HeldIsGathered =
    (layout : Layout) (list : List Posting) (pages : List ℕ) (cuts : List ℕ) (h : ℕ) (places : List Place) (a b : ℕ)
    (outcome : ListOrDamage) → AreCutsOf list cuts h
    → EachSegment (HoldsSublist layout list pages) cuts h places → Gathers layout h pages (chosen a b h true cuts places) [] 0 outcome
    → IsGathered list cuts a b h outcome
