-- What is gathered from the places of a plan for a window: by the bytes that were read, and nothing else.
use Rattle.std.specs.Prelude.{◌≡◌, ◌⊎◌, ℕ, ◌+◌, Bool, true, false, ◌&&◌, if◌then◌else◌, nat_lt, List, [], ◌∷◌, ◌++◌, length, Result, Ok, Err}
use Rattle.base_types.specs.declared.posting.Posting.{Posting}
use Rattle.journal_entries.specs.declared.place.Layout.{Layout}
use Rattle.journal_entries.specs.declared.place.Place.{Place}
use Rattle.lists_postings.specs.Sizes.{size}
use Rattle.lists_postings.specs.Unions.{IsUnion, IsClash}
use Rattle.pages_area.specs.Ranges.{bytes_in}
use Rattle.pages_sublists.specs.Segments.{next_cut}
use Rattle.pages_sublists.specs.Fetching.{IsFetched, Explains}
use Rattle.pages_sublists.specs.declared.why.Why.{Why}
use Rattle.pages_sublists.specs.declared.why.Why.TheVariants.{Bare, Clash}
use Rattle.pages_sublists.specs.declared.why.Damage.{Damage}

-- a segment that is read, with its place; whether it is the first of all
pub record Chosen : Type 0 where
  pub from : ℕ
  pub to : ℕ
  pub place : Place
  pub first : Bool

-- the segment, where it overlaps the window [a, b)
abbrev pub overlapping : (a b : ℕ) → Chosen → List Chosen
overlapping a b c = if nat_lt c.from b && nat_lt a c.to then c ∷ [] else []

-- the segments that overlap the window, in order
abbrev pub chosen : (a b h : ℕ) → Bool → List ℕ → List Place → List Chosen
chosen a b h first (f ∷ cuts) (place ∷ places) =
    overlapping a b (record { from = f; to = next_cut cuts h; place = place; first = first }) ++ chosen a b h false cuts places
chosen a b h first [] places = []
chosen a b h first (f ∷ cuts) [] = []

-- what reads give where the segment's place is
abbrev pub bytes_of : Chosen → List ℕ → List ℕ
bytes_of c pages = bytes_in c.place.extent pages

-- it is the first segment of all, and its sublist is empty
abbrev pub IsBare : Bool → List Posting → Type 0
IsBare first list = (first ≡ true) × (list ≡ [])

-- the segment's sublist joins the union so far, and has so many postings
pub record Joins (layout : Layout) (h : ℕ) (pages : List ℕ) (c : Chosen) (union both : List Posting) (read : ℕ) : Type 0 where
  pub list : List Posting
  pub fetched : IsFetched layout c.place.digest c.from c.to h (bytes_of c pages) list
  pub some : ¬ (IsBare c.first list)
  pub joined : IsUnion union list both
  pub read_is : read ≡ length list

-- what is fetched doesn't join the union so far
abbrev pub Parts : Bool → List Posting → List Posting → Why → Type 0
Parts first union list why =
    (IsBare first list × (why ≡ Bare))
    ⊎ (¬ (IsBare first list) × ((one : Posting) × ((other : Posting) × (IsClash union list one other × (why ≡ Clash one other)))))

-- why the segment is refused: its fetch is, or else what is fetched doesn't join the union so far
abbrev pub Refuses : Layout → ℕ → List ℕ → Chosen → List Posting → Why → Type 0
Refuses layout h pages c union why =
    Explains layout c.place.digest c.from c.to h (bytes_of c pages) why
    ⊎ ((list : List Posting) × (IsFetched layout c.place.digest c.from c.to h (bytes_of c pages) list × Parts c.first union list why))

-- the list and how many postings were read for it, or what is damaged
abbrev pub ListOrDamage : Type 0
ListOrDamage = Result (List Posting × ℕ) Damage

-- the segments are fetched and joined in order, with the union and the number of postings so far
abbrev pub Gathers : Layout → (h : ℕ) → List ℕ → List Chosen → (union : List Posting) → (read : ℕ) → ListOrDamage → Type 0
Gathers layout h pages [] union read outcome = outcome ≡ Ok (union, read)
Gathers layout h pages (c ∷ segments) union read outcome =
    ((why : Why) × (Refuses layout h pages c union why × (outcome ≡ Err (record { page = c.place.extent.first; why = why }))))
    ⊎ ((both : List Posting) × ((n : ℕ) × (Joins layout h pages c union both n × Gathers layout h pages segments both (read + n) outcome)))

-- how many postings of a list the segments that overlap the window [a, b) have, added up
abbrev pub stored_size : (a b h : ℕ) → List Posting → List ℕ → ℕ
stored_size a b h list [] = 0
stored_size a b h list (f ∷ cuts) = (if nat_lt f b && nat_lt a (next_cut cuts h) then size f (next_cut cuts h) list else 0) + stored_size a
    b h list cuts
