-- What there is of each word: its blocks with their headers, or its postings at the time; scores, and bounds of scores by headers.
use Rattle.std.specs.Prelude.{◌≡◌, ◌⊎◌, ℕ, ◌+◌, ◌*◌, max, nat_le, ◌&&◌, Bool, true, if◌then◌else◌, List, [], ◌∷◌, ◌++◌, All, get_or}
use Rattle.std.specs.List.{AllZip}
use Rattle.base_types.specs.declared.posting.Posting.{Posting}
use Rattle.lists_postings.specs.Lists.{IsList, frequency, holds}
use Rattle.pages_codec.specs.declared.head.BlockHead.{BlockHead}

-- what there is of a word: the headers of its blocks, their postings, and postings outside of blocks
pub record Sheet : Type 0 where
  pub heads : List BlockHead
  pub blocks : List (List Posting)
  pub flat : List Posting

-- the postings of blocks in order
abbrev pub joined : List (List Posting) → List Posting
joined [] = []
joined (b ∷ bs) = b ++ joined bs

-- how often the word occurs in document d at the time
abbrev pub often : ℕ → ℕ → Sheet → ℕ
often at d s = frequency d at (joined s.blocks ++ s.flat)

-- the greatest frequency of some postings
abbrev pub greatest : List Posting → ℕ
greatest [] = 0
greatest (p ∷ ps) = max p.tf (greatest ps)

-- the document of the last of some postings, or this one
abbrev pub last_doc : ℕ → List Posting → ℕ
last_doc d [] = d
last_doc d (p ∷ ps) = last_doc p.doc.0 ps

-- the header is true of the block: the first and the last document, and the greatest frequency
abbrev pub IsHead : BlockHead → List Posting → Type 0
IsHead h [] = ⊥
IsHead h (p ∷ ps) = (h.first.0 ≡ p.doc.0) × (h.last.0 ≡ last_doc p.doc.0 ps) × (h.top ≡ greatest (p ∷ ps))

-- What is needed of a word: each header is true, the blocks in order are a list, and so are the postings outside,
-- each of which holds the time; there aren't both.
pub record IsSheet (at : ℕ) (s : Sheet) : Type 0 where
  pub heads_are : AllZip IsHead s.heads s.blocks
  pub listed : IsList (joined s.blocks)
  pub flat_listed : IsList s.flat
  pub flat_holds : All (λ p. holds at p ≡ true) s.flat
  pub one_kind : (s.blocks ≡ []) ⊎ (s.flat ≡ [])

-- the sum over words of the weight times what a word has
abbrev pub total : (Sheet → ℕ) → List ℕ → List Sheet → ℕ
total f [] sheets = 0
total f (w ∷ ws) [] = 0
total f (w ∷ ws) (s ∷ sheets) = w * f s + total f ws sheets

-- the score of document d at the time
abbrev pub score : ℕ → List ℕ → List Sheet → ℕ → ℕ
score at weights sheets d = total (often at d) weights sheets

-- the greatest top of the headers that pass a test
abbrev pub top_where : (BlockHead → Bool) → List BlockHead → ℕ
top_where p [] = 0
top_where p (h ∷ hs) = if p h then max h.top (top_where p hs) else top_where p hs

-- the range of the block has the document
abbrev pub covers : ℕ → BlockHead → Bool
covers d h = nat_le h.first.0 d && nat_le d h.last.0

-- the ranges of two blocks meet
abbrev pub meets : BlockHead → BlockHead → Bool
meets a b = nat_le a.first.0 b.last.0 && nat_le b.first.0 a.last.0

-- the greatest frequency that a word can have by the headers that pass a test, and by its postings outside
abbrev pub most : (BlockHead → Bool) → Sheet → ℕ
most p s = max (top_where p s.heads) (greatest s.flat)

-- the bound of a block: no document in its range has a higher score
abbrev pub bound : List ℕ → List Sheet → BlockHead → ℕ
bound weights sheets h = total (most (meets h)) weights sheets

-- nothing of a word, and no header
abbrev pub no_sheet : Sheet
no_sheet = record { heads = []; blocks = []; flat = [] }

abbrev pub no_head : BlockHead
no_head = record { count = 0; size = 0; top = 0; first = record { 0 = 0 }; last = record { 0 = 0 } }

-- what there is of the word of this number
abbrev pub sheet_at : List Sheet → ℕ → Sheet
sheet_at sheets word = get_or sheets word no_sheet

-- the header of a block of that word
abbrev pub head_at : List Sheet → ℕ → ℕ → BlockHead
head_at sheets word block = get_or (sheet_at sheets word).heads block no_head
