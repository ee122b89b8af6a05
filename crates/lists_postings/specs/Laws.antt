-- What follows from the definitions of lists.
use Rattle.std.specs.Prelude.{◌≡◌, ℕ, ◌+◌, ◌^◌, ◌<◌, ◌≤◌, ◌↔◌, List, ◌++◌, length, Contains}
use Rattle.base_types.specs.declared.posting.Posting.{Posting}
use Rattle.lists_postings.specs.Lists.{IsList, IsCoalesced, SameRows, frequency}
use Rattle.lists_postings.specs.Sizes.{size, begun, ended}
use Rattle.lists_postings.specs.Clips.{IsClip}
use Rattle.lists_postings.specs.Unions.{IsUnion}
use Rattle.lists_postings.specs.ListsOf.{IsListOf, IsLongest}

-- Coalesced lists with the same rows at each time are one list.
abbrev pub OneCoalesced : Type 0
OneCoalesced = (a b : List Posting) → IsList a → IsCoalesced a → IsList b → IsCoalesced b → SameRows a b → a ≡ b

-- No list with the same rows at each time is shorter than a coalesced one.
abbrev pub CoalescedIsShortest : Type 0
CoalescedIsShortest = (list other : List Posting) → IsList list → IsCoalesced list → IsList other → SameRows other list
    → length list ≤ length other

-- There is at most one list of a frequency over an interval.
abbrev pub OneListOf : Type 0
OneListOf = (f : ℕ → ℕ → ℕ) (a b : ℕ) (x y : List Posting) → IsListOf f a b x → IsListOf f a b y → x ≡ y

-- Clipped to a part of its interval, the list of a frequency is the list over that part.
abbrev pub ClipOfListOf : Type 0
ClipOfListOf = (f : ℕ → ℕ → ℕ) (a b c d : ℕ) (list clip : List Posting) → a ≤ c → d ≤ b → IsListOf f a b list → IsClip c d list clip
    → IsListOf f c d clip

-- The list of a frequency has exactly the longest spans of one frequency.
abbrev pub LongestSpans : Type 0
LongestSpans = (f : ℕ → ℕ → ℕ) (a b : ℕ) (list : List Posting) → IsListOf f a b list → (p : Posting) → Contains list p ↔ IsLongest f a b p

-- The frequency of a union is that of the list that has one.
abbrev pub FrequencyOfUnion : Type 0
FrequencyOfUnion = (one other union : List Posting) → IsList one → IsList other → IsUnion one other union → (d t : ℕ)
    → frequency d t union ≡ frequency d t (one ++ other)

-- The lists of a frequency over two intervals that touch, joined: whatever is coalesced and has the rows of their
-- union is the list over both.
abbrev pub JoinOfListsOf : Type 0
JoinOfListsOf =
    (f : ℕ → ℕ → ℕ) (a h b : ℕ) (x y union joined : List Posting) → a ≤ h → h ≤ b → IsListOf f a h x → IsListOf f h b y
    → IsUnion x y union → IsList joined → IsCoalesced joined → SameRows joined union → IsListOf f a b joined

-- The size of a sublist is the number of postings that have begun at its end less that of those that are over at its start.
abbrev pub SizeIsBegunLessEnded : Type 0
SizeIsBegunLessEnded = (list : List Posting) (f g : ℕ) → f < g → size f g list + ended f list ≡ begun g list

-- Each frequency below 2^32 that no document from 2^32 on has is given by a list, over each interval of time.
abbrev pub EachFrequencyHasAList : Type 0
EachFrequencyHasAList =
    (f : ℕ → ℕ → ℕ) (a b : ℕ) → b ≤ 2 ^ 40 → ((d t : ℕ) → f d t < 2 ^ 32) → ((d t : ℕ) → 2 ^ 32 ≤ d → f d t ≡ 0)
    → (list : List Posting) × IsListOf f a b list
