-- A plan as it is shown: its segments with their sizes, and the least space up to each boundary.
use Rattle.std.specs.Prelude.{◌≡◌, ℕ, List, [], ◌∷◌, map}
use Rattle.std.specs.List.{zip}
use Rattle.base_types.specs.declared.posting.Posting.{Posting}
use Rattle.base_types.specs.declared.fraction.Fraction.{Fraction}
use Rattle.lists_postings.specs.Sizes.{size}
use Rattle.plans_partitions.specs.Partitions.{IsLeast, AreBest, space}
use Rattle.plans_kinds.specs.declared.proposal.Segment.{Segment}
use Rattle.plans_kinds.specs.declared.proposal.Node.{Node}

-- the segments of a partition from its first cut along the later ones: where each begins and ends, and the size of its sublist
abbrev pub pieces : List Posting → ℕ → List ℕ → List (ℕ × ℕ × ℕ)
pieces list f [] = []
pieces list f (g ∷ cuts) = (f, g, size f g list) ∷ pieces list g cuts

-- the same of cuts with the sizes beside them
abbrev pub paired : ℕ → List ℕ → List ℕ → List (ℕ × ℕ × ℕ)
paired f (g ∷ cuts) (s ∷ sizes) = (f, g, s) ∷ paired g cuts sizes
paired f [] sizes = []
paired f (g ∷ cuts) [] = []

-- what is shown of a segment and of a boundary
abbrev pub bare_segment : Segment → ℕ × ℕ × ℕ
bare_segment s = (s.span.from, s.span.to, s.size)

abbrev pub bare_node : Node → ℕ × ℕ
bare_node n = (n.at, n.pi)

-- These are the segments of a partition of the list with their sizes; and these are boundaries, each with its number.
abbrev pub AreSegments : List Posting → ℕ → List ℕ → List Segment → Type 0
AreSegments list f cuts segments = map bare_segment segments ≡ pieces list f cuts

abbrev pub AreNodes : List ℕ → List ℕ → List Node → Type 0
AreNodes times numbers nodes = map bare_node nodes ≡ zip times numbers

-- What is shown of a partition of a list: its segments, its space, and for each boundary of the list the least space up to there.
pub record IsShown (list : List Posting) (factor : Fraction) (horizon first : ℕ) (cuts : List ℕ) (segments : List Segment)
    (nodes : List Node) (total : ℕ) : Type 0 where
  pub segments_are : AreSegments list first cuts segments
  pub total_is : total ≡ space list first cuts
  pub times : List ℕ
  pub numbers : List ℕ
  pub best : AreBest list factor horizon times numbers
  pub nodes_are : AreNodes times numbers nodes

-- What is proposed for a list: any least partition, as it is shown.
pub record IsProposal (list : List Posting) (factor : Fraction) (horizon : ℕ) (segments : List Segment) (nodes : List Node)
    (total : ℕ) : Type 0 where
  pub first : ℕ
  pub cuts : List ℕ
  pub least : IsLeast list factor first cuts horizon
  pub shown : IsShown list factor horizon first cuts segments nodes total
