-- There is a proposal for each list, and all of them are the same but for the segments; each partition is shown in one way.
use Rattle.std.specs.Prelude.{◌≡◌, ℕ, ◌^◌, ◌≤◌, List, All}
use Rattle.base_types.specs.declared.posting.Posting.{Posting}
use Rattle.base_types.specs.declared.fraction.Fraction.{Fraction}
use Rattle.plans_partitions.specs.Partitions.{Covers, space}
use Rattle.plans_kinds.specs.declared.proposal.Segment.{Segment}
use Rattle.plans_kinds.specs.declared.proposal.Node.{Node}
use Rattle.plans_kinds.specs.Proposals.{IsProposal, IsShown}

-- A list whose spans end at or before the horizon has a proposal, for each factor.
abbrev pub EachListHasAProposal : Type 0
EachListHasAProposal =
    (list : List Posting) (factor : Fraction) (horizon : ℕ) → horizon ≤ 2 ^ 40 → All (λ p. p.span.to ≤ horizon) list
    → (segments : List Segment) × ((nodes : List Node) × ((total : ℕ) × IsProposal list factor horizon segments nodes total))

-- Two proposals for a list have the same nodes and the same space.
abbrev pub ProposalsDifferInSegments : Type 0
ProposalsDifferInSegments =
    (list : List Posting) (factor : Fraction) (horizon : ℕ) (segments others : List Segment) (nodes those : List Node) (total sum : ℕ)
    → IsProposal list factor horizon segments nodes total → IsProposal list factor horizon others those sum
    → (nodes ≡ those) × (total ≡ sum)

-- Each admissible partition of a list can be shown.
abbrev pub EachPartitionIsShown : Type 0
EachPartitionIsShown =
    (list : List Posting) (factor : Fraction) (horizon first : ℕ) (cuts : List ℕ) → horizon ≤ 2 ^ 40 → All (λ p. p.span.to ≤ horizon) list
    → Covers list factor first cuts horizon
    → (segments : List Segment) × ((nodes : List Node) × IsShown list factor horizon first cuts segments nodes (space list first cuts))

-- A partition is shown in one way.
abbrev pub PartitionsAreShownOnce : Type 0
PartitionsAreShownOnce =
    (list : List Posting) (factor : Fraction) (horizon first : ℕ) (cuts : List ℕ) (segments others : List Segment) (nodes those : List Node)
    (total sum : ℕ)
    → IsShown list factor horizon first cuts segments nodes total → IsShown list factor horizon first cuts others those sum
    → (segments ≡ others) × (nodes ≡ those) × (total ≡ sum)
