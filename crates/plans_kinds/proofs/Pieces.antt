-- The segments of a partition, by its cuts and their sizes.
use Rattle.std.proofs.Common.{◌≡◌, ℕ, ◌<◌, ◌≤◌, ◌^◌, List, [], ◌∷◌, drop, length, map, get_or, All, Contains, refl, ap, sym, subst, ◌∙◌, arith}
use Rattle.std.specs.List.{zip}
use Rattle.std.proofs.lemmas.List.Elements.{All-contains, All-weaker}
use Rattle.base_types.specs.declared.posting.Posting.{Posting}
use Rattle.base_types.specs.declared.fraction.Fraction.{Fraction}
use Rattle.base_types.proofs.Equal.{same_span}
use Rattle.lists_postings.specs.Sizes.{size}
use Rattle.plans_partitions.specs.Partitions.{sizes, space, Covers, IsFitting, AreBest}
use Rattle.plans_partitions.proofs.Ordering.{each_has_boundaries, one_list_of_boundaries}
use Rattle.plans_partitions.proofs.Bests.{each_has_best, one_list_of_best, each_has_a_least, covers_to}
use Rattle.plans_kinds.specs.declared.proposal.Segment.{Segment}
use Rattle.plans_kinds.specs.declared.proposal.Node.{Node}
use Rattle.plans_kinds.specs.Proposals.{pieces, paired, bare_segment, bare_node, AreSegments, AreNodes, IsShown}
use Rattle.plans_kinds.specs.ProposalLaws.{EachListHasAProposal, EachPartitionIsShown, PartitionsAreShownOnce, ProposalsDifferInSegments}

pub paired_pieces : (list : List Posting) (f : ℕ) (cuts : List ℕ) → paired f cuts (sizes list f cuts) ≡ pieces list f cuts
paired_pieces list f [] = refl
paired_pieces list f (g ∷ cuts) = ap (λ (l : List (ℕ × ℕ × ℕ)). (f, g, size f g list) ∷ l) (paired_pieces list g cuts)

-- a partition's segments as they are shown
segmented : (list : List Posting) (factor : Fraction) (cuts : List ℕ) (f end : ℕ) → Covers list factor f cuts end → end ≤ 2 ^ 40 → (segments : List Segment) × AreSegments list f cuts segments
segmented list factor [] f end c now = ([], refl)
segmented list factor (g ∷ cuts) f end c now =
    let (segments, are) = segmented list factor cuts g end c.2 now in
    let first : Segment = record { span = record { from = f; to = g; ordered = c.0; in_time = omega (arith, now, covers_to list factor cuts g end c.2) }; size = size f g list } in
    (first ∷ segments, ap (λ (l : List (ℕ × ℕ × ℕ)). (f, g, size f g list) ∷ l) are)

numbered : (times numbers : List ℕ) → (nodes : List Node) × AreNodes times numbers nodes
numbered [] numbers = ([], refl)
numbered (t ∷ times) [] = ([], refl)
numbered (t ∷ times) (n ∷ numbers) =
    let (nodes, are) = numbered times numbers in
    (record { at = t; pi = n } ∷ nodes, ap (λ (l : List (ℕ × ℕ)). (t, n) ∷ l) are)

-- what is shown of a partition
pub shown : EachPartitionIsShown
shown list factor horizon first cuts now early covers =
    let (times, b) = each_has_boundaries list horizon in
    let (numbers, best) = each_has_best list factor horizon times early b in
    let (segments, segments_are) = segmented list factor cuts first horizon covers now in
    let (nodes, nodes_are) = numbered times numbers in
    (segments, (nodes, record { segments_are = segments_are; total_is = refl; times = times; numbers = numbers; best = best; nodes_are = nodes_are }))

pub each_has_a_proposal : EachListHasAProposal
each_has_a_proposal list factor horizon now early =
    let (first, (cuts, least)) = each_has_a_least list factor horizon early in
    let (segments, (nodes, is)) = shown list factor horizon first cuts now early least.covers in
    (segments, (nodes, (space list first cuts, record { first = first; cuts = cuts; least = least; shown = is })))

-- what is shown of nodes is all of them
pub maps_same : {X Y : Type 0} (f : X → Y) → ((x y : X) → f x ≡ f y → x ≡ y) → (a b : List X) → map f a ≡ map f b → a ≡ b
maps_same f one [] [] e = refl
maps_same f one [] (y ∷ b) e = absurd (omega (arith, ap length e))
maps_same f one (x ∷ a) [] e = absurd (omega (arith, ap length e))
maps_same {X = X} {Y = Y} f one (x ∷ a) (y ∷ b) e =
    ap (λ (z : X). z ∷ a) (one x y (ap (λ (l : List Y). get_or l 0 (f x)) e)) ∙ ap (λ (l : List X). y ∷ l) (maps_same f one a b (ap (λ (l : List Y). drop 1 l) e))

same_node : (m n : Node) → bare_node m ≡ bare_node n → m ≡ n
same_node m n e = λ i. record { at = (e i).0; pi = (e i).1 }

-- whatever partitions are shown of a list, the numbers are the same
same_nodes : (list : List Posting) (factor : Fraction) (horizon f g : ℕ) (cuts others : List ℕ) (segments rest : List Segment) (nodes those : List Node) (total sum : ℕ)
    → IsShown list factor horizon f cuts segments nodes total → IsShown list factor horizon g others rest those sum → nodes ≡ those
same_nodes list factor horizon f g cuts others segments rest nodes those total sum p q =
    let times : p.times ≡ q.times = one_list_of_boundaries list horizon p.times q.times p.best.times_are q.best.times_are in
    let best = subst (λ (ts : List ℕ). AreBest list factor horizon ts p.numbers) times p.best in
    let numbers : p.numbers ≡ q.numbers = one_list_of_best list factor horizon q.times p.numbers q.numbers best q.best in
    maps_same bare_node same_node nodes those (p.nodes_are ∙ ap (λ (ts : List ℕ). zip ts p.numbers) times ∙ ap (λ (ns : List ℕ). zip q.times ns) numbers ∙ sym q.nodes_are)

pub differ_in_segments : ProposalsDifferInSegments
differ_in_segments list factor horizon segments others nodes those total sum p q =
    let first : p.first ≡ q.first = omega (arith, p.least.first.none_before q.first q.least.first.is, q.least.first.none_before p.first p.least.first.is) in
    let over = p.least.least q.cuts (subst (λ f. Covers list factor f q.cuts horizon) (sym first) q.least.covers) in
    let under = q.least.least p.cuts (subst (λ f. Covers list factor f p.cuts horizon) first p.least.covers) in (
      same_nodes list factor horizon p.first q.first p.cuts q.cuts segments others nodes those total sum p.shown q.shown,
      omega (arith, over, under, p.shown.total_is, q.shown.total_is, ap (λ f. space list f p.cuts) first, ap (λ f. space list f q.cuts) first),
    )

-- what is shown of a segment is all of it
same_segment : (s r : Segment) → bare_segment s ≡ bare_segment r → s ≡ r
same_segment s r e = λ i. record { span = same_span s.span r.span (λ j. (e j).0) (λ j. (e j).1) i; size = (e i).2 }

pub shown_once : PartitionsAreShownOnce
shown_once list factor horizon first cuts segments others nodes those total sum p q = (
  maps_same bare_segment same_segment segments others (p.segments_are ∙ sym q.segments_are),
  same_nodes list factor horizon first first cuts cuts segments others nodes those total sum p q,
  p.total_is ∙ sym q.total_is,
)

-- cuts that fit boundaries are times
pub fitting_times : (times cuts : List ℕ) → IsFitting times cuts → All (λ x. x < 2 ^ 40) times → All (λ x. x < 2 ^ 40) cuts
fitting_times times cuts fits early = All-weaker (Contains times) (λ x. x < 2 ^ 40) (λ x c. All-contains (λ x. x < 2 ^ 40) times x early c) cuts fits.inside
