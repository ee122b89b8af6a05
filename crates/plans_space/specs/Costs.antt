-- What a partition is charged and what reading by it is expected to cost. A partition is given by its first cut and
-- the list of its later cuts, of which the last is its end.
use Rattle.std.specs.Prelude.{◌≡◌, ℕ, ◌+◌, ◌*◌, ◌<◌, nat_le, nat_lt, ◌&&◌, if◌then◌else◌, List, [], ◌∷◌}
use Rattle.base_types.specs.declared.posting.Posting.{Posting}
use Rattle.lists_postings.specs.Sizes.{size}
use Rattle.plans_space.specs.Caps.{charge}

-- The cuts ascend from f to the end.
abbrev pub Ascends : ℕ → List ℕ → ℕ → Type 0
Ascends f [] end = f ≡ end
Ascends f (g ∷ cuts) end = (f < g) × Ascends g cuts end

-- A value of each segment, added up along a partition.
abbrev pub along : (ℕ → ℕ → ℕ) → ℕ → List ℕ → ℕ
along value f [] = 0
along value f (g ∷ cuts) = value f g + along value g cuts

-- What the segments of a partition are charged.
abbrev pub charges : List Posting → ℕ → ℕ → List ℕ → ℕ
charges list unit f cuts = along (λ a b. charge unit (size a b list)) f cuts

-- The size of the segment that holds the time.
abbrev pub size_at : List Posting → ℕ → List ℕ → ℕ → ℕ
size_at list f [] t = 0
size_at list f (g ∷ cuts) t = if nat_le f t && nat_lt t g then size f g list else size_at list g cuts t

-- The expected cost: the weight of each elementary interval times the size of the segment that holds it, added up.
-- The weights are those of the intervals that begin at the times, in order; behind the last time there is none.
abbrev pub expected_cost : List Posting → ℕ → List ℕ → List ℕ → List ℕ → ℕ
expected_cost list f cuts [] weights = 0
expected_cost list f cuts (t ∷ times) [] = 0
expected_cost list f cuts (t ∷ times) (w ∷ weights) = w * size_at list f cuts t + expected_cost list f cuts times weights
