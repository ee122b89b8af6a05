-- The steps of planning. Stops are the candidates, numbered from the last; a leg leads from a stop to a lower one.
use Rattle.std.specs.Prelude.{◌≡◌, ◌⊎◌, ◌↔◌, ℕ, ◌+◌, ◌-◌, ◌*◌, ◌^◌, ◌<◌, ◌≤◌, nat_le, nat_lt, if◌then◌else◌, min, Option, Some, None, List, [], ◌∷◌, ◌++◌, map, length, slice_index, slice_index_or, All, Contains, IfSome}
use Rattle.std.specs.List.Sorted.{IsStrictlyIncreasing}
use Rattle.plans_space.specs.declared.point.Point.{Point}
use Rattle.plans_partitions.specs.Counts.{Counts, size_between}
use Rattle.base_types.specs.declared.fraction.Fraction.{Fraction}
use Rattle.plans_space.specs.Caps.{cap, unit, budget, charge, stride}
use Rattle.plans_space.specs.Costs.{along}
use Rattle.plans_space.specs.declared.steps.Next.{Next}

-- The numbers lead down from i to 0.
abbrev pub Falls : ℕ → List ℕ → Type 0
Falls i [] = i ≡ 0
Falls i (j ∷ path) = (j < i) × Falls j path

-- The places of the stops among so many boundaries, from the last boundary to the first.
pub record AreStops (boundaries : ℕ) (places : List ℕ) : Type 0 where
  pub some : 2 ≤ length places
  pub few : length places ≤ 128
  pub reach : (length places - 1) * stride (boundaries - 1) + 1 ≤ boundaries - 1 + stride (boundaries - 1)
  pub whole : boundaries - 1 ≤ (length places - 1) * stride (boundaries - 1)
  pub each : (i : ℕ) → i < length places → slice_index places i ≡ min ((length places - 1 - i) * stride (boundaries - 1)) (boundaries - 1)

-- The sums of the first weights.
pub record AreSums (weights sums : List ℕ) : Type 0 where
  pub long : length sums ≡ length weights + 1
  pub none : slice_index sums 0 ≡ 0
  pub next : (k : ℕ) → k < length weights → slice_index sums (k + 1) ≡ slice_index sums k + slice_index weights k
  pub small : (k : ℕ) → k < length sums → slice_index sums k ≤ k * 2 ^ 40

-- What the leg from stop i to stop j is charged, and what it costs.
abbrev pub leg_charge : Counts → ℕ → List ℕ → ℕ → ℕ → ℕ
leg_charge table unit places i j = charge unit (size_between table (slice_index places i) (slice_index places j))

abbrev pub leg_cost : Counts → List ℕ → List ℕ → ℕ → ℕ → ℕ
leg_cost table sums places i j = (slice_index sums (slice_index places j) - slice_index sums (slice_index places i)) * size_between table
    (slice_index places i) (slice_index places j)

-- The charges and costs of the legs from stop i to the first n.
pub record AreLegs (table : Counts) (unit : ℕ) (sums places : List ℕ) (i n : ℕ) (charges costs : List ℕ) : Type 0 where
  pub charges_long : length charges ≡ n
  pub costs_long : length costs ≡ n
  pub charge : (j : ℕ) → j < n → slice_index charges j ≡ leg_charge table unit places i j
  pub cost : (j : ℕ) → j < n → slice_index costs j ≡ leg_cost table sums places i j
  pub small : All (λ w. w ≤ 2 ^ 118) costs

-- A list of least cost among those of which something holds.
pub record IsLeastOf (P : List ℕ → Type 0) (cost : List ℕ → ℕ) (v : ℕ) : Type 0 where
  pub list : List ℕ
  pub is : P list
  pub takes : cost list ≡ v
  pub least : (other : List ℕ) → P other → v ≤ cost other

-- The least cost of those lists, where there are any.
abbrev pub IsLeast : (List ℕ → Type 0) → (List ℕ → ℕ) → Option ℕ → Type 0
IsLeast P cost None = (list : List ℕ) → ¬ (P list)
IsLeast P cost (Some v) = IsLeastOf P cost v

-- The numbers are a path from stop i that is charged at most c.
abbrev pub IsPath : (ℕ → ℕ → ℕ) → ℕ → ℕ → List ℕ → Type 0
IsPath charge i c path = Falls i path × (along charge i path ≤ c)

-- The least cost from stop i for at most the charge c, where there is any path.
abbrev pub IsCell : (ℕ → ℕ → ℕ) → (ℕ → ℕ → ℕ) → ℕ → ℕ → Option ℕ → Type 0
IsCell charge cost i c = IsLeast (IsPath charge i c) (along cost i)

-- The cell of stop i for at most the charge c.
abbrev pub cell : List (Option ℕ) → ℕ → ℕ → ℕ → Option ℕ
cell cells width i c = slice_index_or cells (i * width + c) None

-- The cells of the first n stops, for each charge below the width.
pub record AreCells (charge cost : ℕ → ℕ → ℕ) (width : ℕ) (cells : List (Option ℕ)) (n : ℕ) : Type 0 where
  pub long : length cells ≡ n * width
  pub each : (i c : ℕ) → i < n → c < width → IsCell charge cost i c (cell cells width i c)
  pub small : All (λ v. IfSome v (λ w. w ≤ n * 2 ^ 118)) cells

-- A cost and what is added to it.
abbrev pub plus : ℕ → Option ℕ → Option ℕ
plus cost None = None
plus cost (Some rest) = Some (cost + rest)

-- The least cost by the leg to stop j for at most the charge c.
abbrev pub through : List (Option ℕ) → ℕ → List ℕ → List ℕ → ℕ → ℕ → Option ℕ
through cells width charges costs c j = if nat_le (slice_index charges j) c then plus (slice_index costs j)
    (cell cells width j (c - slice_index charges j)) else None

-- The lesser of two costs, where there are any.
abbrev pub lesser : Option ℕ → Option ℕ → Option ℕ
lesser None b = b
lesser (Some v) None = Some v
lesser (Some v) (Some w) = Some (min v w)

-- There is no way among the first n.
abbrev pub IsNoWay : (ℕ → Option ℕ) → ℕ → Type 0
IsNoWay ways n = (j : ℕ) → j < n → ways j ≡ None

-- The one to stop `to` costs v, and none of the first n costs less.
abbrev pub IsBestWay : (ℕ → Option ℕ) → ℕ → ℕ → ℕ → Type 0
IsBestWay ways n to v = (to < n) × (ways to ≡ Some v) × ((j : ℕ) → j < n → IfSome (ways j) (λ w. v ≤ w))

-- The least of the first n costs, where there are any: one of the ways costs so much, and none costs less.
abbrev pub IsLeastWay : (ℕ → Option ℕ) → ℕ → Option ℕ → Type 0
IsLeastWay ways n None = IsNoWay ways n
IsLeastWay ways n (Some v) = (to : ℕ) × IsBestWay ways n to v

-- The best way on among the first n: none where there is no way.
abbrev pub IsBestOf : (ℕ → Option ℕ) → ℕ → Option Next → Type 0
IsBestOf ways n None = IsNoWay ways n
IsBestOf ways n (Some next) = IsBestWay ways n next.to next.cost

-- The cells of one more stop, by its first legs.
pub record IsRow (cells : List (Option ℕ)) (width : ℕ) (charges costs : List ℕ) (row : List (Option ℕ)) (legs : ℕ) : Type 0 where
  pub long : length row ≡ width
  pub each : (c : ℕ) → c < width → IsLeastWay (through cells width charges costs c) legs (slice_index_or row c None)

-- The cuts are the times of a path from stop i that is charged and costs at most so much.
pub record IsCourse (charge cost : ℕ → ℕ → ℕ) (times places : List ℕ) (i c v : ℕ) (cuts : List ℕ) : Type 0 where
  pub path : List ℕ
  pub falls : Falls i path
  pub within : along charge i path ≤ c
  pub takes : along cost i path ≤ v
  pub are : cuts ≡ map (λ k. slice_index times (slice_index places k)) (i ∷ path)

-- What planning goes by, of a table and weights.
pub record IsSurvey (table : Counts) (factor : Fraction) (unit' budget' : ℕ) (weights sums places : List ℕ)
    (cells : List (Option ℕ)) : Type 0 where
  pub many : 2 ≤ length table.boundaries
  pub unit_is : unit' ≡ unit (cap factor (size_between table 0 (length table.boundaries - 1)))
  pub budget_is : budget' ≡ budget (cap factor (size_between table 0 (length table.boundaries - 1)))
  pub stops : AreStops (length table.boundaries) places
  pub long : length weights + 1 ≡ length table.boundaries
  pub sums_are : AreSums weights sums
  pub rising : (j k : ℕ) → j ≤ k → k < length sums → slice_index sums j ≤ slice_index sums k
  pub small : All (λ s. s ≤ 2 ^ 80) sums
  pub cells_are : AreCells (leg_charge table unit' places) (leg_cost table sums places) (budget' + 1) cells (length places)

-- The cost of the one piece.
abbrev pub whole_cost : Counts → List ℕ → ℕ
whole_cost table sums = (slice_index sums (length table.boundaries - 1) - slice_index sums 0) * size_between table 0
    (length table.boundaries - 1)

-- The cuts and their cost, the least of that of the one piece and of what the last cell says: the one piece, or the
-- cuts of a course.
abbrev pub IsChosen : Counts → (unit' budget' : ℕ) → (sums places : List ℕ) → List (Option ℕ) → List ℕ → ℕ → Type 0
IsChosen table unit' budget' sums places cells cuts v =
    (lesser (Some (whole_cost table sums)) (cell cells (budget' + 1) (length places - 1) budget') ≡ Some v)
    × (((cuts ≡ slice_index table.boundaries 0 ∷ slice_index table.boundaries (length table.boundaries - 1) ∷ [])
    × (v ≡ whole_cost table sums))
    ⊎ IsCourse (leg_charge table unit' places) (leg_cost table sums places) table.boundaries places (length places - 1) budget' v cuts)

-- At the charge c the least cost of the lists of which something holds falls to v.
pub record IsFallOf (P : List ℕ → Type 0) (charge cost : List ℕ → ℕ) (c v : ℕ) : Type 0 where
  pub least : IsLeastOf (λ x. P x × (charge x ≤ c)) cost v
  pub falls : (other : List ℕ) → P other → charge other < c → v < cost other

-- The points are those falls at the charges below n, in order.
pub record AreFallsOf (P : List ℕ → Type 0) (charge cost : List ℕ → ℕ) (n : ℕ) (points : List Point) : Type 0 where
  pub ascending : IsStrictlyIncreasing (map (λ p. p.charge) points)
  pub each : (p : Point) → Contains points p ↔ ((p.charge < n) × IsFallOf P charge cost p.charge p.cost)

-- At the charge c the least cost from stop i falls to v.
abbrev pub IsFallAt : (ℕ → ℕ → ℕ) → (ℕ → ℕ → ℕ) → ℕ → ℕ → ℕ → Type 0
IsFallAt charge cost i = IsFallOf (Falls i) (along charge i) (along cost i)

-- The points are the falls at the charges below n, in order.
abbrev pub ArePoints : (ℕ → ℕ → ℕ) → (ℕ → ℕ → ℕ) → ℕ → ℕ → List Point → Type 0
ArePoints charge cost i = AreFallsOf (Falls i) (along charge i) (along cost i)

-- The cost to which the least one falls, where it does.
abbrev pub fall : Option ℕ → Option ℕ → Option ℕ
fall before None = None
fall None (Some v) = Some v
fall (Some w) (Some v) = if nat_lt v w then Some v else None

-- The least cost of those that are charged less than n, where there are any.
abbrev pub IsLeastBefore : (List ℕ → Type 0) → (List ℕ → ℕ) → (List ℕ → ℕ) → ℕ → Option ℕ → Type 0
IsLeastBefore P charge cost n = IsLeast (λ x. P x × (charge x < n)) cost

-- The points, and one more where the cost falls at the charge c.
abbrev pub with_fall : List Point → ℕ → Option ℕ → List Point
with_fall points c None = points
with_fall points c (Some v) = points ++ (record { charge = c; cost = v }) ∷ []

-- These cuts behind a stop are those of a path from it, which is charged and costs so much.
pub record IsWay (table : Counts) (unit' : ℕ) (sums places : List ℕ) (at : ℕ) (cuts : List ℕ) (charged cost : ℕ) : Type 0 where
  pub path : List ℕ
  pub falls : Falls at path
  pub are : map (λ k. slice_index table.boundaries (slice_index places k)) path ≡ cuts
  pub charged_is : charged ≡ along (leg_charge table unit' places) at path
  pub cost_is : cost ≡ along (leg_cost table sums places) at path

-- They are those of no path.
abbrev pub IsNoPath : List ℕ → List ℕ → ℕ → List ℕ → Type 0
IsNoPath times places at cuts = (path : List ℕ) → Falls at path → map (λ k. slice_index times (slice_index places k)) path ≡ cuts → ⊥
