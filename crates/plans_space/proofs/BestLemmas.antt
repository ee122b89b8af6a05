-- What is chosen is best, and costs what it says.
use Rattle.std.specs.Prelude.{◌≡◌, ◌⊎◌, ◌↔◌, ℕ, ◌+◌, ◌-◌, ◌*◌, ◌<◌, ◌≤◌, Option, Some, List, [], ◌∷◌, map, drop, length, slice_index, refl}
use Rattle.std.proofs.Common.{arith, ap, sym, ◌∙◌, subst, inl, inr}
use Rattle.base_types.specs.declared.posting.Posting.{Posting}
use Rattle.base_types.specs.declared.fraction.Fraction.{Fraction}
use Rattle.lists_postings.specs.Sizes.{ended}
use Rattle.plans_partitions.specs.Counts.{Counts, Tabulates, size_between}
use Rattle.plans_partitions.proofs.Places.{rises}
use Rattle.plans_partitions.proofs.Tables.{last_is_horizon, postings_is, none_ended, count_at}
use Rattle.plans_space.specs.Caps.{cap, unit, budget}
use Rattle.plans_space.specs.Costs.{Ascends, along, charges, expected_cost}
use Rattle.plans_space.specs.Plans.{IsWithin, IsEligible, IsBestUnder, IsFall, IsFront}
use Rattle.plans_space.specs.Steps.{Falls, IsLeastOf, IsLeast, IsPath, IsCell, cell, lesser, IsChosen, IsSurvey, whole_cost, leg_charge, leg_cost, IsFallAt, ArePoints}
use Rattle.plans_space.specs.declared.point.Point.{Point}
use Rattle.plans_space.proofs.LeastLemmas.{least_by, least_either}
use Rattle.plans_space.proofs.StopLemmas.{stop_first, stop_last}
use Rattle.plans_space.proofs.CutLemmas.{one_leg}
use Rattle.plans_space.proofs.PlanLemmas.{path_ascends, path_candidates, path_charges, path_costs, path_of}

count_is : (list : List Posting) (horizon : ℕ) (table : Counts) → 2 ≤ length table.boundaries → Tabulates list horizon table → size_between table 0 (length table.boundaries - 1) ≡ length list
count_is list horizon table many t = omega (arith, postings_is list horizon table t, count_at (λ x. ended x list) table.boundaries table.ended t.ended 0 (omega (arith, many)), none_ended list horizon table.boundaries t.boundaries)

module _ (list : List Posting) (horizon : ℕ) (table : Counts) (factor : Fraction) (unit' budget' : ℕ) (weights sums places : List ℕ) (cells : List (Option ℕ)) (t : Tabulates list horizon table)
    (s : IsSurvey table factor unit' budget' weights sums places cells) where
  pub end_is : slice_index table.boundaries (slice_index places 0) ≡ horizon
  end_is = ap (λ p. slice_index table.boundaries p) (stop_last (length table.boundaries) places s.stops) ∙ last_is_horizon list horizon table.boundaries t.boundaries t.early

  start_is : slice_index table.boundaries (slice_index places (length places - 1)) ≡ slice_index table.boundaries 0
  start_is = ap (λ p. slice_index table.boundaries p) (stop_first (length table.boundaries) places s.stops)

  top : length places - 1 < length places
  top = omega (arith, s.stops.some)

  -- a path of stops is a partition that may cut there
  within_of : (path : List ℕ) (c : ℕ) → IsPath (leg_charge table unit' places) (length places - 1) c path
      → IsWithin list table.boundaries unit' c (slice_index table.boundaries 0) horizon (map (λ k. slice_index table.boundaries (slice_index places k)) path)
  within_of path c p = subst (λ x. IsWithin list table.boundaries unit' c x horizon (map (λ k. slice_index table.boundaries (slice_index places k)) path)) start_is (record {
    ascends = subst (λ y. Ascends (slice_index table.boundaries (slice_index places (length places - 1))) (map (λ k. slice_index table.boundaries (slice_index places k)) path) y) end_is (path_ascends list horizon table unit' weights sums places s.many t s.stops s.long s.sums_are (length places - 1) path top p.0);
    candidates = path_candidates list horizon table unit' weights sums places s.many t s.stops s.long s.sums_are (length places - 1) path top p.0;
    charged = omega (arith, path_charges list horizon table unit' weights sums places s.many t s.stops s.long s.sums_are (length places - 1) path top p.0, p.1);
  })

  cost_of : (path : List ℕ) → Falls (length places - 1) path
      → expected_cost list (slice_index table.boundaries 0) (map (λ k. slice_index table.boundaries (slice_index places k)) path) table.boundaries weights ≡ along (leg_cost table sums places) (length places - 1) path
  cost_of path f = subst (λ x. expected_cost list x (map (λ k. slice_index table.boundaries (slice_index places k)) path) table.boundaries weights ≡ along (leg_cost table sums places) (length places - 1) path) start_is
      (path_costs list horizon table unit' weights sums places s.many t s.stops s.long s.sums_are (length places - 1) path top f)

  -- and the other way round
  path_within : (cuts : List ℕ) (c : ℕ) → IsWithin list table.boundaries unit' c (slice_index table.boundaries 0) horizon cuts
      → (path : List ℕ) × IsPath (leg_charge table unit' places) (length places - 1) c path × (expected_cost list (slice_index table.boundaries 0) cuts table.boundaries weights ≡ along (leg_cost table sums places) (length places - 1) path)
  path_within cuts c w = go (path_of list horizon table unit' weights sums places s.many t s.stops s.long s.sums_are cuts (length places - 1) top
      (subst (λ x. Ascends x cuts (slice_index table.boundaries (slice_index places 0))) (sym start_is) (subst (λ y. Ascends (slice_index table.boundaries 0) cuts y) (sym end_is) w.ascends)) w.candidates)
    where
      go : ((path : List ℕ) × Falls (length places - 1) path × (map (λ k. slice_index table.boundaries (slice_index places k)) path ≡ cuts))
          → (path : List ℕ) × IsPath (leg_charge table unit' places) (length places - 1) c path × (expected_cost list (slice_index table.boundaries 0) cuts table.boundaries weights ≡ along (leg_cost table sums places) (length places - 1) path)
      go (path, f, e) = (
        path,
        (f, omega (arith, path_charges list horizon table unit' weights sums places s.many t s.stops s.long s.sums_are (length places - 1) path top f, w.charged, ap (λ x. charges list unit' x (map (λ k. slice_index table.boundaries (slice_index places k)) path)) start_is, ap (λ (y : List ℕ). charges list unit' (slice_index table.boundaries 0) y) e)),
        ap (λ (y : List ℕ). expected_cost list (slice_index table.boundaries 0) y table.boundaries weights) (sym e) ∙ cost_of path f,
      )

  -- so the least cost of the ones is that of the others
  least_within : (c : ℕ) (o : Option ℕ) → IsCell (leg_charge table unit' places) (leg_cost table sums places) (length places - 1) c o
      → IsLeast (IsWithin list table.boundaries unit' c (slice_index table.boundaries 0) horizon) (λ cuts. expected_cost list (slice_index table.boundaries 0) cuts table.boundaries weights) o
  least_within c o = least_by (IsPath (leg_charge table unit' places) (length places - 1) c) (IsWithin list table.boundaries unit' c (slice_index table.boundaries 0) horizon) (along (leg_cost table sums places) (length places - 1)) (λ cuts. expected_cost list (slice_index table.boundaries 0) cuts table.boundaries weights) o
      (λ path p. (map (λ k. slice_index table.boundaries (slice_index places k)) path, within_of path c p, cost_of path p.0)) (λ cuts w. path_within cuts c w)

  -- the cost of the one piece
  pub before_end : slice_index table.boundaries 0 < horizon
  before_end = omega (arith, rises table.boundaries t.boundaries.ascending 0 (length table.boundaries - 1) (omega (arith, s.many)) (omega (arith, s.many)), last_is_horizon list horizon table.boundaries t.boundaries t.early)

  leg_whole : leg_cost table sums places (length places - 1) 0 ≡ whole_cost table sums
  leg_whole = ap (λ p. (slice_index sums (slice_index places 0) - slice_index sums p) * size_between table p (slice_index places 0)) (stop_first (length table.boundaries) places s.stops)
      ∙ ap (λ p. (slice_index sums p - slice_index sums 0) * size_between table 0 p) (stop_last (length table.boundaries) places s.stops)

  pub piece_cost : expected_cost list (slice_index table.boundaries 0) (horizon ∷ []) table.boundaries weights ≡ whole_cost table sums
  piece_cost = ap (λ x. expected_cost list (slice_index table.boundaries 0) (x ∷ []) table.boundaries weights) (sym end_is) ∙ (cost_of (0 ∷ []) (one_leg table.boundaries places s.many t.boundaries.ascending s.stops) ∙ omega (arith, leg_whole))

  -- the limits by the list
  unit_by : unit' ≡ unit (cap factor (length list))
  unit_by = s.unit_is ∙ ap (λ n. unit (cap factor n)) (count_is list horizon table s.many t)

  budget_by : budget' ≡ budget (cap factor (length list))
  budget_by = s.budget_is ∙ ap (λ n. budget (cap factor n)) (count_is list horizon table s.many t)

  -- the least cost of all that may be chosen
  least_of_eligible : IsLeast (IsEligible list table.boundaries factor (slice_index table.boundaries 0) horizon) (λ cuts. expected_cost list (slice_index table.boundaries 0) cuts table.boundaries weights)
      (lesser (Some (whole_cost table sums)) (cell cells (budget' + 1) (length places - 1) budget'))
  least_of_eligible = least_either (λ cuts. (slice_index table.boundaries 0 < horizon) × (cuts ≡ horizon ∷ [])) (IsWithin list table.boundaries (unit (cap factor (length list))) (budget (cap factor (length list))) (slice_index table.boundaries 0) horizon)
      (IsEligible list table.boundaries factor (slice_index table.boundaries 0) horizon) (λ cuts. expected_cost list (slice_index table.boundaries 0) cuts table.boundaries weights) (Some (whole_cost table sums)) (cell cells (budget' + 1) (length places - 1) budget')
      (λ x e. e) (λ x e. e) (record { list = horizon ∷ []; is = (before_end, refl); takes = piece_cost; least = λ x e. omega (arith, piece_cost, ap (λ (y : List ℕ). expected_cost list (slice_index table.boundaries 0) y table.boundaries weights) e.1) })
      (subst (λ u. IsLeast (IsWithin list table.boundaries u (budget (cap factor (length list))) (slice_index table.boundaries 0) horizon) (λ cuts. expected_cost list (slice_index table.boundaries 0) cuts table.boundaries weights) (cell cells (budget' + 1) (length places - 1) budget')) unit_by
      (subst (λ b. IsLeast (IsWithin list table.boundaries unit' b (slice_index table.boundaries 0) horizon) (λ cuts. expected_cost list (slice_index table.boundaries 0) cuts table.boundaries weights) (cell cells (budget' + 1) (length places - 1) budget')) budget_by
      (least_within budget' (cell cells (budget' + 1) (length places - 1) budget') (s.cells_are.each (length places - 1) budget' top (omega arith)))))

  pub chosen_best : (cuts : List ℕ) (v : ℕ) → IsChosen table unit' budget' sums places cells cuts v
      → IsBestUnder list table.boundaries weights factor (slice_index cuts 0) horizon (drop 1 cuts) × (v ≡ expected_cost list (slice_index cuts 0) (drop 1 cuts) table.boundaries weights)
  chosen_best cuts v (least, way) = elim way [
    | inl (e, f) ↦ from (horizon ∷ []) (e ∙ ap (λ x. slice_index table.boundaries 0 ∷ x ∷ []) (last_is_horizon list horizon table.boundaries t.boundaries t.early)) (inl (before_end, refl)) (omega (arith, f, piece_cost))
    | inr w ↦ from (map (λ k. slice_index table.boundaries (slice_index places k)) w.path) (w.are ∙ ap (λ x. x ∷ map (λ k. slice_index table.boundaries (slice_index places k)) w.path) start_is)
        (inr (subst (λ u. IsWithin list table.boundaries u (budget (cap factor (length list))) (slice_index table.boundaries 0) horizon (map (λ k. slice_index table.boundaries (slice_index places k)) w.path)) unit_by
        (within_of w.path (budget (cap factor (length list))) (w.falls, omega (arith, w.within, budget_by))))) (omega (arith, w.takes, cost_of w.path w.falls))
  ]
    where
      all : IsLeastOf (IsEligible list table.boundaries factor (slice_index table.boundaries 0) horizon) (λ cuts. expected_cost list (slice_index table.boundaries 0) cuts table.boundaries weights) v
      all = subst (λ (o : Option ℕ). IsLeast (IsEligible list table.boundaries factor (slice_index table.boundaries 0) horizon) (λ cuts. expected_cost list (slice_index table.boundaries 0) cuts table.boundaries weights) o) least least_of_eligible

      from : (rest : List ℕ) → cuts ≡ slice_index table.boundaries 0 ∷ rest → IsEligible list table.boundaries factor (slice_index table.boundaries 0) horizon rest → expected_cost list (slice_index table.boundaries 0) rest table.boundaries weights ≤ v
          → IsBestUnder list table.boundaries weights factor (slice_index cuts 0) horizon (drop 1 cuts) × (v ≡ expected_cost list (slice_index cuts 0) (drop 1 cuts) table.boundaries weights)
      from rest e may k = subst (λ (y : List ℕ). IsBestUnder list table.boundaries weights factor (slice_index y 0) horizon (drop 1 y) × (v ≡ expected_cost list (slice_index y 0) (drop 1 y) table.boundaries weights)) (sym e)
          (record { eligible = may; best = λ other o. omega (arith, all.least other o, k) }, omega (arith, all.least rest may, k))

  -- the points are a front
  fall_of : (c v : ℕ) → IsFallAt (leg_charge table unit' places) (leg_cost table sums places) (length places - 1) c v → IsFall list table.boundaries weights unit' (slice_index table.boundaries 0) horizon c v
  fall_of c v f =
      let h : IsLeastOf (IsWithin list table.boundaries unit' c (slice_index table.boundaries 0) horizon) (λ cuts. expected_cost list (slice_index table.boundaries 0) cuts table.boundaries weights) v = least_within c (Some v) f.least in
      record { cuts = h.list; within = h.is; takes = h.takes; least = h.least; falls = λ other most lt w. go most lt other (path_within other most w) }
    where
      go : (most : ℕ) → most < c → (other : List ℕ) → (path : List ℕ) × IsPath (leg_charge table unit' places) (length places - 1) most path × (expected_cost list (slice_index table.boundaries 0) other table.boundaries weights ≡ along (leg_cost table sums places) (length places - 1) path)
          → v < expected_cost list (slice_index table.boundaries 0) other table.boundaries weights
      go most lt other (path, p, e) = omega (arith, f.falls path p.0 (omega (arith, p.1, lt)), e)

  fall_from : (c v : ℕ) → IsFall list table.boundaries weights unit' (slice_index table.boundaries 0) horizon c v → IsFallAt (leg_charge table unit' places) (leg_cost table sums places) (length places - 1) c v
  fall_from c v f = record {
    least = least_by (IsWithin list table.boundaries unit' c (slice_index table.boundaries 0) horizon) (IsPath (leg_charge table unit' places) (length places - 1) c) (λ cuts. expected_cost list (slice_index table.boundaries 0) cuts table.boundaries weights) (along (leg_cost table sums places) (length places - 1)) (Some v)
        (λ cuts w. let p : (path : List ℕ) × IsPath (leg_charge table unit' places) (length places - 1) c path × (expected_cost list (slice_index table.boundaries 0) cuts table.boundaries weights ≡ along (leg_cost table sums places) (length places - 1) path) = path_within cuts c w in (p.0, p.1, sym p.2))
        (λ path p. (map (λ k. slice_index table.boundaries (slice_index places k)) path, within_of path c p, sym (cost_of path p.0))) (record { list = f.cuts; is = f.within; takes = f.takes; least = f.least });
    falls = λ other g l. omega (arith, f.falls (map (λ k. slice_index table.boundaries (slice_index places k)) other) (along (leg_charge table unit' places) (length places - 1) other) l (within_of other (along (leg_charge table unit' places) (length places - 1) other) (g, omega arith)), cost_of other g);
  }

  pub front_is : (points : List Point) → ArePoints (leg_charge table unit' places) (leg_cost table sums places) (length places - 1) (budget' + 1) points → IsFront list table.boundaries weights factor (slice_index table.boundaries 0) horizon points
  front_is points a = record {
    ascending = a.ascending;
    each = λ p. (
      λ c. let h : (p.charge < budget' + 1) × IsFallAt (leg_charge table unit' places) (leg_cost table sums places) (length places - 1) p.charge p.cost = (a.each p).0 c in
          (omega (arith, h.0, budget_by), subst (λ u. IsFall list table.boundaries weights u (slice_index table.boundaries 0) horizon p.charge p.cost) unit_by (fall_of p.charge p.cost h.1)),
      λ h. (a.each p).1 (omega (arith, h.0, budget_by), fall_from p.charge p.cost (subst (λ u. IsFall list table.boundaries weights u (slice_index table.boundaries 0) horizon p.charge p.cost) (sym unit_by) h.1)),
    );
  }

  -- ---- a partition that is there

  -- one of a path of stops that keeps the budget may be chosen, and costs what the path does
  pub path_eligible : (cuts path : List ℕ) → Falls (length places - 1) path → map (λ k. slice_index table.boundaries (slice_index places k)) path ≡ cuts → along (leg_charge table unit' places) (length places - 1) path ≤ budget'
      → IsEligible list table.boundaries factor (slice_index table.boundaries 0) horizon cuts
      × (along (leg_cost table sums places) (length places - 1) path ≡ expected_cost list (slice_index table.boundaries 0) cuts table.boundaries weights)
  path_eligible cuts path falls are within =
      subst (λ (l : List ℕ). IsEligible list table.boundaries factor (slice_index table.boundaries 0) horizon l × (along (leg_cost table sums places) (length places - 1) path ≡ expected_cost list (slice_index table.boundaries 0) l table.boundaries weights)) are (
        inr (subst (λ u. IsWithin list table.boundaries u (budget (cap factor (length list))) (slice_index table.boundaries 0) horizon (map (λ k. slice_index table.boundaries (slice_index places k)) path)) unit_by
            (within_of path (budget (cap factor (length list))) (falls, omega (arith, within, budget_by)))),
        sym (cost_of path falls),
      )

  -- one that may be chosen is the one piece, or one of such a path
  pub eligible_path : (cuts : List ℕ) → IsEligible list table.boundaries factor (slice_index table.boundaries 0) horizon cuts
      → (cuts ≡ horizon ∷ []) ⊎ ((path : List ℕ) × Falls (length places - 1) path × (map (λ k. slice_index table.boundaries (slice_index places k)) path ≡ cuts) × (along (leg_charge table unit' places) (length places - 1) path ≤ budget'))
  eligible_path cuts e = elim e [ inl piece ↦ inl piece.1 | inr w ↦ inr (from w) ]
    where
      from : IsWithin list table.boundaries (unit (cap factor (length list))) (budget (cap factor (length list))) (slice_index table.boundaries 0) horizon cuts
          → (path : List ℕ) × Falls (length places - 1) path × (map (λ k. slice_index table.boundaries (slice_index places k)) path ≡ cuts) × (along (leg_charge table unit' places) (length places - 1) path ≤ budget')
      from w =
          let here = subst (λ u. IsWithin list table.boundaries u (budget (cap factor (length list))) (slice_index table.boundaries 0) horizon cuts) (sym unit_by) w in
          let p = path_of list horizon table unit' weights sums places s.many t s.stops s.long s.sums_are cuts (length places - 1) top
          (subst (λ x. Ascends x cuts (slice_index table.boundaries (slice_index places 0))) (sym start_is) (subst (λ y. Ascends (slice_index table.boundaries 0) cuts y) (sym end_is) here.ascends)) here.candidates in (
            p.0,
            p.1,
            p.2,
            omega (
              arith,
              path_charges list horizon table unit' weights sums places s.many t s.stops s.long s.sums_are (length places - 1) p.0 top p.1,
              here.charged,
              budget_by,
              ap (λ x. charges list unit' x (map (λ k. slice_index table.boundaries (slice_index places k)) p.0)) start_is,
              ap (λ (y : List ℕ). charges list unit' (slice_index table.boundaries 0) y) p.2,
            ),
          )

-- of two partitions that may be chosen, one of which is best, the other is best where it costs as much
pub as_good : (list : List Posting) (times weights : List ℕ) (factor : Fraction) (f g horizon : ℕ) (cuts best : List ℕ) (cost least : ℕ) → g ≡ f → IsEligible list times factor f horizon cuts
    → cost ≡ expected_cost list f cuts times weights → IsBestUnder list times weights factor g horizon best → least ≡ expected_cost list g best times weights
    → (cost ≡ least) ↔ IsBestUnder list times weights factor f horizon cuts
as_good list times weights factor f g horizon cuts best cost least same may cost_is is least_is =
    let E : ℕ → List ℕ → Type 0 = λ x l. IsEligible list times factor x horizon l in (
      (λ e. record {
        eligible = may;
        best = λ other o. omega (arith, e, cost_is, least_is, is.best other (subst (λ x. E x other) (sym same) o), ap (λ x. expected_cost list x other times weights) same);
      }),
      (λ b. omega (
        arith,
        cost_is,
        least_is,
        b.best best (subst (λ x. E x best) same is.eligible),
        is.best cuts (subst (λ x. E x cuts) (sym same) may),
        ap (λ x. expected_cost list x best times weights) same,
        ap (λ x. expected_cost list x cuts times weights) same,
      )),
    )
