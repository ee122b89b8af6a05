-- There is a best partition under a space bound, and a front.
use Rattle.std.specs.Prelude.{◌≡◌, ◌⊎◌, ℕ, zero, suc, ◌+◌, ◌-◌, ◌*◌, ◌<◌, ◌≤◌, Option, Some, None, List, [], ◌∷◌, length, slice_index, All, refl}
use Rattle.std.proofs.Common.{arith, ap, subst, inl, inr}
use Rattle.std.proofs.lemmas.Bool.{cases_lt, cases_eq}
use Rattle.std.proofs.lemmas.List.Elements.{All-nil, All-cons, All-head, All-tail}
use Rattle.base_types.specs.declared.fraction.Fraction.{Fraction}
use Rattle.base_types.specs.declared.posting.Posting.{Posting}
use Rattle.lists_postings.specs.Sizes.{size}
use Rattle.plans_space.specs.Caps.{cap, unit, budget, charge, IsCandidate}
use Rattle.plans_space.specs.Costs.{Ascends, along, charges, expected_cost}
use Rattle.plans_space.specs.Laws.{EachListHasABest, EachListHasAFront}
use Rattle.plans_space.specs.Plans.{IsWithin, IsEligible, IsBestUnder, IsFall, IsFront}
use Rattle.plans_space.specs.Steps.{IsLeast, IsFallOf, AreFallsOf, IsLeastBefore, fall, lesser, plus, with_fall}
use Rattle.plans_space.proofs.CostLemmas.{weighed, cost_by_segments}
use Rattle.plans_space.specs.declared.point.Point.{Point}
use Rattle.plans_space.proofs.FrontLemmas.{front_first, front_more}
use Rattle.plans_space.proofs.LeastLemmas.{least_by, least_either, Begins, least_behind, BeginsBelow, least_of_all, least_way}
use Rattle.plans_space.proofs.ShortLemmas.{place, numbered}

-- whether a time is a candidate is decided by the first 128 numbers
candidate_below : (times : List ℕ) (t n : ℕ) → IsCandidate times t ⊎ ((k : ℕ) → k < n → ¬ (slice_index times (place times k) ≡ t))
candidate_below times t zero = inr (λ k l. absurd (omega (arith, l)))
candidate_below times t (suc n) = elim (cases_eq (slice_index times (place times n)) t) [
  | inl e ↦ inl (n, e)
  | inr not_so ↦ elim (candidate_below times t n) [
    | inl d ↦ inl d
    | inr none ↦ inr (λ k l e. elim (cases_lt k n) [ inl m ↦ none k m e | inr m ↦ let s : k ≡ n = omega (arith, l, m) in not_so (subst (λ i. slice_index times (place times i) ≡ t) s e) ])
  ]
]

candidate_or_not : (times : List ℕ) (t : ℕ) → IsCandidate times t ⊎ ¬ (IsCandidate times t)
candidate_or_not times t = elim (candidate_below times t 128) [
  | inl d ↦ inl d
  | inr none ↦ inr (λ d. let n : (k : ℕ) × (k ≤ 127) × (slice_index times (place times k) ≡ t) = numbered times t d in none n.0 (omega (arith, n.1)) n.2)
]

both_or_not : (A B : Type 0) → A ⊎ ¬ A → B ⊎ ¬ B → (A × B) ⊎ ¬ (A × B)
both_or_not A B (inl a) (inl b) = inl (a, b)
both_or_not A B (inl a) (inr n) = inr (λ h. n h.1)
both_or_not A B (inr n) b = inr (λ h. n h.0)

at_most_or_not : (a b : ℕ) → (a ≤ b) ⊎ ¬ (a ≤ b)
at_most_or_not a b = elim (cases_lt b a) [ inl l ↦ inr (λ h. omega (arith, l, h)) | inr h ↦ inl h ]

-- what a segment costs
abbrev value : List Posting → List ℕ → List ℕ → ℕ → ℕ → ℕ
value list times weights f g = weighed times weights f g * size f g list

-- what is so of a cut behind f that the charge c allows
abbrev Fits : List Posting → List ℕ → ℕ → ℕ → ℕ → ℕ → Type 0
Fits list times u f c g = (f < g) × (IsCandidate times g × (charge u (size f g list) ≤ c))

module _ (list : List Posting) (times weights : List ℕ) (u horizon : ℕ) where
  ends : (cuts : List ℕ) (f : ℕ) → Ascends f cuts horizon → f ≤ horizon
  ends [] f a = omega (arith, a)
  ends (g ∷ cuts) f (l, a) = omega (arith, l, ends cuts g a)

  -- the least cost behind one cut, by that from the cut on
  behind_cut : (f c g : ℕ) → Fits list times u f c g ⊎ ¬ (Fits list times u f c g) → (f < g → (o : Option ℕ) × IsLeast (IsWithin list times u (c - charge u (size f g list)) g horizon) (along (value list times weights) g) o)
      → (o : Option ℕ) × IsLeast (Begins (λ x. IsWithin list times u c f horizon (g ∷ x)) g) (along (value list times weights) f) o
  behind_cut f c g (inr n) rest = (
    None,
    least_behind (λ x. IsWithin list times u c f horizon (g ∷ x)) (λ x. IsWithin list times u c f horizon (g ∷ x)) (along (value list times weights) g) (along (value list times weights) f) g (value list times weights f g) None (λ x. refl) (λ x w. w) (λ x w. w)
        (λ x w. n (w.ascends.0, (All-head (IsCandidate times) g x w.candidates, omega (arith, w.charged)))),
  )
  behind_cut f c g (inl (l, (d, q))) rest = let r : (o : Option ℕ) × IsLeast (IsWithin list times u (c - charge u (size f g list)) g horizon) (along (value list times weights) g) o = rest l in (
    plus (value list times weights f g) r.0,
    least_behind (IsWithin list times u (c - charge u (size f g list)) g horizon) (λ x. IsWithin list times u c f horizon (g ∷ x)) (along (value list times weights) g) (along (value list times weights) f) g (value list times weights f g) r.0 (λ x. refl)
        (λ x w. record { ascends = (l, w.ascends); candidates = All-cons (IsCandidate times) g x d w.candidates; charged = omega (arith, w.charged, q) })
        (λ x w. record { ascends = w.ascends.1; candidates = All-tail (IsCandidate times) g x w.candidates; charged = omega (arith, w.charged, q) }) r.1,
  )

  -- from the end nothing is left to cut
  at_end : (f c : ℕ) → horizon ≤ f → (o : Option ℕ) × IsLeast (IsWithin list times u c f horizon) (along (value list times weights) f) o
  at_end f c l = elim (cases_eq f horizon) [
    | inl e ↦ (Some 0, record { list = []; is = record { ascends = e; candidates = All-nil (IsCandidate times); charged = omega arith }; takes = refl; least = λ x w. omega arith })
    | inr n ↦ (None, λ x w. n (omega (arith, l, ends x f w.ascends)))
  ]

  -- before the end there is a first cut
  cut : (f c : ℕ) → f < horizon → (x : List ℕ) → IsWithin list times u c f horizon x → BeginsBelow (horizon + 1) x
  cut f c l [] w = absurd (omega (arith, l, w.ascends))
  cut f c l (g ∷ x) w = omega (arith, ends x g w.ascends.1)

  -- the least cost from f on, for at most the charge c
  least_cost : (n f c : ℕ) → horizon ≤ f + n → (o : Option ℕ) × IsLeast (IsWithin list times u c f horizon) (along (value list times weights) f) o
  least_cost zero f c l = at_end f c (omega (arith, l))
  least_cost (suc n) f c l = elim (cases_lt f horizon) [
    | inr h ↦ at_end f c h
    | inl h ↦ let way : (g : ℕ) → (o : Option ℕ) × IsLeast (Begins (λ x. IsWithin list times u c f horizon (g ∷ x)) g) (along (value list times weights) f) o =
        λ g. behind_cut f c g (both_or_not (f < g) (IsCandidate times g × (charge u (size f g list) ≤ c)) (at_most_or_not (suc f) g) (both_or_not (IsCandidate times g) (charge u (size f g list) ≤ c) (candidate_or_not times g) (at_most_or_not (charge u (size f g list)) c)))
        (λ m. least_cost n g (c - charge u (size f g list)) (omega (arith, l, m))) in
        let (o, least) = least_way (λ g. (way g).0) (horizon + 1) in
        (o, least_of_all (IsWithin list times u c f horizon) (along (value list times weights) f) (λ g. (way g).0) (horizon + 1) (λ x w. cut f c h x w) (λ g m. (way g).1) o least)
  ]

-- the least cost of the one piece and of what keeps the budget
pub each_has_a_best : EachListHasABest
each_has_a_best list times weights factor f horizon lt = go (least_cost list times weights (unit (cap factor (length list))) horizon horizon f (budget (cap factor (length list))) (omega arith))
  where
    Within : List ℕ → Type 0
    Within cuts = IsWithin list times (unit (cap factor (length list))) (budget (cap factor (length list))) f horizon cuts

    cost : List ℕ → ℕ
    cost cuts = expected_cost list f cuts times weights

    by_segments : (cuts : List ℕ) → Within cuts → cost cuts ≡ along (value list times weights) f cuts
    by_segments cuts w = cost_by_segments list times weights f cuts horizon w.ascends

    best : (o : Option ℕ) → IsLeast (IsEligible list times factor f horizon) cost (lesser (Some (cost (horizon ∷ []))) o) → (cuts : List ℕ) × IsBestUnder list times weights factor f horizon cuts
    best None h = (h.list, record { eligible = h.is; best = λ other e. omega (arith, h.takes, h.least other e) })
    best (Some v) h = (h.list, record { eligible = h.is; best = λ other e. omega (arith, h.takes, h.least other e) })

    go : (o : Option ℕ) × IsLeast Within (along (value list times weights) f) o → (cuts : List ℕ) × IsBestUnder list times weights factor f horizon cuts
    go (o, h) = best o (least_either (λ x. (f < horizon) × (x ≡ horizon ∷ [])) Within (IsEligible list times factor f horizon) cost (Some (cost (horizon ∷ []))) o (λ x e. e) (λ x e. e)
        (record { list = horizon ∷ []; is = (lt, refl); takes = refl; least = λ x e. omega (arith, ap cost e.1) })
        (least_by Within Within (along (value list times weights) f) cost o (λ x w. (x, w, by_segments x w)) (λ x w. (x, w, by_segments x w)) h))

-- ---- a front

module _ (list : List Posting) (times weights : List ℕ) (factor : Fraction) (f horizon : ℕ) where
  abbrev units : ℕ
  units = unit (cap factor (length list))

  -- the partitions that cut at candidates
  abbrev AreCuts : List ℕ → Type 0
  AreCuts cuts = Ascends f cuts horizon × All (IsCandidate times) cuts

  abbrev charged : List ℕ → ℕ
  charged cuts = charges list units f cuts

  abbrev cost : List ℕ → ℕ
  cost cuts = expected_cost list f cuts times weights

  -- the least cost of those that are charged at most c
  least_at : (c : ℕ) → (o : Option ℕ) × IsLeast (λ x. AreCuts x × (charged x ≤ c)) cost o
  least_at c = let (o, h) = least_cost list times weights units horizon horizon f c (omega arith) in (
    o,
    least_by (IsWithin list times units c f horizon) (λ x. AreCuts x × (charged x ≤ c)) (along (value list times weights) f) cost o
        (λ x w. (x, ((w.ascends, w.candidates), w.charged), cost_by_segments list times weights f x horizon w.ascends))
        (λ x p. (x, record { ascends = p.0.0; candidates = p.0.1; charged = p.1 }, cost_by_segments list times weights f x horizon p.0.0)) h,
  )

  -- the falls at the charges below a number
  falls_below : (n : ℕ) → (points : List Point) × (before : Option ℕ) × AreFallsOf AreCuts charged cost n points × IsLeastBefore AreCuts charged cost n before
  falls_below zero = let first = front_first AreCuts charged cost in ([], None, first.0, first.1)
  falls_below (suc n) =
      let (points, before, falls, least) = falls_below n in
      let (here, h) = least_at n in
      let more = front_more AreCuts charged cost n points falls before here least h in
      let e : n + 1 ≡ suc n = omega arith in
      let further = with_fall points n (fall before here) in
      (further, here, subst (λ m. AreFallsOf AreCuts charged cost m further) e more.0, subst (λ m. IsLeastBefore AreCuts charged cost m here) e more.1)

  fall_of : (c v : ℕ) → IsFallOf AreCuts charged cost c v → IsFall list times weights units f horizon c v
  fall_of c v fall = record {
    cuts = fall.least.list;
    within = record { ascends = fall.least.is.0.0; candidates = fall.least.is.0.1; charged = fall.least.is.1 };
    takes = fall.least.takes;
    least = λ other w. fall.least.least other ((w.ascends, w.candidates), w.charged);
    falls = λ other most lt w. fall.falls other (w.ascends, w.candidates) (omega (arith, w.charged, lt));
  }

  fall_from : (c v : ℕ) → IsFall list times weights units f horizon c v → IsFallOf AreCuts charged cost c v
  fall_from c v fall = record {
    least = record {
      list = fall.cuts;
      is = ((fall.within.ascends, fall.within.candidates), fall.within.charged);
      takes = fall.takes;
      least = λ x p. fall.least x (record { ascends = p.0.0; candidates = p.0.1; charged = p.1 });
    };
    falls = λ other p lt. fall.falls other (charged other) lt (record { ascends = p.0; candidates = p.1; charged = omega arith });
  }

  a_front : (points : List Point) × IsFront list times weights factor f horizon points
  a_front = let (points, before, falls, least) = falls_below (budget (cap factor (length list)) + 1) in (
    points,
    record {
      ascending = falls.ascending;
      each = λ p. (
        λ c. let h = (falls.each p).0 c in (omega (arith, h.0), fall_of p.charge p.cost h.1),
        λ h. (falls.each p).1 (omega (arith, h.0), fall_from p.charge p.cost h.1),
      );
    },
  )

pub each_has_a_front : EachListHasAFront
each_has_a_front list times weights factor f horizon = a_front list times weights factor f horizon
