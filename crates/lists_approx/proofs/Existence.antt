-- Each list has a longest-first approximation: the method, over any list.
use Rattle.std.specs.Prelude.{◌≡◌, ◌⊎◌, ℕ, ◌+◌, ◌-◌, ◌*◌, ◌<◌, ◌≤◌, min, max, List, [], ◌∷◌, ◌++◌, refl}
use Rattle.std.specs.Int.{abs_diff}
use Rattle.std.proofs.Common.{arith, inl, inr}
use Rattle.std.proofs.Math.Nat.{le-div_iff_mul-le, mul-le-mul_right}
use Rattle.std.proofs.lemmas.Bool.{cases_lt, cases_eq}
use Rattle.base_types.specs.declared.posting.Posting.{Posting}
use Rattle.base_types.specs.declared.tolerance.Tolerance.{Tolerance}
use Rattle.lists_postings.specs.Lists.{IsList}
use Rattle.lists_approx.specs.Approximations.{IsNear, IsLongestFirst}
use Rattle.lists_approx.specs.Steps.{IsBegun, IsLonger, IsOver, IsUnderWay}
use Rattle.lists_approx.proofs.Near.{slack, near-from, near_self}
use Rattle.lists_approx.proofs.Runs.{step-first, step-longer, step-close}
use Rattle.lists_approx.proofs.Fewest.{finished, longest-first}

-- some frequency is near p exactly where it is at most the slack away
near-to : (tolerance : Tolerance) (r p : ℕ) → IsNear tolerance r p → abs_diff p r ≤ slack tolerance p
near-to tolerance r p h = let some : 0 < tolerance.whole = omega (arith, tolerance.below) in (le-div_iff_mul-le some).1 h

-- the slack of a posting is below its frequency
small : (tolerance : Tolerance) (p : ℕ) → 1 ≤ p → slack tolerance p < p
small tolerance p some = elim (cases_lt (slack tolerance p) p) [
  | inl below ↦ below
  | inr above ↦ absurd (never tolerance.part tolerance.whole p tolerance.below some ((le-div_iff_mul-le (let w : 0 < tolerance.whole = omega (arith, tolerance.below) in w)).0 above))
]
  where
    never : (a b p : ℕ) → a < b → 1 ≤ p → p * b ≤ a * p → ⊥
    never a b p less some le = let k : (a + 1) * p ≤ b * p = mul-le-mul_right p (omega (arith, less)) in omega (arith, k, le, some)

-- the run of one posting
begun : (tolerance : Tolerance) (p : Posting) → (run : Posting) × (most : ℕ) × IsBegun tolerance p run most
begun tolerance p =
    let less : slack tolerance p.tf < p.tf = small tolerance p.tf p.counted in
    let few = p.bounded in
    let s = slack tolerance p.tf in (
      record { doc = p.doc; tf = p.tf - slack tolerance p.tf; span = p.span; numbered = p.numbered; counted = omega (arith, less); bounded = omega (arith, few) },
      p.tf + slack tolerance p.tf,
      record {
        doc = refl;
        from = refl;
        to = refl;
        some = omega arith;
        near = λ r. (
          λ near. (let k = near-to tolerance r p.tf near in (omega (arith, k), omega (arith, k))),
          λ within. near-from tolerance r p.tf (omega (arith, within.0, less)) (omega (arith, within.1)),
        );
      },
    )

-- a run and a posting are one run, or they are not
more : (tolerance : Tolerance) (run : Posting) (most : ℕ) (p : Posting) → run.tf ≤ most
    → ((next : Posting) × (new : ℕ) × IsLonger tolerance run most p next new) ⊎ IsOver tolerance run most p
more tolerance run most p some = elim (cases_eq run.doc.0 p.doc.0) [
  | inr other ↦ inr (λ touches r within near. other touches.doc)
  | inl doc ↦ elim (cases_eq run.span.to p.span.from) [
    | inr apart ↦ inr (λ touches r within near. apart touches.at)
    | inl at ↦ go doc at (begun tolerance p)
  ]
]
  where
    go : run.doc.0 ≡ p.doc.0 → run.span.to ≡ p.span.from → ((one : Posting) × (reach : ℕ) × IsBegun tolerance p one reach)
        → ((next : Posting) × (new : ℕ) × IsLonger tolerance run most p next new) ⊎ IsOver tolerance run most p
    go doc at (one, reach, is) = elim (cases_lt (min most reach) (max run.tf one.tf)) [
      | inl over ↦ inr (λ touches r within near. (let k = (is.near r).0 near in omega (arith, over, k.0, k.1, within.0, within.1)))
      | inr fits ↦
          let first = run.span.ordered in
          let second = p.span.ordered in
          let last = p.span.in_time in inl (
            record {
              doc = p.doc;
              tf = max run.tf one.tf;
              span = record { from = run.span.from; to = p.span.to; ordered = omega (arith, first, second, at); in_time = last };
              numbered = p.numbered;
              counted = omega (arith, run.counted);
              bounded = omega (arith, run.bounded, one.bounded);
            },
            min most reach,
            record {
              touches = record { doc = doc; at = at };
              doc = refl;
              from = refl;
              to = refl;
              some = fits;
              near = λ r. (
                λ both. (let k = (is.near r).0 both.1 in (omega (arith, k.0, both.0.0), omega (arith, k.1, both.0.1))),
                λ within. ((omega (arith, within.0), omega (arith, within.1)), (is.near r).1 (omega (arith, within.0), omega (arith, within.1))),
              );
            },
          )
    ]

module _ (tolerance : Tolerance) (list : List Posting) (ordered : IsList list) where
  on : (left done : List Posting) (run : Posting) (most : ℕ) → IsUnderWay tolerance list done run most left → (short : List Posting) × IsLongestFirst tolerance list short
  on [] done run most under =
      let f = finished tolerance list done (done ++ run ∷ []) [] run most 0 ordered (omega arith) refl under in
      (done ++ run ∷ [], longest-first tolerance list (done ++ run ∷ []) f.0 f.1 f.2)
  on (p ∷ left) done run most under = elim (more tolerance run most p under.some) [
    | inl (next, new, longer) ↦ on left done next new (step-longer tolerance list ordered done run most p left next new longer under)
    | inr over ↦
        let (next, new, one) = begun tolerance p in
        on left (done ++ run ∷ []) next new (step-close tolerance list ordered done (done ++ run ∷ []) run most p left next new refl over one under)
  ]

pub each_has_a_longest_first : (tolerance : Tolerance) (list : List Posting) → IsList list → (short : List Posting) × IsLongestFirst tolerance list short
each_has_a_longest_first tolerance [] ordered =
    ([], record { ordered = tt; near = λ d t. near_self tolerance 0; longest = λ other p q o n in_short. absurd (omega (arith, in_short.1)); least = λ p r in_short. absurd (omega (arith, in_short.1)) })
each_has_a_longest_first tolerance (p ∷ list) ordered =
    let (run, most, one) = begun tolerance p in
    on tolerance (p ∷ list) ordered list [] run most (step-first tolerance (p ∷ list) ordered p list run most refl one)
