-- How many extents have a page: what is taken and what is apart, told by numbers.
use Rattle.std.proofs.Common.{◌≡◌, ◌⊎◌, ℕ, ◌+◌, ◌%◌, ◌<◌, ◌≤◌, ◌^◌, List, [], ◌∷◌, ◌++◌, inl, inr, arith, sum_by}
use Rattle.std.specs.List.{count_by}
use Rattle.std.proofs.lemmas.Bool.{cases_lt}
use Rattle.std.proofs.lemmas.List.Sums.{sum_by-cons, sum_by-append}
use Rattle.base_types.specs.declared.extent.Extent.{Extent}
use Rattle.pages_area.specs.Runs.{IsPageOf, IsTaken, pages_for}
use Rattle.pages_area.specs.Edges.{edges_to, holds}
use Rattle.pages_area.specs.Taken.{AreApart, PagesState, HasTaken, has_pages}
use Rattle.pages_area.proofs.EdgeLemmas.{step_on, step_off}

abbrev pub holders : List Extent → ℕ → ℕ
holders extents p = sum_by (holds p) extents

pub page_or_not : (e : Extent) (p : ℕ) → (IsPageOf e p × (holds p e ≡ 1)) ⊎ ((IsPageOf e p → ⊥) × (holds p e ≡ 0))
page_or_not e p =
    let end = e.first + pages_for e.bytes in
    elim (cases_lt p e.first) [
      | inl before ↦ inr ((λ mine. omega (arith, before, mine.0)), omega (arith, step_off p e.first before))
      | inr from ↦ elim (cases_lt p end) [
        | inl within ↦ inl ((from, within), omega (arith, step_on p e.first from, step_off p end within))
        | inr behind ↦ inr ((λ mine. omega (arith, behind, mine.1)), omega (arith, step_on p e.first from, step_on p end behind))
      ]
    ]

-- a page is taken where one has it
pub taken_counts : (extents : List Extent) (p : ℕ) → IsTaken extents p → 1 ≤ holders extents p
taken_counts [] p taken = absurd taken
taken_counts (e ∷ extents) p (inl mine) = elim (page_or_not e p) [ inl is ↦ omega (arith, sum_by-cons (holds p) e extents, is.1) | inr not ↦ absurd (not.0 mine) ]
taken_counts (e ∷ extents) p (inr more) = omega (arith, sum_by-cons (holds p) e extents, taken_counts extents p more)

pub counts_taken : (extents : List Extent) (p : ℕ) → 1 ≤ holders extents p → IsTaken extents p
counts_taken [] p some = absurd (omega (arith, some))
counts_taken (e ∷ extents) p some = elim (page_or_not e p) [ inl is ↦ inl is.0 | inr not ↦ inr (counts_taken extents p (omega (arith, some, sum_by-cons (holds p) e extents, not.1))) ]

pub taken_or_not : (extents : List Extent) (p : ℕ) → IsTaken extents p ⊎ ¬ (IsTaken extents p)
taken_or_not extents p = elim (cases_lt 0 (holders extents p)) [ inl some ↦ inl (counts_taken extents p some) | inr none ↦ inr (λ taken. omega (arith, none, taken_counts extents p taken)) ]

-- extents are apart where no page is of two of them
pub apart_counts : (extents : List Extent) → AreApart extents → (p : ℕ) → holders extents p ≤ 1
apart_counts [] apart p = omega arith
apart_counts (e ∷ extents) apart p = elim (page_or_not e p) [
  | inl is ↦ elim (cases_lt 0 (holders extents p)) [
    | inl some ↦ absurd (apart.0 p is.0 (counts_taken extents p some))
    | inr none ↦ omega (arith, none, is.1, sum_by-cons (holds p) e extents)
  ]
  | inr not ↦ omega (arith, not.1, sum_by-cons (holds p) e extents, apart_counts extents apart.1 p)
]

pub counts_apart : (extents : List Extent) → ((p : ℕ) → holders extents p ≤ 1) → AreApart extents
counts_apart [] most = tt
counts_apart (e ∷ extents) most = (
  (λ p mine taken. omega (arith, most p, sum_by-cons (holds p) e extents, taken_counts extents p taken, taken_counts (e ∷ []) p (inl mine), sum_by-cons (holds p) e [])),
  counts_apart extents (λ p. omega (arith, most p, sum_by-cons (holds p) e extents)),
)

-- pages that are among the first of two lists, or among the second, are among both
pub taken_left : (xs ys : List Extent) (p : ℕ) → IsTaken xs p → IsTaken (xs ++ ys) p
taken_left xs ys p taken = counts_taken (xs ++ ys) p (omega (arith, sum_by-append (holds p) xs ys, taken_counts xs p taken))

pub taken_right : (xs ys : List Extent) (p : ℕ) → IsTaken ys p → IsTaken (xs ++ ys) p
taken_right xs ys p taken = counts_taken (xs ++ ys) p (omega (arith, sum_by-append (holds p) xs ys, taken_counts ys p taken))

-- no page of the first extents is among the second
abbrev pub AreApartFrom : List Extent → List Extent → Type 0
AreApartFrom xs ys = (p : ℕ) → IsTaken xs p → IsTaken ys p → ⊥

pub apart_left : (xs ys : List Extent) → AreApart (xs ++ ys) → AreApart xs
apart_left xs ys apart = counts_apart xs (λ p. omega (arith, apart_counts (xs ++ ys) apart p, sum_by-append (holds p) xs ys))

pub apart_parts : (xs ys : List Extent) → AreApart (xs ++ ys) → AreApartFrom xs ys × AreApart ys
apart_parts xs ys apart = (
  (λ p one other. omega (arith, apart_counts (xs ++ ys) apart p, sum_by-append (holds p) xs ys, taken_counts xs p one, taken_counts ys p other)),
  counts_apart ys (λ p. omega (arith, apart_counts (xs ++ ys) apart p, sum_by-append (holds p) xs ys)),
)

-- ---- what is taken

-- no page is of two extents, and an odd number of edges leads to those of one
pub record IsCounted (store : PagesState) (extents : List Extent) : Type 0 where
  pub once : (p : ℕ) → holders extents p ≤ 1
  pub counted : count_by has_pages extents ≡ store.taken
  pub odd : (p : ℕ) → p < 2 ^ 28 → edges_to store.edges p % 2 ≡ holders extents p

pub counts : (store : PagesState) (extents : List Extent) → HasTaken store extents → IsCounted store extents
counts store extents has = record {
  once = apart_counts extents has.apart;
  counted = has.counted;
  odd = λ p below. elim (taken_or_not extents p) [
    | inr free ↦ omega (arith, ((has.free_are p).1 (below, free)).1, λ (some : 1 ≤ holders extents p). free (counts_taken extents p some))
    | inl taken ↦ omega (arith, taken_counts extents p taken, apart_counts extents has.apart p, λ (even : edges_to store.edges p % 2 ≡ 0). ((has.free_are p).0 (below, even)).1 taken)
  ];
}

pub taken_by_counts : (store : PagesState) (extents : List Extent) → IsCounted store extents → HasTaken store extents
taken_by_counts store extents are = record {
  apart = counts_apart extents are.once;
  counted = are.counted;
  free_are = λ p. (
    (λ is. (is.0, λ taken. omega (arith, are.odd p is.0, is.1, taken_counts extents p taken))),
    (λ free. (free.0, omega (arith, are.odd p free.0, are.once p, λ (some : 1 ≤ holders extents p). free.1 (counts_taken extents p some)))),
  );
}
