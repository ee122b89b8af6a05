-- What turning the pages of an extent means for the extents that are taken.
use Rattle.std.proofs.Common.{◌≡◌, ℕ, ◌+◌, ◌-◌, ◌%◌, ◌<◌, ◌≤◌, List, [], ◌∷◌, ◌++◌, length, take, get_or, All, inl, inr, ap, sym, ◌∙◌, arith, cond}
use Rattle.std.proofs.lemmas.List.Sums.{sum_by-cons}
use Rattle.std.proofs.lemmas.List.{take_more}
use Rattle.std.proofs.lemmas.List.Elements.{All-nil, All-cons, All-append}
use Rattle.std.proofs.lemmas.Bool.Decides.{nat_tests}
use Rattle.base_types.specs.declared.extent.Extent.{Extent}
use Rattle.pages_area.specs.Runs.{IsTaken, IsPageOf, IsFreeRun, IsLowestRun, pages_for}
use Rattle.pages_area.specs.Edges.{AreFree, IsFit, IsTurned, edges_to, holds}
use Rattle.pages_area.specs.Live.{IsInside}
use Rattle.pages_area.specs.Taken.{PagesState, HasTaken, has_pages}
use Rattle.pages_area.proofs.EdgeLemmas.{step_falls}
use Rattle.pages_area.proofs.CountLemmas.{counts, holders, page_or_not, taken_by_counts, taken_or_not}

-- ---- what is free by the edges is free in the sense of the extents

pub run_free : (store : PagesState) (extents : List Extent) (n first : ℕ) → HasTaken store extents → IsFreeRun extents n first → AreFree store.edges first n
run_free store extents n first has run = λ p low high. ((has.free_are p).1 (omega (arith, high, run.below), run.free p low high)).1

pub lowest_run : (store : PagesState) (extents : List Extent) (n first : ℕ) → HasTaken store extents → IsFit n store.edges first → IsLowestRun extents n first
lowest_run store extents n first has fit = record {
  is = record { below = fit.below; free = λ p low high. ((has.free_are p).0 (omega (arith, high, fit.below), fit.free p low high)).1 };
  lowest = λ other run. fit.lowest other run.below (run_free store extents n other has run);
}

-- a page of an extent that isn't free is taken
pub taken_page : (store : PagesState) (extents : List Extent) (e : Extent) → HasTaken store extents → (p : ℕ) × (IsPageOf e p × (edges_to store.edges p % 2 ≡ 1)) → (p : ℕ) × (IsPageOf e p × IsTaken extents p)
taken_page store extents e has (p, (mine, odd)) = elim (taken_or_not extents p) as (λ _. (q : ℕ) × (IsPageOf e q × IsTaken extents q)) [
  | inl taken ↦ (p, (mine, taken))
  | inr free ↦ absurd (omega (arith, odd, ((has.free_are p).1 (omega (arith, mine.1, e.in_pages), free)).1))
]

-- ---- one extent more, or one less

-- how much an extent adds to those that have pages
abbrev pub adds : Extent → ℕ
adds e = cond (has_pages e) 1 0

-- its pages were free and are turned
pub one_more : (old new : PagesState) (extents : List Extent) (e : Extent) → AreFree old.edges e.first (pages_for e.bytes) → IsTurned e old.edges new.edges → new.taken ≡ old.taken + adds e → HasTaken old extents → HasTaken new (e ∷ extents)
one_more old new extents e free turned count has =
    let was = counts old extents has in
    let once : (p : ℕ) → holders (e ∷ extents) p ≤ 1 = λ p. elim (page_or_not e p) [
      | inl is ↦ omega (arith, sum_by-cons (holds p) e extents, is.1, was.odd p (omega (arith, is.0.1, e.in_pages)), free p is.0.0 is.0.1)
      | inr not ↦ omega (arith, sum_by-cons (holds p) e extents, not.1, was.once p)
    ] in
    taken_by_counts new (e ∷ extents) (record {
      once = once;
      counted = omega (arith, sum_by-cons adds e extents, was.counted, count);
      odd = λ p below. omega (arith, sum_by-cons (holds p) e extents, was.odd p below, turned p, once p);
    })

-- its pages were taken and are turned
pub one_less : (old new : PagesState) (extents : List Extent) (e : Extent) → IsTurned e old.edges new.edges → new.taken ≡ old.taken - adds e → HasTaken old (e ∷ extents) → HasTaken new extents
one_less old new extents e turned count has =
    let was = counts old (e ∷ extents) has in
    taken_by_counts new extents (record {
      once = λ p. omega (arith, sum_by-cons (holds p) e extents, was.once p);
      counted = omega (arith, sum_by-cons adds e extents, was.counted, count);
      odd = λ p below. omega (arith, sum_by-cons (holds p) e extents, was.odd p below, was.once p, turned p);
    })

-- without pages nothing turns
turned_none : (e : Extent) (edges : List ℕ) → e.bytes ≡ 0 → IsTurned e edges edges
turned_none e edges none p = omega (arith, step_falls p (e.first + pages_for e.bytes) e.first (omega (arith, none)))

-- and the store stays
pub none_more : (store : PagesState) (extents : List Extent) (e : Extent) → e.bytes ≡ 0 → HasTaken store extents → HasTaken store (e ∷ extents)
none_more store extents e none has =
    one_more store store extents e (λ p low high. absurd (omega (arith, none, low, high))) (turned_none e store.edges none) (grind (arith, nat_tests)) has

pub none_less : (store : PagesState) (extents : List Extent) (e : Extent) → e.bytes ≡ 0 → HasTaken store (e ∷ extents) → HasTaken store extents
none_less store extents e none has = one_less store store extents e (turned_none e store.edges none) (grind (arith, nat_tests)) has

-- ---- extents in turn

-- the first so many extents, and the next one
pub next_extent : (live : List Extent) (i : ℕ) (e : Extent) → i < length live → e ≡ get_or live i e → take (i + 1) live ≡ take i live ++ e ∷ []
next_extent live i e within is = take_more live i e within ∙ ap (λ (x : Extent). take i live ++ x ∷ []) (sym is)

pub inside_more : (reach : ℕ) (xs : List Extent) (e : Extent) → All (IsInside reach) xs → IsInside reach e → All (IsInside reach) (xs ++ e ∷ [])
inside_more reach xs e all is = All-append (IsInside reach) xs (e ∷ []) all (All-cons (IsInside reach) e [] is (All-nil (IsInside reach)))
