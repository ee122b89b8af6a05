-- Caches as lists.
use Rattle.std.proofs.Common.{◌≡◌, ◌≢◌, ℕ, Bool, true, not, List, [], ◌∷◌, length, get_or, All, Result, Ok, Err, OnOk, OnErr, refl, sym, ap, subst, inl, inr, arith, nat_eq}
use Rattle.std.specs.List.{filter}
use Rattle.std.proofs.lemmas.Bool.{cases_Bool, eq-eqb}
use Rattle.std.proofs.lemmas.List.{length-take, get_or-take}
use Rattle.std.proofs.lemmas.List.Elements.{All-head, All-tail, All-take, All-cons, All-filter, All-contains, filter_passes}
use Rattle.std.proofs.lemmas.List.Kept.{AllPairs-cons, AllPairs-filter}
use Rattle.pages_area.specs.Caches.{Kept, AreDistinct, is_hit, without_page, after_asking_within, after_asking, IsHeld, IsGiven, StandsFor}

-- a filter that each element passes leaves all
pub filter-all : {X : Type 0} (test : X → Bool) (xs : List X) → All (λ x. test x ≡ true) xs → filter test xs ≡ xs
filter-all test [] all = refl
filter-all test (x ∷ xs) all =
    rw (All-head (λ y. test y ≡ true) x xs all) (ap (λ l. x ∷ l) (filter-all test xs (All-tail (λ y. test y ≡ true) x xs all)))

-- asking keeps the pages distinct
pub distinct-asking : (most : ℕ) (k : Kept) (cache : List Kept) → AreDistinct cache → AreDistinct (after_asking_within most k cache)
distinct-asking most k cache distinct i j d before within =
    let Differ = λ (a b : Kept). a.page ≢ b.page in
    let others : List Kept = without_page k.page cache in
    let apart : All (Differ k) others = λ n e inside same.
    let passes = filter_passes (λ o. not (nat_eq k.page o.page)) cache n e inside in
    let is = rw (eq-eqb k.page (get_or others n e).page same) at passes in cc in
    let short = length-take most (k ∷ others) in
    rw (get_or-take most (k ∷ others) i d (omega arith), get_or-take most (k ∷ others) j d (omega arith))
    (AllPairs-cons Differ k others apart (AllPairs-filter Differ (λ o. not (nat_eq k.page o.page)) cache distinct) i j d before (omega arith))

-- what holds of each kept page, and of the one that is asked for, holds of each afterwards
pub all-asked : (P : Kept → Type 0) (most : ℕ) (k : Kept) (cache : List Kept) → P k → All P cache → All P (after_asking_within most k cache)
all-asked P most k cache this all =
    All-take P most (k ∷ without_page k.page cache)
    (All-cons P k (without_page k.page cache) this (All-filter (λ other. not (nat_eq k.page other.page)) P cache all))

-- what is given is what Pages holds, where the cache stands for it
pub given-held : (k : Kept) (cache : List Kept) (pages : List ℕ) → StandsFor cache pages → IsGiven pages cache k → IsHeld pages k
given-held k cache pages stands given = elim (cases_Bool (is_hit k.page (length k.bytes) cache)) [
  | inl kept ↦ All-contains (IsHeld pages) cache k stands (given.hit kept)
  | inr none ↦ given.miss none
]

-- so asking leaves a cache that stands for Pages, whatever is answered
pub stands-answered : {T E : Type 0} (result : Result T E) (k : Kept) (old new : List Kept) (pages : List ℕ) → OnOk result (IsHeld pages k)
    → OnOk result (new ≡ after_asking k old) → OnErr result (new ≡ old) → StandsFor old pages → StandsFor new pages
stands-answered (Ok x) k old new pages held asked kept stands =
    subst (λ cache. StandsFor cache pages) (sym asked) (all-asked (IsHeld pages) 1024 k old held stands)
stands-answered (Err e) k old new pages held asked kept stands = subst (λ cache. StandsFor cache pages) (sym kept) stands
