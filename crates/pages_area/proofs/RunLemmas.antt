-- The kept pages outside a run of pages.
use Rattle.std.proofs.Common.{◌≡◌, ℕ, ◌+◌, ◌≤◌, Bool, not, ◌&&◌, List, [], ◌∷◌, cond, refl, ap, arith, nat_eq, nat_le, nat_lt}
use Rattle.std.specs.List.{filter}
use Rattle.std.proofs.lemmas.Bool.{cond_both}
use Rattle.std.proofs.lemmas.Bool.Decides.{nat_tests}
use Rattle.pages_area.specs.Caches.{Kept, without_page}
use Rattle.pages_area.proofs.CacheLemmas.{filter-all}

-- the page isn't one from the first up to the other
abbrev is_outside : ℕ → ℕ → Kept → Bool
is_outside first upto k = not (nat_le first k.page && nat_lt k.page upto)

abbrev pub outside : ℕ → ℕ → List Kept → List Kept
outside first upto cache = filter (is_outside first upto) cache

pub outside-none : (first : ℕ) (cache : List Kept) → outside first first cache ≡ cache
outside-none first cache = filter-all (is_outside first first) cache (λ i d within. grind (arith, nat_tests))

-- what passes one test and another
filter-both : (one other both : Kept → Bool) → ((k : Kept) → both k ≡ (one k && other k)) → (cache : List Kept) → filter other (filter one cache) ≡ filter both cache
filter-both one other both is [] = refl
filter-both one other both is (k ∷ cache) =
    let more = filter-both one other both is cache in
    cond_both (one k) (k ∷ filter one cache) (filter one cache) (λ l. filter other l ≡ filter both (k ∷ cache))
    (λ first. rw (is k, first) (ap (λ l. cond (other k) (k ∷ l) l) more)) (λ first. rw (is k, first) more)

-- one page more
pub outside-more : (first upto : ℕ) (cache : List Kept) → first ≤ upto → without_page upto (outside first upto cache) ≡ outside first (upto + 1) cache
outside-more first upto cache below =
    filter-both (is_outside first upto) (λ k. not (nat_eq upto k.page)) (is_outside first (upto + 1)) (λ k. grind (arith, nat_tests)) cache
