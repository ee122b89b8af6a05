-- What the next run changes in the counts of a text.
use Rattle.std.proofs.Common.{◌≡◌, ◌∙◌, ◌+◌, ◌<◌, ◌≤◌, [], ◌∷◌, ◌++◌, ℕ, List, Bool, Some, is_some, nat_eq, sym, ap, subst, length, filter, slice_index_or, arith}
use Rattle.std.proofs.lemmas.List.{length-map, get_or-map}
use Rattle.std.proofs.lemmas.List.Sums.{length-filter, count_by-le-length}
use Rattle.std.proofs.lemmas.Map.Made.{length-le_from_is_member}
use Rattle.std.specs.Cmp.Lexicographic.{nat_list_eq_equiv}
use Rattle.std.specs.List.{list_any}
use Rattle.std.specs.Map.{lookup}
use Rattle.std.specs.Str.{bytes_eq}
use Rattle.text_words.specs.Terms.{term_of, keys_of, times}
use Rattle.text_words.specs.Words.{distinct, bump, counted, number_of, known_of, fresh_of}
use Rattle.text_words.proofs.CountLemmas.{member-with_all, IsDistinct-distinct, counted-bump, keys_of-push, length-keys_of, table-le}
use Rattle.text_words.proofs.WordLemmas.{is_some-number_of}
use Rattle.text_words.proofs.NewLemmas.{new_in, fresh-table}
use Rattle.text_words.proofs.WeighLemmas.{at, known-bump, fresh-skip}
use Rattle.text_words.proofs.WeightLemmas.{weighed, known-places}

-- the counts after the run of a key
pub after : (done : List (List ℕ)) (run k : List ℕ) → term_of run ≡ Some k → bump bytes_eq (counted (keys_of done)) k ≡ counted (keys_of (done ++ run ∷ []))
after done run k e = counted-bump (keys_of done) k ∙ ap counted (sym (keys_of-push done run (Some k) e))

-- there are no more words than occurrences
distinct_few : (found : List (List ℕ)) → length (distinct found) ≤ length found
distinct_few found = length-le_from_is_member nat_list_eq_equiv (distinct found) found (IsDistinct-distinct found) (λ q e. sym (member-with_all q [] found) ∙ e)

-- so there is room for one more of each
few : (words found : List (List ℕ)) → length (known_of words (counted found)) ≤ length found
few words found =
    let p : List ℕ → Bool = λ w. list_any (bytes_eq w) words in
    let f = weighed (λ w. times w found) (words ++ []) in
    omega (arith, ap length (known-places (λ w. times w found) words [] (distinct found)), length-map (filter p (distinct found)) f, length-filter p (distinct found), count_by-le-length p (distinct found), distinct_few found)

small : (words found : List (List ℕ)) (p : ℕ) → p < length (known_of words (counted found)) → (at (known_of words (counted found)) p).1 ≤ length found
small words found p l =
    let f = weighed (λ w. times w found) (words ++ []) in
    let known = filter (λ w. list_any (bytes_eq w) words) (distinct found) in
    let e = known-places (λ w. times w found) words [] (distinct found) in
    let here = get_or-map f known p [] (0, 0) (omega (arith, l, ap length e, length-map known f)) in
    omega (arith, ap (λ (v : ℕ × ℕ). v.1) (ap (λ l. at l p) e ∙ here), count_by-le-length (bytes_eq (slice_index_or known p [])) found)

pub room : (words done : List (List ℕ)) (known : List (ℕ × ℕ)) → known ≡ known_of words (counted (keys_of done)) → length done + 1 < 4294967296
    → (length known < 4294967296) × ((p : ℕ) → p < length known → (at known p).1 + 1 < 4294967296)
room words done known e l = subst (λ (k : List (ℕ × ℕ)). (length k < 4294967296) × ((p : ℕ) → p < length k → (at k p).1 + 1 < 4294967296)) (sym e) (
  omega (arith, l, few words (keys_of done), length-keys_of done),
  λ p r. omega (arith, l, small words (keys_of done) p r, length-keys_of done),
)

pub fresh_small : (words found : List (List ℕ)) (k : List ℕ) (n : ℕ) → lookup (bytes_eq k) (fresh_of words (counted found)) ≡ Some n → n ≤ length found
fresh_small words found k n h = table-le found (new_in words (distinct found)) k n (ap (lookup (bytes_eq k)) (sym (fresh-table (λ w. times w found) words (distinct found))) ∙ h)

-- a run whose word has a number
pub known_after : (words done : List (List ℕ)) (run k : List ℕ) (n : ℕ) → term_of run ≡ Some k → number_of k words ≡ Some n
    → bump nat_eq (known_of words (counted (keys_of done))) n ≡ known_of words (counted (keys_of (done ++ run ∷ [])))
known_after words done run k n key number = sym (known-bump words (counted (keys_of done)) k n number) ∙ ap (known_of words) (after done run k key)

pub fresh_after : (words done : List (List ℕ)) (run k : List ℕ) (n : ℕ) → term_of run ≡ Some k → number_of k words ≡ Some n
    → fresh_of words (counted (keys_of done)) ≡ fresh_of words (counted (keys_of (done ++ run ∷ [])))
fresh_after words done run k n key number = sym (fresh-skip words (counted (keys_of done)) k (sym (is_some-number_of k words) ∙ ap is_some number)) ∙ ap (fresh_of words) (after done run k key)
