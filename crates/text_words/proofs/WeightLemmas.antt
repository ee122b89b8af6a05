-- The counts of a text's words by number, when its new words are numbered.
use Rattle.std.proofs.Common.{◌≡◌, ℕ, ◌+◌, ◌<◌, ◌≤◌, Bool, true, false, cond, not, List, [], ◌∷◌, ◌++◌, map, filter, length, Option, Some, None, is_some, unwrap_or, option_map, refl, sym, ap, ap₂, ◌∙◌, arith, if◌then◌else◌, nat_eq, nat_lt, ltb-true, ltb-false, lt-ltb, subst, slice_index_or}
use Rattle.std.proofs.lemmas.Bool.{eq-eqb, ne_eqb, cond-true, cond-false, or_right, not-true}
use Rattle.std.proofs.lemmas.List.{map-append}
use Rattle.std.proofs.lemmas.List.Elements.{All-map, All-weaker, recursion_from_All, filter_passes}
use Rattle.std.proofs.lemmas.List.Sorted.{IsPermutation-filter_both, list_any-IsPermutation}
use Rattle.std.proofs.lemmas.Map.Keys.{IsDistinct-cons, IsDistinct-head, IsDistinct-tail, IsDistinct-IsPermutation}
use Rattle.std.proofs.lemmas.Map.Made.{IsDistinct-keys_filter}
use Rattle.std.proofs.lemmas.Map.Views.{All-from_any}
use Rattle.std.proofs.lemmas.Option.{get_or_from_slice_get, slice_get-get_or, slice_get_past}
use Rattle.std.specs.Cmp.Lexicographic.{nat_list_eq_equiv}
use Rattle.std.specs.List.{list_any, slice_get, cons_option, All, AllByRecursion, IsDistinct}
use Rattle.std.specs.List.Sorted.{IsPermutation}
use Rattle.std.specs.Map.{lookup}
use Rattle.std.specs.Option.{option_map_or}
use Rattle.std.specs.Str.{bytes_eq}
use Rattle.text_words.specs.Terms.{times}
use Rattle.text_words.specs.Words.{with_all, distinct, counted, number_of, known_of, numbered_from, weights_of, weight_at}
use Rattle.text_words.proofs.CountLemmas.{same, itself, apart_words, flipped, table, same_map, lookup-table, member-with_all, times-absent, times-some, IsDistinct-distinct, IsDistinct-with_all}
use Rattle.text_words.proofs.WordLemmas.{place, is_some-number_of, within_any, own_place, place_of, place-front, place-back, absent-none}
use Rattle.text_words.proofs.NewLemmas.{new_in, fresh-table, keys-table, fresh-keys, with_all-behind}

-- a distinct word has the number of its place
pub number_at : (words : List (List ℕ)) → IsDistinct bytes_eq words → (n : ℕ) (w : List ℕ) → n < length words → slice_get words n ≡ Some w → number_of w words ≡ Some n
number_at words h n w l e =
    let here : slice_index_or words n [] ≡ w = get_or_from_slice_get words n w [] e in
    let p : place words w ≡ n = ap (place words) (sym here) ∙ place_of words h n l in
    ap (λ m. cond (nat_lt m (length words)) (Some m) None) p ∙ ap (λ b. cond b (Some n) None) (lt-ltb _ _ l)

-- of words seen those that have a number, and behind them the new ones
abbrev parted : List (List ℕ) → List (List ℕ) → List (List ℕ)
parted words seen = filter (λ w. list_any (bytes_eq w) words) seen ++ new_in words seen

-- a word's place among all words, and its count
abbrev pub weighed : (List ℕ → ℕ) → List (List ℕ) → List ℕ → ℕ × ℕ
weighed f all w = (place all w, f w)

pub known-places : (f : List ℕ → ℕ) (words new seen : List (List ℕ)) → known_of words (table f seen) ≡ map (weighed f (words ++ new)) (filter (λ w. list_any (bytes_eq w) words) seen)
known-places f words new [] = refl
known-places f words new (w ∷ seen) = by (number_of w words) refl (known-places f words new seen)
  where
    by : (o : Option ℕ) → number_of w words ≡ o → known_of words (table f seen) ≡ map (weighed f (words ++ new)) (filter (λ w. list_any (bytes_eq w) words) seen)
        → cons_option (option_map (λ n. (n, f w)) o) (known_of words (table f seen)) ≡ map (weighed f (words ++ new)) (filter (λ w. list_any (bytes_eq w) words) (w ∷ seen))
    by None j rest = rest ∙ sym (ap (map (weighed f (words ++ new))) (cond-false _ _ _ (absent-none w words j)))
    by (Some n) j rest =
        ap₂ (λ m (l : List (ℕ × ℕ)). (m, f w) ∷ l) (sym (place-front words new w n j)) rest
        ∙ sym (ap (map (weighed f (words ++ new))) (cond-true _ _ _ (sym (is_some-number_of w words) ∙ ap is_some j)))

numbered-places : (f : List ℕ → ℕ) (k : ℕ) (new : List (List ℕ)) → IsDistinct bytes_eq new → numbered_from k (table f new) ≡ map (λ w. (k + place new w, f w)) new
numbered-places f k [] h = refl
numbered-places f k (x ∷ new) h =
    let here : k ≡ k + place (x ∷ new) x = omega arith ∙ ap (λ b. k + cond (not b) (1 + place new x) 0) (sym (itself x)) in
    ap₂ (λ n (l : List (ℕ × ℕ)). (n, f x) ∷ l) here
    (numbered-places f (k + 1) new (IsDistinct-tail bytes_eq x new h)
    ∙ same_map (λ w. bytes_eq x w ≡ false) (λ w. (k + 1 + place new w, f w)) (λ w. (k + place (x ∷ new) w, f w)) (λ w e.
    ap (λ n. (n, f w)) (omega arith) ∙ ap (λ b. (k + cond (not b) (1 + place new w) 0, f w)) (sym (flipped w x ∙ e))) new (IsDistinct-head bytes_eq x new h))

new-distinct : (words found : List (List ℕ)) → IsDistinct bytes_eq (new_in words (distinct found))
new-distinct words found =
    subst (IsDistinct bytes_eq) (fresh-keys words found)
    (IsDistinct-keys_filter bytes_eq (λ p. not (list_any (bytes_eq p.0) words)) (counted found) (subst (IsDistinct bytes_eq) (sym (keys-table (λ w. times w found) (distinct found))) (IsDistinct-distinct found)))

-- the counts by number are those of the distinct words by their places among all
weights-places : (words found : List (List ℕ)) → weights_of words (counted found) ≡ map (weighed (λ w. times w found) (with_all words found)) (parted words (distinct found))
weights-places words found =
    let f : List ℕ → ℕ = λ w. times w found in
    let new = new_in words (distinct found) in
    ap₂ (λ (l k : List (ℕ × ℕ)). l ++ k) (known-places f words new (distinct found))
    (ap (numbered_from (length words)) (fresh-table f words (distinct found)) ∙ numbered-places f (length words) new (new-distinct words found)
    ∙ same_map (λ w. not (list_any (bytes_eq w) words) ≡ true) (λ w. (length words + place new w, f w)) (weighed f (words ++ new)) (λ w e. ap (λ n. (n, f w)) (sym (place-back words new w (not-true _ e)))) new
    (recursion_from_All _ new (filter_passes (λ w. not (list_any (bytes_eq w) words)) (distinct found))))
    ∙ sym (map-append (weighed f (words ++ new)) (filter (λ w. list_any (bytes_eq w) words) (distinct found)) new)
    ∙ ap (λ all. map (weighed f all) (parted words (distinct found))) (sym (with_all-behind words found))

-- these words are the distinct ones, each once, with a place among all and a count
perm : (words found : List (List ℕ)) → IsPermutation (distinct found) (parted words (distinct found))
perm words found = IsPermutation-filter_both (λ w. list_any (bytes_eq w) words) (λ w. not (list_any (bytes_eq w) words)) (λ w. refl) (distinct found)

member : (words found : List (List ℕ)) (q : List ℕ) → list_any (bytes_eq q) (parted words (distinct found)) ≡ list_any (bytes_eq q) found
member words found q = sym (list_any-IsPermutation (bytes_eq q) (distinct found) (parted words (distinct found)) (perm words found)) ∙ member-with_all q [] found

-- a place below a number, and a count
abbrev Counts : ℕ → ℕ × ℕ → Type 0
Counts n p = (p.0 < n) × (1 ≤ p.1)

each : (words found : List (List ℕ)) → All (λ w. Counts (length (with_all words found)) (weighed (λ w. times w found) (with_all words found) w)) (parted words (distinct found))
each words found = All-from_any nat_list_eq_equiv (λ w. Counts (length (with_all words found)) (weighed (λ w. times w found) (with_all words found) w)) (parted words (distinct found)) (λ q e.
    let i = sym (member words found q) ∙ e in (ltb-true _ _ (within_any (bytes_eq q) (with_all words found) ∙ member-with_all q words found ∙ or_right _ _ i), times-some q found i))

from_places : (P : List ℕ → Type 0) (words found : List (List ℕ)) → ((w : List ℕ) → place (with_all words found) w < length (with_all words found) → P w) → AllByRecursion P (parted words (distinct found))
from_places P words found f = recursion_from_All P _ (All-weaker _ P (λ w (h : Counts (length (with_all words found)) (weighed (λ w. times w found) (with_all words found) w)). f w h.0) _ (each words found))

pub weights-counts : (words found : List (List ℕ)) → All (λ p. (p.0 < length (with_all words found)) × (1 ≤ p.1)) (weights_of words (counted found))
weights-counts words found =
    let P = Counts (length (with_all words found)) in
    subst (All P) (sym (weights-places words found)) (All-map P (weighed (λ w. times w found) (with_all words found)) (parted words (distinct found)) (each words found))

-- a number is a word's exactly where the word has its place
found_at : (all : List (List ℕ)) → IsDistinct bytes_eq all → (n : ℕ) → n < length all → (q : List ℕ) → place all q < length all → nat_eq (place all q) n ≡ bytes_eq (slice_index_or all n []) q
found_at all h n l q r = by (bytes_eq (slice_index_or all n []) q) refl
  where
    by : (b : Bool) → bytes_eq (slice_index_or all n []) q ≡ b → nat_eq (place all q) n ≡ b
    by true e = eq-eqb (place all q) n (ap (place all) (sym (same _ q e)) ∙ place_of all h n l)
    by false e = ne_eqb (place all q) n (λ i. apart_words _ q (sym (own_place q all r ∙ ap (λ m. slice_index_or all m []) i)) e)

lookup-places : (f : List ℕ → ℕ) (all : List (List ℕ)) (n : ℕ) (t : List ℕ → Bool) (xs : List (List ℕ)) → AllByRecursion (λ w. nat_eq (place all w) n ≡ t w) xs → lookup (λ m. nat_eq m n) (map (weighed f all) xs) ≡ lookup t (table f xs)
lookup-places f all n t [] h = refl
lookup-places f all n t (x ∷ xs) h = ap₂ (λ b o. cond b (Some (f x)) o) h.0 (lookup-places f all n t xs h.1)

nothing : (f : List ℕ → ℕ) (xs : List (List ℕ)) → lookup (λ w. false) (table f xs) ≡ None
nothing f [] = refl
nothing f (x ∷ xs) = nothing f xs

-- a word that does not occur has the count 0
times-or : (w : List ℕ) (found : List (List ℕ)) (b : Bool) → list_any (bytes_eq w) found ≡ b → unwrap_or (if b then Some (times w found) else None) 0 ≡ times w found
times-or w found true e = refl
times-or w found false e = sym (times-absent w found e)

-- each number has the frequency of its word, when the new words are numbered
pub weight-times : (words found : List (List ℕ)) (n : ℕ) → IsDistinct bytes_eq words → weight_at n (weights_of words (counted found)) ≡ option_map_or (λ w. times w found) (slice_get (with_all words found) n) 0
weight-times words found n h = ap (weight_at n) (weights-places words found) ∙ by (nat_lt n (length (with_all words found))) refl
  where
    by : (b : Bool) → nat_lt n (length (with_all words found)) ≡ b → weight_at n (map (weighed (λ w. times w found) (with_all words found)) (parted words (distinct found))) ≡ option_map_or (λ w. times w found) (slice_get (with_all words found) n) 0
    by true e =
        let l : n < length (with_all words found) = ltb-true _ _ e in
        let w : List ℕ = slice_index_or (with_all words found) n [] in
        ap (λ o. unwrap_or o 0)
        (lookup-places (λ w. times w found) (with_all words found) n (bytes_eq w) _ (from_places _ words found (found_at (with_all words found) (IsDistinct-with_all words found h) n l))
        ∙ lookup-table (λ w. times w found) w (parted words (distinct found)) ∙ ap (λ b. if b then Some (times w found) else None) (member words found w))
        ∙ times-or w found _ refl ∙ sym (ap (λ o. option_map_or (λ w. times w found) o 0) (slice_get-get_or (with_all words found) n [] l))
    by false e =
        let l : length (with_all words found) ≤ n = ltb-false _ _ e in
        ap (λ o. unwrap_or o 0)
        (lookup-places (λ w. times w found) (with_all words found) n (λ w. false) _ (from_places _ words found (λ q r. ne_eqb (place (with_all words found) q) n (λ i. absurd (omega (arith, i, l, r)))))
        ∙ nothing (λ w. times w found) (parted words (distinct found)))
        ∙ sym (ap (λ o. option_map_or (λ w. times w found) o 0) (slice_get_past (with_all words found) n l))

-- each number stands once
distinct-places : (f : List ℕ → ℕ) (all xs : List (List ℕ)) → IsDistinct bytes_eq xs → AllByRecursion (λ w. place all w < length all) xs → IsDistinct nat_eq (map (λ p. p.0) (map (weighed f all) xs))
unfolding IsDistinct
distinct-places f all [] h l = tt
distinct-places f all (x ∷ xs) h l = IsDistinct-cons nat_eq _ _ (apart xs (IsDistinct-head bytes_eq x xs h) l.1) (distinct-places f all xs (IsDistinct-tail bytes_eq x xs h) l.1)
  where
    apart : (ys : List (List ℕ)) → AllByRecursion (λ y. bytes_eq x y ≡ false) ys → AllByRecursion (λ w. place all w < length all) ys → AllByRecursion (λ m. nat_eq (place all x) m ≡ false) (map (λ p. p.0) (map (weighed f all) ys))
    apart [] a b = tt
    apart (y ∷ ys) a b = (
      ne_eqb (place all x) (place all y) (λ e. apart_words x y (own_place x all l.0 ∙ ap (λ m. slice_index_or all m []) e ∙ sym (own_place y all b.0)) a.0),
      apart ys a.1 b.1,
    )

pub weights-distinct : (words found : List (List ℕ)) → IsDistinct nat_eq (map (λ p. p.0) (weights_of words (counted found)))
weights-distinct words found =
    subst (λ l. IsDistinct nat_eq (map (λ p. p.0) l)) (sym (weights-places words found))
    (distinct-places (λ w. times w found) (with_all words found) _ (IsDistinct-IsPermutation bytes_eq flipped (distinct found) _ (perm words found) (IsDistinct-distinct found)) (from_places _ words found (λ w l. l)))
