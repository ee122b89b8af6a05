-- A text's words for a vocabulary and for the words that other texts brought behind it.
use Rattle.std.proofs.Common.{◌≡◌, ℕ, ◌+◌, ◌||◌, Bool, true, false, cond, not, nat_lt, List, [], ◌∷◌, ◌++◌, length, map, Option, Some, None, is_some, option_map, refl, ap, sym, subst, ◌∙◌, arith, length-append, append-nil, append_assoc, lt-ltb}
use Rattle.std.specs.List.{list_any, cons_option}
use Rattle.std.specs.List.Sorted.{IsPermutation}
use Rattle.std.specs.Str.{bytes_eq}
use Rattle.std.proofs.lemmas.Bool.{cond-true}
use Rattle.std.proofs.lemmas.List.{map-append}
use Rattle.std.proofs.lemmas.List.Elements.{filter-append, filter_map-append}
use Rattle.std.proofs.lemmas.List.Folds.{list_any-append}
use Rattle.std.proofs.lemmas.List.Sorted.{IsPermutation-refl, IsPermutation-cons, IsPermutation-middle, IsPermutation-sym, IsPermutation-trans}
use Rattle.text_words.specs.Words.{counted, number_of, known_of, fresh_of}
use Rattle.text_words.proofs.WordLemmas.{place, is_some-number_of, numbered, place-front, place-back, absent-none}
use Rattle.lists_index.specs.Words.{keys_held}
use Rattle.lists_index.specs.Measuring.{IsParted}

-- counts by the numbers that words have behind so many others
abbrev pub shifted : ℕ → List (ℕ × ℕ) → List (ℕ × ℕ)
shifted n counts = map (λ p. (n + p.0, p.1)) counts

-- a word has its number behind others where it is none of them
number-front : (words more : List (List ℕ)) (word : List ℕ) (n : ℕ) → number_of word words ≡ Some n → number_of word (words ++ more) ≡ Some n
number-front words more word n h =
    let (l, e) = numbered word words n h in
    ap (λ m. cond (nat_lt m (length (words ++ more))) (Some m) None) (place-front words more word n h) ∙ cond-true _ _ _ (lt-ltb n (length (words ++ more)) (omega (arith, length-append words more, l, e)))

number-back : (words more : List (List ℕ)) (word : List ℕ) (n : ℕ) → list_any (bytes_eq word) words ≡ false → number_of word more ≡ Some n → number_of word (words ++ more) ≡ Some (length words + n)
number-back words more word n none h =
    let (l, e) = numbered word more n h in
    let at : place (words ++ more) word ≡ length words + n = place-back words more word none ∙ ap (λ m. length words + m) e in
    ap (λ m. cond (nat_lt m (length (words ++ more))) (Some m) None) at ∙ cond-true _ _ _ (lt-ltb (length words + n) (length (words ++ more)) (omega (arith, length-append words more, l, e)))

number-none : (words more : List (List ℕ)) (word : List ℕ) → list_any (bytes_eq word) words ≡ false → list_any (bytes_eq word) more ≡ false → number_of word (words ++ more) ≡ None
number-none words more word a b = none (number_of word (words ++ more)) (is_some-number_of word (words ++ more) ∙ list_any-append (bytes_eq word) words more ∙ ap (λ x. x || list_any (bytes_eq word) more) a ∙ b)
  where
    none : (o : Option ℕ) → is_some o ≡ false → o ≡ None
    none None e = refl
    none (Some n) e = absurd cc

known-any : (word : List ℕ) (words : List (List ℕ)) (n : ℕ) → number_of word words ≡ Some n → list_any (bytes_eq word) words ≡ true
known-any word words n h = sym (is_some-number_of word words) ∙ ap is_some h

-- the fresh words are those that neither have
split-fresh : (words more : List (List ℕ)) (counts : List (List ℕ × ℕ)) → fresh_of (words ++ more) counts ≡ fresh_of more (fresh_of words counts)
split-fresh words more [] = refl
split-fresh words more (e ∷ counts) = by (list_any (bytes_eq e.0) (words ++ more)) (list_any (bytes_eq e.0) words) (list_any-append (bytes_eq e.0) words more) (split-fresh words more counts)
  where
    by : (all front : Bool) → all ≡ (front || list_any (bytes_eq e.0) more) → fresh_of (words ++ more) counts ≡ fresh_of more (fresh_of words counts)
        → cond (not all) (e ∷ fresh_of (words ++ more) counts) (fresh_of (words ++ more) counts) ≡ fresh_of more (cond (not front) (e ∷ fresh_of words counts) (fresh_of words counts))
    by all true h rest = ap (λ b. cond (not b) (e ∷ fresh_of (words ++ more) counts) (fresh_of (words ++ more) counts)) h ∙ rest
    by all false h rest = ap (λ b. cond (not b) (e ∷ fresh_of (words ++ more) counts) (fresh_of (words ++ more) counts)) h ∙ ap (λ (l : List (List ℕ × ℕ)). cond (not (list_any (bytes_eq e.0) more)) (e ∷ l) l) rest

-- and the known ones are those that the vocabulary has, and those that the others brought
split-known : (words more : List (List ℕ)) (counts : List (List ℕ × ℕ)) → IsPermutation (known_of (words ++ more) counts) (known_of words counts ++ shifted (length words) (known_of more (fresh_of words counts)))
split-known words more [] = IsPermutation-refl []
split-known words more (e ∷ counts) = by (number_of e.0 words) refl (number_of e.0 more) refl (split-known words more counts)
  where
    front : List (ℕ × ℕ)
    front = known_of words counts

    back : List (ℕ × ℕ)
    back = shifted (length words) (known_of more (fresh_of words counts))

    -- by what numbers the word has, and what is fresh then
    Is : Option ℕ → Option ℕ → List (List ℕ × ℕ) → Type 0
    Is all o fresh = IsPermutation (cons_option (option_map (λ n. (n, e.1)) all) (known_of (words ++ more) counts)) (cons_option (option_map (λ n. (n, e.1)) o) (known_of words counts) ++ shifted (length words) (known_of more fresh))

    fresh-is : (b : Bool) → list_any (bytes_eq e.0) words ≡ b → fresh_of words (e ∷ counts) ≡ cond (not b) (e ∷ fresh_of words counts) (fresh_of words counts)
    fresh-is b h = ap (λ x. cond (not x) (e ∷ fresh_of words counts) (fresh_of words counts)) h

    by : (o : Option ℕ) → number_of e.0 words ≡ o → (q : Option ℕ) → number_of e.0 more ≡ q → IsPermutation (known_of (words ++ more) counts) (front ++ back) → Is (number_of e.0 (words ++ more)) o (fresh_of words (e ∷ counts))
    by (Some n) h q g rest =
        subst (λ a. Is a (Some n) (fresh_of words (e ∷ counts))) (sym (number-front words more e.0 n h))
        (subst (λ f. Is (Some n) (Some n) f) (sym (fresh-is true (known-any e.0 words n h))) (IsPermutation-cons (n, e.1) _ _ rest))
    by None h (Some n) g rest =
        let none = absent-none e.0 words h in
        let x : ℕ × ℕ = (length words + n, e.1) in
        let K : Option ℕ → Type 0 = λ o. IsPermutation (x ∷ known_of (words ++ more) counts) (front ++ shifted (length words) (cons_option (option_map (λ m. (m, e.1)) o) (known_of more (fresh_of words counts)))) in
        subst (λ a. Is a None (fresh_of words (e ∷ counts))) (sym (number-back words more e.0 n none g))
        (subst (λ f. Is (Some (length words + n)) None f) (sym (fresh-is false none))
        (subst K (sym g)
        (IsPermutation-trans _ (x ∷ (front ++ back)) _ (IsPermutation-cons x _ _ rest) (IsPermutation-sym _ _ (IsPermutation-middle front x back)))))
    by None h None g rest =
        let none = absent-none e.0 words h in
        let K : Option ℕ → Type 0 = λ o. IsPermutation (known_of (words ++ more) counts) (front ++ shifted (length words) (cons_option (option_map (λ m. (m, e.1)) o) (known_of more (fresh_of words counts)))) in
        subst (λ a. Is a None (fresh_of words (e ∷ counts))) (sym (number-none words more e.0 none (absent-none e.0 more g)))
        (subst (λ f. Is None None f) (sym (fresh-is false none)) (subst K (sym g) rest))

pub parted-behind : (words more : List (List ℕ)) (held : Option (List ℕ)) (n : ℕ) (known all : List (ℕ × ℕ)) (fresh : List (List ℕ × ℕ)) (keys : List (List ℕ)) (counts : List ℕ) → n ≡ length words
    → known ≡ known_of words (counted (keys_held held)) → fresh ≡ fresh_of words (counted (keys_held held))
    → all ≡ known ++ shifted n (known_of more fresh) → keys ≡ map (λ e. e.0) (fresh_of more fresh) → counts ≡ map (λ e. e.1) (fresh_of more fresh) → IsParted (words ++ more) held all keys counts
parted-behind words more held n known all fresh keys counts is k f all_are keys_are counts_are =
    let cs = counted (keys_held held) in
    let both : fresh_of more fresh ≡ fresh_of (words ++ more) cs = ap (fresh_of more) f ∙ sym (split-fresh words more cs) in
    let every : all ≡ known_of words cs ++ shifted (length words) (known_of more (fresh_of words cs)) =
    all_are ∙ ap (λ (l : List (ℕ × ℕ)). l ++ shifted n (known_of more fresh)) k ∙ ap (λ m. known_of words cs ++ shifted m (known_of more fresh)) is ∙ ap (λ (l : List (List ℕ × ℕ)). known_of words cs ++ shifted (length words) (known_of more l)) f in
    record {
      known_are = subst (IsPermutation (known_of (words ++ more) cs)) (sym every) (split-known words more cs);
      fresh_are = keys_are ∙ ap (map (λ e. e.0)) both;
      counts_are = counts_are ∙ ap (map (λ e. e.1)) both;
    }

-- one word more that the others brought, and one that they didn't
pub known-more : (n m count : ℕ) (key : List ℕ) (more : List (List ℕ)) (front done : List (ℕ × ℕ)) (counts : List (List ℕ × ℕ)) → Some m ≡ number_of key more → done ≡ front ++ shifted n (known_of more counts)
    → done ++ (n + m, count) ∷ [] ≡ front ++ shifted n (known_of more (counts ++ (key, count) ∷ []))
known-more n m count key more front done counts h so =
    let x : ℕ × ℕ = (n + m, count) in
    let was : List (ℕ × ℕ) = shifted n (known_of more counts) in
    let step : known_of more (counts ++ (key, count) ∷ []) ≡ known_of more counts ++ (m, count) ∷ [] =
    filter_map-append (λ p. option_map (λ i. (i, p.1)) (number_of p.0 more)) counts ((key, count) ∷ []) ∙ ap (λ (o : Option ℕ). known_of more counts ++ cons_option (option_map (λ i. (i, count)) o) []) (sym h) in
    ap (λ (l : List (ℕ × ℕ)). l ++ x ∷ []) so ∙ append_assoc front was (x ∷ [])
    ∙ ap (λ (l : List (ℕ × ℕ)). front ++ l) (sym (ap (shifted n) step ∙ map-append (λ (p : ℕ × ℕ). (n + p.0, p.1)) (known_of more counts) ((m, count) ∷ [])))

pub fresh-known : (m count : ℕ) (key : List ℕ) (more : List (List ℕ)) (counts : List (List ℕ × ℕ)) → Some m ≡ number_of key more → fresh_of more counts ≡ fresh_of more (counts ++ (key, count) ∷ [])
fresh-known m count key more counts h =
    sym (filter-append (λ p. not (list_any (bytes_eq p.0) more)) counts ((key, count) ∷ [])
    ∙ ap (λ b. fresh_of more counts ++ cond (not b) ((key, count) ∷ []) []) (known-any key more m (sym h)) ∙ append-nil (fresh_of more counts))

pub known-same : (n count : ℕ) (key : List ℕ) (more : List (List ℕ)) (front done : List (ℕ × ℕ)) (counts : List (List ℕ × ℕ)) → None ≡ number_of key more → done ≡ front ++ shifted n (known_of more counts)
    → done ≡ front ++ shifted n (known_of more (counts ++ (key, count) ∷ []))
known-same n count key more front done counts h so =
    let step : known_of more (counts ++ (key, count) ∷ []) ≡ known_of more counts =
    filter_map-append (λ p. option_map (λ i. (i, p.1)) (number_of p.0 more)) counts ((key, count) ∷ []) ∙ ap (λ (o : Option ℕ). known_of more counts ++ cons_option (option_map (λ i. (i, count)) o) []) (sym h)
    ∙ append-nil (known_of more counts) in
    so ∙ ap (λ (l : List (ℕ × ℕ)). front ++ shifted n l) (sym step)

pub fresh-more : (count : ℕ) (key : List ℕ) (more : List (List ℕ)) (counts : List (List ℕ × ℕ)) → None ≡ number_of key more → fresh_of more (counts ++ (key, count) ∷ []) ≡ fresh_of more counts ++ (key, count) ∷ []
fresh-more count key more counts h =
    filter-append (λ p. not (list_any (bytes_eq p.0) more)) counts ((key, count) ∷ [])
    ∙ ap (λ b. fresh_of more counts ++ cond (not b) ((key, count) ∷ []) []) (absent-none key more (sym h))
