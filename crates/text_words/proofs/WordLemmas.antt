-- The numbers of words.
use Rattle.std.proofs.Common.{◌≡◌, ℕ, ◌+◌, ◌<◌, Bool, true, false, cond, not, ◌||◌, List, [], ◌∷◌, ◌++◌, length, Some, None, is_some, nat_lt, slice_index_or, refl, sym, ap, ◌∙◌, arith, append_assoc, append-nil, length-append, if◌then◌else◌, ltb-true, ltb-false, lt-ltb}
use Rattle.std.proofs.lemmas.Bool.{eq-eqb, ne_eqb, cond-true, cond-false}
use Rattle.std.proofs.lemmas.Bool.Decides.{nat_tests}
use Rattle.std.proofs.lemmas.List.Folds.{list_any-append, prefix_len-append}
use Rattle.std.proofs.lemmas.List.Sums.{fold-append, position_or_len_is, passes_at_first, prefix_len-le-length}
use Rattle.std.proofs.lemmas.Map.Keys.{apart_from_distinct}
use Rattle.std.proofs.lemmas.Option.{cond_some}
use Rattle.std.specs.List.{list_any, position_or_len, IsDistinct}
use Rattle.std.specs.Str.{bytes_eq}
use Rattle.text_words.specs.Words.{entered, with_all, distinct, number_of}
use Rattle.text_words.proofs.CountLemmas.{same, itself, flipped}

-- a place is found exactly where the test passes somewhere
pub within_any : {X : Type 0} (p : X → Bool) (xs : List X) → nat_lt (position_or_len p xs) (length xs) ≡ list_any p xs
within_any p [] = refl
within_any p (x ∷ xs) = by (p x) (within_any p xs)
  where
    by : (b : Bool) → nat_lt (position_or_len p xs) (length xs) ≡ list_any p xs → nat_lt (cond (not b) (1 + position_or_len p xs) 0) (length (x ∷ xs)) ≡ (b || list_any p xs)
    by true h = lt-ltb 0 (length (x ∷ xs)) (omega arith)
    by false h = grind (arith, nat_tests, h)

pub is_some-number_of : (word : List ℕ) (words : List (List ℕ)) → is_some (number_of word words) ≡ list_any (bytes_eq word) words
is_some-number_of word words = by (nat_lt (position_or_len (bytes_eq word) words) (length words)) ∙ within_any (bytes_eq word) words
  where
    by : (b : Bool) → is_some (cond b (Some (position_or_len (bytes_eq word) words)) None) ≡ b
    by true = refl
    by false = refl

-- the place of a word among words, or their number
abbrev pub place : List (List ℕ) → List ℕ → ℕ
place words word = position_or_len (bytes_eq word) words

pub new_place : (word : List ℕ) (words : List (List ℕ)) → list_any (bytes_eq word) words ≡ false → position_or_len (bytes_eq word) words ≡ length words
new_place word words h = let l = ltb-false _ _ (within_any (bytes_eq word) words ∙ h) in omega (arith, l, prefix_len-le-length (λ w. not (bytes_eq word w)) words)

-- at a word's place stands the word, and it stands nowhere else
pub own_place : (word : List ℕ) (words : List (List ℕ)) → place words word < length words → word ≡ slice_index_or words (place words word) []
own_place word words l = same word _ (passes_at_first (bytes_eq word) words [] l)

pub place_of : (words : List (List ℕ)) → IsDistinct bytes_eq words → (n : ℕ) → n < length words → place words (slice_index_or words n []) ≡ n
place_of words h n l =
    let word : List ℕ = slice_index_or words n [] in
    position_or_len_is (bytes_eq word) words n [] (omega (arith, l)) (λ k r. flipped word (slice_index_or words k []) ∙ apart_from_distinct bytes_eq words k n [] h r l) (λ _. itself word)

-- of a word that has a number it is the place
pub numbered : (word : List ℕ) (words : List (List ℕ)) (n : ℕ) → number_of word words ≡ Some n → (place words word < length words) × (place words word ≡ n)
numbered word words n h = let (b, e) = cond_some _ _ _ h in (ltb-true _ _ b, e)

-- one number is of one word
pub same_number : (a b : List ℕ) (words : List (List ℕ)) (n : ℕ) → number_of a words ≡ Some n → number_of b words ≡ Some n → a ≡ b
same_number a b words n h g =
    let (l, x) = numbered a words n h in
    let (r, y) = numbered b words n g in
    own_place a words l ∙ ap (λ m. slice_index_or words m []) (x ∙ sym y) ∙ sym (own_place b words r)

-- the place of a word that has a number stays when more come behind, and that of another one is among them
pub place-front : (words more : List (List ℕ)) (word : List ℕ) (n : ℕ) → number_of word words ≡ Some n → place (words ++ more) word ≡ n
place-front words more word n h =
    let (l, e) = numbered word words n h in
    prefix_len-append (λ w. not (bytes_eq word w)) words more ∙ cond-false _ _ _ (ne_eqb (place words word) (length words) (λ i. absurd (omega (arith, i, l)))) ∙ e

pub place-back : (words more : List (List ℕ)) (word : List ℕ) → list_any (bytes_eq word) words ≡ false → place (words ++ more) word ≡ length words + place more word
place-back words more word h = prefix_len-append (λ w. not (bytes_eq word w)) words more ∙ cond-true _ _ _ (eq-eqb _ _ (new_place word words h))

-- a new word has the next number
pub number_of-new : (word : List ℕ) (words : List (List ℕ)) → list_any (bytes_eq word) words ≡ false → number_of word (words ++ word ∷ []) ≡ Some (length words)
number_of-new word words h =
    let at : place (words ++ word ∷ []) word ≡ length words = place-back words (word ∷ []) word h ∙ ap (λ b. length words + cond (not b) 1 0) (itself word) ∙ omega arith in
    ap (λ n. cond (nat_lt n (length (words ++ word ∷ []))) (Some n) None) at ∙ cond-true _ _ _ (lt-ltb (length words) (length (words ++ word ∷ [])) (omega (arith, length-append words (word ∷ []))))

-- what is entered behind words
pub entered-known : (words fresh : List (List ℕ)) (k : List ℕ) → list_any (bytes_eq k) words ≡ true → entered (words ++ fresh) k ≡ words ++ fresh
entered-known words fresh k h = ap (λ b. if b then words ++ fresh else (words ++ fresh) ++ k ∷ []) (list_any-append (bytes_eq k) words fresh ∙ ap (λ b. b || list_any (bytes_eq k) fresh) h)

pub entered-fresh : (words fresh : List (List ℕ)) (k : List ℕ) → list_any (bytes_eq k) words ≡ false → entered (words ++ fresh) k ≡ words ++ entered fresh k
entered-fresh words fresh k h = ap (λ b. if b then words ++ fresh else (words ++ fresh) ++ k ∷ []) (list_any-append (bytes_eq k) words fresh ∙ ap (λ b. b || list_any (bytes_eq k) fresh) h) ∙ by (list_any (bytes_eq k) fresh)
  where
    by : (b : Bool) → (if b then words ++ fresh else (words ++ fresh) ++ k ∷ []) ≡ words ++ (if b then fresh else fresh ++ k ∷ [])
    by true = refl
    by false = append_assoc words fresh (k ∷ [])

-- a word without a number is none of the words, and one with a number is
pub absent-none : (word : List ℕ) (words : List (List ℕ)) → number_of word words ≡ None → list_any (bytes_eq word) words ≡ false
absent-none word words h = sym (is_some-number_of word words) ∙ ap is_some h

pub entered-none : (word : List ℕ) (words : List (List ℕ)) → number_of word words ≡ None → words ++ word ∷ [] ≡ entered words word
entered-none word words h = sym (ap (λ b. if b then words else words ++ word ∷ []) (absent-none word words h))

pub entered-some : (word : List ℕ) (words : List (List ℕ)) (n : ℕ) → number_of word words ≡ Some n → words ≡ entered words word
entered-some word words n h = sym (ap (λ b. if b then words else words ++ word ∷ []) (sym (is_some-number_of word words) ∙ ap is_some h))

-- words stay in front of those that are entered
entered-front : (words : List (List ℕ)) (k : List ℕ) → (rest : List (List ℕ)) × (entered words k ≡ words ++ rest)
entered-front words k = by (list_any (bytes_eq k) words)
  where
    by : (b : Bool) → (rest : List (List ℕ)) × ((if b then words else words ++ k ∷ []) ≡ words ++ rest)
    by true = ([], sym (append-nil words))
    by false = (k ∷ [], refl)

pub with_all-front : (words found : List (List ℕ)) → (rest : List (List ℕ)) × (with_all words found ≡ words ++ rest)
with_all-front words [] = ([], sym (append-nil words))
with_all-front words (k ∷ found) =
    let one = entered-front words k in
    let more = with_all-front (entered words k) found in
    (one.0 ++ more.0, more.1 ∙ ap (λ l. l ++ more.0) one.1 ∙ append_assoc words one.0 more.0)

pub distinct-front : (front back : List (List ℕ)) → (rest : List (List ℕ)) × (distinct (front ++ back) ≡ distinct front ++ rest)
distinct-front front back =
    let h = with_all-front (distinct front) back in
    (h.0, fold-append entered [] front back ∙ h.1)
