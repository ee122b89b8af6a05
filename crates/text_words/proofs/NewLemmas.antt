-- Which words of a text are new to a vocabulary, and where they stand in it then.
use Rattle.std.proofs.Common.{◌≡◌, ℕ, Bool, true, false, cond, not, List, [], ◌∷◌, ◌++◌, map, filter, refl, sym, ap, ◌∙◌, if◌then◌else◌, append-nil}
use Rattle.std.proofs.lemmas.Bool.{cond-true, cond-false, or_right}
use Rattle.std.proofs.lemmas.List.Elements.{filter-append}
use Rattle.std.proofs.lemmas.List.Sums.{fold_push}
use Rattle.std.proofs.lemmas.Map.Views.{any-filter_same}
use Rattle.std.specs.List.{list_any}
use Rattle.std.specs.Str.{bytes_eq}
use Rattle.text_words.specs.Terms.{times}
use Rattle.text_words.specs.Words.{entered, with_all, distinct, counted, fresh_of}
use Rattle.text_words.proofs.CountLemmas.{same, table, member-with_all}
use Rattle.text_words.proofs.WordLemmas.{entered-known, entered-fresh}

-- the words of a list that are none of others
abbrev pub new_in : List (List ℕ) → List (List ℕ) → List (List ℕ)
new_in words found = filter (λ w. not (list_any (bytes_eq w) words)) found

pub fresh-table : (f : List ℕ → ℕ) (words found : List (List ℕ)) → fresh_of words (table f found) ≡ table f (new_in words found)
fresh-table f words [] = refl
fresh-table f words (k ∷ found) = by (list_any (bytes_eq k) words) (fresh-table f words found)
  where
    by : (b : Bool) → fresh_of words (table f found) ≡ table f (new_in words found) → cond (not b) ((k, f k) ∷ fresh_of words (table f found)) (fresh_of words (table f found)) ≡ table f (cond (not b) (k ∷ new_in words found) (new_in words found))
    by true h = h
    by false h = ap (λ l. (k, f k) ∷ l) h

pub keys-table : (f : List ℕ → ℕ) (words : List (List ℕ)) → map (λ p. p.0) (table f words) ≡ words
keys-table f [] = refl
keys-table f (w ∷ words) = ap (λ l. w ∷ l) (keys-table f words)

-- the fresh words are the distinct ones that are new
pub fresh-keys : (words found : List (List ℕ)) → map (λ p. p.0) (fresh_of words (counted found)) ≡ new_in words (distinct found)
fresh-keys words found = ap (map (λ p. p.0)) (fresh-table (λ w. times w found) words (distinct found)) ∙ keys-table (λ w. times w found) (new_in words (distinct found))

-- words that are known add nothing
skip-known : (words rest found : List (List ℕ)) → with_all (words ++ rest) (new_in words found) ≡ with_all (words ++ rest) found
skip-known words rest [] = refl
skip-known words rest (k ∷ found) = by (list_any (bytes_eq k) words) refl (λ r. skip-known words r found)
  where
    by : (b : Bool) → list_any (bytes_eq k) words ≡ b → ((r : List (List ℕ)) → with_all (words ++ r) (new_in words found) ≡ with_all (words ++ r) found)
        → with_all (words ++ rest) (cond (not b) (k ∷ new_in words found) (new_in words found)) ≡ with_all (entered (words ++ rest) k) found
    by true e h = h rest ∙ ap (λ l. with_all l found) (sym (entered-known words rest k e))
    by false e h = let step = entered-fresh words rest k e in
        ap (λ l. with_all l (new_in words found)) step ∙ h (entered rest k) ∙ ap (λ l. with_all l found) (sym step)

-- nor does a repeat
with_all-entered : (words seen : List (List ℕ)) (k : List ℕ) → with_all words (entered seen k) ≡ entered (with_all words seen) k
with_all-entered words seen k = by (list_any (bytes_eq k) seen) refl
  where
    by : (b : Bool) → list_any (bytes_eq k) seen ≡ b → with_all words (if b then seen else seen ++ k ∷ []) ≡ entered (with_all words seen) k
    by true e = sym (ap (λ b. if b then with_all words seen else with_all words seen ++ k ∷ []) (member-with_all k words seen ∙ or_right _ _ e))
    by false e = fold_push entered words seen k

with_all-with_all : (words seen found : List (List ℕ)) → with_all words (with_all seen found) ≡ with_all (with_all words seen) found
with_all-with_all words seen [] = refl
with_all-with_all words seen (k ∷ found) = with_all-with_all words (entered seen k) found ∙ ap (λ l. with_all l found) (with_all-entered words seen k)

-- so the new words are all that a vocabulary has to take
pub with_all-new : (words found : List (List ℕ)) → with_all words (new_in words (distinct found)) ≡ with_all words found
with_all-new words found =
    ap (λ l. with_all l (new_in words (distinct found))) (sym (append-nil words))
    ∙ skip-known words [] (distinct found)
    ∙ ap (λ l. with_all l (distinct found)) (append-nil words)
    ∙ with_all-with_all words [] found

-- of words with one more behind them those that pass a test
filter-entered : (p : List ℕ → Bool) (seen : List (List ℕ)) (k : List ℕ) → filter p (entered seen k) ≡ cond (p k) (entered (filter p seen) k) (filter p seen)
filter-entered p seen k = by (p k) refl (list_any (bytes_eq k) seen) refl
  where
    by : (b : Bool) → p k ≡ b → (d : Bool) → list_any (bytes_eq k) seen ≡ d → filter p (if d then seen else seen ++ k ∷ []) ≡ cond b (entered (filter p seen) k) (filter p seen)
    by true e true f = sym (cond-true _ _ _ (any-filter_same (bytes_eq k) p true (λ w g. ap p (sym (same k w g)) ∙ e) seen ∙ f))
    by true e false f = filter-append p seen (k ∷ []) ∙ ap (λ b. filter p seen ++ cond b (k ∷ []) []) e ∙ sym (cond-false _ _ _ (any-filter_same (bytes_eq k) p true (λ w g. ap p (sym (same k w g)) ∙ e) seen ∙ f))
    by false e true f = refl
    by false e false f = filter-append p seen (k ∷ []) ∙ ap (λ b. filter p seen ++ cond b (k ∷ []) []) e ∙ append-nil (filter p seen)

entered-new : (words seen : List (List ℕ)) (k : List ℕ) → entered (words ++ new_in words seen) k ≡ words ++ new_in words (entered seen k)
entered-new words seen k = by (list_any (bytes_eq k) words) refl
  where
    by : (b : Bool) → list_any (bytes_eq k) words ≡ b → entered (words ++ new_in words seen) k ≡ words ++ new_in words (entered seen k)
    by true e = entered-known words (new_in words seen) k e ∙ ap (λ l. words ++ l) (sym (filter-entered (λ w. not (list_any (bytes_eq w) words)) seen k ∙ cond-false _ _ _ (ap not e)))
    by false e = entered-fresh words (new_in words seen) k e ∙ ap (λ l. words ++ l) (sym (filter-entered (λ w. not (list_any (bytes_eq w) words)) seen k ∙ cond-true _ _ _ (ap not e)))

behind_from : (words seen found : List (List ℕ)) → with_all (words ++ new_in words seen) found ≡ words ++ new_in words (with_all seen found)
behind_from words seen [] = refl
behind_from words seen (k ∷ found) = ap (λ l. with_all l found) (entered-new words seen k) ∙ behind_from words (entered seen k) found

-- and they stand behind the words that were there
pub with_all-behind : (words found : List (List ℕ)) → with_all words found ≡ words ++ new_in words (distinct found)
with_all-behind words found = ap (λ l. with_all l found) (sym (append-nil words)) ∙ behind_from words [] found
