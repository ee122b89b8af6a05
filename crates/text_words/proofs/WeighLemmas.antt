-- The counts of words by number, and of those without one.
use Rattle.std.proofs.Common.{◌≡◌, ◌≢◌, ℕ, ◌+◌, ◌<◌, Bool, true, false, cond, not, filter, List, [], ◌∷◌, ◌++◌, length, zero, suc, Option, Some, None, option_map, refl, sym, ap, ◌∙◌, arith, if◌then◌else◌, nat_eq, nat_lt, set, slice_index, slice_index_or, length-append, ltb-true, ltb-false}
use Rattle.std.proofs.lemmas.Bool.{eq-eqb, ne_eqb, cond-true, cond-false}
use Rattle.std.proofs.lemmas.List.{get_or-set_same, get_or-set_other, get_or_append_left, get_or_at}
use Rattle.std.specs.List.{list_any, cons_option}
use Rattle.std.specs.Str.{bytes_eq}
use Rattle.text_words.specs.Words.{bump, number_of, known_of, fresh_of, ArePlaced}
use Rattle.text_words.proofs.CountLemmas.{same, apart_words}
use Rattle.text_words.proofs.WordLemmas.{same_number}

-- the count at a place
abbrev pub at : List (ℕ × ℕ) → ℕ → ℕ × ℕ
at known p = slice_index_or known p (0, 0)

-- one more of a word that has a number
pub known-bump : (words : List (List ℕ)) (es : List (List ℕ × ℕ)) (k : List ℕ) (n : ℕ) → number_of k words ≡ Some n → known_of words (bump bytes_eq es k) ≡ bump nat_eq (known_of words es) n
known-bump words [] k n h = ap (λ o. cons_option (option_map (λ m. (m, 1)) o) []) h
known-bump words (e ∷ es) k n h = by (bytes_eq k e.0) refl (known-bump words es k n h)
  where
    by : (b : Bool) → bytes_eq k e.0 ≡ b → known_of words (bump bytes_eq es k) ≡ bump nat_eq (known_of words es) n
        → known_of words (if b then (e.0, e.1 + 1) ∷ es else e ∷ bump bytes_eq es k) ≡ bump nat_eq (known_of words (e ∷ es)) n
    by true i rest =
        let known = known_of words es in
        let here : number_of e.0 words ≡ Some n = ap (λ w. number_of w words) (sym (same k e.0 i)) ∙ h in
        ap (λ o. cons_option (option_map (λ m. (m, e.1 + 1)) o) known) here
        ∙ sym (ap (λ o. bump nat_eq (cons_option (option_map (λ m. (m, e.1)) o) known) n) here ∙ ap (λ b. if b then (n, e.1 + 1) ∷ known else (n, e.1) ∷ bump nat_eq known n) (eq-eqb n n refl))
    by false i rest = go (number_of e.0 words) refl
      where
        go : (o : Option ℕ) → number_of e.0 words ≡ o → cons_option (option_map (λ m. (m, e.1)) o) (known_of words (bump bytes_eq es k)) ≡ bump nat_eq (cons_option (option_map (λ m. (m, e.1)) o) (known_of words es)) n
        go None j = rest
        go (Some m) j =
            let apart : nat_eq n m ≡ false = ne_eqb n m (λ s. apart_words k e.0 (same_number k e.0 words m (h ∙ ap Some s) j) i) in
            ap (λ l. (m, e.1) ∷ l) rest ∙ sym (ap (λ b. if b then (m, e.1 + 1) ∷ known_of words es else (m, e.1) ∷ bump nat_eq (known_of words es) n) apart)

-- or none
pub known-skip : (words : List (List ℕ)) (es : List (List ℕ × ℕ)) (k : List ℕ) → number_of k words ≡ None → known_of words (bump bytes_eq es k) ≡ known_of words es
known-skip words [] k h = ap (λ o. cons_option (option_map (λ m. (m, 1)) o) []) h
known-skip words (e ∷ es) k h = by (bytes_eq k e.0) refl (known-skip words es k h)
  where
    by : (b : Bool) → bytes_eq k e.0 ≡ b → known_of words (bump bytes_eq es k) ≡ known_of words es → known_of words (if b then (e.0, e.1 + 1) ∷ es else e ∷ bump bytes_eq es k) ≡ known_of words (e ∷ es)
    by true i rest = let none : number_of e.0 words ≡ None = ap (λ w. number_of w words) (sym (same k e.0 i)) ∙ h in
        ap (λ o. cons_option (option_map (λ m. (m, e.1 + 1)) o) (known_of words es)) none ∙ sym (ap (λ o. cons_option (option_map (λ m. (m, e.1)) o) (known_of words es)) none)
    by false i rest = ap (cons_option (option_map (λ m. (m, e.1)) (number_of e.0 words))) rest

-- of counts by word, those of words that pass a test, after one more of a word
filter-bump : (t : List ℕ → Bool) (es : List (List ℕ × ℕ)) (k : List ℕ) → filter (λ p. t p.0) (bump bytes_eq es k) ≡ cond (t k) (bump bytes_eq (filter (λ p. t p.0) es) k) (filter (λ p. t p.0) es)
filter-bump t [] k = refl
filter-bump t (e ∷ es) k = by (bytes_eq k e.0) refl (t e.0) refl (t k) refl (filter-bump t es k)
  where
    by : (b : Bool) → bytes_eq k e.0 ≡ b → (u : Bool) → t e.0 ≡ u → (s : Bool) → t k ≡ s → filter (λ p. t p.0) (bump bytes_eq es k) ≡ cond s (bump bytes_eq (filter (λ p. t p.0) es) k) (filter (λ p. t p.0) es)
        → filter (λ p. t p.0) (if b then (e.0, e.1 + 1) ∷ es else e ∷ bump bytes_eq es k) ≡ cond s (bump bytes_eq (cond u (e ∷ filter (λ p. t p.0) es) (filter (λ p. t p.0) es)) k) (cond u (e ∷ filter (λ p. t p.0) es) (filter (λ p. t p.0) es))
    by true i true x true y rest = cond-true _ _ _ x ∙ sym (cond-true _ _ _ i)
    by true i false x false y rest = cond-false _ _ _ x
    by true i true x false y rest = absurd (let f : true ≡ false = sym x ∙ ap t (sym (same k e.0 i)) ∙ y in cc)
    by true i false x true y rest = absurd (let f : true ≡ false = sym y ∙ ap t (same k e.0 i) ∙ x in cc)
    by false i true x true y rest = cond-true _ _ _ x ∙ ap (λ l. e ∷ l) rest ∙ sym (cond-false _ _ _ i)
    by false i true x false y rest = cond-true _ _ _ x ∙ ap (λ l. e ∷ l) rest
    by false i false x s y rest = cond-false _ _ _ x ∙ rest

-- one more of a word that has no number, or one
pub fresh-bump : (words : List (List ℕ)) (es : List (List ℕ × ℕ)) (k : List ℕ) → list_any (bytes_eq k) words ≡ false → fresh_of words (bump bytes_eq es k) ≡ bump bytes_eq (fresh_of words es) k
fresh-bump words es k h = filter-bump (λ w. not (list_any (bytes_eq w) words)) es k ∙ cond-true _ _ _ (ap not h)

pub fresh-skip : (words : List (List ℕ)) (es : List (List ℕ × ℕ)) (k : List ℕ) → list_any (bytes_eq k) words ≡ true → fresh_of words (bump bytes_eq es k) ≡ fresh_of words es
fresh-skip words es k h = filter-bump (λ w. not (list_any (bytes_eq w) words)) es k ∙ cond-false _ _ _ (ap not h)

-- a count in its place
pub bump_here : (es : List (ℕ × ℕ)) (p : ℕ) (x : ℕ) → p < length es → (at es p).0 ≡ x → ((q : ℕ) → q < p → (at es q).0 ≢ x) → set es p ((at es p).0, (at es p).1 + 1) ≡ bump nat_eq es x
bump_here [] p x l e h = absurd (omega (arith, l))
bump_here (e ∷ es) zero x l i h = sym (ap (λ b. if b then (e.0, e.1 + 1) ∷ es else e ∷ bump nat_eq es x) (ap (nat_eq x) i ∙ eq-eqb x x refl))
bump_here (e ∷ es) (suc p) x l i h =
    ap (λ k. e ∷ k) (bump_here es p x (omega (arith, l)) i (λ q r. h (suc q) (omega (arith, r))))
    ∙ sym (ap (λ b. if b then (e.0, e.1 + 1) ∷ es else e ∷ bump nat_eq es x) (ne_eqb x e.0 (λ s. h zero (omega arith) (sym s))))

pub bump_behind : (es : List (ℕ × ℕ)) (x : ℕ) → ((q : ℕ) → q < length es → (at es q).0 ≢ x) → es ++ (x, 1) ∷ [] ≡ bump nat_eq es x
bump_behind [] x h = refl
bump_behind (e ∷ es) x h =
    ap (λ k. e ∷ k) (bump_behind es x (λ q r. h (suc q) (omega (arith, r))))
    ∙ sym (ap (λ b. if b then (e.0, e.1 + 1) ∷ es else e ∷ bump nat_eq es x) (ne_eqb x e.0 (λ s. h zero (omega arith) (sym s))))

-- where a word is counted, there alone
pub here_alone : (places : List ℕ) (es : List (ℕ × ℕ)) (x : ℕ) → ArePlaced places es → (q : ℕ) → q < slice_index places x → q < length es → (at es q).0 ≢ x
here_alone places es x h q l r e = let p = h q r in omega (arith, l, p, ap (slice_index places) e)

pub nowhere : (places : List ℕ) (es : List (ℕ × ℕ)) (x : ℕ) → ArePlaced places es → ((slice_index places x) < length es → (at es (slice_index places x)).0 ≢ x) → (q : ℕ) → q < length es → (at es q).0 ≢ x
nowhere places es x h miss q l e =
    let p : slice_index places x ≡ q = sym (ap (slice_index places) e) ∙ h q l in
    miss (omega (arith, l, p)) (ap (λ k. (at es k).0) p ∙ e)

pub placed_behind : (places : List ℕ) (es : List (ℕ × ℕ)) (x : ℕ) → x < length places → ArePlaced places es → ((q : ℕ) → q < length es → (at es q).0 ≢ x) → ArePlaced (set places x (length es)) (es ++ (x, 1) ∷ [])
placed_behind places es x l h apart q r = by (nat_lt q (length es)) refl
  where
    by : (b : Bool) → nat_lt q (length es) ≡ b → slice_index (set places x (length es)) (at (es ++ (x, 1) ∷ []) q).0 ≡ q
    by true e = let s : q < length es = ltb-true _ _ e in
        ap (λ (v : ℕ × ℕ). slice_index (set places x (length es)) v.0) (get_or_append_left es ((x, 1) ∷ []) (0, 0) q s)
        ∙ get_or-set_other places x (at es q).0 (length es) 0 (apart q s) ∙ h q s
    by false e = let s : length es ≡ q = (let f = ltb-false _ _ e in omega (arith, f, r, length-append es ((x, 1) ∷ []))) in
        ap (λ (v : ℕ × ℕ). slice_index (set places x (length es)) v.0) (get_or_at es (x, 1) [] (0, 0) q s)
        ∙ get_or-set_same places x (length es) 0 l ∙ s
