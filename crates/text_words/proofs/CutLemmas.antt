-- The first run of a text, as a slice of its bytes.
use Rattle.std.proofs.Common.{◌≡◌, ℕ, ◌+◌, ◌<◌, ◌≤◌, Bool, true, false, not, ◌&&◌, List, [], ◌∷◌, ◌++◌, length, take, drop, zero, suc, chars, encode_utf8, IsUtf8, IsAscii, slice_index, nat_lt, refl, sym, ap, ap₂, subst, ◌∙◌, arith, append-nil, take-append-drop, ltb-true}
use Rattle.std.proofs.lemmas.Bool.{and_parts, and_from, cond-false, not-true, not-false}
use Rattle.std.proofs.lemmas.Bool.Decides.{nat_tests}
use Rattle.std.proofs.lemmas.List.{drop_more, take_all}
use Rattle.std.proofs.lemmas.Str.{IsUtf8-drop, IsUtf8-from_ascii, IsCharBoundary-from_take, chars-nil, chars-append, chars-IsAscii, chars_from_encodes, chars_past_char, encode_ascii}
use Rattle.std.specs.Char.{is_ascii_alphanumeric}
use Rattle.std.specs.List.{list_all}
use Rattle.std.specs.Str.{IsCharBoundary, NonePass, NoCharPasses}
use Rattle.std.specs.Str.Pattern.{HasCharAt}
use Rattle.text_words.specs.Terms.{is_term, is_ascii_term, is_ascii_gap, closed, runs_from, runs}
use Rattle.text_words.proofs.KeyLemmas.{is_term-ascii}
use Rattle.text_words.proofs.RunLemmas.{runs-stretch, runs-parted}

-- bytes by the kit's test for ASCII letters and digits
pub term_byte : (b : ℕ) → is_ascii_alphanumeric b ≡ is_ascii_term b
term_byte b = by (nat_lt b 128) refl
  where
    by : (t : Bool) → nat_lt b 128 ≡ t → is_ascii_alphanumeric b ≡ (t && is_term b)
    by true e = sym (is_term-ascii b (ltb-true _ _ e))
    by false e = grind (arith, nat_tests, e)

pub gap_byte : (b : ℕ) → nat_lt b 128 ≡ true → not (is_ascii_alphanumeric b) ≡ is_ascii_gap b
gap_byte b e = ap not (sym (is_term-ascii b (ltb-true _ _ e))) ∙ sym (ap (λ t. t && not (is_term b)) e)

-- characters of ASCII that pass a test
abbrev pub ascii_and : (ℕ → Bool) → ℕ → Bool
ascii_and p c = nat_lt c 128 && p c

pub all_ascii : (p : ℕ → Bool) (xs : List ℕ) → list_all (ascii_and p) xs ≡ true → IsAscii xs
all_ascii p [] h i = omega arith
all_ascii p (x ∷ xs) h zero = ltb-true _ _ (and_parts _ _ (and_parts _ _ h).0).0
all_ascii p (x ∷ xs) h (suc i) = all_ascii p xs (and_parts _ _ h).1 i

pub all_pass : (p : ℕ → Bool) (xs : List ℕ) → list_all (ascii_and p) xs ≡ true → list_all p xs ≡ true
all_pass p [] h = refl
all_pass p (x ∷ xs) h = ap (λ b. b && list_all p xs) (and_parts _ _ (and_parts _ _ h).0).1 ∙ all_pass p xs (and_parts _ _ h).1

-- a text may be cut behind bytes of ASCII, and they are its first characters
pub ascii_boundary : (p : ℕ → Bool) (n : ℕ) (bs : List ℕ) → n ≤ length bs → list_all (ascii_and p) (take n bs) ≡ true → IsUtf8 bs → IsCharBoundary bs n
ascii_boundary p n bs l h u = IsCharBoundary-from_take bs n u l (IsUtf8-from_ascii _ (all_ascii p _ h))

chars_front : (p : ℕ → Bool) (n : ℕ) (bs : List ℕ) → list_all (ascii_and p) (take n bs) ≡ true → chars bs ≡ take n bs ++ chars (drop n bs)
chars_front p n bs h =
    ap chars (sym (take-append-drop n bs))
    ∙ chars-append (take n bs) (drop n bs) (IsUtf8-from_ascii _ (all_ascii p _ h))
    ∙ ap (λ l. l ++ chars (drop n bs)) (chars-IsAscii _ (all_ascii p _ h))

-- what is between runs is left out
runs_gap : (gap cs : List ℕ) → list_all (λ c. not (is_term c)) gap ≡ true → runs_from [] (gap ++ cs) ≡ runs_from [] cs
runs_gap [] cs h = refl
runs_gap (c ∷ gap) cs h = let (e, rest) = and_parts _ _ h in cond-false _ _ _ (not-true _ e) ∙ runs_gap gap cs rest

pub runs_behind_gap : (n : ℕ) (bs : List ℕ) → list_all is_ascii_gap (take n bs) ≡ true → runs (chars bs) ≡ runs (chars (drop n bs))
runs_behind_gap n bs h = ap runs (chars_front (λ c. not (is_term c)) n bs h) ∙ runs_gap (take n bs) (chars (drop n bs)) (all_pass (λ c. not (is_term c)) _ h)

-- a run that ends the text
pub runs_whole : (cs bs : List ℕ) → list_all is_term cs ≡ true → bs ≡ [] → runs cs ≡ closed cs ++ runs (chars bs)
runs_whole cs bs h e = runs-stretch cs h ∙ sym (ap (λ l. closed cs ++ runs l) (ap chars e ∙ chars-nil) ∙ append-nil (closed cs))

pub runs_to_end : (n : ℕ) (bs : List ℕ) → n ≡ length bs → list_all is_ascii_term (take n bs) ≡ true → list_all is_term (chars bs) ≡ true
runs_to_end n bs e h =
    let all : list_all is_ascii_term bs ≡ true = subst (λ l. list_all is_ascii_term l ≡ true) (take_all n bs (omega (arith, e))) h in
    ap (list_all is_term) (chars-IsAscii bs (all_ascii is_term bs all)) ∙ all_pass is_term bs all

-- a run that another character ends
pub runs_between : (run rest : List ℕ) (c : ℕ) → list_all is_term run ≡ true → is_term c ≡ false → runs (run ++ c ∷ rest) ≡ closed run ++ runs rest
runs_between run rest c h stop = runs-parted run rest c stop ∙ ap (λ l. l ++ runs rest) (runs-stretch run h)

pub runs_to_gap : (n : ℕ) (bs : List ℕ) → n < length bs → list_all is_ascii_term (take n bs) ≡ true → is_ascii_term (slice_index bs n) ≡ false → nat_lt (slice_index bs n) 128 ≡ true → IsUtf8 bs
    → runs (chars bs) ≡ closed (chars (take n bs)) ++ runs (chars (drop (n + 1) bs))
runs_to_gap n bs l h stop low u =
    let b = slice_index bs n in
    let rest : drop n bs ≡ encode_utf8 b ++ drop (n + 1) bs = drop_more bs n 0 l ∙ sym (ap (λ x. x ++ drop (n + 1) bs) (encode_ascii b (ltb-true _ _ low))) in
    let behind : IsUtf8 (drop n bs) = IsUtf8-drop bs n u (ascii_boundary is_term n bs (omega (arith, l)) h u) in
    ap runs (chars_front is_term n bs h ∙ ap (λ l. take n bs ++ l) (chars_past_char (drop n bs) (drop (n + 1) bs) b behind rest))
    ∙ runs_between (take n bs) (chars (drop (n + 1) bs)) b (all_pass is_term _ h) (sym (ap (λ t. t && is_term b) low) ∙ stop)
    ∙ ap (λ l. closed l ++ runs (chars (drop (n + 1) bs))) (sym (chars-IsAscii _ (all_ascii is_term _ h)))

-- where no character ends a run, all are part of it
pub no_end : (cs : List ℕ) → NonePass (λ c. not (is_term c)) cs → list_all is_term cs ≡ true
no_end [] h = refl
no_end (c ∷ cs) h = and_from _ _ (not-false _ h.0) (no_end cs h.1)

pub chars_inside : (bs : List ℕ) → IsUtf8 bs → NoCharPasses (λ c. not (is_term c)) bs → list_all is_term (chars bs) ≡ true
chars_inside bs u (cs, e, none) = ap (list_all is_term) (sym (chars_from_encodes cs bs u e)) ∙ no_end cs none

-- a text that is split at the first character that is part of no run
pub runs_split : (text front back : List ℕ) (i j c : ℕ) → IsUtf8 text → IsUtf8 front → i ≤ length text → NoCharPasses (λ c. not (is_term c)) (take i text) → not (is_term c) ≡ true → HasCharAt c text i j → front ≡ take i text → back ≡ drop j text
    → runs (chars text) ≡ closed (chars front) ++ runs (chars back)
runs_split text front back i j c u v l inside stop at e f =
    let w : IsUtf8 (take i text) = subst IsUtf8 e v in
    let behind : IsUtf8 (drop i text) = IsUtf8-drop text i u (IsCharBoundary-from_take text i u l w) in
    ap (λ l. runs (chars l)) (sym (take-append-drop i text))
    ∙ ap runs (chars-append (take i text) (drop i text) w ∙ ap (λ l. chars (take i text) ++ l) (chars_past_char (drop i text) (drop j text) c behind at.split))
    ∙ runs_between (chars (take i text)) (chars (drop j text)) c (chars_inside (take i text) w inside) (not-true _ stop)
    ∙ ap₂ (λ a b. closed (chars a) ++ runs (chars b)) (sym e) (sym f)
