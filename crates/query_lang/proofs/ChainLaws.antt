-- A text that asks for any of some words matches exactly where its score is above 0.
use Rattle.std.proofs.Common.{◌≡◌, ℕ, zero, suc, ◌+◌, ◌*◌, ◌<◌, ◌≤◌, max, nat_lt, Bool, true, false, ◌||◌, cond, List, [], ◌∷◌, ◌++◌, length, get_or, sum_by, All, refl, sym, ap, ap₂, ◌∙◌, subst, arith, append_assoc}
use Rattle.std.proofs.lemmas.List.{map-append, append-nil}
use Rattle.std.proofs.lemmas.List.Folds.{list_any-append}
use Rattle.std.proofs.lemmas.List.Sums.{sum_by-cons}
use Rattle.std.proofs.lemmas.Bool.Decides.{nat_tests}
use Rattle.std.proofs.Math.Nat.{mul-le-mul_left}
use Rattle.std.specs.List.{list_any}
use Rattle.std.specs.Str.{bytes_eq}
use Rattle.text_words.proofs.CountLemmas.{same, itself, member-with_all}
use Rattle.query_lang.specs.declared.term.Term.{Term}
use Rattle.query_lang.specs.declared.token.Token.{Token}
use Rattle.query_lang.specs.declared.token.Token.TheVariants.{Word, Wordless, And, Or, Not, Open, Close}
use Rattle.query_lang.specs.Chains.{in_turn, is_or_chain, asks_for_any}
use Rattle.query_lang.specs.Grammar.{Query, Expr, OneConj, Alternative, OneFactor, Single, expr_tokens, expr_query, expr_depth, Writes}
use Rattle.query_lang.specs.Meaning.{matches, terms_of, keys_of, occurring, words_of, affirmed, greatest, weight, score}
use Rattle.query_lang.specs.Tokens.{plain, tokens, term_of}
use Rattle.query_lang.proofs.LightLemmas.{IsWeight, Lights, text_light}
use Rattle.query_lang.proofs.ReadingLaws.{one_query}

-- ---- the tree of a chain

-- what is read so far of a chain
record IsAny (e : Expr) : Type 0 where
  shallow : expr_depth e ≡ 0
  even : affirmed true (expr_query e) ≡ terms_of (expr_query e)
  any : (f : List ℕ → ℕ) → matches (expr_query e) f ≡ list_any (λ w. nat_lt 0 (f w)) (occurring (expr_query e))

or-none : (b : Bool) → (b || false) ≡ b
or-none true = refl
or-none false = refl

one_word : (t : Term) → IsAny (OneConj (OneFactor (Single t)))
one_word t = record { shallow = refl; even = refl; any = λ f. sym (or-none (nat_lt 0 (f t.key))) }

one_more : (e : Expr) (t : Term) → IsAny e → IsAny (Alternative e (OneFactor (Single t)))
one_more e t is = record {
  shallow = omega (arith, is.shallow);
  even = ap (λ (ts : List Term). ts ++ t ∷ []) is.even;
  any = λ f.
      ap₂ (λ (a b : Bool). a || b) (is.any f) (sym (or-none (nat_lt 0 (f t.key))))
      ∙ sym (list_any-append (λ w. nat_lt 0 (f w)) (occurring (expr_query e)) (t.key ∷ []))
      ∙ ap (list_any (λ w. nat_lt 0 (f w))) (sym (map-append (λ (x : Term). x.key) (terms_of (expr_query e)) (t ∷ [])));
}

mutual
  goes_on : (e : Expr) (ts : List Token) → IsAny e → in_turn false ts ≡ true → (g : Expr) × IsAny g × (expr_tokens g ≡ expr_tokens e ++ ts)
  goes_on e [] is h = (e, is, sym (append-nil (expr_tokens e)))
  goes_on e (Or ∷ ts) is h = word_next e ts is h
  goes_on e (Word t ∷ ts) is h = absurd cc
  goes_on e (Wordless ∷ ts) is h = absurd cc
  goes_on e (And ∷ ts) is h = absurd cc
  goes_on e (Not ∷ ts) is h = absurd cc
  goes_on e (Open ∷ ts) is h = absurd cc
  goes_on e (Close ∷ ts) is h = absurd cc

  word_next : (e : Expr) (ts : List Token) → IsAny e → in_turn true ts ≡ true → (g : Expr) × IsAny g × (expr_tokens g ≡ expr_tokens e ++ Or ∷ ts)
  word_next e [] is h = absurd cc
  word_next e (Word t ∷ ts) is h =
      let more = goes_on (Alternative e (OneFactor (Single t))) ts (one_more e t is) h in
      (more.0, more.1, more.2 ∙ append_assoc (expr_tokens e) (Or ∷ Word t ∷ []) ts)
  word_next e (Or ∷ ts) is h = absurd cc
  word_next e (Wordless ∷ ts) is h = absurd cc
  word_next e (And ∷ ts) is h = absurd cc
  word_next e (Not ∷ ts) is h = absurd cc
  word_next e (Open ∷ ts) is h = absurd cc
  word_next e (Close ∷ ts) is h = absurd cc

chain : (ts : List Token) → is_or_chain ts ≡ true → (g : Expr) × IsAny g × (expr_tokens g ≡ ts)
chain [] h = absurd cc
chain (Word t ∷ ts) h = goes_on (OneConj (OneFactor (Single t))) ts (one_word t) h
chain (Or ∷ ts) h = absurd cc
chain (Wordless ∷ ts) h = absurd cc
chain (And ∷ ts) h = absurd cc
chain (Not ∷ ts) h = absurd cc
chain (Open ∷ ts) h = absurd cc
chain (Close ∷ ts) h = absurd cc

-- what a query is that a chain writes
record IsAnyOf (q : Query) : Type 0 where
  even : affirmed true q ≡ terms_of q
  any : (f : List ℕ → ℕ) → matches q f ≡ list_any (λ w. nat_lt 0 (f w)) (occurring q)

any_of : (ts : List Token) (q : Query) → is_or_chain ts ≡ true → Writes ts q → IsAnyOf q
any_of ts q h w =
    let (g, is, spelled) = chain ts h in
    let other : Writes ts (expr_query g) = record { expr = g; tokens_are = spelled; query_is = refl; shallow = omega (arith, is.shallow) } in
    let here : IsAnyOf (expr_query g) = record { even = is.even; any = is.any } in
    subst IsAnyOf (one_query ts (expr_query g) q other w) here

-- ---- sums

-- a word that is among some passes what one of them passes
member-any : (p : List ℕ → Bool) (w : List ℕ) (ys : List (List ℕ)) → list_any (bytes_eq w) ys ≡ true → p w ≡ true → list_any p ys ≡ true
member-any p w [] m h = absurd cc
member-any p w (y ∷ ys) m h = go (bytes_eq w y) refl m (λ k. member-any p w ys k h)
  where
    there : (b : Bool) → list_any p ys ≡ true → (b || list_any p ys) ≡ true
    there true e = refl
    there false e = e

    go : (b : Bool) → bytes_eq w y ≡ b → (b || list_any (bytes_eq w) ys) ≡ true → (list_any (bytes_eq w) ys ≡ true → list_any p ys ≡ true) → (p y || list_any p ys) ≡ true
    go true e m rest = ap (λ (b : Bool). b || list_any p ys) (sym (ap p (same w y e)) ∙ h)
    go false e m rest = there (p y) (rest m)

any-among : (p : List ℕ → Bool) (xs ys : List (List ℕ)) → ((w : List ℕ) → list_any (bytes_eq w) xs ≡ true → list_any (bytes_eq w) ys ≡ true) → list_any p xs ≡ true → list_any p ys ≡ true
any-among p [] ys among h = absurd cc
any-among p (x ∷ xs) ys among h = go (p x) refl h (any-among p xs ys)
  where
    later : (w : List ℕ) → list_any (bytes_eq w) xs ≡ true → list_any (bytes_eq w) ys ≡ true
    later w m = among w (there (bytes_eq w x) m)
      where
        there : (b : Bool) → list_any (bytes_eq w) xs ≡ true → (b || list_any (bytes_eq w) xs) ≡ true
        there true e = refl
        there false e = e

    go : (b : Bool) → p x ≡ b → (b || list_any p xs) ≡ true
        → (((w : List ℕ) → list_any (bytes_eq w) xs ≡ true → list_any (bytes_eq w) ys ≡ true) → list_any p xs ≡ true → list_any p ys ≡ true) → list_any p ys ≡ true
    go true e h rest = member-any p x ys (among x (ap (λ b. b || list_any (bytes_eq x) xs) (itself x))) e
    go false e h rest = rest later h

both-ways : (a b : Bool) → (a ≡ true → b ≡ true) → (b ≡ true → a ≡ true) → a ≡ b
both-ways true b f g = sym (f refl)
both-ways false true f g = g refl
both-ways false false f g = refl

-- the distinct words are the words
any-distinct : (p : List ℕ → Bool) (q : Query) → list_any p (words_of q) ≡ list_any p (occurring q)
any-distinct p q = both-ways (list_any p (words_of q)) (list_any p (occurring q))
    (any-among p (words_of q) (occurring q) (λ w m. sym (member-with_all w [] (occurring q)) ∙ m))
    (any-among p (occurring q) (words_of q) (λ w m. member-with_all w [] (occurring q) ∙ m))

some-product : (p n r : ℕ) → 1 ≤ p → nat_lt 0 (p * n + r) ≡ (nat_lt 0 n || nat_lt 0 r)
some-product p zero r h = let z : p * 0 ≡ 0 = omega arith in let same : p * 0 + r ≡ r = omega (arith, z) in ap (λ (k : ℕ). nat_lt 0 k) same
some-product p (suc n) r h = let m = mul-le-mul_left p (h0 n) in let l : 0 < p * suc n + r = omega (arith, m, h) in grind (arith, nat_tests, l)
  where
    h0 : (n : ℕ) → 1 ≤ suc n
    h0 n = omega arith

-- a sum in which each word weighs something
sum-some : (p f : List ℕ → ℕ) (words : List (List ℕ)) → All (λ w. 1 ≤ p w) words → nat_lt 0 (sum_by (λ w. p w * f w) words) ≡ list_any (λ w. nat_lt 0 (f w)) words
sum-some p f [] h = refl
sum-some p f (w ∷ words) h =
    ap (nat_lt 0) (sum_by-cons (λ w. p w * f w) w words)
    ∙ some-product (p w) (f w) (sum_by (λ w. p w * f w) words) (h 0 w (omega arith))
    ∙ ap (λ (b : Bool). nat_lt 0 (f w) || b) (sum-some p f words (λ k d l. h (suc k) d (omega (arith, l))))

-- ---- weights

least-weight : (w : List ℕ) (terms : List Term) → Lights terms → greatest terms w ≤ 1000
least-weight w [] l = omega arith
least-weight w (t ∷ terms) l = go (bytes_eq w t.key) (least-weight w terms l.1)
  where
    go : (b : Bool) → greatest terms w ≤ 1000 → cond b (max t.weight (greatest terms w)) (greatest terms w) ≤ 1000
    go true r = omega (arith, r, l.0.1)
    go false r = r

member-weight : (w : List ℕ) (terms : List Term) → Lights terms → list_any (bytes_eq w) (keys_of terms) ≡ true → IsWeight (greatest terms w)
member-weight w [] l m = absurd cc
member-weight w (t ∷ terms) l m = go (bytes_eq w t.key) m (member-weight w terms l.1)
  where
    go : (b : Bool) → (b || list_any (bytes_eq w) (keys_of terms)) ≡ true → (list_any (bytes_eq w) (keys_of terms) ≡ true → IsWeight (greatest terms w))
        → IsWeight (cond b (max t.weight (greatest terms w)) (greatest terms w))
    go true m rest = (omega (arith, l.0.0), omega (arith, l.0.1, least-weight w terms l.1))
    go false m rest = rest m

-- a word is among those that it stands in
member-itself : (words : List (List ℕ)) (k : ℕ) (d : List ℕ) → k < length words → list_any (bytes_eq (get_or words k d)) words ≡ true
member-itself [] k d l = absurd (omega (arith, l))
member-itself (w ∷ words) zero d l = ap (λ b. b || list_any (bytes_eq w) words) (itself w)
member-itself (w ∷ words) (suc k) d l = there (bytes_eq (get_or words k d) w) (member-itself words k d (omega (arith, l)))
  where
    there : (b : Bool) → list_any (bytes_eq (get_or words k d)) words ≡ true → (b || list_any (bytes_eq (get_or words k d)) words) ≡ true
    there true e = refl
    there false e = e

weighed : (q : Query) → affirmed true q ≡ terms_of q → Lights (terms_of q) → All (λ w. IsWeight (weight q w)) (words_of q)
weighed q even l = λ k d in_it.
    let w = get_or (words_of q) k d in
    let m = sym (member-with_all w [] (occurring q)) ∙ member-itself (words_of q) k d in_it in
    subst (λ (ts : List Term). IsWeight (greatest ts w)) (sym even) (member-weight w (terms_of q) l m)

-- ---- the laws

-- each word of such a text weighs something
pub any_weighs : (text : List ℕ) (q : Query) → asks_for_any text ≡ true → Writes (plain (tokens term_of text)) q → All (λ w. IsWeight (weight q w)) (words_of q)
any_weighs text q h w = weighed q (any_of (plain (tokens term_of text)) q h w).even (text_light text q w)

-- and it matches exactly where its score is above 0
pub any_scores : (text : List ℕ) (q : Query) → asks_for_any text ≡ true → Writes (plain (tokens term_of text)) q → (f : List ℕ → ℕ) → matches q f ≡ nat_lt 0 (score q f)
any_scores text q h w f =
    let is = any_of (plain (tokens term_of text)) q h w in
    let each = weighed q is.even (text_light text q w) in
    is.any f ∙ sym (any-distinct (λ w. nat_lt 0 (f w)) q) ∙ sym (sum-some (weight q) f (words_of q) (λ k d l. (each k d l).0))
