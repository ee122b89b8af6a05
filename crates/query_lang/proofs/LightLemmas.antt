-- Each word of a text weighs from 1 to 1,000.
use Rattle.std.specs.Prelude.{◌≡◌, ℕ, ◌+◌, ◌-◌, ◌*◌, ◌≤◌, ◌&&◌, nat_le, Bool, true, false, cond, List, [], ◌∷◌, ◌++◌, length, Option, Some, None, All, ⊤, refl, codes}
use Rattle.std.specs.Str.{bytes_eq}
use Rattle.std.specs.List.{AllByRecursion}
use Rattle.std.proofs.Common.{arith, ap, sym, ◌∙◌, subst}
use Rattle.std.proofs.lemmas.Bool.Decides.{nat_tests}
use Rattle.std.proofs.lemmas.List.Elements.{All-from_recursion, All-weaker}
use Rattle.query_lang.specs.declared.term.Term.{Term}
use Rattle.query_lang.specs.declared.token.Token.{Token}
use Rattle.query_lang.specs.declared.token.Token.TheVariants.{Word, Wordless, And, Or, Not, Open, Close}
use Rattle.query_lang.specs.declared.token.Placed.{Placed}
use Rattle.query_lang.specs.declared.token.Role.{Role}
use Rattle.query_lang.specs.declared.token.Role.TheVariants.{Space, Opening, Closing, Letter}
use Rattle.query_lang.specs.declared.op.Op.{Op}
use Rattle.query_lang.specs.Grammar.{Query, Expr, OneConj, Alternative, Conj, OneFactor, Joined, Factor, Negated, Group, Single, and_if, expr_tokens, conj_tokens, factor_tokens, expr_query, conj_query, factor_query, Writes}
use Rattle.query_lang.specs.Meaning.{terms_of}
use Rattle.query_lang.specs.Postfix.{pushed, tree}
use Rattle.query_lang.specs.Tokens.{role, word_by, token_of, closed, tokens_from, tokens, plain, key_of, is_digit, weight_from, parted, with_weight, weighted, term_by, term_of}
use Rattle.query_lang.proofs.PostfixLaws.{pushed-postfix}
use Rattle.query_lang.proofs.ReadLemmas.{IsLaid}

-- a weight that a word may have
abbrev pub IsWeight : ℕ → Type 0
IsWeight w = (1 ≤ w) × (w ≤ 1000)

from-light : (n : ℕ) (bs : List ℕ) (v : ℕ) → n ≤ 1000 → weight_from n bs ≡ Some v → IsWeight v
from-light n [] v l e = go (nat_le 1 n) refl e
  where
    go : (b : Bool) → nat_le 1 n ≡ b → cond b (Some n) None ≡ Some v → IsWeight v
    go true t e = let s : n ≡ v = cc in (grind (arith, nat_tests, t, s), omega (arith, s, l))
    go false t e = absurd (cc)
from-light n (b ∷ bs) v l e = go (is_digit b) (nat_le (10 * n + (b - 48)) 1000) refl e (from-light (10 * n + (b - 48)) bs v)
  where
    go : (x y : Bool) → nat_le (10 * n + (b - 48)) 1000 ≡ y → cond (x && y) (weight_from (10 * n + (b - 48)) bs) None ≡ Some v
        → (10 * n + (b - 48) ≤ 1000 → weight_from (10 * n + (b - 48)) bs ≡ Some v → IsWeight v) → IsWeight v
    go true true t e f = f (grind (arith, nat_tests, t)) e
    go true false t e f = absurd (cc)
    go false y t e f = absurd (cc)

with-light : (key : Option (List ℕ)) (weight : Option ℕ) (t : Term) → ((v : ℕ) → weight ≡ Some v → IsWeight v) → with_weight key weight ≡ Some t → IsWeight t.weight
with-light None weight t h e = absurd (cc)
with-light (Some key) None t h e = absurd (cc)
with-light (Some key) (Some v) t h e = let s : record { key = key; weight = v } ≡ t = cc in subst (λ (u : Term). IsWeight u.weight) s (h v refl)

weighted-light : (parts : Option (List ℕ × List ℕ)) (t : Term) → weighted parts ≡ Some t → IsWeight t.weight
weighted-light None t e = absurd (cc)
weighted-light (Some parts) t e = with-light (key_of parts.0) (weight_from 0 parts.1) t (λ v k. from-light 0 parts.1 v (omega arith) k) e

pub term-light : (bytes : List ℕ) (t : Term) → term_of bytes ≡ Some t → IsWeight t.weight
term-light bytes t e = go (key_of bytes) e
  where
    go : (k : Option (List ℕ)) → term_by k (weighted (parted bytes)) ≡ Some t → IsWeight t.weight
    go None e = weighted-light (parted bytes) t e
    go (Some key) e = let s : record { key = key; weight = 1 } ≡ t = cc in subst (λ (u : Term). IsWeight u.weight) s (omega arith, omega arith)

-- ---- tokens

abbrev pub IsLight : Token → Type 0
IsLight (Word t) = IsWeight t.weight
IsLight Wordless = ⊤
IsLight And = ⊤
IsLight Or = ⊤
IsLight Not = ⊤
IsLight Open = ⊤
IsLight Close = ⊤

abbrev pub AreLight : List Token → Type 0
AreLight [] = ⊤
AreLight (t ∷ ts) = IsLight t × AreLight ts

light-left : (a b : List Token) → AreLight (a ++ b) → AreLight a
light-left [] b x = tt
light-left (t ∷ a) b x = (x.0, light-left a b x.1)

light-right : (a b : List Token) → AreLight (a ++ b) → AreLight b
light-right [] b x = x
light-right (t ∷ a) b x = light-right a b x.1

token-light : (bytes : List ℕ) → IsLight (token_of term_of bytes)
token-light bytes = go (bytes_eq bytes (codes "and")) (bytes_eq bytes (codes "or")) (bytes_eq bytes (codes "not"))
  where
    word : (o : Option Term) → term_of bytes ≡ o → IsLight (word_by o)
    word None e = tt
    word (Some t) e = term-light bytes t e

    go : (a b c : Bool) → IsLight (cond a And (cond b Or (cond c Not (word_by (term_of bytes)))))
    go true b c = tt
    go false true c = tt
    go false false true = tt
    go false false false = word (term_of bytes) refl

placed-join : (a b : List Placed) → AreLight (plain a) → AreLight (plain b) → AreLight (plain (a ++ b))
placed-join [] b x y = y
placed-join (p ∷ a) b x y = (x.0, placed-join a b x.1 y)

closed-light : (at : ℕ) (run : List ℕ) → AreLight (plain (closed term_of at run))
closed-light at [] = tt
closed-light at (b ∷ run) = (token-light (b ∷ run), tt)

from-tokens : (at : ℕ) (run bs : List ℕ) → AreLight (plain (tokens_from term_of at run bs))
from-tokens at run [] = closed-light at run
from-tokens at run (b ∷ bs) = go (role b) (from-tokens (at + length run + 1) [] bs) (from-tokens at (run ++ b ∷ []) bs)
  where
    go : (r : Role) → AreLight (plain (tokens_from term_of (at + length run + 1) [] bs)) → AreLight (plain (tokens_from term_of at (run ++ b ∷ []) bs))
        → AreLight (plain (elim r [
          | Space ↦ closed term_of at run ++ tokens_from term_of (at + length run + 1) [] bs
          | Opening ↦ closed term_of at run ++ record { at = at + length run; token = Open } ∷ tokens_from term_of (at + length run + 1) [] bs
          | Closing ↦ closed term_of at run ++ record { at = at + length run; token = Close } ∷ tokens_from term_of (at + length run + 1) [] bs
          | Letter ↦ tokens_from term_of at (run ++ b ∷ []) bs
        ]))
    go Space x y = placed-join (closed term_of at run) _ (closed-light at run) x
    go Opening x y = placed-join (closed term_of at run) (_ ∷ _) (closed-light at run) (tt, x)
    go Closing x y = placed-join (closed term_of at run) (_ ∷ _) (closed-light at run) (tt, x)
    go Letter x y = y

-- ---- trees

abbrev pub Lights : List Term → Type 0
Lights terms = AllByRecursion (λ t. IsWeight t.weight) terms

terms-join : (a b : List Term) → Lights a → Lights b → Lights (a ++ b)
terms-join [] b x y = y
terms-join (t ∷ a) b x y = (x.0, terms-join a b x.1 y)

mutual
  expr-light : (e : Expr) → AreLight (expr_tokens e) → Lights (terms_of (expr_query e))
  expr-light (OneConj c) h = conj-light c h
  expr-light (Alternative e c) h = terms-join _ _ (expr-light e (light-left (expr_tokens e) _ h)) (conj-light c ((light-right (expr_tokens e) (Or ∷ conj_tokens c) h).1))

  conj-light : (c : Conj) → AreLight (conj_tokens c) → Lights (terms_of (conj_query c))
  conj-light (OneFactor f) h = factor-light f h
  conj-light (Joined c written f) h = terms-join _ _ (conj-light c (light-left (conj_tokens c) _ h)) (factor-light f (light-right (and_if written) (factor_tokens f) (light-right (conj_tokens c) (and_if written ++ factor_tokens f) h)))

  factor-light : (f : Factor) → AreLight (factor_tokens f) → Lights (terms_of (factor_query f))
  factor-light (Negated f) h = factor-light f h.1
  factor-light (Group e) h = expr-light e (light-left (expr_tokens e) _ h.1)
  factor-light (Single term) h = (h.0, tt)

-- the words of a text that is a query
pub text_light : (text : List ℕ) (q : Query) → Writes (plain (tokens term_of text)) q → Lights (terms_of q)
text_light text q w =
    let h = expr-light w.expr (subst AreLight (sym w.tokens_are) (from-tokens 0 [] text)) in subst (λ q. Lights (terms_of q)) w.query_is h

pub light_laid : (text : List ℕ) (laid : List (Op Term)) → IsLaid term_of text laid → All (λ t. t.weight ≤ 1000) (pushed laid)
light_laid text laid l =
    let k = All-from_recursion (λ t. IsWeight t.weight) (terms_of (tree laid)) (text_light text (tree laid) l.read_as) in
    subst (All (λ t. t.weight ≤ 1000)) (sym (ap pushed l.spelled ∙ pushed-postfix true (tree laid))) (All-weaker (λ (t : Term). IsWeight t.weight) (λ t. t.weight ≤ 1000) (λ t is. is.1) (terms_of (tree laid)) k)
