-- What reading comes to.
use Rattle.std.proofs.Common.{◌≡◌, ℕ, ◌+◌, ◌≤◌, true, List, [], ◌∷◌, ◌++◌, length, Option, Result, Ok, Err, refl, sym, ap, subst, ◌∙◌, arith, length-append}
use Rattle.std.proofs.lemmas.List.{length-map}
use Rattle.query_lang.specs.declared.term.Term.{Term}
use Rattle.query_lang.specs.declared.token.Token.TheVariants.{Or, Open, Close}
use Rattle.query_lang.specs.declared.token.Placed.{Placed}
use Rattle.query_lang.specs.declared.token.Role.{Role}
use Rattle.query_lang.specs.declared.token.Role.TheVariants.{Space, Opening, Closing, Letter}
use Rattle.query_lang.specs.declared.op.Op.{Op}
use Rattle.query_lang.specs.Tokens.{role, closed, tokens_from, tokens, plain}
use Rattle.query_lang.specs.Grammar.{Query, Expr, OneConj, Alternative, Conj, OneFactor, Joined, Factor, Negated, Group, Single, and_if, expr_tokens, conj_tokens, factor_tokens, expr_query, conj_query, factor_query, Writes, IsRead}
use Rattle.query_lang.specs.Machine.{Wants, read}
use Rattle.query_lang.specs.Meaning.{terms_of}
use Rattle.query_lang.specs.Postfix.{postfix, pushed, tree}
use Rattle.query_lang.specs.Stacks.{wanting, laid_from}
use Rattle.query_lang.proofs.PostfixLaws.{in_postfix, laid-is, tree-postfix, pushed-postfix}
use Rattle.query_lang.proofs.ReadingLaws.{is_read}
use Rattle.query_lang.proofs.TokenLemmas.{at_space, at_opening, at_closing, at_letter}

-- each word that stands in a query is a token
mutual
  expr-words : (e : Expr) → length (terms_of (expr_query e)) ≤ length (expr_tokens e)
  expr-words (OneConj c) = conj-words c
  expr-words (Alternative e c) = omega (arith, expr-words e, conj-words c, length-append (terms_of (expr_query e)) (terms_of (conj_query c)), length-append (expr_tokens e) (Or ∷ conj_tokens c))

  conj-words : (c : Conj) → length (terms_of (conj_query c)) ≤ length (conj_tokens c)
  conj-words (OneFactor f) = factor-words f
  conj-words (Joined c written f) = omega (arith, conj-words c, factor-words f, length-append (terms_of (conj_query c)) (terms_of (factor_query f)), length-append (conj_tokens c) (and_if written ++ factor_tokens f), length-append (and_if written) (factor_tokens f))

  factor-words : (f : Factor) → length (terms_of (factor_query f)) ≤ length (factor_tokens f)
  factor-words (Negated f) = omega (arith, factor-words f)
  factor-words (Group e) = omega (arith, expr-words e, length-append (expr_tokens e) (Close ∷ []))
  factor-words (Single key) = omega arith

-- each token has a byte
closed-length : (key : List ℕ → Option Term) (at : ℕ) (run : List ℕ) → length (closed key at run) ≤ length run
closed-length key at [] = omega arith
closed-length key at (b ∷ run) = omega arith

tokens-length : (key : List ℕ → Option Term) (at : ℕ) (run bs : List ℕ) → length (tokens_from key at run bs) ≤ length run + length bs
tokens-length key at run [] = omega (arith, closed-length key at run)
tokens-length key at run (b ∷ bs) = go (role b) refl (let h = tokens-length key (at + length run + 1) [] bs in omega (arith, h)) (tokens-length key at (run ++ b ∷ []) bs)
  where
    next : List Placed
    next = tokens_from key (at + length run + 1) [] bs

    ended : (last : List Placed) → length last ≤ 1 → length next ≤ length bs → tokens_from key at run (b ∷ bs) ≡ closed key at run ++ (last ++ next) → length (tokens_from key at run (b ∷ bs)) ≤ length run + length (b ∷ bs)
    ended last l h e = omega (arith, ap length e, l, h, closed-length key at run, length-append (closed key at run) (last ++ next), length-append last next)

    go : (r : Role) → role b ≡ r → length next ≤ length bs → length (tokens_from key at (run ++ b ∷ []) bs) ≤ length (run ++ b ∷ []) + length bs → length (tokens_from key at run (b ∷ bs)) ≤ length run + length (b ∷ bs)
    go Space e h k = ended [] (omega arith) h (at_space key at b run bs e)
    go Opening e h k = ended (record { at = at + length run; token = Open } ∷ []) (omega arith) h (at_opening key at b (at + length run) run bs refl e)
    go Closing e h k = ended (record { at = at + length run; token = Close } ∷ []) (omega arith) h (at_closing key at b (at + length run) run bs refl e)
    go Letter e h k = omega (arith, k, ap length (at_letter key at b run bs e), length-append run (b ∷ []))

-- so a text has no more words than bytes
few-words : (key : List ℕ → Option Term) (text : List ℕ) (q : Query) → Writes (plain (tokens key text)) q → length (terms_of q) ≤ length text
few-words key text q w =
    omega (arith, expr-words w.expr, ap (λ p. length (terms_of p)) w.query_is, ap length w.tokens_are, length-map (tokens key text) (λ p. p.token), tokens-length key 0 [] text)

-- what the code laid down for a text
pub record IsLaid (key : List ℕ → Option Term) (text : List ℕ) (laid : List (Op Term)) : Type 0 where
  pub spelled : laid ≡ postfix true (tree laid)
  pub few : length (pushed laid) ≤ length text
  pub read_as : IsRead key text (Ok (tree laid))

read-laid : (key : List ℕ → Option Term) (text : List ℕ) (laid : List (Op Term)) (r : Result Query ℕ) → in_postfix r ≡ Ok laid → IsRead key text r → IsLaid key text laid
read-laid key text laid (Err at) e h = absurd cc
read-laid key text laid (Ok q) e h =
    let same : postfix true q ≡ laid = cc in
    let is : tree laid ≡ q = ap tree (sym same) ∙ tree-postfix q in
    record {
      spelled = sym same ∙ ap (postfix true) (sym is);
      few = omega (arith, few-words key text q h, ap length (ap pushed (sym same) ∙ pushed-postfix true q));
      read_as = subst (λ p. IsRead key text (Ok p)) (sym is) h;
    }

pub is_laid : (key : List ℕ → Option Term) (text : List ℕ) (laid : List (Op Term)) → laid_from (length text) (wanting [] []) (tokens key text) ≡ Ok laid → IsLaid key text laid
is_laid key text laid e = read-laid key text laid (read key text) (sym (laid-is (length text) (Wants []) (tokens key text)) ∙ e) (is_read key text)

read-bad : (key : List ℕ → Option Term) (text : List ℕ) (at : ℕ) (r : Result Query ℕ) → in_postfix r ≡ Err at → IsRead key text r → IsRead key text (Err at)
read-bad key text at (Ok q) e h = absurd cc
read-bad key text at (Err there) e h = let same : there ≡ at = cc in subst (λ n. IsRead key text (Err n)) same h

pub is_bad : (key : List ℕ → Option Term) (text : List ℕ) (at : ℕ) → laid_from (length text) (wanting [] []) (tokens key text) ≡ Err at → IsRead key text (Err at)
is_bad key text at e = read-bad key text at (read key text) (sym (laid-is (length text) (Wants []) (tokens key text)) ∙ e) (is_read key text)
