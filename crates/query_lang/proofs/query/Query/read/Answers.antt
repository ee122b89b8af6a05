use Rattle.std.proofs.Common.{◌≡◌, ◌≤◌, All, true, List, ℕ, [], length, Result, Ok, Err, sym, ap, subst, ◌∙◌, arith}
use Rattle.query_lang.specs.declared.term.Term.{Term}
use Rattle.query_lang.specs.declared.token.Placed.{Placed}
use Rattle.query_lang.specs.declared.op.Op.{Op}
use Rattle.std.specs.Result.{IsErrOf}
use Rattle.query_lang.specs.declared.error.QueryError.TheVariants.{BadQuery}
use Rattle.query_lang.specs.Grammar.{IsRead}
use Rattle.query_lang.specs.Postfix.{postfix, pushed, tree}
use Rattle.query_lang.specs.Stacks.{wanting, laid_from}
use Rattle.query_lang.specs.Tokens.{tokens, term_of}
use Rattle.query_lang.proofs.LightLemmas.{light_laid}
use Rattle.query_lang.proofs.ReadLemmas.{is_laid, is_bad}
use Rattle.query_lang.proofs.query.Query.read.Goals as goal

-- what was laid for the tokens was laid for the text
laid_is : (text bytes : List ℕ) (ts placed : List Placed) (laid : List (Op Term)) (r : Result (List (Op Term)) ℕ) → bytes ≡ text → ts ≡ tokens term_of bytes → placed ≡ ts
    → laid_from (length text) (wanting [] []) placed ≡ r → laid_from (length text) (wanting [] []) (tokens term_of text) ≡ r
laid_is text bytes ts placed laid r b t p e = ap (laid_from (length text) (wanting [] [])) (sym (p ∙ t ∙ ap (tokens term_of) b)) ∙ e

pub query_of-requires-clause-spelled : goal.query_of-requires-clause-spelled
query_of-requires-clause-spelled c =
    let l = is_laid term_of c.args.text.now c.in-Ok.laid.items (laid_is _ _ _ _ [] _ c.as_bytes.ensures.value c.in_ok-tokens.ensures c.deref.ensures.value c.in-Ok.ensures.laid) in
    subst (λ x. x ≡ postfix true (tree x)) (sym c.deref-in-Ok.ensures.value) l.spelled

pub query_of-requires-clause-few : goal.query_of-requires-clause-few
query_of-requires-clause-few c =
    let l = is_laid term_of c.args.text.now c.in-Ok.laid.items (laid_is _ _ _ _ [] _ c.as_bytes.ensures.value c.in_ok-tokens.ensures c.deref.ensures.value c.in-Ok.ensures.laid) in
    omega (arith, c.requires, l.few, ap (λ x. length (pushed x)) c.deref-in-Ok.ensures.value)

pub query_of-requires-clause-light : goal.query_of-requires-clause-light
query_of-requires-clause-light c =
    let l = is_laid term_of c.args.text.now c.in-Ok.laid.items (laid_is _ _ _ _ [] _ c.as_bytes.ensures.value c.in_ok-tokens.ensures c.deref.ensures.value c.in-Ok.ensures.laid) in
    subst (λ x. All (λ t. t.weight ≤ 1000) (pushed x)) (sym c.deref-in-Ok.ensures.value) (light_laid c.args.text.now c.in-Ok.laid.items l)

pub returns-in-Ok-clause-query : goal.returns-in-Ok-clause-query
returns-in-Ok-clause-query c =
    let l = is_laid term_of c.args.text.now c.in-Ok.laid.items (laid_is _ _ _ _ [] _ c.as_bytes.ensures.value c.in_ok-tokens.ensures c.deref.ensures.value c.in-Ok.ensures.laid) in
    subst (λ q. IsRead term_of c.args.text.now (Ok q)) (sym (c.in_ok-query_of-in-Ok.ensures ∙ ap tree c.deref-in-Ok.ensures.value)) l.read_as

-- an error is the same error where another value might have come
retyped : {A B E : Type 0} (e x : E) → IsErrOf {T = A} (Err e) x → IsErrOf {T = B} (Err e) x
retyped e x h = let same : e ≡ x = cc in ap (λ y. Err y) same

pub returns-clause-bad : goal.returns-clause-bad
returns-clause-bad c = λ at e. is_bad term_of c.args.text.now at (laid_is _ _ _ _ [] _ c.as_bytes.ensures.value c.in_ok-tokens.ensures c.deref.ensures.value (c.in-Err.ensures.bad at (retyped c.in-Err.e (BadQuery at) e)))
