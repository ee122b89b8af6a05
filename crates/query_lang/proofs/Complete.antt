-- What the grammar writes, the machine reads.
use Rattle.std.specs.Prelude.{◌≡◌, ◌+◌, ◌<◌, ◌≤◌, true, false, List, [], ◌∷◌, ◌++◌, Option, Some, None, option_and_then, refl}
use Rattle.std.proofs.Common.{arith, ap, sym, ◌∙◌, lt-ltb, append_assoc, append-nil}
use Rattle.query_lang.specs.declared.token.Token.{Token}
use Rattle.query_lang.specs.declared.token.Token.TheVariants.{And, Or, Not, Open, Close}
use Rattle.query_lang.specs.Grammar.{Query, Both, Expr, OneConj, Alternative, Conj, OneFactor, Joined, Factor, Negated, Group, Single, expr_tokens, conj_tokens, factor_tokens, expr_depth, conj_depth, factor_depth, expr_query, conj_query, factor_query, Writes, Begins}
use Rattle.query_lang.specs.Machine.{Waiting, Negation, Parenthesis, AndThen, OrElse, Reading, Wants, Holds, opened, factor_ends, opening, step, whole, run}

opens : (w : Waiting) (ws : List Waiting) → opened ws < 64 → opening w ws ≡ Some (Wants (w ∷ ws))
opens w ws h = rw (lt-ltb (opened ws) 64 h) refl

-- a factor that begins behind another is joined to it
begins_factor : (ws : List Waiting) (q : Query) (f : Factor) (rest : List Token) → run (Holds ws q) (factor_tokens f ++ rest) ≡ run (Wants (AndThen q ∷ ws)) (factor_tokens f ++ rest)
begins_factor ws q (Negated f) rest = refl
begins_factor ws q (Group e) rest = refl
begins_factor ws q (Single key) rest = refl

-- nothing that a factor ends waits on top
abbrev IsBase : List Waiting → Type 0
IsBase ws = (q : Query) → factor_ends ws q ≡ Holds ws q

-- an expression begins here
abbrev IsGround : List Waiting → Type 0
IsGround [] = Unit {0}
IsGround (Parenthesis ∷ ws) = Unit {0}
IsGround (Negation ∷ ws) = ⊥
IsGround (AndThen q ∷ ws) = ⊥
IsGround (OrElse q ∷ ws) = ⊥

ground-base : (ws : List Waiting) → IsGround ws → IsBase ws
ground-base [] g = λ q. refl
ground-base (Parenthesis ∷ ws) g = λ q. refl
ground-base (Negation ∷ ws) g = absurd g
ground-base (AndThen l ∷ ws) g = absurd g
ground-base (OrElse l ∷ ws) g = absurd g

-- where an expression has ended
abbrev after_expr : List Waiting → Expr → Reading
after_expr ws (OneConj c) = Holds ws (conj_query c)
after_expr ws (Alternative e c) = Holds (OrElse (expr_query e) ∷ ws) (conj_query c)

or_after : (ws : List Waiting) (e : Expr) → IsGround ws → step (after_expr ws e) Or ≡ Some (Wants (OrElse (expr_query e) ∷ ws))
or_after [] (OneConj c) g = refl
or_after [] (Alternative e c) g = refl
or_after (Parenthesis ∷ ws) (OneConj c) g = refl
or_after (Parenthesis ∷ ws) (Alternative e c) g = refl
or_after (Negation ∷ ws) e g = absurd g
or_after (AndThen l ∷ ws) e g = absurd g
or_after (OrElse l ∷ ws) e g = absurd g

close_after : (ws : List Waiting) (e : Expr) → step (after_expr (Parenthesis ∷ ws) e) Close ≡ Some (factor_ends ws (expr_query e))
close_after ws (OneConj c) = refl
close_after ws (Alternative e c) = refl

-- one step of a run
run-step : (r s : Reading) (t : Token) (rest : List Token) → step r t ≡ Some s → run r (t ∷ rest) ≡ run s rest
run-step r s t rest h = rw h refl

mutual
  reads-expr : (e : Expr) (ws : List Waiting) (rest : List Token) → IsGround ws → opened ws + expr_depth e ≤ 64 → run (Wants ws) (expr_tokens e ++ rest) ≡ run (after_expr ws e) rest
  reads-expr (OneConj c) ws rest g h = reads-conj c ws rest (ground-base ws g) h
  reads-expr (Alternative e c) ws rest g h =
      ap (run (Wants ws)) (append_assoc (expr_tokens e) (Or ∷ conj_tokens c) rest)
      ∙ reads-expr e ws (Or ∷ (conj_tokens c ++ rest)) g (omega (arith, h))
      ∙ run-step (after_expr ws e) _ Or (conj_tokens c ++ rest) (or_after ws e g)
      ∙ reads-conj c (OrElse (expr_query e) ∷ ws) rest (λ q. refl) (omega (arith, h))

  reads-conj : (c : Conj) (ws : List Waiting) (rest : List Token) → IsBase ws → opened ws + conj_depth c ≤ 64 → run (Wants ws) (conj_tokens c ++ rest) ≡ run (Holds ws (conj_query c)) rest
  reads-conj (OneFactor f) ws rest b h = reads-factor f ws rest h ∙ ap (λ r. run r rest) (b (factor_query f))
  reads-conj (Joined c true f) ws rest b h =
      ap (run (Wants ws)) (append_assoc (conj_tokens c) (And ∷ factor_tokens f) rest)
      ∙ reads-conj c ws (And ∷ (factor_tokens f ++ rest)) b (omega (arith, h))
      ∙ reads-factor f (AndThen (conj_query c) ∷ ws) rest (omega (arith, h))
      ∙ ap (λ r. run r rest) (b (Both (conj_query c) (factor_query f)))
  reads-conj (Joined c false f) ws rest b h =
      ap (run (Wants ws)) (append_assoc (conj_tokens c) (factor_tokens f) rest)
      ∙ reads-conj c ws (factor_tokens f ++ rest) b (omega (arith, h))
      ∙ begins_factor ws (conj_query c) f rest
      ∙ reads-factor f (AndThen (conj_query c) ∷ ws) rest (omega (arith, h))
      ∙ ap (λ r. run r rest) (b (Both (conj_query c) (factor_query f)))

  reads-factor : (f : Factor) (ws : List Waiting) (rest : List Token) → opened ws + factor_depth f ≤ 64 → run (Wants ws) (factor_tokens f ++ rest) ≡ run (factor_ends ws (factor_query f)) rest
  reads-factor (Negated f) ws rest h =
      run-step (Wants ws) _ Not (factor_tokens f ++ rest) (opens Negation ws (omega (arith, h)))
      ∙ reads-factor f (Negation ∷ ws) rest (omega (arith, h))
  reads-factor (Group e) ws rest h =
      run-step (Wants ws) _ Open ((expr_tokens e ++ Close ∷ []) ++ rest) (opens Parenthesis ws (omega (arith, h)))
      ∙ ap (run (Wants (Parenthesis ∷ ws))) (append_assoc (expr_tokens e) (Close ∷ []) rest)
      ∙ reads-expr e (Parenthesis ∷ ws) (Close ∷ rest) tt (omega (arith, h))
      ∙ run-step (after_expr (Parenthesis ∷ ws) e) _ Close rest (close_after ws e)
  reads-factor (Single key) ws rest h = refl

whole-after : (e : Expr) → whole (after_expr [] e) ≡ Some (expr_query e)
whole-after (OneConj c) = refl
whole-after (Alternative e c) = refl

-- a query is read to its end
pub writes-run : (ts : List Token) (q : Query) → Writes ts q → (s : Reading) × (run (Wants []) ts ≡ Some s) × (whole s ≡ Some q)
writes-run ts q w = (
  after_expr [] w.expr,
  ap (run (Wants [])) (sym w.tokens_are) ∙ ap (run (Wants [])) (sym (append-nil (expr_tokens w.expr))) ∙ reads-expr w.expr [] [] tt (omega (arith, w.shallow)),
  whole-after w.expr ∙ ap Some w.query_is,
)

-- and so is each front of it
run-front : (a b : List Token) (r s : Reading) → run r (a ++ b) ≡ Some s → (m : Reading) × (run r a ≡ Some m)
run-front [] b r s e = (r, refl)
run-front (t ∷ a) b r s e = go (λ m. run-front a b m s) (step r t) refl e
  where
    go : ((m : Reading) → run m (a ++ b) ≡ Some s → (n : Reading) × (run m a ≡ Some n)) → (o : Option Reading) → step r t ≡ o
        → option_and_then (λ m. run m (a ++ b)) o ≡ Some s → (n : Reading) × (option_and_then (λ m. run m a) o ≡ Some n)
    go f None h e = absurd cc
    go f (Some m) h e = f m e

pub begins-run : (ts : List Token) → Begins ts → (s : Reading) × (run (Wants []) ts ≡ Some s)
begins-run ts b =
    let w = writes-run (ts ++ b.more) b.query b.writes in
    run-front ts b.more (Wants []) w.0 w.1
