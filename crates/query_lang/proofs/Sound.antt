-- What the machine reads, the grammar writes.
use Rattle.std.specs.Prelude.{◌≡◌, ◌+◌, ◌<◌, ◌≤◌, nat_lt, Bool, true, false, if◌then◌else◌, List, [], ◌∷◌, ◌++◌, Option, Some, None, option_and_then, refl}
use Rattle.std.proofs.Common.{arith, ap, sym, subst, ◌∙◌, ltb-true, append_assoc, append-nil}
use Rattle.query_lang.specs.declared.token.Token.{Token}
use Rattle.query_lang.specs.declared.token.Token.TheVariants.{Word, Wordless, And, Or, Not, Open, Close}
use Rattle.query_lang.specs.Grammar.{Query, Has, Both, Either, Expr, OneConj, Alternative, Conj, OneFactor, Joined, Factor, Negated, Group, Single, and_if, expr_tokens, conj_tokens, factor_tokens, expr_depth, conj_depth, factor_depth, expr_query, conj_query, factor_query, Writes, Begins}
use Rattle.query_lang.specs.Postfix.{no_term}
use Rattle.query_lang.specs.Machine.{Waiting, Negation, Parenthesis, AndThen, OrElse, Reading, Wants, Holds, opened, factor_ends, opening, or_comes, group_ends, step, whole, run}

-- a query with a hole: where an expression may come, a conjunction, a factor
mutual
  data ExprHole : Type 0 where
    Top : ExprHole
    Within : FactorHole → ExprHole

  data ConjHole : Type 0 where
    Start : ExprHole → ConjHole
    Behind : ExprHole → Expr → ConjHole

  data FactorHole : Type 0 where
    First : ConjHole → FactorHole
    Next : ConjHole → Conj → Bool → FactorHole
    Under : FactorHole → FactorHole

-- what waits for it
abbrev mutual
  expr_waits : ExprHole → List Waiting
  expr_waits Top = []
  expr_waits (Within h) = Parenthesis ∷ factor_waits h

  conj_waits : ConjHole → List Waiting
  conj_waits (Start h) = expr_waits h
  conj_waits (Behind h e) = OrElse (expr_query e) ∷ expr_waits h

  factor_waits : FactorHole → List Waiting
  factor_waits (First h) = conj_waits h
  factor_waits (Next h c written) = AndThen (conj_query c) ∷ conj_waits h
  factor_waits (Under h) = Negation ∷ factor_waits h

-- the tokens before it
abbrev mutual
  expr_before : ExprHole → List Token
  expr_before Top = []
  expr_before (Within h) = factor_before h ++ Open ∷ []

  conj_before : ConjHole → List Token
  conj_before (Start h) = expr_before h
  conj_before (Behind h e) = expr_before h ++ (expr_tokens e ++ Or ∷ [])

  factor_before : FactorHole → List Token
  factor_before (First h) = conj_before h
  factor_before (Next h c written) = conj_before h ++ (conj_tokens c ++ and_if written)
  factor_before (Under h) = factor_before h ++ Not ∷ []

-- the tokens that close it
abbrev mutual
  expr_behind : ExprHole → List Token
  expr_behind Top = []
  expr_behind (Within h) = Close ∷ factor_behind h

  conj_behind : ConjHole → List Token
  conj_behind (Start h) = expr_behind h
  conj_behind (Behind h e) = expr_behind h

  factor_behind : FactorHole → List Token
  factor_behind (First h) = conj_behind h
  factor_behind (Next h c written) = conj_behind h
  factor_behind (Under h) = factor_behind h

-- at most 64 are open in each of its parts
abbrev mutual
  ExprFits : ExprHole → Type 0
  ExprFits Top = Unit {0}
  ExprFits (Within h) = (opened (factor_waits h) < 64) × FactorFits h

  ConjFits : ConjHole → Type 0
  ConjFits (Start h) = ExprFits h
  ConjFits (Behind h e) = (opened (expr_waits h) + expr_depth e ≤ 64) × ExprFits h

  FactorFits : FactorHole → Type 0
  FactorFits (First h) = ConjFits h
  FactorFits (Next h c written) = (opened (conj_waits h) + conj_depth c ≤ 64) × ConjFits h
  FactorFits (Under h) = (opened (factor_waits h) < 64) × FactorFits h

-- the query with a filled hole
abbrev mutual
  expr_filled : ExprHole → Expr → Expr
  expr_filled Top e = e
  expr_filled (Within h) e = factor_filled h (Group e)

  conj_filled : ConjHole → Conj → Expr
  conj_filled (Start h) c = expr_filled h (OneConj c)
  conj_filled (Behind h e) c = expr_filled h (Alternative e c)

  factor_filled : FactorHole → Factor → Expr
  factor_filled (First h) f = conj_filled h (OneFactor f)
  factor_filled (Next h c written) f = conj_filled h (Joined c written f)
  factor_filled (Under h) f = factor_filled h (Negated f)

mutual
  expr_filled-tokens : (h : ExprHole) (e : Expr) → expr_tokens (expr_filled h e) ≡ expr_before h ++ (expr_tokens e ++ expr_behind h)
  expr_filled-tokens Top e = sym (append-nil (expr_tokens e))
  expr_filled-tokens (Within h) e = factor_filled-tokens h (Group e) ∙ simp append_assoc

  conj_filled-tokens : (h : ConjHole) (c : Conj) → expr_tokens (conj_filled h c) ≡ conj_before h ++ (conj_tokens c ++ conj_behind h)
  conj_filled-tokens (Start h) c = expr_filled-tokens h (OneConj c)
  conj_filled-tokens (Behind h e) c = expr_filled-tokens h (Alternative e c) ∙ simp append_assoc

  factor_filled-tokens : (h : FactorHole) (f : Factor) → expr_tokens (factor_filled h f) ≡ factor_before h ++ (factor_tokens f ++ factor_behind h)
  factor_filled-tokens (First h) f = conj_filled-tokens h (OneFactor f)
  factor_filled-tokens (Next h c written) f = conj_filled-tokens h (Joined c written f) ∙ simp append_assoc
  factor_filled-tokens (Under h) f = factor_filled-tokens h (Negated f) ∙ simp append_assoc

mutual
  expr_filled-depth : (h : ExprHole) (e : Expr) → ExprFits h → opened (expr_waits h) + expr_depth e ≤ 64 → expr_depth (expr_filled h e) ≤ 64
  expr_filled-depth Top e k d = omega (arith, d)
  expr_filled-depth (Within h) e k d = factor_filled-depth h (Group e) k.1 (omega (arith, d))

  conj_filled-depth : (h : ConjHole) (c : Conj) → ConjFits h → opened (conj_waits h) + conj_depth c ≤ 64 → expr_depth (conj_filled h c) ≤ 64
  conj_filled-depth (Start h) c k d = expr_filled-depth h (OneConj c) k d
  conj_filled-depth (Behind h e) c k d = expr_filled-depth h (Alternative e c) k.1 (omega (arith, d, k.0))

  factor_filled-depth : (h : FactorHole) (f : Factor) → FactorFits h → opened (factor_waits h) + factor_depth f ≤ 64 → expr_depth (factor_filled h f) ≤ 64
  factor_filled-depth (First h) f k d = conj_filled-depth h (OneFactor f) k d
  factor_filled-depth (Next h c written) f k d = conj_filled-depth h (Joined c written f) k.1 (omega (arith, d, k.0))
  factor_filled-depth (Under h) f k d = factor_filled-depth h (Negated f) k.1 (omega (arith, d))

-- These tokens lead to this reading: they are a query's up to a hole, or up to a hole that a conjunction begins to fill.
record WantsFor (ws : List Waiting) (tokens : List Token) : Type 0 where
  hole : FactorHole
  fits : FactorFits hole
  waits : factor_waits hole ≡ ws
  before : factor_before hole ≡ tokens

record HoldsFor (ws : List Waiting) (q : Query) (tokens : List Token) : Type 0 where
  hole : ConjHole
  conj : Conj
  fits : ConjFits hole
  shallow : opened (conj_waits hole) + conj_depth conj ≤ 64
  waits : conj_waits hole ≡ ws
  query : conj_query conj ≡ q
  before : conj_before hole ++ conj_tokens conj ≡ tokens

abbrev LeadsTo : List Token → Reading → Type 0
LeadsTo tokens (Wants ws) = WantsFor ws tokens
LeadsTo tokens (Holds ws q) = HoldsFor ws q tokens

-- nothing that a factor ends waits for a conjunction
conj-base : (h : ConjHole) (q : Query) → factor_ends (conj_waits h) q ≡ Holds (conj_waits h) q
conj-base (Start Top) q = refl
conj-base (Start (Within h)) q = refl
conj-base (Behind h e) q = refl

-- a factor comes
factor-comes : (h : FactorHole) (f : Factor) (tokens : List Token) → FactorFits h → opened (factor_waits h) + factor_depth f ≤ 64
    → factor_before h ++ factor_tokens f ≡ tokens → LeadsTo tokens (factor_ends (factor_waits h) (factor_query f))
factor-comes (First h) f tokens k d e =
    subst (LeadsTo tokens) (sym (conj-base h (factor_query f))) (record { hole = h; conj = OneFactor f; fits = k; shallow = d; waits = refl; query = refl; before = e })
factor-comes (Next h c written) f tokens k d e =
    subst (LeadsTo tokens) (sym (conj-base h (Both (conj_query c) (factor_query f))))
    (record { hole = h; conj = Joined c written f; fits = k.1; shallow = omega (arith, d, k.0); waits = refl; query = refl; before = simp append_assoc at e })
factor-comes (Under h) f tokens k d e = factor-comes h (Negated f) tokens k.1 (omega (arith, d)) (simp append_assoc at e)

mutual
  expr-opened : (h : ExprHole) → ExprFits h → opened (expr_waits h) ≤ 64
  expr-opened Top k = omega arith
  expr-opened (Within h) k = omega (arith, k.0)

  conj-opened : (h : ConjHole) → ConjFits h → opened (conj_waits h) ≤ 64
  conj-opened (Start h) k = expr-opened h k
  conj-opened (Behind h e) k = expr-opened h k.1

  factor-opened : (h : FactorHole) → FactorFits h → opened (factor_waits h) ≤ 64
  factor-opened (First h) k = conj-opened h k
  factor-opened (Next h c written) k = conj-opened h k.1
  factor-opened (Under h) k = omega (arith, k.0)

opening-some : (w : Waiting) (ws : List Waiting) (s : Reading) → opening w ws ≡ Some s → (opened ws < 64) × (Wants (w ∷ ws) ≡ s)
opening-some w ws s = go (nat_lt (opened ws) 64) refl
  where
    go : (b : Bool) → nat_lt (opened ws) 64 ≡ b → (if b then Some (Wants (w ∷ ws)) else None) ≡ Some s → (opened ws < 64) × (Wants (w ∷ ws) ≡ s)
    go true h e = (ltb-true _ _ h, cc)
    go false h e = absurd cc

step-wants : (h : FactorHole) (t : Token) (s : Reading) → FactorFits h → step (Wants (factor_waits h)) t ≡ Some s → LeadsTo (factor_before h ++ t ∷ []) s
step-wants h (Word key) s k e =
    let same : factor_ends (factor_waits h) (Has key) ≡ s = cc in
    subst (LeadsTo (factor_before h ++ Word key ∷ [])) same (factor-comes h (Single key) _ k (omega (arith, factor-opened h k)) refl)
step-wants h Not s k e =
    let o = opening-some Negation (factor_waits h) s e in
    subst (LeadsTo (factor_before h ++ Not ∷ [])) o.1 (record { hole = Under h; fits = (o.0, k); waits = refl; before = refl })
step-wants h Open s k e =
    let o = opening-some Parenthesis (factor_waits h) s e in
    subst (LeadsTo (factor_before h ++ Open ∷ [])) o.1 (record { hole = First (Start (Within h)); fits = (o.0, k); waits = refl; before = refl })
step-wants h Close s k e = absurd cc
step-wants h And s k e = absurd cc
step-wants h Or s k e = absurd cc
step-wants h Wordless s k e = absurd cc

-- a factor that begins behind a conjunction is joined to it
joins : (h : ConjHole) (c : Conj) (t : Token) (s : Reading) → ConjFits h → opened (conj_waits h) + conj_depth c ≤ 64
    → step (Wants (AndThen (conj_query c) ∷ conj_waits h)) t ≡ Some s → LeadsTo ((conj_before h ++ conj_tokens c) ++ t ∷ []) s
joins h c t s k d e =
    subst (λ x. LeadsTo ((conj_before h ++ x) ++ t ∷ []) s) (append-nil (conj_tokens c)) (step-wants (Next h c false) t s (d, k) e)

or-leads : (h : ConjHole) (c : Conj) (s : Reading) → ConjFits h → opened (conj_waits h) + conj_depth c ≤ 64
    → or_comes (conj_waits h) (conj_query c) ≡ s → LeadsTo ((conj_before h ++ conj_tokens c) ++ Or ∷ []) s
or-leads (Start Top) c s k d e =
    subst (LeadsTo _) e (record { hole = First (Behind Top (OneConj c)); fits = (d, k); waits = refl; before = refl })
or-leads (Start (Within h)) c s k d e =
    subst (LeadsTo _) e (record { hole = First (Behind (Within h) (OneConj c)); fits = (d, k); waits = refl; before = simp append_assoc })
or-leads (Behind h l) c s k d e =
    subst (LeadsTo _) e (record { hole = First (Behind h (Alternative l c)); fits = (omega (arith, d, k.0), k.1); waits = refl; before = simp append_assoc })

close-leads : (h : ConjHole) (c : Conj) (s : Reading) → ConjFits h → opened (conj_waits h) + conj_depth c ≤ 64
    → group_ends (conj_waits h) (conj_query c) ≡ Some s → LeadsTo ((conj_before h ++ conj_tokens c) ++ Close ∷ []) s
close-leads (Start Top) c s k d e = absurd cc
close-leads (Start (Within h)) c s k d e =
    let same : factor_ends (factor_waits h) (conj_query c) ≡ s = cc in
    subst (LeadsTo _) same (factor-comes h (Group (OneConj c)) _ k.1 (omega (arith, d)) (simp append_assoc))
close-leads (Behind Top l) c s k d e = absurd cc
close-leads (Behind (Within h) l) c s k d e =
    let same : factor_ends (factor_waits h) (Either (expr_query l) (conj_query c)) ≡ s = cc in
    subst (LeadsTo _) same (factor-comes h (Group (Alternative l c)) _ k.1.1 (omega (arith, d, k.0)) (simp append_assoc))

step-holds : (h : ConjHole) (c : Conj) (t : Token) (s : Reading) → ConjFits h → opened (conj_waits h) + conj_depth c ≤ 64
    → step (Holds (conj_waits h) (conj_query c)) t ≡ Some s → LeadsTo ((conj_before h ++ conj_tokens c) ++ t ∷ []) s
step-holds h c (Word key) s k d e = joins h c (Word key) s k d e
step-holds h c Not s k d e = joins h c Not s k d e
step-holds h c Open s k d e = joins h c Open s k d e
step-holds h c Close s k d e = close-leads h c s k d e
step-holds h c And s k d e =
    let same : Wants (AndThen (conj_query c) ∷ conj_waits h) ≡ s = cc in
    subst (LeadsTo _) same (record { hole = Next h c true; fits = (d, k); waits = refl; before = simp append_assoc })
step-holds h c Or s k d e = or-leads h c s k d cc
step-holds h c Wordless s k d e = absurd cc

step-leads : (r : Reading) (t : Token) (s : Reading) (tokens : List Token) → LeadsTo tokens r → step r t ≡ Some s → LeadsTo (tokens ++ t ∷ []) s
step-leads (Wants ws) t s tokens l e =
    subst (λ x. LeadsTo (x ++ t ∷ []) s) l.before (step-wants l.hole t s l.fits (ap (λ x. step (Wants x) t) l.waits ∙ e))
step-leads (Holds ws q) t s tokens l e =
    subst (λ x. LeadsTo (x ++ t ∷ []) s) l.before
    (step-holds l.hole l.conj t s l.fits l.shallow (ap (λ x. step (Holds x (conj_query l.conj)) t) l.waits ∙ ap (λ x. step (Holds ws x) t) l.query ∙ e))

run-leads : (ts : List Token) (r s : Reading) (tokens : List Token) → LeadsTo tokens r → run r ts ≡ Some s → LeadsTo (tokens ++ ts) s
run-leads [] r s tokens l e =
    let same : r ≡ s = cc in
    subst (λ x. LeadsTo x s) (sym (append-nil tokens)) (subst (LeadsTo tokens) same l)
run-leads (t ∷ ts) r s tokens l e = go (λ m. run-leads ts m s (tokens ++ t ∷ [])) (step r t) refl e
  where
    rest : (m : Reading) → step r t ≡ Some m → LeadsTo (tokens ++ t ∷ []) m
    rest m h = step-leads r t m tokens l h

    go : ((m : Reading) → LeadsTo (tokens ++ t ∷ []) m → run m ts ≡ Some s → LeadsTo ((tokens ++ t ∷ []) ++ ts) s)
        → (o : Option Reading) → step r t ≡ o → option_and_then (λ m. run m ts) o ≡ Some s → LeadsTo (tokens ++ t ∷ ts) s
    go f None h e = absurd cc
    go f (Some m) h e = subst (λ x. LeadsTo x s) (append_assoc tokens (t ∷ []) ts) (f m (rest m h) e)

-- the tokens of a query up to here lead to here
leads : (ts : List Token) (s : Reading) → run (Wants []) ts ≡ Some s → LeadsTo ts s
leads ts s e = run-leads ts (Wants []) s [] (record { hole = First (Start Top); fits = tt; waits = refl; before = refl }) e

-- some query begins with the tokens before a hole, and with those before a conjunction's hole and the conjunction
hole-begins : (h : FactorHole) → FactorFits h → Begins (factor_before h)
hole-begins h k =
    let f : Factor = Single no_term in
    record {
      more = factor_tokens f ++ factor_behind h;
      query = expr_query (factor_filled h f);
      writes = record { expr = factor_filled h f; tokens_are = factor_filled-tokens h f; query_is = refl; shallow = factor_filled-depth h f k (omega (arith, factor-opened h k)) };
    }

conj-begins : (h : ConjHole) (c : Conj) → ConjFits h → opened (conj_waits h) + conj_depth c ≤ 64 → Begins (conj_before h ++ conj_tokens c)
conj-begins h c k d =
    record {
      more = conj_behind h;
      query = expr_query (conj_filled h c);
      writes = record { expr = conj_filled h c; tokens_are = conj_filled-tokens h c ∙ sym (append_assoc (conj_before h) (conj_tokens c) (conj_behind h)); query_is = refl; shallow = conj_filled-depth h c k d };
    }

leads-begins : (ts : List Token) (s : Reading) → LeadsTo ts s → Begins ts
leads-begins ts (Wants ws) l = subst Begins l.before (hole-begins l.hole l.fits)
leads-begins ts (Holds ws q) l = subst Begins l.before (conj-begins l.hole l.conj l.fits l.shallow)

-- what is read is the front of some query
pub run-begins : (ts : List Token) (s : Reading) → run (Wants []) ts ≡ Some s → Begins ts
run-begins ts s e = leads-begins ts s (leads ts s e)

whole-writes : (h : ConjHole) (c : Conj) (q : Query) → ConjFits h → opened (conj_waits h) + conj_depth c ≤ 64
    → whole (Holds (conj_waits h) (conj_query c)) ≡ Some q → Writes (conj_before h ++ conj_tokens c) q
whole-writes (Start Top) c q k d e = record { expr = OneConj c; tokens_are = refl; query_is = cc; shallow = omega (arith, d) }
whole-writes (Start (Within h)) c q k d e = absurd cc
whole-writes (Behind Top l) c q k d e = record { expr = Alternative l c; tokens_are = sym (append_assoc (expr_tokens l) (Or ∷ []) (conj_tokens c)); query_is = cc; shallow = omega (arith, d, k.0) }
whole-writes (Behind (Within h) l) c q k d e = absurd cc

-- and what is read to its end is a query
pub run-writes : (ts : List Token) (s : Reading) (q : Query) → run (Wants []) ts ≡ Some s → whole s ≡ Some q → Writes ts q
run-writes ts s q e w = go s (leads ts s e) w
  where
    go : (s : Reading) → LeadsTo ts s → whole s ≡ Some q → Writes ts q
    go (Wants ws) l w = absurd cc
    go (Holds ws p) l w =
        subst (λ x. Writes x q) l.before
        (whole-writes l.hole l.conj q l.fits l.shallow (ap (λ x. whole (Holds x (conj_query l.conj))) l.waits ∙ ap (λ x. whole (Holds ws x)) l.query ∙ w))
