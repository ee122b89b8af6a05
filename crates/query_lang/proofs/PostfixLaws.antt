-- The code's stacks follow the machine, and what they make has the query's meaning.
use Rattle.std.specs.Prelude.{◌≡◌, ℕ, ◌+◌, nat_lt, Bool, true, false, not, List, [], ◌∷◌, ◌++◌, map, Option, Some, None, option_map, Result, Ok, Err, if◌then◌else◌, refl}
use Rattle.std.proofs.Common.{ap, ◌∙◌, append_assoc, append-nil}
use Rattle.query_lang.specs.declared.term.Term.{Term}
use Rattle.query_lang.specs.declared.token.Token.{Token}
use Rattle.query_lang.specs.declared.token.Token.TheVariants.{Word, Wordless, And, Or, Not, Open, Close}
use Rattle.query_lang.specs.declared.token.Placed.{Placed}
use Rattle.query_lang.specs.declared.op.Op.{Op}
use Rattle.query_lang.specs.declared.op.Op.TheVariants.{Push, Negate, Conjoin, Disjoin}
use Rattle.query_lang.specs.declared.kind.Kind.{Kind}
use Rattle.query_lang.specs.declared.kind.Kind.TheVariants.{AfterNot, AfterOpen, AfterAnd, AfterOr}
use Rattle.query_lang.specs.Grammar.{Query, Has, Lacks, Both, Either}
use Rattle.query_lang.specs.Machine.{Waiting, Negation, Parenthesis, AndThen, OrElse, Reading, Wants, Holds, opened, factor_ends, step, whole, or_place, read_from}
use Rattle.query_lang.specs.Meaning.{matches, terms_of, affirmed}
use Rattle.query_lang.specs.Postfix.{postfix, pushed, pushed_even, built, built_by, tree, no_term}
use Rattle.query_lang.specs.Evaluation.{truths_by, truths_of}
use Rattle.query_lang.specs.Stacks.{Stacks, wanting, holding, open_count, is_even, settled, taken, ended, laid_from}

-- what waits, without the queries on its left
abbrev pub kind_of : Waiting → Kind
kind_of Negation = AfterNot
kind_of Parenthesis = AfterOpen
kind_of (AndThen q) = AfterAnd
kind_of (OrElse q) = AfterOr

abbrev kinds : List Waiting → List Kind
kinds ws = map kind_of ws

-- the operators of the queries on the left of what waits
abbrev laid : List Waiting → List (Op Term)
laid [] = []
laid (Negation ∷ ws) = laid ws
laid (Parenthesis ∷ ws) = laid ws
laid (AndThen q ∷ ws) = laid ws ++ postfix (is_even (kinds ws)) q
laid (OrElse q ∷ ws) = laid ws ++ postfix (is_even (kinds ws)) q

-- the stacks of the code where a reading has come so far
abbrev pub stacks : Reading → Stacks
stacks (Wants ws) = wanting (kinds ws) (laid ws)
stacks (Holds ws q) = holding (kinds ws) (laid ws ++ postfix (is_even (kinds ws)) q)

-- the end of a factor does on the stacks what the machine does
settled-is : (ws : List Waiting) (q : Query) → settled (kinds ws) (laid ws ++ postfix (is_even (kinds ws)) q) ≡ stacks (factor_ends ws q)
settled-is [] q = refl
settled-is (Negation ∷ ws) q = ap (settled (kinds ws)) (append_assoc (laid ws) (postfix (not (is_even (kinds ws))) q) (Negate ∷ [])) ∙ settled-is ws (Lacks q)
settled-is (Parenthesis ∷ ws) q = refl
settled-is (AndThen l ∷ ws) q = ap (settled (kinds ws)) (simp append_assoc) ∙ settled-is ws (Both l q)
settled-is (OrElse l ∷ ws) q = refl

opened-is : (ws : List Waiting) → open_count (kinds ws) ≡ opened ws
opened-is [] = refl
opened-is (Negation ∷ ws) = ap (λ n. 1 + n) (opened-is ws)
opened-is (Parenthesis ∷ ws) = ap (λ n. 1 + n) (opened-is ws)
opened-is (AndThen q ∷ ws) = opened-is ws
opened-is (OrElse q ∷ ws) = opened-is ws

-- one more is open, where that may be
opening-is : (ws : List Waiting) (s : Reading) → (if nat_lt (open_count (kinds ws)) 64 then Some (stacks s) else None) ≡ option_map stacks (if nat_lt (opened ws) 64 then Some s else None)
opening-is ws s = ap (λ n. if nat_lt n 64 then Some (stacks s) else None) (opened-is ws) ∙ go (nat_lt (opened ws) 64)
  where
    go : (b : Bool) → (if b then Some (stacks s) else None) ≡ option_map stacks (if b then Some s else None)
    go true = refl
    go false = refl

-- an `or` is joined with what stands on its left
either-laid : (ws : List Waiting) (l q : Query) → (laid (OrElse l ∷ ws) ++ postfix (is_even (kinds ws)) q) ++ Disjoin ∷ [] ≡ laid ws ++ postfix (is_even (kinds ws)) (Either l q)
either-laid ws l q = simp append_assoc

closing-is : (ws : List Waiting) (q : Query) → taken (stacks (Holds ws q)) Close ≡ option_map stacks (step (Holds ws q) Close)
closing-is [] q = refl
closing-is (Parenthesis ∷ ws) q = ap Some (settled-is ws q)
closing-is (Negation ∷ ws) q = refl
closing-is (AndThen l ∷ ws) q = refl
closing-is (OrElse l ∷ []) q = refl
closing-is (OrElse l ∷ Parenthesis ∷ ws) q = ap Some (ap (settled (kinds ws)) (either-laid ws l q) ∙ settled-is ws (Either l q))
closing-is (OrElse l ∷ Negation ∷ ws) q = refl
closing-is (OrElse l ∷ AndThen m ∷ ws) q = refl
closing-is (OrElse l ∷ OrElse m ∷ ws) q = refl

or-is : (ws : List Waiting) (q : Query) → taken (stacks (Holds ws q)) Or ≡ option_map stacks (step (Holds ws q) Or)
or-is [] q = refl
or-is (Parenthesis ∷ ws) q = refl
or-is (Negation ∷ ws) q = refl
or-is (AndThen l ∷ ws) q = refl
or-is (OrElse l ∷ ws) q = ap (λ x. Some (wanting (AfterOr ∷ kinds ws) x)) (either-laid ws l q)

-- a token does on the stacks what it does to the machine
pub taken-is : (r : Reading) (t : Token) → taken (stacks r) t ≡ option_map stacks (step r t)
taken-is (Wants ws) (Word key) = ap Some (settled-is ws (Has key))
taken-is (Wants ws) Not = opening-is ws (Wants (Negation ∷ ws))
taken-is (Wants ws) Open = opening-is ws (Wants (Parenthesis ∷ ws))
taken-is (Wants ws) Close = refl
taken-is (Wants ws) And = refl
taken-is (Wants ws) Or = refl
taken-is (Wants ws) Wordless = refl
taken-is (Holds ws q) (Word key) = ap Some (settled-is (AndThen q ∷ ws) (Has key))
taken-is (Holds ws q) Not = opening-is ws (Wants (Negation ∷ AndThen q ∷ ws))
taken-is (Holds ws q) Open = opening-is ws (Wants (Parenthesis ∷ AndThen q ∷ ws))
taken-is (Holds ws q) Close = closing-is ws q
taken-is (Holds ws q) And = refl
taken-is (Holds ws q) Or = or-is ws q
taken-is (Holds ws q) Wordless = refl

ended-is : (r : Reading) → ended (stacks r) ≡ option_map (postfix true) (whole r)
ended-is (Wants ws) = refl
ended-is (Holds [] q) = refl
ended-is (Holds (OrElse l ∷ []) q) = ap Some (either-laid [] l q)
ended-is (Holds (Parenthesis ∷ ws) q) = refl
ended-is (Holds (Negation ∷ ws) q) = refl
ended-is (Holds (AndThen l ∷ ws) q) = refl
ended-is (Holds (OrElse l ∷ Parenthesis ∷ ws) q) = refl
ended-is (Holds (OrElse l ∷ Negation ∷ ws) q) = refl
ended-is (Holds (OrElse l ∷ AndThen m ∷ ws) q) = refl
ended-is (Holds (OrElse l ∷ OrElse m ∷ ws) q) = refl

-- the postfix form of a query that was read
abbrev pub in_postfix : Result Query ℕ → Result (List (Op Term)) ℕ
in_postfix (Ok q) = Ok (postfix true q)
in_postfix (Err at) = Err at

-- so the code reads what the machine reads
pub laid-is : (end : ℕ) (r : Reading) (placed : List Placed) → laid_from end (stacks r) placed ≡ in_postfix (read_from end r placed)
laid-is end r [] = ap (or_place end (λ x. Ok x)) (ended-is r) ∙ go (whole r)
  where
    go : (o : Option Query) → or_place {B = List (Op Term)} end (λ x. Ok x) (option_map (postfix true) o) ≡ in_postfix (or_place end (λ q. Ok q) o)
    go (Some q) = refl
    go None = refl
laid-is end r (p ∷ placed) = ap (or_place p.at (λ s. laid_from end s placed)) (taken-is r p.token) ∙ go (λ s. laid-is end s placed) (step r p.token)
  where
    go : ((s : Reading) → laid_from end (stacks s) placed ≡ in_postfix (read_from end s placed)) → (o : Option Reading)
        → or_place p.at (λ s. laid_from end s placed) (option_map stacks o) ≡ in_postfix (or_place p.at (λ s. read_from end s placed) o)
    go f (Some s) = f s
    go f None = refl

built-append : (a b : List (Op Term)) (qs : List Query) → built (a ++ b) qs ≡ built b (built a qs)
built-append [] b qs = refl
built-append (op ∷ a) b qs = built-append a b (built_by op qs)

built-postfix : (even : Bool) (q : Query) (qs : List Query) → built (postfix even q) qs ≡ q ∷ qs
built-postfix even (Has key) qs = refl
built-postfix even (Lacks q) qs = built-append (postfix (not even) q) (Negate ∷ []) qs ∙ ap (built_by Negate) (built-postfix (not even) q qs)
built-postfix even (Both p q) qs =
    built-append (postfix even p) _ qs ∙ ap (built (postfix even q ++ Conjoin ∷ [])) (built-postfix even p qs)
    ∙ built-append (postfix even q) (Conjoin ∷ []) _ ∙ ap (built_by Conjoin) (built-postfix even q (p ∷ qs))
built-postfix even (Either p q) qs =
    built-append (postfix even p) _ qs ∙ ap (built (postfix even q ++ Disjoin ∷ [])) (built-postfix even p qs)
    ∙ built-append (postfix even q) (Disjoin ∷ []) _ ∙ ap (built_by Disjoin) (built-postfix even q (p ∷ qs))

-- a query is the tree of its operators
pub tree-postfix : (q : Query) → tree (postfix true q) ≡ q
tree-postfix q = ap {B = Query} (λ qs. elim qs [ [] ↦ Has no_term | p ∷ ps ↦ p ]) (built-postfix true q [])

truths-append : {W : Type 0} (f : W → ℕ) (a b : List (Op W)) (ts : List Bool) → truths_of f (a ++ b) ts ≡ truths_of f b (truths_of f a ts)
truths-append f [] b ts = refl
truths-append f (op ∷ a) b ts = truths-append f a b (truths_by f op ts)

-- a word's frequency, by its key
abbrev pub by_key : (List ℕ → ℕ) → Term → ℕ
by_key f term = f term.key

-- evaluating the operators in turn gives the query's truth
pub truths-postfix : (f : List ℕ → ℕ) (even : Bool) (q : Query) (ts : List Bool) → truths_of (by_key f) (postfix even q) ts ≡ matches q f ∷ ts
truths-postfix f even (Has key) ts = refl
truths-postfix f even (Lacks q) ts = truths-append (by_key f) (postfix (not even) q) (Negate ∷ []) ts ∙ ap (truths_by (by_key f) Negate) (truths-postfix f (not even) q ts)
truths-postfix f even (Both p q) ts =
    truths-append (by_key f) (postfix even p) _ ts ∙ ap (truths_of (by_key f) (postfix even q ++ Conjoin ∷ [])) (truths-postfix f even p ts)
    ∙ truths-append (by_key f) (postfix even q) (Conjoin ∷ []) _ ∙ ap (truths_by (by_key f) Conjoin) (truths-postfix f even q (matches p f ∷ ts))
truths-postfix f even (Either p q) ts =
    truths-append (by_key f) (postfix even p) _ ts ∙ ap (truths_of (by_key f) (postfix even q ++ Disjoin ∷ [])) (truths-postfix f even p ts)
    ∙ truths-append (by_key f) (postfix even q) (Disjoin ∷ []) _ ∙ ap (truths_by (by_key f) Disjoin) (truths-postfix f even q (matches p f ∷ ts))

pub pushed-append : {W : Type 0} (a b : List (Op W)) → pushed (a ++ b) ≡ pushed a ++ pushed b
pushed-append [] b = refl
pushed-append (Push w e ∷ a) b = ap (λ xs. w ∷ xs) (pushed-append a b)
pushed-append (Negate ∷ a) b = pushed-append a b
pushed-append (Conjoin ∷ a) b = pushed-append a b
pushed-append (Disjoin ∷ a) b = pushed-append a b

pub pushed_even-append : {W : Type 0} (a b : List (Op W)) → pushed_even (a ++ b) ≡ pushed_even a ++ pushed_even b
pushed_even-append [] b = refl
pushed_even-append (Push w true ∷ a) b = ap (λ xs. w ∷ xs) (pushed_even-append a b)
pushed_even-append (Push w false ∷ a) b = pushed_even-append a b
pushed_even-append (Negate ∷ a) b = pushed_even-append a b
pushed_even-append (Conjoin ∷ a) b = pushed_even-append a b
pushed_even-append (Disjoin ∷ a) b = pushed_even-append a b

-- the words that are pushed are those of the query
pub pushed-postfix : (even : Bool) (q : Query) → pushed (postfix even q) ≡ terms_of q
pushed-postfix even (Has key) = refl
pushed-postfix even (Lacks q) = pushed-append (postfix (not even) q) _ ∙ append-nil _ ∙ pushed-postfix (not even) q
pushed-postfix even (Both p q) = simp (pushed-append, append-nil, pushed-postfix even p, pushed-postfix even q)
pushed-postfix even (Either p q) = simp (pushed-append, append-nil, pushed-postfix even p, pushed-postfix even q)

pub pushed_even-postfix : (even : Bool) (q : Query) → pushed_even (postfix even q) ≡ affirmed even q
pushed_even-postfix true (Has key) = refl
pushed_even-postfix false (Has key) = refl
pushed_even-postfix true (Lacks q) = pushed_even-append (postfix false q) _ ∙ append-nil _ ∙ pushed_even-postfix false q
pushed_even-postfix false (Lacks q) = pushed_even-append (postfix true q) _ ∙ append-nil _ ∙ pushed_even-postfix true q
pushed_even-postfix true (Both p q) = simp (pushed_even-append, append-nil, pushed_even-postfix true p, pushed_even-postfix true q)
pushed_even-postfix false (Both p q) = simp (pushed_even-append, append-nil, pushed_even-postfix false p, pushed_even-postfix false q)
pushed_even-postfix true (Either p q) = simp (pushed_even-append, append-nil, pushed_even-postfix true p, pushed_even-postfix true q)
pushed_even-postfix false (Either p q) = simp (pushed_even-append, append-nil, pushed_even-postfix false p, pushed_even-postfix false q)
