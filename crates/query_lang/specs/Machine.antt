-- A machine that reads queries token by token.
use Rattle.std.specs.Prelude.{ℕ, ◌+◌, if◌then◌else◌, List, [], ◌∷◌, length, nat_lt, Option, Some, None, option_and_then, Result, Ok, Err}
use Rattle.query_lang.specs.declared.term.Term.{Term}
use Rattle.query_lang.specs.declared.token.Token.{Token}
use Rattle.query_lang.specs.declared.token.Token.TheVariants.{Word, Wordless, And, Or, Not, Open, Close}
use Rattle.query_lang.specs.declared.token.Placed.{Placed}
use Rattle.query_lang.specs.Tokens.{tokens}
use Rattle.query_lang.specs.Grammar.{Query, Has, Lacks, Both, Either}

-- what waits for a factor: a `not`, a parenthesis, or a query on the left of an `and` or an `or`
pub data Waiting : Type 0 where
  Negation : Waiting
  Parenthesis : Waiting
  AndThen : Query → Waiting
  OrElse : Query → Waiting

-- how far a query was read: a factor has to come, or one has just ended
pub data Reading : Type 0 where
  Wants : List Waiting → Reading
  Holds : List Waiting → Query → Reading

-- how many `not` and `(` are open
abbrev pub opened : List Waiting → ℕ
opened [] = 0
opened (Negation ∷ ws) = 1 + opened ws
opened (Parenthesis ∷ ws) = 1 + opened ws
opened (AndThen q ∷ ws) = opened ws
opened (OrElse q ∷ ws) = opened ws

-- a factor has ended: it ends each `not` before it, and joins what stands on its left
abbrev pub factor_ends : List Waiting → Query → Reading
factor_ends [] q = Holds [] q
factor_ends (Negation ∷ ws) q = factor_ends ws (Lacks q)
factor_ends (Parenthesis ∷ ws) q = Holds (Parenthesis ∷ ws) q
factor_ends (AndThen left ∷ ws) q = factor_ends ws (Both left q)
factor_ends (OrElse left ∷ ws) q = Holds (OrElse left ∷ ws) q

-- one more is open, where 64 aren't open before
abbrev pub opening : Waiting → List Waiting → Option Reading
opening w ws = if nat_lt (opened ws) 64 then Some (Wants (w ∷ ws)) else None

-- a conjunction has ended at an `or`
abbrev pub or_comes : List Waiting → Query → Reading
or_comes [] q = Wants (OrElse q ∷ [])
or_comes (OrElse left ∷ ws) q = Wants (OrElse (Either left q) ∷ ws)
or_comes (Parenthesis ∷ ws) q = Wants (OrElse q ∷ Parenthesis ∷ ws)
or_comes (Negation ∷ ws) q = Wants (OrElse q ∷ Negation ∷ ws)
or_comes (AndThen left ∷ ws) q = Wants (OrElse q ∷ AndThen left ∷ ws)

-- an expression has ended at a `)`
abbrev pub group_ends : List Waiting → Query → Option Reading
group_ends (Parenthesis ∷ ws) q = Some (factor_ends ws q)
group_ends (OrElse left ∷ Parenthesis ∷ ws) q = Some (factor_ends ws (Either left q))
group_ends ws q = None

-- what a token makes of a reading, where a query may go on with it
abbrev pub step : Reading → Token → Option Reading
step (Wants ws) (Word term) = Some (factor_ends ws (Has term))
step (Wants ws) Not = opening Negation ws
step (Wants ws) Open = opening Parenthesis ws
step (Wants ws) Close = None
step (Wants ws) And = None
step (Wants ws) Or = None
step (Wants ws) Wordless = None
step (Holds ws q) (Word term) = Some (factor_ends (AndThen q ∷ ws) (Has term))
step (Holds ws q) Not = opening Negation (AndThen q ∷ ws)
step (Holds ws q) Open = opening Parenthesis (AndThen q ∷ ws)
step (Holds ws q) Close = group_ends ws q
step (Holds ws q) And = Some (Wants (AndThen q ∷ ws))
step (Holds ws q) Or = Some (or_comes ws q)
step (Holds ws q) Wordless = None

-- what tokens make of a reading
abbrev pub run : Reading → List Token → Option Reading
run reading [] = Some reading
run reading (t ∷ ts) = option_and_then (λ r. run r ts) (step reading t)

-- the query, where it may end here
abbrev pub whole : Reading → Option Query
whole (Holds [] q) = Some q
whole (Holds (OrElse left ∷ []) q) = Some (Either left q)
whole reading = None

-- what comes of something, or that place where there is nothing
abbrev pub or_place : {A B : Type 0} → ℕ → (A → Result B ℕ) → Option A → Result B ℕ
or_place at f (Some a) = f a
or_place at f None = Err at

-- the query that these tokens write from a reading on, or the place where they stop; end is the place behind them
abbrev pub read_from : ℕ → Reading → List Placed → Result Query ℕ
read_from end reading [] = or_place end (λ q. Ok q) (whole reading)
read_from end reading (p ∷ placed) = or_place p.at (λ r. read_from end r placed) (step reading p.token)

-- the query of a text, or the place of the first token with which no query goes on; the first argument gives the key of a word
abbrev pub read : (List ℕ → Option Term) → List ℕ → Result Query ℕ
read key text = read_from (length text) (Wants []) (tokens key text)
