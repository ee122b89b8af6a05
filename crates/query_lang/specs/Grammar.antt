-- The grammar of queries.
use Rattle.std.specs.Prelude.{◌≡◌, ℕ, zero, suc, ◌+◌, ◌<◌, ◌≤◌, max, Bool, true, false, List, [], ◌∷◌, ◌++◌, length, take, Option, Result, Ok, Err}
use Rattle.query_lang.specs.declared.term.Term.{Term}
use Rattle.query_lang.specs.declared.token.Token.{Token}
use Rattle.query_lang.specs.declared.token.Token.TheVariants.{Word, And, Or, Not, Open, Close}
use Rattle.query_lang.specs.declared.token.Placed.{Placed}
use Rattle.query_lang.specs.Tokens.{tokens, plain}

-- a query: a word by its key, with its weight, what lacks a query, what has both of two, what has at least one of two
pub data Query : Type 0 where
  Has : Term → Query
  Lacks : Query → Query
  Both : Query → Query → Query
  Either : Query → Query → Query

-- how a query may be written:
--   expr   = conj { "or" conj }
--   conj   = factor { [ "and" ] factor }
--   factor = "not" factor | "(" expr ")" | word
mutual
  pub data Expr : Type 0 where
    OneConj : Conj → Expr
    Alternative : Expr → Conj → Expr

  pub data Conj : Type 0 where
    OneFactor : Factor → Conj
    -- with the word `and`, or without it
    Joined : Conj → Bool → Factor → Conj

  pub data Factor : Type 0 where
    Negated : Factor → Factor
    Group : Expr → Factor
    Single : Term → Factor

-- `and` where it is written
abbrev pub and_if : Bool → List Token
and_if true = And ∷ []
and_if false = []

-- the tokens of each
abbrev mutual
  pub expr_tokens : Expr → List Token
  expr_tokens (OneConj c) = conj_tokens c
  expr_tokens (Alternative e c) = expr_tokens e ++ (Or ∷ conj_tokens c)

  pub conj_tokens : Conj → List Token
  conj_tokens (OneFactor f) = factor_tokens f
  conj_tokens (Joined c written f) = conj_tokens c ++ (and_if written ++ factor_tokens f)

  pub factor_tokens : Factor → List Token
  factor_tokens (Negated f) = Not ∷ factor_tokens f
  factor_tokens (Group e) = Open ∷ (expr_tokens e ++ Close ∷ [])
  factor_tokens (Single term) = Word term ∷ []

-- how many `not` and `(` are open at once at most
abbrev mutual
  pub expr_depth : Expr → ℕ
  expr_depth (OneConj c) = conj_depth c
  expr_depth (Alternative e c) = max (expr_depth e) (conj_depth c)

  pub conj_depth : Conj → ℕ
  conj_depth (OneFactor f) = factor_depth f
  conj_depth (Joined c written f) = max (conj_depth c) (factor_depth f)

  pub factor_depth : Factor → ℕ
  factor_depth (Negated f) = 1 + factor_depth f
  factor_depth (Group e) = 1 + expr_depth e
  factor_depth (Single term) = 0

-- the query that each writes
abbrev mutual
  pub expr_query : Expr → Query
  expr_query (OneConj c) = conj_query c
  expr_query (Alternative e c) = Either (expr_query e) (conj_query c)

  pub conj_query : Conj → Query
  conj_query (OneFactor f) = factor_query f
  conj_query (Joined c written f) = Both (conj_query c) (factor_query f)

  pub factor_query : Factor → Query
  factor_query (Negated f) = Lacks (factor_query f)
  factor_query (Group e) = expr_query e
  factor_query (Single term) = Has term

-- these tokens write this query, with at most 64 `not` and `(` open at once
pub record Writes (tokens : List Token) (query : Query) : Type 0 where
  pub expr : Expr
  pub tokens_are : expr_tokens expr ≡ tokens
  pub query_is : expr_query expr ≡ query
  pub shallow : expr_depth expr ≤ 64

-- some query begins with these tokens
pub record Begins (tokens : List Token) : Type 0 where
  pub more : List Token
  pub query : Query
  pub writes : Writes (tokens ++ more) query

-- These tokens are no query: the first n of them are the longest front with which some query begins.
pub record BreakAt (tokens : List Token) (n : ℕ) : Type 0 where
  pub within : n ≤ length tokens
  pub begins : Begins (take n tokens)
  pub longest : (m : ℕ) → n < m → m ≤ length tokens → ¬ Begins (take m tokens)
  pub unwritten : (q : Query) → ¬ Writes tokens q

-- the place of the nth token, or the end behind them all
abbrev pub place_at : ℕ → List Placed → ℕ → ℕ
place_at end [] n = end
place_at end (p ∷ placed) zero = p.at
place_at end (p ∷ placed) (suc n) = place_at end placed n

-- What a text is read as: the query that its tokens write, or the place of the token behind the longest front that begins some
-- query, which is the text's length where there is none. The first argument gives the key and the weight of a word.
abbrev pub IsRead : (List ℕ → Option Term) → List ℕ → Result Query ℕ → Type 0
IsRead key text (Ok q) = Writes (plain (tokens key text)) q
IsRead key text (Err at) = (n : ℕ) × BreakAt (plain (tokens key text)) n × (at ≡ place_at (length text) (tokens key text) n)
