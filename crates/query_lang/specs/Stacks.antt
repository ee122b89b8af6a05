-- How the code reads a query: what waits for a factor, without the queries on its left, whose operators are laid down already.
use Rattle.std.specs.Prelude.{◌≡◌, ℕ, ◌+◌, nat_lt, Bool, true, false, not, if◌then◌else◌, List, [], ◌∷◌, ◌++◌, Option, Some, None, Result, Ok}
use Rattle.query_lang.specs.declared.term.Term.{Term}
use Rattle.query_lang.specs.declared.token.Token.{Token}
use Rattle.query_lang.specs.declared.token.Token.TheVariants.{Word, Wordless, And, Or, Not, Open, Close}
use Rattle.query_lang.specs.declared.token.Placed.{Placed}
use Rattle.query_lang.specs.declared.op.Op.{Op}
use Rattle.query_lang.specs.declared.op.Op.TheVariants.{Push, Negate, Conjoin, Disjoin}
use Rattle.query_lang.specs.declared.kind.Kind.{Kind}
use Rattle.query_lang.specs.declared.kind.Kind.TheVariants.{AfterNot, AfterOpen, AfterAnd, AfterOr}
use Rattle.query_lang.specs.Machine.{or_place}

-- what waits, the last first; the operators laid down; and whether a factor has just ended
pub record Stacks : Type 0 where
  pub kinds : List Kind
  pub laid : List (Op Term)
  pub holds : Bool

abbrev pub wanting : List Kind → List (Op Term) → Stacks
wanting kinds laid = record { kinds = kinds; laid = laid; holds = false }

abbrev pub holding : List Kind → List (Op Term) → Stacks
holding kinds laid = record { kinds = kinds; laid = laid; holds = true }

-- how many `not` and `(` are open
abbrev pub open_count : List Kind → ℕ
open_count [] = 0
open_count (AfterNot ∷ kinds) = 1 + open_count kinds
open_count (AfterOpen ∷ kinds) = 1 + open_count kinds
open_count (AfterAnd ∷ kinds) = open_count kinds
open_count (AfterOr ∷ kinds) = open_count kinds

-- whether an even number of `not` is open
abbrev pub is_even : List Kind → Bool
is_even [] = true
is_even (AfterNot ∷ kinds) = not (is_even kinds)
is_even (AfterOpen ∷ kinds) = is_even kinds
is_even (AfterAnd ∷ kinds) = is_even kinds
is_even (AfterOr ∷ kinds) = is_even kinds

-- a factor has ended
abbrev pub settled : List Kind → List (Op Term) → Stacks
settled [] laid = holding [] laid
settled (AfterNot ∷ kinds) laid = settled kinds (laid ++ Negate ∷ [])
settled (AfterAnd ∷ kinds) laid = settled kinds (laid ++ Conjoin ∷ [])
settled (AfterOpen ∷ kinds) laid = holding (AfterOpen ∷ kinds) laid
settled (AfterOr ∷ kinds) laid = holding (AfterOr ∷ kinds) laid

-- what waits where a factor begins: behind another one it is joined to that
abbrev pub begun : Stacks → List Kind
begun s = if s.holds then AfterAnd ∷ s.kinds else s.kinds

-- one more is open
abbrev pub opening : Kind → Stacks → Option Stacks
opening kind s = if nat_lt (open_count s.kinds) 64 then Some (wanting (kind ∷ begun s) s.laid) else None

-- a conjunction has ended at an `or`
abbrev pub or_comes : List Kind → List (Op Term) → Stacks
or_comes [] laid = wanting (AfterOr ∷ []) laid
or_comes (AfterOr ∷ kinds) laid = wanting (AfterOr ∷ kinds) (laid ++ Disjoin ∷ [])
or_comes (AfterNot ∷ kinds) laid = wanting (AfterOr ∷ AfterNot ∷ kinds) laid
or_comes (AfterOpen ∷ kinds) laid = wanting (AfterOr ∷ AfterOpen ∷ kinds) laid
or_comes (AfterAnd ∷ kinds) laid = wanting (AfterOr ∷ AfterAnd ∷ kinds) laid

-- an `or` that waits on top is done
abbrev pub joined : List Kind → List (Op Term) → Stacks
joined [] laid = holding [] laid
joined (AfterOr ∷ kinds) laid = holding kinds (laid ++ Disjoin ∷ [])
joined (AfterNot ∷ kinds) laid = holding (AfterNot ∷ kinds) laid
joined (AfterOpen ∷ kinds) laid = holding (AfterOpen ∷ kinds) laid
joined (AfterAnd ∷ kinds) laid = holding (AfterAnd ∷ kinds) laid

-- a `)` ends what its `(` opened
abbrev pub closed_by : List Kind → List (Op Term) → Option Stacks
closed_by [] laid = None
closed_by (AfterOpen ∷ kinds) laid = Some (settled kinds laid)
closed_by (AfterNot ∷ kinds) laid = None
closed_by (AfterAnd ∷ kinds) laid = None
closed_by (AfterOr ∷ kinds) laid = None

abbrev pub group_ends : Stacks → Option Stacks
group_ends s = let j = joined s.kinds s.laid in closed_by j.kinds j.laid

-- what a token makes of the stacks, where a query may go on with it
abbrev pub taken : Stacks → Token → Option Stacks
taken s (Word term) = Some (settled (begun s) (s.laid ++ Push term (is_even s.kinds) ∷ []))
taken s Not = opening AfterNot s
taken s Open = opening AfterOpen s
taken s Close = if s.holds then group_ends s else None
taken s And = if s.holds then Some (wanting (AfterAnd ∷ s.kinds) s.laid) else None
taken s Or = if s.holds then Some (or_comes s.kinds s.laid) else None
taken s Wordless = None

-- the operators, where nothing waits
abbrev pub laid_by : List Kind → List (Op Term) → Option (List (Op Term))
laid_by [] laid = Some laid
laid_by (k ∷ kinds) laid = None

-- the operators, where the query may end here
abbrev pub ended : Stacks → Option (List (Op Term))
ended s = if s.holds then (let j = joined s.kinds s.laid in laid_by j.kinds j.laid) else None

-- the operators of these tokens from the stacks on, or the place where they stop; end is the place behind them
abbrev pub laid_from : ℕ → Stacks → List Placed → Result (List (Op Term)) ℕ
laid_from end s [] = or_place end (λ laid. Ok laid) (ended s)
laid_from end s (p ∷ placed) = or_place p.at (λ r. laid_from end r placed) (taken s p.token)

-- whether a step was there, and what it made
abbrev pub Moves : Option Stacks → Bool → Stacks → Type 0
Moves None moved new = moved ≡ false
Moves (Some s) moved new = (moved ≡ true) × (new ≡ s)
