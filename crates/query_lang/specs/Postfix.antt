-- Queries as the code keeps them: each operator behind what it joins.
use Rattle.std.specs.Prelude.{Bool, true, false, not, List, [], ◌∷◌, ◌++◌}
use Rattle.query_lang.specs.declared.term.Term.{Term}
use Rattle.query_lang.specs.declared.op.Op.{Op}
use Rattle.query_lang.specs.declared.op.Op.TheVariants.{Push, Negate, Conjoin, Disjoin}
use Rattle.query_lang.specs.Grammar.{Query, Has, Lacks, Both, Either}

-- the operators of a query that stands under an even number of `not` or not; each word is marked so too
abbrev pub postfix : Bool → Query → List (Op Term)
postfix even (Has term) = Push term even ∷ []
postfix even (Lacks q) = postfix (not even) q ++ Negate ∷ []
postfix even (Both p q) = postfix even p ++ (postfix even q ++ Conjoin ∷ [])
postfix even (Either p q) = postfix even p ++ (postfix even q ++ Disjoin ∷ [])

-- the words that are pushed
abbrev pub pushed : {W : Type 0} → List (Op W) → List W
pushed [] = []
pushed (Push word even ∷ ops) = word ∷ pushed ops
pushed (Negate ∷ ops) = pushed ops
pushed (Conjoin ∷ ops) = pushed ops
pushed (Disjoin ∷ ops) = pushed ops

-- those under an even number of `not`
abbrev pub pushed_even : {W : Type 0} → List (Op W) → List W
pushed_even [] = []
pushed_even (Push word true ∷ ops) = word ∷ pushed_even ops
pushed_even (Push word false ∷ ops) = pushed_even ops
pushed_even (Negate ∷ ops) = pushed_even ops
pushed_even (Conjoin ∷ ops) = pushed_even ops
pushed_even (Disjoin ∷ ops) = pushed_even ops

-- the queries on a pile after one operator
abbrev pub built_by : Op Term → List Query → List Query
built_by (Push term even) qs = Has term ∷ qs
built_by Negate [] = []
built_by Negate (q ∷ qs) = Lacks q ∷ qs
built_by Conjoin [] = []
built_by Conjoin (q ∷ []) = q ∷ []
built_by Conjoin (q ∷ p ∷ qs) = Both p q ∷ qs
built_by Disjoin [] = []
built_by Disjoin (q ∷ []) = q ∷ []
built_by Disjoin (q ∷ p ∷ qs) = Either p q ∷ qs

abbrev pub built : List (Op Term) → List Query → List Query
built [] qs = qs
built (op ∷ ops) qs = built ops (built_by op qs)

-- a word of nothing
abbrev pub no_term : Term
no_term = record { key = []; weight = 0 }

-- the query on top of a pile
abbrev pub top_query : List Query → Query
top_query [] = Has no_term
top_query (q ∷ qs) = q

-- the query that operators spell
abbrev pub tree : List (Op Term) → Query
tree ops = top_query (built ops [])
