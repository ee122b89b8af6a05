-- Operators whose words are named by their places among the distinct words.
use Rattle.std.specs.Prelude.{◌≡◌, ℕ, ◌<◌, ◌≤◌, Bool, true, List, [], length, map, get_or, All}
use Rattle.query_lang.specs.declared.op.Op.{Op}
use Rattle.query_lang.specs.declared.op.Op.TheVariants.{Push, Negate, Conjoin, Disjoin}
use Rattle.query_lang.specs.declared.op.Spot.{Spot}
use Rattle.query_lang.specs.declared.term.Term.{Term}
use Rattle.query_lang.specs.Meaning.{matches, words_of, weight}
use Rattle.query_lang.specs.Postfix.{postfix, tree}

-- the word that has the place
abbrev pub term_at : List (List ℕ) → Spot → Term
term_at words spot = record { key = get_or words spot.place []; weight = spot.weight }

-- the operator with the word that has its place
abbrev pub named_by : List (List ℕ) → Op Spot → Op Term
named_by words (Push spot even) = Push (term_at words spot) even
named_by words Negate = Negate
named_by words Conjoin = Conjoin
named_by words Disjoin = Disjoin

abbrev pub named : List (List ℕ) → List (Op Spot) → List (Op Term)
named words ops = map (named_by words) ops

-- an operator's place is one of so many
abbrev pub IsPlaced : ℕ → Op Spot → Type 0
IsPlaced count (Push spot even) = spot.place < count
IsPlaced count Negate = Unit {0}
IsPlaced count Conjoin = Unit {0}
IsPlaced count Disjoin = Unit {0}

-- these words and operators are a query's, and say how much each word weighs and whether a text without any of the words matches
pub record AreQuery (words : List (List ℕ)) (weights : List ℕ) (ops : List (Op Spot)) (bare : Bool) : Type 0 where
  pub spelled : named words ops ≡ postfix true (tree (named words ops))
  pub words_are : words ≡ words_of (tree (named words ops))
  pub weights_are : weights ≡ map (weight (tree (named words ops))) words
  pub placed : All (IsPlaced (length words)) ops
  pub few : length words ≤ 4096
  pub light : All (λ w. w ≤ 1000) weights
  pub bare_is : bare ≡ matches (tree (named words ops)) (λ _. 0)
