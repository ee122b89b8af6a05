-- Which texts ask for any of some words, and for nothing else.
use Rattle.std.specs.Prelude.{ℕ, Bool, true, false, not, List, [], ◌∷◌}
use Rattle.query_lang.specs.declared.token.Token.{Token}
use Rattle.query_lang.specs.declared.token.Token.TheVariants.{Word, Or}
use Rattle.query_lang.specs.Tokens.{plain, term_of, tokens}

-- words and `or` in turn up to a word; the first argument says that a word is next
abbrev pub in_turn : Bool → List Token → Bool
in_turn word [] = not word
in_turn true (Word term ∷ tokens) = in_turn false tokens
in_turn false (Or ∷ tokens) = in_turn true tokens
in_turn word (other ∷ tokens) = false

-- one word, or several with one `or` between each and the next
abbrev pub is_or_chain : List Token → Bool
is_or_chain tokens = in_turn true tokens

-- the tokens of the text are such a chain
abbrev pub asks_for_any : List ℕ → Bool
asks_for_any text = is_or_chain (plain (tokens term_of text))
