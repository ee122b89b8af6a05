-- The tokens of a query's text.
use Rattle.std.specs.Prelude.{ℕ, ◌+◌, ◌-◌, ◌*◌, ◌&&◌, nat_le, Bool, ◌==◌, if◌then◌else◌, List, [], ◌∷◌, ◌++◌, length, map, Option, Some, None, codes}
use Rattle.std.specs.Str.{bytes_eq, is_utf8}
use Rattle.text_words.specs.Terms.{one_term}
use Rattle.query_lang.specs.declared.term.Term.{Term}
use Rattle.query_lang.specs.declared.token.Token.{Token}
use Rattle.query_lang.specs.declared.token.Token.TheVariants.{Word, Wordless, And, Or, Not, Open, Close}
use Rattle.query_lang.specs.declared.token.Placed.{Placed}
use Rattle.query_lang.specs.declared.token.Role.{Role}
use Rattle.query_lang.specs.declared.token.Role.TheVariants.{Space, Opening, Closing, Letter}

-- a space ends a token, a parenthesis ends it and is one by itself, any other byte goes on with it
abbrev pub role : ℕ → Role
role b = if b == 32 then Space else (if b == 40 then Opening else (if b == 41 then Closing else Letter))

-- a word, where there is one
abbrev pub word_by : Option Term → Token
word_by (Some term) = Word term
word_by None = Wordless

-- the token of bytes without spaces and parentheses; the first argument gives the key and the weight of a word
abbrev pub token_of : (List ℕ → Option Term) → List ℕ → Token
token_of key bytes =
    if bytes_eq bytes (codes "and") then And
    else (if bytes_eq bytes (codes "or") then Or
    else (if bytes_eq bytes (codes "not") then Not
    else word_by (key bytes)))

-- the token that ends here, where it has a byte, with the place of its first byte
abbrev pub closed : (List ℕ → Option Term) → ℕ → List ℕ → List Placed
closed key at [] = []
closed key at (b ∷ run) = record { at = at; token = token_of key (b ∷ run) } ∷ []

-- the tokens of a text that goes on behind the bytes of a token, which begins at this place
abbrev pub tokens_from : (List ℕ → Option Term) → ℕ → List ℕ → List ℕ → List Placed
tokens_from key at run [] = closed key at run
tokens_from key at run (b ∷ bs) =
    elim (role b) [
      | Space ↦ closed key at run ++ tokens_from key (at + length run + 1) [] bs
      | Opening ↦ closed key at run ++ record { at = at + length run; token = Open } ∷ tokens_from key (at + length run + 1) [] bs
      | Closing ↦ closed key at run ++ record { at = at + length run; token = Close } ∷ tokens_from key (at + length run + 1) [] bs
      | Letter ↦ tokens_from key at (run ++ b ∷ []) bs
    ]

-- the parentheses of a text, and its maximal stretches of bytes without spaces and parentheses, in order, each with its place
abbrev pub tokens : (List ℕ → Option Term) → List ℕ → List Placed
tokens key text = tokens_from key 0 [] text

-- the tokens without their places
abbrev pub plain : List Placed → List Token
plain placed = map (λ p. p.token) placed

-- the key of a word: that of its only run of letters, marks and numbers, where it has exactly one and that has a key of 1 to 255 bytes
abbrev pub key_of : List ℕ → Option (List ℕ)
key_of bytes = if is_utf8 bytes then one_term bytes else None

-- an ASCII digit
abbrev pub is_digit : ℕ → Bool
is_digit b = nat_le 48 b && nat_le b 57

-- the number of these digits behind those read so far, from 1 to 1,000; None where a byte is no digit, or the number isn't such a one
abbrev pub weight_from : ℕ → List ℕ → Option ℕ
weight_from n [] = if nat_le 1 n then Some n else None
weight_from n (b ∷ bs) = if is_digit b && nat_le (10 * n + (b - 48)) 1000 then weight_from (10 * n + (b - 48)) bs else None

-- what stands before the last `^` (byte 94), and what stands behind it
abbrev pub parted_by : ℕ → Option (List ℕ × List ℕ) → List ℕ → Option (List ℕ × List ℕ)
parted_by b (Some parts) bs = Some (b ∷ parts.0, parts.1)
parted_by b None bs = if b == 94 then Some ([], bs) else None

abbrev pub parted : List ℕ → Option (List ℕ × List ℕ)
parted [] = None
parted (b ∷ bs) = parted_by b (parted bs) bs

-- a word by its key and its weight, where it has both
abbrev pub with_weight : Option (List ℕ) → Option ℕ → Option Term
with_weight None weight = None
with_weight (Some key) None = None
with_weight (Some key) (Some weight) = Some (record { key = key; weight = weight })

abbrev pub weighted : Option (List ℕ × List ℕ) → Option Term
weighted None = None
weighted (Some parts) = with_weight (key_of parts.0) (weight_from 0 parts.1)

-- the key and the weight of a word: a word by itself has weight 1, and `word^N` has weight N, from 1 to 1,000
abbrev pub term_by : Option (List ℕ) → Option Term → Option Term
term_by (Some key) other = Some (record { key = key; weight = 1 })
term_by None other = other

abbrev pub term_of : List ℕ → Option Term
term_of bytes = term_by (key_of bytes) (weighted (parted bytes))
