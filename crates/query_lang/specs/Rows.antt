-- Worked rows, which hold by computation, with words of ASCII letters and digits as they stand for keys.
use Rattle.std.specs.Prelude.{◌≡◌, ℕ, zero, suc, if◌then◌else◌, List, [], ◌++◌, Option, Some, None, Ok, Err, codes, refl}
use Rattle.std.specs.Char.{is_ascii_alphanumeric}
use Rattle.std.specs.List.{list_all}
use Rattle.query_lang.specs.declared.term.Term.{Term}
use Rattle.query_lang.specs.Meaning.{weight, score}
use Rattle.query_lang.specs.Tokens.{weight_from, parted, with_weight, term_by}
use Rattle.query_lang.specs.Grammar.{Query, Has, Lacks, Both, Either}
use Rattle.query_lang.specs.Machine.{read}

abbrev key : List ℕ → Option (List ℕ)
key bytes = if list_all is_ascii_alphanumeric bytes then Some bytes else None

abbrev with_key : Option (List ℕ × List ℕ) → Option Term
with_key None = None
with_key (Some parts) = with_weight (key parts.0) (weight_from 0 parts.1)

abbrev word : List ℕ → Option Term
word bytes = term_by (key bytes) (with_key (parted bytes))

abbrev weighing : ℕ → List ℕ → Query
weighing n text = Has (record { key = text; weight = n })

abbrev red : Query
red = weighing 1 (codes "red")

abbrev blue : Query
blue = weighing 1 (codes "blue")

abbrev v : Query
v = weighing 1 (codes "v")

abbrev many : ℕ → List ℕ → List ℕ
many zero text = []
many (suc n) text = text ++ many n text

pub refused :
    (read word (codes "red or") ≡ Err 6)
    × (read word (codes "red )") ≡ Err 4)
    × (read word (codes "e-mail") ≡ Err 0)
    × (read word (codes "red e-mail") ≡ Err 4)
    × (read word (codes "or") ≡ Err 0)
    × (read word (codes "( )") ≡ Err 2)
    × (read word (codes "(red blue") ≡ Err 9)
refused = (refl, refl, refl, refl, refl, refl, refl)

-- `not` binds tighter than `and`, and `and` tighter than `or`; both group to the left
pub grouped :
    (read word (codes "red not blue") ≡ Ok (Both red (Lacks blue)))
    × (read word (codes "red or blue and v") ≡ Ok (Either red (Both blue v)))
    × (read word (codes "red blue or v") ≡ Ok (Either (Both red blue) v))
    × (read word (codes "red or blue or v") ≡ Ok (Either (Either red blue) v))
    × (read word (codes "red blue v") ≡ Ok (Both (Both red blue) v))
    × (read word (codes "not red blue") ≡ Ok (Both (Lacks red) blue))
    × (read word (codes "not not red") ≡ Ok (Lacks (Lacks red)))
    × (read word (codes "(red or blue)v") ≡ Ok (Both (Either red blue) v))
grouped = (refl, refl, refl, refl, refl, refl, refl, refl)

-- 64 may be open at once, and the 65th is named
pub sixty_four : read word (many 64 (codes "(") ++ codes "v" ++ many 64 (codes ")")) ≡ Ok v
sixty_four = refl

pub sixty_five : read word (many 65 (codes "(") ++ codes "v" ++ many 65 (codes ")")) ≡ Err 64
sixty_five = refl

pub mixed_sixty_five : read word (many 32 (codes "not (") ++ codes "not v") ≡ Err 160
mixed_sixty_five = refl

-- what is closed is open no more
pub closed_again : read word (many 64 (codes "not ") ++ codes "v not v") ≡ read word (many 64 (codes "not ") ++ codes "v and not v")
closed_again = refl

-- weights, from 1 to 1,000, behind the last `^`
pub weights :
    (read word (codes "red^3 blue") ≡ Ok (Both (weighing 3 (codes "red")) blue))
    × (read word (codes "red or green^5") ≡ Ok (Either red (weighing 5 (codes "green"))))
    × (read word (codes "red^1000") ≡ Ok (weighing 1000 (codes "red")))
    × (read word (codes "red^007") ≡ Ok (weighing 7 (codes "red")))
    × (read word (codes "red^1001") ≡ Err 0)
    × (read word (codes "red^0") ≡ Err 0)
    × (read word (codes "red^") ≡ Err 0)
    × (read word (codes "red^2^3") ≡ Err 0)
weights = (refl, refl, refl, refl, refl, refl, refl, refl)

-- the greatest weight of the occurrences under an even number of `not` counts
pub weighed :
    (weight (Either (weighing 2 (codes "red")) (weighing 5 (codes "red"))) (codes "red") ≡ 5)
    × (weight (Both (weighing 2 (codes "red")) (Lacks (weighing 5 (codes "red")))) (codes "red") ≡ 2)
    × (weight (Lacks (weighing 5 (codes "red"))) (codes "red") ≡ 0)
    × (score (Either (weighing 2 (codes "red")) (weighing 5 (codes "red"))) (λ _. 2) ≡ 10)
weighed = (refl, refl, refl, refl)
