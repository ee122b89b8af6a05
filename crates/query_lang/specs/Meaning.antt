-- What a query finds in a text, by how often each word occurs there.
use Rattle.std.specs.Prelude.{ℕ, ◌*◌, max, ◌||◌, ◌&&◌, Bool, true, false, not, nat_lt, if◌then◌else◌, List, [], ◌∷◌, ◌++◌, map, sum_by}
use Rattle.std.specs.Str.{bytes_eq}
use Rattle.text_words.specs.Words.{distinct}
use Rattle.query_lang.specs.declared.term.Term.{Term}
use Rattle.query_lang.specs.Grammar.{Query, Has, Lacks, Both, Either}

-- whether a text matches in which each word is so frequent
abbrev pub matches : Query → (List ℕ → ℕ) → Bool
matches (Has term) frequency = nat_lt 0 (frequency term.key)
matches (Lacks q) frequency = not (matches q frequency)
matches (Both p q) frequency = matches p frequency && matches q frequency
matches (Either p q) frequency = matches p frequency || matches q frequency

-- the words of a query with their weights, each as it stands there
abbrev pub terms_of : Query → List Term
terms_of (Has term) = term ∷ []
terms_of (Lacks q) = terms_of q
terms_of (Both p q) = terms_of p ++ terms_of q
terms_of (Either p q) = terms_of p ++ terms_of q

-- their keys
abbrev pub keys_of : List Term → List (List ℕ)
keys_of terms = map (λ t. t.key) terms

-- the words of a query, each as often as it stands there
abbrev pub occurring : Query → List (List ℕ)
occurring q = keys_of (terms_of q)

-- the distinct words of a query, in the order of first occurrence
abbrev pub words_of : Query → List (List ℕ)
words_of q = distinct (occurring q)

-- the words that stand under an even number of `not`, each as often as it does; the first argument says that the number above is even
abbrev pub affirmed : Bool → Query → List Term
affirmed true (Has term) = term ∷ []
affirmed false (Has term) = []
affirmed even (Lacks q) = affirmed (not even) q
affirmed even (Both p q) = affirmed even p ++ affirmed even q
affirmed even (Either p q) = affirmed even p ++ affirmed even q

-- the greatest weight of a word among these; 0 where it isn't among them
abbrev pub greatest : List Term → List ℕ → ℕ
greatest [] word = 0
greatest (t ∷ terms) word = if bytes_eq word t.key then max t.weight (greatest terms word) else greatest terms word

-- the weight of a word: the greatest among its occurrences under an even number of `not`. A word that has none is negative, and has weight 0.
abbrev pub weight : Query → List ℕ → ℕ
weight q word = greatest (affirmed true q) word

-- the score of such a text: how often the distinct words occur, each by its weight, all in all
abbrev pub score : Query → (List ℕ → ℕ) → ℕ
score q frequency = sum_by (λ w. weight q w * frequency w) (words_of q)
