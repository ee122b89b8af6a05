-- A code of queries, by which a proof tells them apart: each operator behind what it joins.
use Rattle.std.specs.Prelude.{◌≡◌, ℕ, Bool, true, false, List, [], ◌∷◌, ◌++◌, refl}
use Rattle.std.specs.Coded.{Coded, code_by, coded×, coded_list, coded_bool, coded_ℕ}
use Rattle.std.proofs.Common.{ap, ◌∙◌}
use Rattle.query_lang.specs.Grammar.{Query, Has, Lacks, Both, Either}

abbrev pub Letter : Type 0
Letter = Bool × (Bool × List ℕ)

abbrev pub letters : Query → List Letter
letters (Has term) = (true, (true, term.weight ∷ term.key)) ∷ []
letters (Lacks q) = letters q ++ (true, (false, [])) ∷ []
letters (Both p q) = letters p ++ (letters q ++ (false, (true, [])) ∷ [])
letters (Either p q) = letters p ++ (letters q ++ (false, (false, [])) ∷ [])

abbrev pub made_by : Letter → List Query → List Query
made_by (true, (true, [])) qs = qs
made_by (true, (true, weight ∷ key)) qs = Has (record { key = key; weight = weight }) ∷ qs
made_by (true, (false, key)) [] = []
made_by (true, (false, key)) (q ∷ qs) = Lacks q ∷ qs
made_by (false, (both, key)) [] = []
made_by (false, (both, key)) (q ∷ []) = q ∷ []
made_by (false, (true, key)) (q ∷ p ∷ qs) = Both p q ∷ qs
made_by (false, (false, key)) (q ∷ p ∷ qs) = Either p q ∷ qs

abbrev pub made : List Letter → List Query → List Query
made [] qs = qs
made (l ∷ ls) qs = made ls (made_by l qs)

abbrev pub last_made : List Query → Query
last_made [] = Has (record { key = []; weight = 0 })
last_made (q ∷ qs) = q

abbrev made-append : (a b : List Letter) (qs : List Query) → made (a ++ b) qs ≡ made b (made a qs)
made-append [] b qs = refl
made-append (l ∷ a) b qs = made-append a b (made_by l qs)

abbrev made-letters : (q : Query) (qs : List Query) → made (letters q) qs ≡ q ∷ qs
made-letters (Has term) qs = refl
made-letters (Lacks q) qs = made-append (letters q) _ qs ∙ ap (made_by (true, (false, []))) (made-letters q qs)
made-letters (Both p q) qs =
    made-append (letters p) _ qs ∙ ap (made (letters q ++ (false, (true, [])) ∷ [])) (made-letters p qs)
    ∙ made-append (letters q) _ _ ∙ ap (made_by (false, (true, []))) (made-letters q (p ∷ qs))
made-letters (Either p q) qs =
    made-append (letters p) _ qs ∙ ap (made (letters q ++ (false, (false, [])) ∷ [])) (made-letters p qs)
    ∙ made-append (letters q) _ _ ∙ ap (made_by (false, (false, []))) (made-letters q (p ∷ qs))

abbrev pub query_code : Coded Query
query_code = code_by (List Letter) (coded_list (coded× coded_bool (coded× coded_bool (coded_list coded_ℕ)))) letters
    (λ ls. last_made (made ls [])) (λ q. ap last_made (made-letters q []))
