-- Small journals, by computation.
use Rattle.std.proofs.Common.{◌≡◌, ◌<◌, ◌^◌, [], ◌∷◌, ◌++◌, length, refl, inl, inr, arith}
use Rattle.std.proofs.lemmas.List.Elements.{All-cons}
use Rattle.journal_gates.specs.Header.{header}
use Rattle.journal_gates.specs.Records.{record_bytes}
use Rattle.journal_gates.specs.Spelled.{Spells}
use Rattle.journal_gates.specs.Refused.{IsNotJournal}

the_header : header ≡ 84 ∷ 73 ∷ 77 ∷ 69 ∷ 84 ∷ 82 ∷ 65 ∷ 86 ∷ 69 ∷ 76 ∷ 84 ∷ 69 ∷ 88 ∷ 84 ∷ 0 ∷ 1 ∷ []
unfolding header
the_header = refl

a_record : record_bytes (7 ∷ 8 ∷ []) ≡ 165 ∷ 0 ∷ 0 ∷ 0 ∷ 2 ∷ 7 ∷ 8 ∷ []
a_record = refl

-- whatever stands in it, a journal of three bytes is new
a_new_journal : Spells (165 ∷ 165 ∷ 165 ∷ []) []
a_new_journal = inl (omega arith, refl)

-- behind a closed gate any bytes may stand
one_record : Spells (header ++ 165 ∷ 0 ∷ 0 ∷ 0 ∷ 1 ∷ 7 ∷ 0 ∷ 165 ∷ []) ((7 ∷ []) ∷ [])
unfolding header
one_record = inr (record { gate = 0; rest = 165 ∷ []; shut = λ same. cc; fit = All-cons (λ b. length b < 2 ^ 32) (7 ∷ []) [] (omega arith) (λ k d inside. absurd (omega (arith, inside))); whole = refl })

-- an open gate whose next gate lies past the end
cut_short : IsNotJournal (header ++ 165 ∷ 0 ∷ 0 ∷ 0 ∷ 2 ∷ 7 ∷ 8 ∷ []) 16
unfolding header
cut_short = (omega arith, inr (record { bodies = []; rest = 0 ∷ 0 ∷ 0 ∷ 2 ∷ 7 ∷ 8 ∷ []; fit = λ k d inside. absurd (omega (arith, inside)); whole = refl; at_is = refl; cut = inr (omega arith) }))

-- version 2
another_version : IsNotJournal (84 ∷ 73 ∷ 77 ∷ 69 ∷ 84 ∷ 82 ∷ 65 ∷ 86 ∷ 69 ∷ 76 ∷ 84 ∷ 69 ∷ 88 ∷ 84 ∷ 0 ∷ 2 ∷ 0 ∷ 0 ∷ []) 15
unfolding header
another_version = (omega arith, inl (record { inside = omega arith; before = refl; wrong = λ same. cc }))
