-- Where the records of a journal lie.
use Rattle.std.specs.Prelude.{◌≡◌, ℕ, ◌+◌, ◌<◌, List, [], ◌∷◌, length, take, drop}
use Rattle.journal_gates.specs.declared.head.Head.{Head}
use Rattle.journal_gates.specs.Records.{gate_bytes}

-- the heads of these bodies, the first of which has its gate at this place
abbrev pub heads_of : ℕ → List (List ℕ) → List Head
heads_of gate [] = []
heads_of gate (body ∷ bodies) =
    record { gate = gate; body = gate + gate_bytes; bytes = length body } ∷ heads_of (gate + gate_bytes + length body) bodies

-- the record lies before this end, which has a closed gate before it
pub record LiesBefore (end : ℕ) (head : Head) : Type 0 where
  pub body : head.gate + gate_bytes ≡ head.body
  pub within : head.body + head.bytes < end

-- the first record has its gate here, each other one behind the body of the one before it, and behind the last is the closed gate before this end
abbrev pub AreInRow : ℕ → List Head → ℕ → Type 0
AreInRow gate [] end = gate + 1 ≡ end
AreInRow gate (head ∷ heads) end = (head.gate ≡ gate) × (head.body ≡ gate + gate_bytes) × AreInRow (head.body + head.bytes) heads end

-- in these bytes the heads lead to these bodies, one each
abbrev pub AreBodies : List ℕ → List Head → List (List ℕ) → Type 0
AreBodies bytes [] [] = Unit {0}
AreBodies bytes (head ∷ heads) (body ∷ bodies) = (take head.bytes (drop head.body bytes) ≡ body) × AreBodies bytes heads bodies
AreBodies bytes [] (body ∷ bodies) = ⊥
AreBodies bytes (head ∷ heads) [] = ⊥
