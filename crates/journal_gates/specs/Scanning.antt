-- What a load knows while it goes over the records.
use Rattle.std.specs.Prelude.{◌≡◌, ◌≢◌, ℕ, ◌<◌, List, ◌∷◌, ◌++◌, length}
use Rattle.journal_gates.specs.declared.head.Head.{Head}
use Rattle.journal_gates.specs.declared.gate.Gate.{Gate}
use Rattle.journal_gates.specs.declared.gate.Gate.TheVariants.{Closed, Open, CutShort}
use Rattle.journal_gates.specs.Records.{first_gate, open_gate, record_bytes, front, Fit}
use Rattle.journal_gates.specs.Refused.{IsCut}
use Rattle.journal_gates.specs.Heads.{heads_of}

-- what lies at a gate, from which these bytes are left: a closed gate; a record and the place of a next gate; or an open gate that is cut short
abbrev pub LiesAt : List ℕ → Gate → Type 0
LiesAt left Closed = (gate : ℕ) × ((rest : List ℕ) × (left ≡ gate ∷ rest) × (gate ≢ open_gate))
LiesAt left (Open count) =
    (body : List ℕ) × ((rest : List ℕ) × (left ≡ record_bytes body ++ rest) × (length body ≡ count) × (0 < length rest))
LiesAt left CutShort = (rest : List ℕ) × (left ≡ open_gate ∷ rest) × IsCut rest

-- the bytes before this gate are a header and whole records, and these are their heads
pub record IsScanned (bytes : List ℕ) (gate : ℕ) (heads : List Head) : Type 0 where
  pub bodies : List (List ℕ)
  pub rest : List ℕ
  pub fit : Fit bodies
  pub whole : bytes ≡ front bodies ++ rest
  pub gate_is : gate ≡ length (front bodies)
  pub heads_are : heads ≡ heads_of first_gate bodies
