-- A record in memory.
use Rattle.std.specs.Prelude.{◌≡◌, ℕ, ◌+◌, ◌-◌, ◌<◌, ◌^◌, List, ◌∷◌, length, take, drop}
use Rattle.journal_gates.specs.Records.{gate_bytes, open_gate, behind_gate}

-- the body, between the gate with the four bytes of its length and the next gate
abbrev pub body_of : List ℕ → List ℕ
body_of bytes = take (length bytes - (gate_bytes + 1)) (drop gate_bytes bytes)

-- the bytes are a record and the next gate, and the length fits
pub record IsFrame (bytes : List ℕ) : Type 0 where
  pub framed : bytes ≡ open_gate ∷ behind_gate (body_of bytes)
  pub fits : length (body_of bytes) < 2 ^ 32
