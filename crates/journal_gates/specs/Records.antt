-- How records are spelled: each is an open gate, the length of its body, and the body.
use Rattle.std.specs.Prelude.{ℕ, ◌<◌, ◌^◌, List, [], ◌∷◌, ◌++◌, length, All}
use Rattle.std.specs.List.{flat_map}
use Rattle.std.specs.Int.{w32, to_be_bytes}
use Rattle.journal_gates.specs.Header.{header}

-- the byte of a gate that is open; with every other byte it is closed
abbrev pub open_gate : ℕ
open_gate = 165

-- the place of the first gate: the header has so many bytes
abbrev pub first_gate : ℕ
first_gate = 16

-- a new journal has so many bytes: the header and a closed gate
abbrev pub new_bytes : ℕ
new_bytes = 17

-- a gate and the length behind it have so many bytes
abbrev pub gate_bytes : ℕ
gate_bytes = 5

-- the length of a body in four bytes, and the body
abbrev pub framed : List ℕ → List ℕ
framed body = to_be_bytes w32 (length body) ++ body

-- a record: its gate, open, and the framed body
abbrev pub record_bytes : List ℕ → List ℕ
record_bytes body = open_gate ∷ framed body

-- what stands behind the gate of the last record: the framed body, and the next gate, closed
abbrev pub behind_gate : List ℕ → List ℕ
behind_gate body = framed body ++ 0 ∷ []

-- the records of these bodies, in order
abbrev pub records : List (List ℕ) → List ℕ
records bodies = flat_map record_bytes bodies

-- all that stands before the first closed gate
abbrev pub front : List (List ℕ) → List ℕ
front bodies = header ++ records bodies

-- the length of each body fits the four bytes in which it is spelled
abbrev pub Fit : List (List ℕ) → Type 0
Fit bodies = All (λ body. length body < 2 ^ 32) bodies
