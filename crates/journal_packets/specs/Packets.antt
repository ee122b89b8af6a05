-- Packets, and what bytes begin with.
use Rattle.std.specs.Prelude.{◌≡◌, ℕ, ◌+◌, ◌<◌, ◌≤◌, ◌^◌, Bool, true, false, nat_lt, if◌then◌else◌, ◌==◌, List, [], ◌∷◌, ◌++◌, length, take, drop}
use Rattle.std.specs.Int.{w32, w64, to_be_bytes, from_be_bytes}
use Rattle.journal_packets.specs.declared.first.First.{First}
use Rattle.journal_packets.specs.declared.first.First.TheVariants.{Whole, Bad, More, End}
use Rattle.journal_packets.specs.declared.packet.Packet.{Packet}

-- the number of an entry, and its bytes
pub record Framed : Type 0 where
  pub number : ℕ
  pub body : List ℕ

-- the most bytes of a body
abbrev pub most_body : ℕ
most_body = 67108864

-- there are entries of this number, and a packet has room for the bytes
pub record IsFramed (p : Framed) : Type 0 where
  pub counted : 1 ≤ p.number
  pub numbered : p.number < 2 ^ 64
  pub short : length p.body ≤ most_body

-- what a packet has, wherever it stood
abbrev pub framed : Packet → Framed
framed p = record { number = p.number; body = p.body.items }

-- the bytes of a packet: the number, the length of the body, and the body
abbrev pub packet_bytes : ℕ → List ℕ → List ℕ
packet_bytes number body = to_be_bytes w64 number ++ (to_be_bytes w32 (length body) ++ body)

-- Where bytes are missing: more may come, or at the end of the input this is no packet.
abbrev pub short : Bool → First
short false = More
short true = Bad

-- What bytes begin with in which not even a number stands.
abbrev pub few : Bool → List ℕ → First
few ended (b ∷ bytes) = short ended
few true [] = End
few false [] = More

-- What begins with this number and this length, behind which these bytes stand.
abbrev pub with_size : Bool → ℕ → ℕ → List ℕ → First
with_size ended number size behind =
    if nat_lt most_body size then Bad
    else if nat_lt (length behind) size then short ended
    else Whole number size

-- What begins with this number, and then these bytes.
abbrev pub with_number : Bool → ℕ → List ℕ → First
with_number ended number bytes =
    if number == 0 then Bad
    else if nat_lt (length bytes) 4 then short ended
    else with_size ended number (from_be_bytes w32 (take 4 bytes)) (drop 4 bytes)

-- What bytes begin with; the word says that no more will come. A number, and a length, is looked at once all of its bytes are there.
abbrev pub first : Bool → List ℕ → First
first ended bytes =
    if nat_lt (length bytes) 8 then few ended bytes
    else with_number ended (from_be_bytes w64 (take 8 bytes)) (drop 8 bytes)

-- Where bytes begin with a packet, they are its bytes, and then the rest.
abbrev pub BeginsWith : List ℕ → First → Type 0
BeginsWith bytes (Whole number size) = (12 + size ≤ length bytes) × (size ≤ most_body) × (1 ≤ number) × (number < 2 ^ 64)
    × (bytes ≡ packet_bytes number (take size (drop 12 bytes)) ++ drop (12 + size) bytes)
BeginsWith bytes Bad = Unit {0}
BeginsWith bytes More = Unit {0}
BeginsWith bytes End = Unit {0}
