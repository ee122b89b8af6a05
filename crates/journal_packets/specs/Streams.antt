-- Streams: packets one after another.
use Rattle.std.specs.Prelude.{◌≡◌, ◌⊎◌, ℕ, ◌+◌, ◌-◌, ◌<◌, ◌≤◌, ◌^◌, false, List, [], ◌∷◌, ◌++◌, length, drop, slice_get, All, Some}
use Rattle.journal_packets.specs.declared.first.First.TheVariants.{Bad}
use Rattle.journal_packets.specs.Packets.{Framed, IsFramed, first, most_body, packet_bytes}
use Rattle.journal_packets.specs.Reading.{PacketsState}

-- the bytes of packets, one after another
abbrev pub stream : List Framed → List ℕ
stream [] = []
stream (p ∷ packets) = packet_bytes p.number p.body ++ stream packets

-- the packets of these entries, the first of which has this number
abbrev pub numbered : ℕ → List (List ℕ) → List Framed
numbered n [] = []
numbered n (body ∷ bodies) = record { number = n; body = body } ∷ numbered (n + 1) bodies

-- The export from an entry on, by the spellings of all entries: the packets of that one and of those behind it.
abbrev pub export : ℕ → List (List ℕ) → List Framed
export from bodies = drop (from - 1) (numbered 1 bodies)

-- The packet is that of an entry, by the spellings of all entries.
pub record IsPacketOf (bodies : List (List ℕ)) (p : Framed) : Type 0 where
  pub proper : IsFramed p
  pub is : slice_get bodies (p.number - 1) ≡ Some p.body

-- Bytes are a stream of these entries where they are packets of them, in any order, with repeats and gaps.
abbrev pub IsStreamOf : List (List ℕ) → List ℕ → Type 0
IsStreamOf bodies bytes = (packets : List Framed) × (bytes ≡ stream packets) × All (IsPacketOf bodies) packets

-- A run of calls of a reader so far: the bytes pulled are these packets, and then what is held.
pub record Reads (pulled : List ℕ) (packets : List Framed) (held : PacketsState) : Type 0 where
  pub proper : All IsFramed packets
  pub split : pulled ≡ stream packets ++ held.bytes
  pub before : held.passed ≡ length (stream packets)

-- Bytes begin with packets in one way: of two readings one goes on from the other.
abbrev pub StreamsAreReadInOneWay : Type 0
StreamsAreReadInOneWay = (these those : List Framed) (rest more : List ℕ) → All IsFramed these → All IsFramed those
    → stream these ++ rest ≡ stream those ++ more → ((others : List Framed) × (those ≡ these ++ others) × (rest ≡ stream others ++ more))
    ⊎ ((others : List Framed) × (these ≡ those ++ others) × (more ≡ stream others ++ rest))

-- Bytes that begin a stream are never bad while more may come.
abbrev pub FrontsOfStreamsAreNotBad : Type 0
FrontsOfStreamsAreNotBad = (packets : List Framed) (front more : List ℕ) → All IsFramed packets → front ++ more ≡ stream packets
    → first false front ≡ Bad → ⊥

-- What is exported of entries, from any of them on, is a stream of them, where each has room in a packet and all have numbers.
abbrev pub ExportsAreStreams : Type 0
ExportsAreStreams = (from : ℕ) (bodies : List (List ℕ)) → length bodies < 2 ^ 64 → All (λ (body : List ℕ). length body ≤ most_body) bodies
    → IsStreamOf bodies (stream (export from bodies))
