-- The step of an archive that follows another one, over a packet, and the packets that end its run.
use Rattle.std.specs.Prelude.{◌≡◌, ℕ, ◌+◌, ◌-◌, ◌<◌, ◌≤◌, List, [], ◌∷◌, ◌++◌, length, slice_get, Option, Some, codes}
use Rattle.std.specs.Fmt.{decimal}
use Rattle.journal_entries.specs.Spelling.{spelling}
use Rattle.journal_entries.specs.declared.entry.Entry.{Entry}
use Rattle.journal_packets.specs.Packets.{Framed}
use Rattle.journal_packets.specs.Streams.{IsPacketOf}
use Rattle.journal_packets.specs.Cases.{DifferAt}
use Rattle.model_archive.specs.Histories.{History}
use Rattle.model_archive.specs.Stands.{bodies_of}
use Rattle.model_follow.specs.Taking.{MayBeTaken, SpellsNext}

-- what is told of a packet: its entry was there, or it was taken
pub data Note : Type 0 where
  Had : ℕ → Note
  Took : ℕ → Note

-- the line that tells it
abbrev pub note_text : Note → List ℕ
note_text (Had number) = codes "had " ++ decimal number ++ 10 ∷ []
note_text (Took number) = codes "took " ++ decimal number ++ 10 ∷ []

-- the last line: how many entries there are
abbrev pub length_text : ℕ → List ℕ
length_text count = codes "end " ++ decimal count ++ 10 ∷ []

-- The step over a packet, from a history: the packet of an entry that is there changes nothing; one of an entry that may be taken next
-- adds it. There is no step for any other packet. (The state is a history alone: nothing is asked of an archive that follows another one,
-- and what it takes are whole entries, so it never has a plan that is being written.)
abbrev pub Follows : History → Framed → Note → History → Type 0
Follows old p (Had number) new = (number ≡ p.number) × IsPacketOf (bodies_of old) p × (new ≡ old)
Follows old p (Took number) new = (number ≡ p.number) × (number ≡ length old + 1)
    × ((entry : Entry) × (p.body ≡ spelling entry) × MayBeTaken old entry × (new ≡ old ++ entry ∷ []))

-- ---- the packets for which there is no step

-- entries are missing in front of the packet's
abbrev pub IsBeyond : History → Framed → Type 0
IsBeyond history p = length history + 1 < p.number

-- the packet is one of an entry that is there, and has other bytes from this place on
abbrev pub DiffersAt : History → ℕ → Option ℕ → Option ℕ → Framed → Type 0
DiffersAt history place kept got p =
    (1 ≤ p.number) × ((body : List ℕ) × (slice_get (bodies_of history) (p.number - 1) ≡ Some body) × DifferAt place kept got body p.body)

-- the packet has the next number, and its bytes spell no entry that may be taken
abbrev pub CannotBeTaken : History → Framed → Type 0
CannotBeTaken history p = (p.number ≡ length history + 1) × (SpellsNext history p.body → ⊥)

-- the packets begin with one of which this holds
abbrev pub BeginWith : List Framed → (Framed → Type 0) → Type 0
BeginWith packets P = (p : Framed) × (others : List Framed) × (packets ≡ p ∷ others) × P p
