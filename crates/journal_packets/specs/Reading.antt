-- What a reader of packets holds, and what its answers say.
use Rattle.std.specs.Prelude.{◌≡◌, ℕ, ◌+◌, ◌-◌, ◌*◌, ◌<◌, ◌^◌, Bool, false, if◌then◌else◌, List, [], ◌++◌, length, Option, Some, None, Result, Ok, Err}
use Rattle.journal_packets.specs.declared.first.First.TheVariants.{Bad, More, End}
use Rattle.journal_packets.specs.declared.packet.Packet.{Packet}
use Rattle.journal_packets.specs.declared.error.PacketError.{PacketError}
use Rattle.journal_packets.specs.declared.error.PacketError.TheVariants as errors
use Rattle.journal_packets.specs.Packets.{first, packet_bytes, framed, IsFramed}

-- The bytes since the last packet, how many came before them, and whether the end of the input was told.
pub record PacketsState : Type 0 where
  pub bytes : List ℕ
  pub passed : ℕ
  pub ended : Bool

-- A reader that has taken nothing.
abbrev pub fresh : PacketsState
fresh = record { bytes = []; passed = 0; ended = false }

-- How many bytes a reader has taken.
abbrev pub taken : PacketsState → ℕ
taken held = held.passed + length held.bytes

-- The reader holds these bytes, with so many before them.
pub record Holds (bytes : List ℕ) (passed : ℕ) (new : PacketsState) : Type 0 where
  pub bytes_are : new.bytes ≡ bytes
  pub passed_is : new.passed ≡ passed

-- A packet was taken off the front of these bytes, with so many before them.
pub record Takes (bytes : List ℕ) (passed : ℕ) (packet : Packet) (new : PacketsState) : Type 0 where
  pub proper : IsFramed (framed packet)
  pub at_is : packet.at ≡ passed
  pub split : bytes ≡ packet_bytes packet.number packet.body.items ++ new.bytes
  pub passed_is : new.passed ≡ passed + length (packet_bytes packet.number packet.body.items)

-- What an answer says of the bytes since the last packet, those pulled in the call among them, with so many before them, and what is held then.
abbrev pub Says : List ℕ → ℕ → Result (Option Packet) PacketError → PacketsState → Type 0
Says bytes passed (Ok (Some packet)) new = Takes bytes passed packet new
Says bytes passed (Ok None) new = (first new.ended bytes ≡ End) × Holds bytes passed new
Says bytes passed (Err (errors.Bad at)) new = (first new.ended bytes ≡ Bad) × (at ≡ passed) × Holds bytes passed new
Says bytes passed (Err errors.Budget) new = (first new.ended bytes ≡ More) × (passed + length bytes ≡ 2 ^ 40) × Holds bytes passed new
Says bytes passed (Err errors.Failed) new = (first new.ended bytes ≡ More) × (passed + length bytes < 2 ^ 40) × Holds bytes passed new
Says bytes passed (Err errors.Memory) new = Holds bytes passed new

-- A pull with this left of what was left as the call began: what was given by then, behind the bytes since the last packet, is the front of a
-- packet, or nothing.
abbrev pub IsAwaited : List ℕ → List ℕ → List ℕ → Type 0
IsAwaited since all left = (pulled : List ℕ) × (all ≡ pulled ++ left) × (first false (since ++ pulled) ≡ More)

-- A call so far, in which no packet was whole: these bytes were pulled.
pub record Goes (Tells : Type 0) (before after : List ℕ) (old new : PacketsState) : Type 0 where
  pub pulled : List ℕ
  pub gave : Tells → before ≡ pulled ++ after
  pub bytes_are : new.bytes ≡ old.bytes ++ pulled
  pub passed_is : new.passed ≡ old.passed
  pub ended_is : (first old.ended old.bytes ≡ More → ⊥) → (pulled ≡ []) × (new.ended ≡ old.ended)

-- What the call says in the end: there are bytes that the source gave, and with them it answers.
abbrev pub Answers : Type 0 → List ℕ → List ℕ → PacketsState → PacketsState → Result (Option Packet) PacketError → Type 0
Answers Tells before after old new result = (pulled : List ℕ) × (Tells → before ≡ pulled ++ after)
    × Says (old.bytes ++ pulled) old.passed result new

-- How often a reader may still pull.
abbrev pub rounds : PacketsState → ℕ
rounds held = 2 * (2 ^ 40 - taken held) + (if held.ended then 0 else 1)

-- Why a block may be missing.
abbrev pub IsMissing : PacketError → Type 0
IsMissing errors.Failed = Unit {0}
IsMissing errors.Memory = Unit {0}
IsMissing errors.Budget = ⊥
IsMissing (errors.Bad at) = ⊥

-- Why a pull may fail.
abbrev pub IsPullError : PacketError → Type 0
IsPullError errors.Failed = Unit {0}
IsPullError errors.Memory = Unit {0}
IsPullError errors.Budget = Unit {0}
IsPullError (errors.Bad at) = ⊥
