-- What a reader holds, what its answers say, and what a run of calls reads.
use Rattle.std.specs.Prelude.{◌≡◌, ℕ, ◌+◌, ◌-◌, ◌*◌, ◌<◌, ◌≤◌, ◌^◌, Bool, true, false, ◌==◌, nat_lt, if◌then◌else◌, List, [], ◌∷◌, ◌++◌, length, take, drop, Option, Some, None, Result, Ok, Err}
use Rattle.std.specs.List.{position_or_len}
use Rattle.base_commands.specs.declared.text.Text.TheVariants.{TooLong}
use Rattle.base_commands.specs.declared.command.Command.TheVariants.{Arrive}
use Rattle.script_read.specs.declared.part.Part.{Part}
use Rattle.script_read.specs.Parts.{told}
use Rattle.script_read.specs.declared.line.Meaning.{Meaning}
use Rattle.script_read.specs.declared.line.Meaning.TheVariants.{Skipped, Alone, Arrival, Faulty}
use Rattle.script_read.specs.declared.first.First.{First}
use Rattle.script_read.specs.declared.first.First.TheVariants.{Whole, Broken, More, End}
use Rattle.script_read.specs.declared.passing.Over.{Over}
use Rattle.script_read.specs.declared.error.ScriptError.{ScriptError}
use Rattle.script_read.specs.declared.error.ScriptError.TheVariants as errors
use Rattle.script_read.specs.Lines.{meaning}
use Rattle.script_read.specs.Items.{first, Items, Waits, without_cr, short, text_end, most_text, most_waiting}

-- The bytes at hand, how many came before the item that they belong to, whether the end of the input was told, and a text above the limit
-- that is being passed over: its line and the part of it that is gone belong to the item too. And how many bytes are kept in memory: those at
-- hand, and those in front of them that are of no more use.
pub record ReaderState : Type 0 where
  pub bytes : List ℕ
  pub passed : ℕ
  pub ended : Bool
  pub over : Option Over
  pub kept : ℕ

-- The most bytes that a reader keeps: those that may wait, and a block.
abbrev pub most_kept : ℕ
most_kept = most_waiting + 65536

-- A reader that has taken nothing.
abbrev pub fresh : ReaderState
fresh = record { bytes = []; passed = 0; ended = false; over = None; kept = 0 }

-- How many bytes of an item are gone.
abbrev pub gone : Option Over → ℕ
gone None = 0
gone (Some over) = over.line + over.gone

-- How many bytes a reader has taken.
abbrev pub taken : ReaderState → ℕ
taken held = held.passed + gone held.over + length held.bytes

-- These bytes are one line with its LF, which asks for such a text.
pub record AsksFor (over : Over) (line : List ℕ) : Type 0 where
  pub place : ℕ
  pub one_line : position_or_len (λ b. b == 10) line ≡ place
  pub takes : length line ≡ place + 1
  pub length_is : over.line ≡ length line
  pub short_line : length (without_cr (take place line)) ≤ 4096
  pub says : meaning (without_cr (take place line)) ≡ Arrival over.doc over.at over.size
  pub long : most_text < over.size
  pub partly : over.gone ≤ over.size

-- A line that says this asks for no text above the limit.
abbrev pub IsWithinText : Meaning → Type 0
IsWithinText Skipped = Unit {0}
IsWithinText (Alone item) = Unit {0}
IsWithinText (Arrival doc at size) = size ≤ most_text
IsWithinText Faulty = Unit {0}

-- The bytes at hand and those gone are these since the last item: a line, a part of its text, and what is at hand.
pub record StandsForLong (over : Over) (at_hand since : List ℕ) : Type 0 where
  pub line : List ℕ
  pub text : List ℕ
  pub asks : AsksFor over line
  pub are_gone : length text ≡ over.gone
  pub joined : since ≡ line ++ (text ++ at_hand)

abbrev pub StandsBy : Option Over → List ℕ → List ℕ → Type 0
StandsBy None at_hand since = at_hand ≡ since
StandsBy (Some over) at_hand since = StandsForLong over at_hand since

-- What a reader holds stands for these bytes since the last item.
abbrev pub StandsFor : ReaderState → List ℕ → Type 0
StandsFor held since = StandsBy held.over held.bytes since

-- The arrival of a text that is passed over.
abbrev pub passed_item : Over → Part
passed_item over = told (Arrive over.doc over.at (TooLong over.size))

-- What the bytes since the last item begin with, where such a text is passed over and these bytes are at hand.
abbrev pub long_piece : Bool → Over → List ℕ → First
long_piece ended over bytes =
    if nat_lt (over.gone + length bytes) over.size then short ended (over.line + over.gone + length bytes)
    else text_end ended (over.line + over.gone + length bytes) (over.line + over.size) (passed_item over)
    (drop (over.size - over.gone) bytes)

-- What the bytes since the last item begin with, by what is held.
abbrev pub found_by : Bool → Option Over → List ℕ → First
found_by ended None bytes = first ended bytes
found_by ended (Some over) bytes = long_piece ended over bytes

abbrev pub found : ReaderState → First
found held = found_by held.ended held.over held.bytes

-- Such a text has a number of bytes that a line may name, of which no more are gone, behind a line within the limit and its end; its document is
-- one that a line may name.
abbrev pub IsSmall : Option Over → Type 0
IsSmall None = Unit {0}
IsSmall (Some over) = (over.gone ≤ over.size) × (over.size < 2 ^ 40) × (over.line ≤ 4098) × (over.doc.0 < 2 ^ 32)

-- The item that an answer gives out, as a list.
abbrev pub given : Result (Option Part) ScriptError → List Part
given (Ok (Some item)) = item ∷ []
given (Ok None) = []
given (Err e) = []

-- What the bytes behind it begin with, so many of which were taken, where the answer is no item.
abbrev pub Finds : Result (Option Part) ScriptError → ℕ → ℕ → First → Type 0
Finds (Ok (Some item)) passed len found = Unit {0}
Finds (Ok None) passed len found = found ≡ End
Finds (Err (errors.Broken at)) passed len found = (n : ℕ) × (found ≡ Broken n) × (at ≡ passed + n)
Finds (Err errors.Budget) passed len found = (found ≡ More) × (passed + len ≡ 2 ^ 40)
Finds (Err errors.Failed) passed len found = (found ≡ More) × (passed + len < 2 ^ 40)
Finds (Err errors.Memory) passed len found = Unit {0}

-- What an answer says of the bytes since the last item, those pulled in the call among them, with so many before them: lines that are
-- skipped and the item that is given out, if one is, and then the rest, for which the reader stands from now on.
pub record Says (passed : ℕ) (bytes : List ℕ) (result : Result (Option Part) ScriptError) (new : ReaderState) : Type 0 where
  pub rest : List ℕ
  pub items : Items new.ended bytes (given result) rest
  pub stands : StandsFor new rest
  pub place : new.passed + length rest ≡ passed + length bytes
  pub finds : Finds result new.passed (length rest) (first new.ended rest)

-- Where an item, a fault or the end stood in the bytes since the last item, a call pulled nothing and learned nothing.
abbrev pub IsCalm : List ℕ → ReaderState → List ℕ → ReaderState → Type 0
IsCalm since old pulled new = ¬ (Waits old.ended since) → (pulled ≡ []) × (new.ended ≡ old.ended)

-- A pull with this left of what was left as the call began: what was given by then, behind the bytes since the last item, has no item, no
-- fault and no end in it.
abbrev pub IsAwaited : List ℕ → List ℕ → List ℕ → Type 0
IsAwaited since all left = (pulled : List ℕ) × (all ≡ pulled ++ left) × Waits false (since ++ pulled)

-- An item takes more bytes than are gone of it, and no more than are gone and at hand, and what is wrong stands within those.
abbrev pub IsWithin : ℕ → ℕ → First → Type 0
IsWithin least most (Whole p n) = (least < n) × (n ≤ most)
IsWithin least most (Broken n) = n ≤ most
IsWithin least most More = Unit {0}
IsWithin least most End = Unit {0}

-- How often a reader may still pull or skip a line, at most: a byte that is pulled may be let go, and the end is told once.
abbrev pub rounds : ReaderState → ℕ
rounds held = 2 * (2 ^ 40 - taken held) + length held.bytes + (if held.ended then 0 else 1)

-- Why a block may be missing.
abbrev pub IsMissing : ScriptError → Type 0
IsMissing errors.Failed = Unit {0}
IsMissing errors.Memory = Unit {0}
IsMissing errors.Budget = ⊥
IsMissing (errors.Broken at) = ⊥

-- Why a pull may fail.
abbrev pub IsPullError : ScriptError → Type 0
IsPullError errors.Failed = Unit {0}
IsPullError errors.Memory = Unit {0}
IsPullError errors.Budget = Unit {0}
IsPullError (errors.Broken at) = ⊥

-- These bytes, with this word on their end, may come behind those pulled so far: nothing once the end was told.
abbrev pub MayFollow : Bool → Bool → List ℕ → Type 0
MayFollow false ended more = Unit {0}
MayFollow true ended more = (ended ≡ true) × (more ≡ [])

-- A run of calls so far: whatever comes behind the bytes pulled, they are these items and then what is held.
pub record Reads (pulled : List ℕ) (items : List Part) (since : List ℕ) (held : ReaderState) : Type 0 where
  pub stands : StandsFor held since
  pub split : (ended : Bool) (more : List ℕ) → MayFollow held.ended ended more → Items ended (pulled ++ more) items (since ++ more)
