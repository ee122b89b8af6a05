-- The pieces and the items of a script. Where pieces end rests on what lines say by four answers alone, so the definitions up to
-- `first_by` are for any function `say` that gives a line one of them.
use Rattle.std.specs.Prelude.{◌≡◌, ℕ, ◌+◌, ◌-◌, Bool, true, false, nat_lt, if◌then◌else◌, ◌==◌, ◌&&◌, List, [], ◌∷◌, length, take, drop, slice_index, Option, Some, None, filter_map}
use Rattle.std.specs.List.{position_or_len}
use Rattle.base_commands.specs.declared.text.Text.{Text}
use Rattle.base_commands.specs.declared.text.Text.TheVariants.{Bytes, TooLong}
use Rattle.base_commands.specs.declared.command.Command.TheVariants.{Arrive}
use Rattle.script_read.specs.declared.part.Part.{Part}
use Rattle.script_read.specs.Parts.{told}
use Rattle.script_read.specs.declared.line.Meaning.{Meaning}
use Rattle.script_read.specs.declared.line.Meaning.TheVariants.{Skipped, Alone, Arrival, Faulty}
use Rattle.script_read.specs.declared.first.First.{First}
use Rattle.script_read.specs.declared.first.First.TheVariants.{Whole, Broken, More, End}
use Rattle.script_read.specs.Lines.{meaning}

-- The most bytes of a line without its end, and of a text.
abbrev pub most_line : ℕ
most_line = 4096

abbrev pub most_text : ℕ
most_text = 4194304

-- The most bytes that may wait for an item to be whole: a line with CR and LF, a text, and a CR behind it.
abbrev pub most_waiting : ℕ
most_waiting = most_line + 2 + most_text + 1

-- A line without the one CR that may stand before its LF.
abbrev pub without_cr : List ℕ → List ℕ
without_cr line = if slice_index line (length line - 1) == 13 then take (length line - 1) line else line

-- The text of n bytes at the front of these; above the limit it is passed over.
abbrev pub text_at : ℕ → List ℕ → Text
text_at n bytes = if nat_lt most_text n then TooLong n else Bytes (take n bytes)

-- Where bytes are missing: more may come, or at the end of the input these are broken at their end.
abbrev pub short : Bool → ℕ → First
short false len = More
short true len = Broken len

-- Behind the text of an arrival, at this place of so many bytes, stands its line end: LF, or CR and LF.
abbrev pub text_end : Bool → ℕ → ℕ → Part → List ℕ → First
text_end ended len used item [] = short ended len
text_end ended len used item (b ∷ []) = if b == 10 then Whole (Some item) (used + 1) else (if b == 13 then short ended len else Broken used)
text_end ended len used item (b ∷ c ∷ bs) = if b == 10 then Whole (Some item) (used + 1) else
    (if (b == 13) && (c == 10) then Whole (Some item) (used + 2) else Broken used)

-- What a line begins that says this and takes so many of these bytes, its end among them.
abbrev pub piece_of : Bool → Meaning → ℕ → List ℕ → First
piece_of ended Skipped used bytes = Whole None used
piece_of ended (Alone item) used bytes = Whole (Some item) used
piece_of ended Faulty used bytes = Broken 0
piece_of ended (Arrival doc at n) used bytes =
    if nat_lt (length bytes) (used + n) then short ended (length bytes)
    else text_end ended (length bytes) (used + n) (told (Arrive doc at (text_at n (drop used bytes)))) (drop (used + n) bytes)

-- What the last line of the input is, of n bytes, where it has no LF: it is no arrival.
abbrev pub last_piece : Meaning → ℕ → First
last_piece Skipped n = Whole None n
last_piece (Alone item) n = Whole (Some item) n
last_piece other n = Broken 0

-- What bytes begin with in which no LF stands. A CR at their end may still go before an LF.
abbrev pub open_line : (List ℕ → Meaning) → Bool → List ℕ → First
open_line say false bytes = if nat_lt most_line (length (without_cr bytes)) then Broken 0 else More
open_line say true [] = End
open_line say true (b ∷ bs) = if nat_lt most_line (length (b ∷ bs)) then Broken 0 else last_piece (say (b ∷ bs)) (length (b ∷ bs))

-- What bytes begin with whose first LF stands behind this line, at n.
abbrev pub closed_line : (List ℕ → Meaning) → Bool → ℕ → List ℕ → List ℕ → First
closed_line say ended n line bytes = if nat_lt most_line (length line) then Broken 0 else piece_of ended (say line) (n + 1) bytes

-- What bytes begin with whose first LF stands at n, or that have none and are n.
abbrev pub from_line : (List ℕ → Meaning) → Bool → ℕ → List ℕ → First
from_line say ended n bytes = if nat_lt n (length bytes) then closed_line say ended n (without_cr (take n bytes)) bytes else open_line say
    ended bytes

-- What bytes begin with; the word says that no more will come.
abbrev pub first_by : (List ℕ → Meaning) → Bool → List ℕ → First
first_by say ended bytes = from_line say ended (position_or_len (λ b. b == 10) bytes) bytes

abbrev pub first : Bool → List ℕ → First
first ended bytes = first_by meaning ended bytes

-- The bytes are these pieces, one after another, and then the rest. A piece is an item, or a line that is skipped.
abbrev pub Pieces : Bool → List ℕ → List (Option Part) → List ℕ → Type 0
Pieces ended bytes [] rest = rest ≡ bytes
Pieces ended bytes (p ∷ pieces) rest = (n : ℕ) × (first ended bytes ≡ Whole p n) × Pieces ended (drop n bytes) pieces rest

-- The bytes are these items, with skipped lines among them, and then the rest.
pub record Items (ended : Bool) (bytes : List ℕ) (items : List Part) (rest : List ℕ) : Type 0 where
  pub pieces : List (Option Part)
  pub items_are : filter_map (λ p. p) pieces ≡ items
  pub in_turn : Pieces ended bytes pieces rest

-- This is no whole piece.
abbrev pub IsNoPiece : First → Type 0
IsNoPiece (Whole p n) = ⊥
IsNoPiece other = Unit {0}

-- The bytes are these items, and then a rest that begins with no whole piece, not even a line that is skipped.
abbrev pub Splits : Bool → List ℕ → List Part → List ℕ → Type 0
Splits ended bytes items rest = Items ended bytes items rest × IsNoPiece (first ended rest)

-- Behind lines that are skipped the bytes begin an item that isn't whole, and nothing is wrong so far.
abbrev pub Waits : Bool → List ℕ → Type 0
Waits ended bytes = (rest : List ℕ) × Items ended bytes [] rest × (first ended rest ≡ More)
