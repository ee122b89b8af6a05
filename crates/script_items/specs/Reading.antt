-- What a reader of items holds, what its answers say, and what a run of calls reads. The words are those of the reader of parts
-- (`Rattle.script_read.specs.Reading`), one layer up.
use Rattle.std.specs.Prelude.{◌≡◌, ℕ, ◌+◌, ◌<◌, ◌^◌, Bool, true, false, List, [], ◌∷◌, ◌++◌, length, Option, Some, None, Result, Ok, Err}
use Rattle.base_commands.specs.declared.command.Item.{Item}
use Rattle.script_read.specs.declared.part.Part.{Part}
use Rattle.script_read.specs.declared.first.First.TheVariants.{Broken, More, End}
use Rattle.script_read.specs.declared.error.ScriptError.{ScriptError}
use Rattle.script_read.specs.declared.error.ScriptError.TheVariants as errors
use Rattle.script_read.specs.Reading as parted
use Rattle.script_read.specs.Reading.{MayFollow}
use Rattle.script_items.specs.Groups.{makes}
use Rattle.script_items.specs.Items.{Items, Begins, Splits, IsBrokenAt, Waits}
use Rattle.script_items.specs.Putting.{Holds}
use Rattle.script_items.specs.declared.gathering.Gathering.{Gathering}

-- What the reader of parts holds, and what is kept of the batch that is under way.
pub record ReaderState : Type 0 where
  pub parts : parted.ReaderState
  pub batch : Option Gathering

-- A reader that has taken nothing.
abbrev pub fresh : ReaderState
fresh = record { parts = parted.fresh; batch = None }

-- How many bytes a reader has taken.
abbrev pub taken : ReaderState → ℕ
taken held = parted.taken held.parts

-- What a reader holds stands for these bytes since the last item: parts of a batch, if one is under way, and then what the reader of parts holds.
pub record StandsFor (held : ReaderState) (since : List ℕ) : Type 0 where
  pub parts : List Part
  pub tail : List ℕ
  pub reads : parted.Reads since parts tail held.parts
  pub none_whole : (makes None parts).items ≡ []
  pub holds : Holds held.batch (makes None parts).begun

-- The item that an answer gives out, as a list.
abbrev pub given : Result (Option Item) ScriptError → List Item
given (Ok (Some item)) = item ∷ []
given (Ok None) = []
given (Err e) = []

-- What the rest behind it begins with, at the end of so many bytes that were taken, where the answer is no item.
abbrev pub Finds : Result (Option Item) ScriptError → Bool → ℕ → List ℕ → Type 0
Finds (Ok (Some item)) ended total rest = Unit {0}
Finds (Ok None) ended total rest = Begins ended rest End
Finds (Err (errors.Broken at)) ended total rest = (n : ℕ) × Begins ended rest (Broken n) × (at + length rest ≡ total + n)
Finds (Err errors.Budget) ended total rest = Begins ended rest More × (total ≡ 2 ^ 40)
Finds (Err errors.Failed) ended total rest = Begins ended rest More × (total < 2 ^ 40)
Finds (Err errors.Memory) ended total rest = Unit {0}

-- What the end of the input is answered, at the end of so many bytes: within a batch the script is broken.
abbrev pub end_of : ℕ → Option Gathering → Result (Option Item) ScriptError
end_of total None = Ok None
end_of total (Some gathering) = Err (errors.Broken total)

-- What an answer says of the bytes since the last item and those pulled in the call: lines that are skipped and the item that is given out, if one
-- is, and then the rest, for which the reader stands from now on.
pub record Says (old : ReaderState) (since pulled : List ℕ) (result : Result (Option Item) ScriptError) (new : ReaderState) : Type 0 where
  pub rest : List ℕ
  pub items : Items new.parts.ended (since ++ pulled) (given result) rest
  pub stands : StandsFor new rest
  pub place : taken new ≡ taken old + length pulled
  pub finds : Finds result new.parts.ended (taken new) rest

-- Where an item, a fault or the end stood in the bytes since the last item, a call pulled nothing and learned nothing.
abbrev pub IsCalm : List ℕ → ReaderState → List ℕ → ReaderState → Type 0
IsCalm since old pulled new = ¬ (Waits old.parts.ended since) → (pulled ≡ []) × (new.parts.ended ≡ old.parts.ended)

-- A pull with this left of what was left as the call began: what was given by then, behind the bytes since the last item, has no item, no
-- fault and no end in it.
abbrev pub IsAwaited : List ℕ → List ℕ → List ℕ → Type 0
IsAwaited since all left = (pulled : List ℕ) × (all ≡ pulled ++ left) × Waits false (since ++ pulled)

-- A run of calls so far: whatever comes behind the bytes pulled, they are these items and then what is held.
pub record Reads (pulled : List ℕ) (items : List Item) (since : List ℕ) (held : ReaderState) : Type 0 where
  pub stands : StandsFor held since
  pub split : (ended : Bool) (more : List ℕ) → MayFollow held.parts.ended ended more → Items ended (pulled ++ more) items (since ++ more)
  pub before : taken held ≡ length pulled

-- What the last answer of a run says of all bytes pulled and of the items given out.
abbrev pub EndsWith : Result (Option Item) ScriptError → Bool → List ℕ → List Item → List ℕ → Type 0
EndsWith (Ok (Some item)) ended bytes items rest = Unit {0}
EndsWith (Ok None) ended bytes items rest = (ended ≡ true) × Items true bytes items []
EndsWith (Err (errors.Broken at)) ended bytes items rest = Splits ended bytes items rest × IsBrokenAt ended bytes at
EndsWith (Err errors.Budget) ended bytes items rest = Splits ended bytes items rest × Begins ended rest More × (length bytes ≡ 2 ^ 40)
EndsWith (Err errors.Failed) ended bytes items rest = Splits ended bytes items rest × Begins ended rest More
EndsWith (Err errors.Memory) ended bytes items rest = Items ended bytes items rest
