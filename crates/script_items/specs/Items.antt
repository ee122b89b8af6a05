-- The items of a script: those that its parts make. The words are those of the parts (`Rattle.script_read.specs.Items`), one layer up.
use Rattle.std.specs.Prelude.{◌≡◌, ℕ, ◌+◌, Bool, true, List, [], length, Option, Some, None}
use Rattle.base_commands.specs.declared.command.Item.{Item}
use Rattle.script_read.specs.declared.part.Part.{Part}
use Rattle.script_read.specs.declared.first.First.{First}
use Rattle.script_read.specs.declared.first.First.TheVariants.{Whole, Broken, More, End}
use Rattle.script_read.specs.Items as parted
use Rattle.script_read.specs.Items.{first, IsNoPiece}
use Rattle.script_items.specs.Groups.{Begun, makes, AreItems}

-- The bytes are these items, with skipped lines among them, and then the rest.
pub record Items (ended : Bool) (bytes : List ℕ) (items : List Item) (rest : List ℕ) : Type 0 where
  pub parts : List Part
  pub in_turn : parted.Items ended bytes parts rest
  pub are : AreItems parts items

-- This is no line that is skipped.
abbrev pub IsNoSkip : First → Type 0
IsNoSkip (Whole None n) = ⊥
IsNoSkip (Whole (Some part) n) = Unit {0}
IsNoSkip (Broken n) = Unit {0}
IsNoSkip More = Unit {0}
IsNoSkip End = Unit {0}

-- What so many bytes begin with, behind so many of which stands what is found: within a batch their end is no end of a script.
abbrev pub found_behind : Option Begun → ℕ → ℕ → First → First
found_behind begun before len (Whole part n) = Whole part (before + n)
found_behind begun before len (Broken n) = Broken (before + n)
found_behind begun before len More = More
found_behind None before len End = End
found_behind (Some batch) before len End = Broken len

-- The bytes begin with no whole item and no line that is skipped: with parts of a batch, if one is under way, and a tail that begins with no whole part.
-- So they are broken, or wait for more, or are none.
pub record Begins (ended : Bool) (bytes : List ℕ) (found : First) : Type 0 where
  pub in_front : IsNoSkip (first ended bytes)
  pub parts : List Part
  pub tail : List ℕ
  pub in_turn : parted.Items ended bytes parts tail
  pub none_whole : (makes None parts).items ≡ []
  pub unfinished : IsNoPiece (first ended tail)
  pub before : ℕ
  pub place : before + length tail ≡ length bytes
  pub found_is : found ≡ found_behind (makes None parts).begun before (length bytes) (first ended tail)

abbrev pub HasNoItem : Bool → List ℕ → Type 0
HasNoItem ended bytes = (found : First) × Begins ended bytes found

-- The bytes are these items, and then a rest that begins with no whole item, not even a line that is skipped.
abbrev pub Splits : Bool → List ℕ → List Item → List ℕ → Type 0
Splits ended bytes items rest = Items ended bytes items rest × HasNoItem ended rest

-- Behind their items the bytes are broken, at this place: in a part, or where the input ends within a batch.
pub record IsBrokenAt (ended : Bool) (bytes : List ℕ) (at : ℕ) : Type 0 where
  pub items : List Item
  pub rest : List ℕ
  pub within : ℕ
  pub before : Items ended bytes items rest
  pub broken : Begins ended rest (Broken within)
  pub place : at + length rest ≡ length bytes + within

-- The bytes are items to their end.
abbrev pub IsScript : List ℕ → Type 0
IsScript bytes = (items : List Item) × Items true bytes items []

-- Behind lines that are skipped the bytes begin an item that isn't whole, and nothing is wrong so far.
abbrev pub Waits : Bool → List ℕ → Type 0
Waits ended bytes = (rest : List ℕ) × Items ended bytes [] rest × Begins ended rest More
