-- The items of a script by its parts: the line of a batch and the next parts, so many, are one item.
use Rattle.std.specs.Prelude.{◌≡◌, ℕ, nat_lt, nat_le, ◌-◌, if◌then◌else◌, List, [], ◌∷◌, ◌++◌, Option, Some, None}
use Rattle.base_commands.specs.Batches.{texts_bytes}
use Rattle.base_commands.specs.declared.batch.BatchItem.{BatchItem}
use Rattle.base_commands.specs.declared.batch.BatchItem.TheVariants as members
use Rattle.base_commands.specs.declared.batch.BatchItems.{BatchItems}
use Rattle.base_commands.specs.declared.batch.BatchItems.TheVariants.{Items, TooLong}
use Rattle.base_commands.specs.declared.command.Command.{Command}
use Rattle.base_commands.specs.declared.command.Command.TheVariants as commands
use Rattle.base_commands.specs.declared.command.Item.{Item}
use Rattle.base_commands.specs.declared.command.Item.TheVariants as items
use Rattle.script_read.specs.declared.part.Part.{Part}
use Rattle.script_read.specs.declared.part.Part.TheVariants as parts

-- what a command is as an item of a batch
abbrev pub member_by : Command → BatchItem
member_by (commands.Arrive doc at text) = members.Arrive doc at text
member_by (commands.Delete doc at) = members.Delete doc at
member_by command = members.Other

-- what a part is as an item of a batch: the line of a batch is one by itself
abbrev pub member : Part → BatchItem
member (parts.Item (items.Command command)) = member_by command
member (parts.Item items.Line) = members.Other
member (parts.Batch count) = members.Other

-- a batch of these items; where their texts are together above the limit, they aren't kept
abbrev pub batch_of : List BatchItem → BatchItems
batch_of batch = if nat_lt 16777216 (texts_bytes batch) then TooLong (texts_bytes batch) else Items batch

-- a batch under way: how many items are still to come, and those that came
pub record Begun : Type 0 where
  pub left : ℕ
  pub come : List BatchItem

-- what parts make: items, and the batch that is under way behind them
pub record Made : Type 0 where
  pub items : List Item
  pub begun : Option Begun

abbrev pub nothing_begun : Option Begun
nothing_begun = None

-- an item in front of what is made
abbrev pub with_item : Item → Made → Made
with_item item made = record { items = item ∷ made.items; begun = made.begun }

abbrev pub with_items : List Item → Made → Made
with_items items made = record { items = items ++ made.items; begun = made.begun }

-- what parts make behind a batch under way, if there is one
abbrev pub makes : Option Begun → List Part → Made
makes begun [] = record { items = []; begun = begun }
makes None (parts.Item item ∷ rest) = with_item item (makes None rest)
makes None (parts.Batch count ∷ rest) = makes (Some (record { left = count; come = [] })) rest
makes (Some batch) (part ∷ rest) =
    if nat_le batch.left 1
    then with_item (items.Command (commands.Batch (batch_of (batch.come ++ member part ∷ [])))) (makes None rest)
    else makes (Some (record { left = batch.left - 1; come = batch.come ++ member part ∷ [] })) rest

-- the parts are these items, with no batch under way behind them
abbrev pub AreItems : List Part → List Item → Type 0
AreItems parts items = makes None parts ≡ record { items = items; begun = None }
