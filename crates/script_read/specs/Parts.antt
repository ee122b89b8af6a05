-- The parts of a script.
use Rattle.std.specs.Prelude.{◌<◌, ◌≤◌, ◌^◌}
use Rattle.base_commands.specs.Batches.{text_bytes}
use Rattle.base_commands.specs.Documents.{HasDocument}
use Rattle.base_commands.specs.declared.command.Command.{Command}
use Rattle.base_commands.specs.declared.command.Command.TheVariants.{Arrive}
use Rattle.base_commands.specs.declared.command.Item.{Item}
use Rattle.base_commands.specs.declared.command.Item.TheVariants as items
use Rattle.script_read.specs.declared.part.Part.{Part}
use Rattle.script_read.specs.declared.part.Part.TheVariants as parts

-- a command as a part
abbrev pub told : Command → Part
told c = parts.Item (items.Command c)

-- a line that is no command, as a part
abbrev pub no_command : Part
no_command = parts.Item items.Line

-- The text of an arrival has a number of bytes that a line may name.
abbrev pub HasText : Item → Type 0
HasText (items.Command (Arrive doc at text)) = text_bytes text < 2 ^ 40
HasText item = Unit {0}

-- What a part names is in range: a document and the length of a text, or the number of items of a batch.
abbrev pub IsPartInRange : Part → Type 0
IsPartInRange (parts.Item item) = HasDocument item × HasText item
IsPartInRange (parts.Batch count) = (1 ≤ count) × (count ≤ 1000)
