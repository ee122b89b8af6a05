-- The documents that items name.
use Rattle.std.specs.Prelude.{◌<◌, ◌≤◌, ◌^◌, length, All}
use Rattle.base_commands.specs.declared.batch.BatchItem.{BatchItem}
use Rattle.base_commands.specs.declared.batch.BatchItem.TheVariants as members
use Rattle.base_commands.specs.declared.batch.BatchItems.{BatchItems}
use Rattle.base_commands.specs.declared.batch.BatchItems.TheVariants.{Items, TooLong}
use Rattle.base_commands.specs.declared.command.Command.TheVariants.{Arrive, Delete, Plan, Propose, Find, Between, Show, Certificate, Verify, Format, Batch, Begin, Top, Best, Approx, Rough, Share}
use Rattle.base_commands.specs.declared.command.Item.{Item}
use Rattle.base_commands.specs.declared.command.Item.TheVariants.{Command, Line}

-- The same of the documents of a batch, and that it has as many items as a batch may have.
abbrev pub MemberHasDocument : BatchItem → Type 0
MemberHasDocument (members.Arrive doc at text) = doc.0 < 2 ^ 32
MemberHasDocument (members.Delete doc at) = doc.0 < 2 ^ 32
MemberHasDocument members.Other = Unit {0}

abbrev pub HaveDocuments : BatchItems → Type 0
HaveDocuments (Items items) = (1 ≤ length items) × (length items ≤ 1000) × All MemberHasDocument items
HaveDocuments (TooLong bytes) = Unit {0}

-- The document that an item names, if it names one, is a number below 2^32.
abbrev pub HasDocument : Item → Type 0
HasDocument (Command (Arrive doc at text)) = doc.0 < 2 ^ 32
HasDocument (Command (Delete doc at)) = doc.0 < 2 ^ 32
HasDocument (Command (Plan word kind fraction)) = Unit {0}
HasDocument (Command (Propose word fraction)) = Unit {0}
HasDocument (Command (Find at expr)) = Unit {0}
HasDocument (Command (Between span expr)) = Unit {0}
HasDocument (Command (Show doc at)) = doc.0 < 2 ^ 32
HasDocument (Command (Certificate word)) = Unit {0}
HasDocument (Command Verify) = Unit {0}
HasDocument (Command Format) = Unit {0}
HasDocument (Command (Batch items)) = HaveDocuments items
HasDocument (Command (Begin word fraction)) = Unit {0}
HasDocument (Command (Top count at expr)) = Unit {0}
HasDocument (Command (Best count at expr)) = Unit {0}
HasDocument (Command (Approx word tolerance)) = Unit {0}
HasDocument (Command (Rough tolerance at expr)) = Unit {0}
HasDocument (Command (Share fraction words)) = Unit {0}
HasDocument Line = Unit {0}
