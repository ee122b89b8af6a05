-- How long the texts of a batch are.
use Rattle.std.specs.Prelude.{ℕ, ◌+◌, List, [], ◌∷◌, length}
use Rattle.base_commands.specs.declared.text.Text.{Text}
use Rattle.base_commands.specs.declared.text.Text.TheVariants as texts
use Rattle.base_commands.specs.declared.batch.BatchItem.{BatchItem}
use Rattle.base_commands.specs.declared.batch.BatchItem.TheVariants.{Arrive, Delete, Other}

-- how many bytes a text has
abbrev pub text_bytes : Text → ℕ
text_bytes (texts.Bytes text) = length text
text_bytes (texts.TooLong bytes) = bytes

-- how many bytes the text of an item has
abbrev pub item_bytes : BatchItem → ℕ
item_bytes (Arrive doc at text) = text_bytes text
item_bytes (Delete doc at) = 0
item_bytes Other = 0

-- how many bytes the texts of items have together
abbrev pub texts_bytes : List BatchItem → ℕ
texts_bytes [] = 0
texts_bytes (item ∷ items) = item_bytes item + texts_bytes items
