-- How lists are spelled in each layout.
use Rattle.std.specs.Prelude.{◌≡◌, ℕ, List}
use Rattle.base_types.specs.declared.posting.Posting.{Posting}
use Rattle.journal_entries.specs.declared.place.Layout.{Layout}
use Rattle.journal_entries.specs.declared.place.Layout.TheVariants.{Flat, Blocks}
use Rattle.lists_postings.specs.Lists.{IsList}
use Rattle.pages_codec.specs.Flat.{spelling}
use Rattle.pages_codec.specs.Blocks.{block_spelling}

-- the bytes of a list
abbrev pub spelling_in : Layout → List Posting → List ℕ
spelling_in Flat list = spelling list
spelling_in Blocks list = block_spelling list

-- the bytes spell the list
pub record Spells (layout : Layout) (bytes : List ℕ) (list : List Posting) : Type 0 where
  pub ordered : IsList list
  pub is : bytes ≡ spelling_in layout list

-- the bytes spell no list
abbrev pub SpellsNone : Layout → List ℕ → Type 0
SpellsNone layout bytes = (list : List Posting) → ¬ (Spells layout bytes list)
