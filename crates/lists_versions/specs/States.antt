-- What a directory is seen as.
use Rattle.std.specs.Prelude.{ℕ, List}
use Rattle.base_types.specs.declared.text_place.TextPlace.{TextPlace}
use Rattle.lists_versions.specs.declared.change.Change.{Change}

-- the changes in their order, each with its text's place, and how many more take no memory
pub record DirectoryState : Type 0 where
  pub changes : List (Change TextPlace)
  pub room : ℕ
