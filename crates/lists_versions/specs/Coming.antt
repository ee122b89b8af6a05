-- Changes that are to come all at once behind others.
use Rattle.std.specs.Prelude.{◌≡◌, ◌+◌, ◌≤◌, List, ◌++◌, length}
use Rattle.base_types.specs.declared.ids.DocId.{DocId}
use Rattle.base_types.specs.declared.text_place.TextPlace.{TextPlace}
use Rattle.lists_versions.specs.declared.change.Change.{Change}
use Rattle.lists_versions.specs.declared.coming.Coming.{Coming}
use Rattle.lists_versions.specs.Changes.{documents, latest}
use Rattle.lists_versions.specs.Newest.{newest_of}

-- the documents that come with these changes behind others are counted, and of each the latest change is known
pub record AreCounted (before : List (Change TextPlace)) (coming : Coming) : Type 0 where
  pub is : length (documents (before ++ coming.changes.items)) ≡ length (documents before) + coming.fresh
  pub few : coming.fresh ≤ length coming.changes.items
  pub newest_are : (doc : DocId) → newest_of coming.newest doc ≡ latest doc coming.changes.items
