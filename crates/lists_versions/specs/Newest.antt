-- The latest change of each document, by a map.
use Rattle.std.specs.Prelude.{◌==◌, Option}
use Rattle.std.specs.HashMap.{get}
use Rattle.base_types.specs.declared.ids.DocId.{DocId}
use Rattle.base_types.specs.declared.text_place.TextPlace.{TextPlace}
use Rattle.lists_versions.specs.declared.change.Change.{Change}
use Rattle.lists_versions.specs.declared.newest.Newest.{Newest}

-- the change of a document that is its latest, if any
abbrev pub newest_of : Newest → DocId → Option (Change TextPlace)
newest_of newest doc = get (λ a b. a.0 == b.0) newest.by_document doc
