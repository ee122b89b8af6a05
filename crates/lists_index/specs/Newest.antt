-- The weights of the documents' newest versions, by a map.
use Rattle.std.specs.Prelude.{ℕ, ◌==◌, List, [], Option, Some, None}
use Rattle.std.specs.HashMap.{HashMap, spare}
use Rattle.std.specs.Map.{lookup}
use Rattle.std.specs.declared.hash.FoldHasher.{FoldHasher}
use Rattle.std.specs.declared.hash.BuildHasherDefault.{BuildHasherDefault}
use Rattle.base_types.specs.declared.ids.DocId.{DocId}
use Rattle.lists_tails.specs.declared.weight.Weight.{Weight}
use Rattle.lists_index.specs.declared.newest.Newest.{Newest}

-- a map from documents to weights
abbrev pub ByDocument : Type 0
ByDocument = HashMap DocId (List Weight) (BuildHasherDefault FoldHasher)

-- the weights that are kept for a document, or none
abbrev pub kept : Option (List Weight) → List Weight
kept None = []
kept (Some weights) = weights

-- the weights of a document among those of documents
abbrev pub newest_of : List (DocId × List Weight) → ℕ → List Weight
newest_of newest d = kept (lookup (λ doc. d == doc.0) newest)

abbrev pub weights_in : ByDocument → ℕ → List Weight
weights_in map d = newest_of map.entries d

abbrev pub weights_of : Newest → ℕ → List Weight
weights_of newest d = weights_in newest.by_document d

-- how many more documents fit in without memory
abbrev pub room_of : Newest → ℕ
room_of newest = spare newest.by_document
