-- How a directory finds the changes of one document among those of all.
use Rattle.std.specs.Prelude.{◌≡◌, ℕ, ◌+◌, ◌≤◌, List, [], ◌∷◌, ◌++◌, length, take, slice_get, Option, Some, IsSome, IfSome, IsSomeAnd, MatchOption, ◌==◌, IsPermutation, count_by}
use Rattle.std.specs.List.Sorted.{IsNonDecreasingBy}
use Rattle.std.specs.Option.{option_map}
use Rattle.std.specs.HashMap.{HashMap, get, keys}
use Rattle.std.specs.declared.hash.FoldHasher.{FoldHasher}
use Rattle.std.specs.declared.hash.BuildHasherDefault.{BuildHasherDefault}
use Rattle.base_types.specs.declared.ids.DocId.{DocId}
use Rattle.base_types.specs.declared.text_place.TextPlace.{TextPlace}
use Rattle.lists_versions.specs.declared.change.Change.{Change}
use Rattle.lists_versions.specs.declared.last_life.LastLife.{LastLife}
use Rattle.lists_versions.specs.declared.link.Link.{Link}
use Rattle.lists_versions.specs.Changes.{changes_of, documents, held_at}
use Rattle.lists_versions.specs.LastLives.{IsLastLife}

-- a map from documents to their last lives
abbrev pub LastLives : Type 0
LastLives = HashMap DocId LastLife (BuildHasherDefault FoldHasher)

-- the place at which a document's latest change lies, if it has one
abbrev pub IsLatest : {A : Type 0} → DocId → List (Change A) → Option ℕ → Type 0
IsLatest doc changes place =
    MatchOption place (changes_of doc changes ≡ []) (λ i.
    IsSomeAnd (slice_get changes i) (λ c. (c.doc ≡ doc) × (changes_of doc changes ≡ changes_of doc (take i changes) ++ c ∷ [])))

-- a change's link leads to earlier changes of its document
pub record IsLinked (log : List (Change TextPlace)) (i : ℕ) (doc : DocId) (link : Link) : Type 0 where
  pub before : IsLatest doc (take i log) link.before
  pub back : link.jump + link.span ≤ i
  pub moves : IsSome link.before → 1 ≤ link.span
  pub same : IsSomeAnd (slice_get log link.jump) (λ c. c.doc ≡ doc)

-- the times of the log don't fall, and each of its places has a link
pub record AreLinked (log : List (Change TextPlace)) (links : List Link) : Type 0 where
  pub ascending : IsNonDecreasingBy (λ c. c.at.seconds) log
  pub as_many : length links ≡ length log
  pub linked : (i : ℕ) (c : Change TextPlace) (link : Link) → slice_get log i ≡ Some c → slice_get links i ≡ Some link
      → IsLinked log i c.doc link

-- the map leads to each document's latest change, says when it was alive last, and has each document once
pub record IsIndexed (log : List (Change TextPlace)) (links : List Link) (latest : LastLives) : Type 0 where
  pub way : AreLinked log links
  pub found : (doc : DocId) → IsLatest doc log (option_map (λ life. life.place) (get (λ a b. a.0 == b.0) latest doc))
  pub alive : (doc : DocId) → IfSome (get (λ a b. a.0 == b.0) latest doc) (IsLastLife doc log)
  pub each_once : IsPermutation (keys latest) (documents log)

-- a place of a document's changes such that none behind it counts at a time
pub record Leads (doc : DocId) (t : ℕ) (log : List (Change TextPlace)) (i : ℕ) : Type 0 where
  pub of : IsSomeAnd (slice_get log i) (λ c. c.doc ≡ doc)
  pub rest : held_at doc t log ≡ held_at doc t (take (i + 1) log)

-- how often a document is in a list
abbrev pub times : DocId → List DocId → ℕ
times doc docs = count_by (λ d. doc.0 == d.0) docs
