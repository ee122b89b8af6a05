-- Changes that hold something else are the same changes otherwise.
use Rattle.std.specs.Prelude.{◌≡◌, ℕ, ◌-◌, ◌==◌, ◌&&◌, nat_lt, nat_le, Bool, true, false, cond, List, [], ◌∷◌, map, filter, length, Option, Some, None, is_some, is_none, option_and_then, refl}
use Rattle.std.specs.Option.{option_map}
use Rattle.std.proofs.Common.{ap, ◌∙◌}
use Rattle.std.proofs.lemmas.List.{length-map}
use Rattle.std.proofs.lemmas.List.Folds.{fold-map}
use Rattle.std.proofs.lemmas.Option.{slice_get-map}
use Rattle.base_types.specs.declared.ids.DocId.{DocId}
use Rattle.base_types.specs.declared.time.Time.{Time}
use Rattle.lists_versions.specs.declared.change.Change.{Change}
use Rattle.lists_versions.specs.Changes.{mapped, changes_of, last_of, valid_at, held_at, latest, last_time, documents, put, alive}
use Rattle.base_types.specs.Limits.{limit_of}
use Rattle.base_types.specs.declared.which.Which.TheVariants.{Documents, Versions}
use Rattle.lists_versions.specs.declared.refusal.VersionRefusal.{VersionRefusal}
use Rattle.lists_versions.specs.declared.refusal.VersionRefusal.TheVariants.{TimeBack, SameTime, NoDocument, Full}
use Rattle.lists_versions.specs.Refusals.{arrive_refusal, delete_refusal, no_document, time_back, same_time, full_documents, full_versions}
use Rattle.lists_versions.specs.Tests.{when}

-- a choice under a function
pub cond_under : {X Y : Type 0} (g : X → Y) (b : Bool) (x y : X) → cond b (g x) (g y) ≡ g (cond b x y)
cond_under g true x y = refl
cond_under g false x y = refl

pub last_of-mapped : {X Y : Type 0} (g : X → Y) (xs : List X) → last_of (map g xs) ≡ option_map g (last_of xs)
last_of-mapped g xs = rw (length-map xs g) (slice_get-map g xs (length xs - 1))

module _ {A B : Type 0} (f : A → B) where
  pub changes_of-mapped : (doc : DocId) (changes : List (Change A)) → changes_of doc (map (mapped f) changes) ≡ map (mapped f) (changes_of doc changes)
  changes_of-mapped doc [] = refl
  changes_of-mapped doc (c ∷ changes) = rw (changes_of-mapped doc changes) (cond_under (map (mapped f)) (c.doc.0 == doc.0) (c ∷ changes_of doc changes) (changes_of doc changes))

  pub valid_at-mapped : (t : ℕ) (changes : List (Change A)) → valid_at t (map (mapped f) changes) ≡ option_map f (valid_at t changes)
  valid_at-mapped t [] = refl
  valid_at-mapped t (c ∷ []) = cond_under (option_map f) (nat_le c.at.seconds t) c.held None
  valid_at-mapped t (c ∷ d ∷ changes) = rw (valid_at-mapped t (d ∷ changes)) (cond_under (option_map f) (nat_le c.at.seconds t && nat_lt t d.at.seconds) c.held (valid_at t (d ∷ changes)))

  pub held_at-mapped : (doc : DocId) (t : ℕ) (changes : List (Change A)) → held_at doc t (map (mapped f) changes) ≡ option_map f (held_at doc t changes)
  held_at-mapped doc t changes = ap (valid_at t) (changes_of-mapped doc changes) ∙ valid_at-mapped t (changes_of doc changes)

  pub latest-mapped : (doc : DocId) (changes : List (Change A)) → latest doc (map (mapped f) changes) ≡ option_map (mapped f) (latest doc changes)
  latest-mapped doc changes = ap last_of (changes_of-mapped doc changes) ∙ last_of-mapped (mapped f) (changes_of doc changes)

  pub last_time-mapped : (changes : List (Change A)) → last_time (map (mapped f) changes) ≡ last_time changes
  last_time-mapped changes = ap (option_map (λ c. c.at)) (last_of-mapped (mapped f) changes) ∙ go (last_of changes)
    where
      go : (o : Option (Change A)) → option_map (λ c. c.at) (option_map (mapped f) o) ≡ option_map (λ c. c.at) o
      go None = refl
      go (Some c) = refl

  pub documents-mapped : (changes : List (Change A)) → documents (map (mapped f) changes) ≡ documents changes
  documents-mapped changes = fold-map (λ (found : List DocId) (c : Change B). put c.doc found) (mapped f) [] changes

  pub is_some-mapped : (o : Option A) → is_some (option_map f o) ≡ is_some o
  is_some-mapped None = refl
  is_some-mapped (Some x) = refl

  pub alive-mapped : (t : ℕ) (changes : List (Change A)) → alive t (map (mapped f) changes) ≡ alive t changes
  alive-mapped t changes = ap (filter (λ doc. is_some (held_at doc t (map (mapped f) changes)))) (documents-mapped changes) ∙ go (documents changes)
    where
      one : (doc : DocId) → is_some (held_at doc t (map (mapped f) changes)) ≡ is_some (held_at doc t changes)
      one doc = ap is_some (held_at-mapped doc t changes) ∙ is_some-mapped (held_at doc t changes)

      go : (docs : List DocId) → filter (λ doc. is_some (held_at doc t (map (mapped f) changes))) docs ≡ filter (λ doc. is_some (held_at doc t changes)) docs
      go [] = refl
      go (d ∷ docs) = rw (one d, go docs) refl

  time_back-mapped : (at : Time) (changes : List (Change A)) → time_back at (map (mapped f) changes) ≡ time_back at changes
  time_back-mapped at changes = ap (option_and_then (λ last. when (nat_lt at.seconds last.seconds) (TimeBack last))) (last_time-mapped changes)

  same_time-mapped : (doc : DocId) (at : Time) (changes : List (Change A)) → same_time doc at (map (mapped f) changes) ≡ same_time doc at changes
  same_time-mapped doc at changes = rw (latest-mapped doc changes) (go (latest doc changes))
    where
      go : (o : Option (Change A)) → option_and_then (λ c. when (c.at.seconds == at.seconds) SameTime) (option_map (mapped f) o) ≡ option_and_then (λ c. when (c.at.seconds == at.seconds) SameTime) o
      go None = refl
      go (Some c) = refl

  no_document-mapped : (doc : DocId) (changes : List (Change A)) → no_document doc (map (mapped f) changes) ≡ no_document doc changes
  no_document-mapped doc changes = ap (λ b. when b NoDocument) (ap (λ o. is_none (option_and_then (λ c. c.held) o)) (latest-mapped doc changes) ∙ go (latest doc changes))
    where
      held : (o : Option A) → is_none (option_map f o) ≡ is_none o
      held None = refl
      held (Some x) = refl

      go : (o : Option (Change A)) → is_none (option_and_then (λ c. c.held) (option_map (mapped f) o)) ≡ is_none (option_and_then (λ c. c.held) o)
      go None = refl
      go (Some c) = held c.held

  full_documents-mapped : (doc : DocId) (changes : List (Change A)) → full_documents doc (map (mapped f) changes) ≡ full_documents doc changes
  full_documents-mapped doc changes = rw (latest-mapped doc changes, documents-mapped changes) (go (latest doc changes))
    where
      cause : Bool → Option VersionRefusal
      cause b = when (b && nat_le (limit_of Documents) (length (documents changes))) (Full Documents (limit_of Documents))

      go : (o : Option (Change A)) → cause (is_none (option_map (mapped f) o)) ≡ cause (is_none o)
      go None = refl
      go (Some c) = refl

  full_versions-mapped : (changes : List (Change A)) → full_versions (map (mapped f) changes) ≡ full_versions changes
  full_versions-mapped changes = ap (λ n. when (nat_le (limit_of Versions) n) (Full Versions (limit_of Versions))) (length-map changes (mapped f))

  pub arrive_refusal-mapped : (doc : DocId) (at : Time) (changes : List (Change A)) → arrive_refusal doc at (map (mapped f) changes) ≡ arrive_refusal doc at changes
  arrive_refusal-mapped doc at changes = cc (time_back-mapped at changes, same_time-mapped doc at changes, full_documents-mapped doc changes, full_versions-mapped changes)

  pub delete_refusal-mapped : (doc : DocId) (at : Time) (changes : List (Change A)) → delete_refusal doc at (map (mapped f) changes) ≡ delete_refusal doc at changes
  delete_refusal-mapped doc at changes = cc (time_back-mapped at changes, no_document-mapped doc changes, same_time-mapped doc at changes, full_versions-mapped changes)
