-- What a check finds that asks digests too: those in the journal are held against the bytes that stand in Pages, after all else is right.
use Rattle.std.specs.Prelude.{◌≡◌, ℕ, List, ◌∷◌, ◌++◌, length, All}
use Rattle.journal_gates.specs.Records.{first_gate}
use Rattle.sha2.specs.Sha256.{sha256}
use Rattle.machine_model.specs.Areas.{Bytes}
use Rattle.base_types.specs.declared.text_place.TextPlace.{TextPlace}
use Rattle.pages_area.specs.Ranges.{bytes_in}
use Rattle.journal_entries.specs.declared.place.Place.{Place}
use Rattle.journal_entries.specs.declared.plan.PlanEntry.{PlanEntry}
use Rattle.lists_versions.specs.declared.change.Change.{Change}
use Rattle.lists_index.specs.Words.{words_in}
use Rattle.model_archive.specs.Histories.{History}
use Rattle.model_archive.specs.Plans.{live_plans}
use Rattle.model_archive.specs.declared.stored.StoredPlan.{StoredPlan}
use Rattle.model_archive.specs.declared.verdict.Verdict.{Verdict}
use Rattle.model_archive.specs.declared.verdict.Verdict.TheVariants.{Sound, Differs, NotLeast, BadText}
use Rattle.archive_entries.specs.Places.{ArePlaced}
use Rattle.archive_check.specs.declared.finding.Finding.{Finding}
use Rattle.archive_check.specs.declared.finding.Finding.TheVariants.{Told, BadDigest}
use Rattle.model_archive.specs.Orders.{AreByNumber}
use Rattle.archive_check.specs.Verdicts.{with_texts, Tells}

-- the digest of a place is that of the bytes that stand there
abbrev pub HasDigest : List ℕ → Place → Type 0
HasDigest pages place = place.digest ≡ sha256 (bytes_in place.extent pages)

-- so it is of each place of a plan
abbrev pub HasDigests : List ℕ → PlanEntry → Type 0
HasDigests pages plan = All (HasDigest pages) plan.places

-- of a plan's places, one for each segment, that of this segment is the first whose digest isn't that of its bytes
pub record IsAltered (pages : List ℕ) (places : List Place) (segment : ℕ) : Type 0 where
  pub front : List Place
  pub place : Place
  pub back : List Place
  pub places_are : places ≡ front ++ place ∷ back
  pub segment_is : segment ≡ length front
  pub right : All (HasDigest pages) front
  pub wrong : ¬ (HasDigest pages place)

-- of these plans the one of this word is the first with such a place, and this segment is its first
pub record IsFirstAltered (word : List ℕ) (segment : ℕ) (pages : List ℕ) (plans : List StoredPlan) : Type 0 where
  pub front : List StoredPlan
  pub stored : StoredPlan
  pub back : List StoredPlan
  pub plans_are : plans ≡ front ++ stored ∷ back
  pub right : All (λ s. HasDigests pages s.plan) front
  pub word_is : word ≡ stored.plan.word
  pub there : IsAltered pages stored.plan.places segment

-- the verdict is that all is sound
abbrev pub TellsSound : Verdict → Type 0
TellsSound (Sound words segments) = Unit {0}
TellsSound (Differs word segment place found wanted) = ⊥
TellsSound (NotLeast word taken least) = ⊥
TellsSound (BadText doc at) = ⊥

-- the verdict is that all is sound, and of the plans by the numbers of their words in the texts this digest is the first that is wrong
pub record HasBadDigest (word : List ℕ) (segment : ℕ) (texts : List (Change (List ℕ))) (pages : List ℕ)
    (plans : List StoredPlan) : Type 0 where
  pub words : ℕ
  pub segments : ℕ
  pub sound : Tells (Sound words segments) texts pages plans
  pub ordered : List StoredPlan
  pub by_number : AreByNumber (words_in texts) plans ordered
  pub first : IsFirstAltered word segment pages ordered

-- what is found by texts and pages: the verdict, where one that all is sound stands only with right digests; or the first digest that is wrong
abbrev pub Finds : Finding → List (Change (List ℕ)) → List ℕ → List StoredPlan → Type 0
Finds (Told verdict) texts pages plans = Tells verdict texts pages plans × (TellsSound verdict → All (λ s. HasDigests pages s.plan) plans)
Finds (BadDigest word segment) texts pages plans = HasBadDigest word segment texts pages plans

-- what is found of these plans, by the bytes of the journal and of Pages
abbrev pub IsFinding : (journal : List ℕ) → List (Change TextPlace) → (pages : List ℕ) → List StoredPlan → Finding → Type 0
IsFinding journal changes pages plans finding = Finds finding (with_texts journal changes) pages plans

-- what is found of a history's live plans by the bytes of an image: texts are read where the history's entries lie, and sublists where its plans say
abbrev pub IsExamined : History → Bytes → Finding → Type 0
IsExamined history image finding = (changes : List (Change TextPlace)) × ArePlaced first_gate history changes
    × IsFinding image.journal changes image.pages (live_plans history) finding
