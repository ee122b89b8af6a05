-- What the parts of a check give.
use Rattle.std.specs.Prelude.{◌≡◌, ℕ, ◌<◌, List, [], ◌∷◌, ◌++◌, length, take, drop, slice_index, get_or, map, All, Option, IfSome, MatchOption, IsUtf8}
use Rattle.std.specs.Option.{option_map}
use Rattle.base_types.specs.declared.text_place.TextPlace.{TextPlace}
use Rattle.base_types.specs.declared.posting.Posting.{Posting}
use Rattle.base_types.specs.declared.fraction.Fraction.{Fraction}
use Rattle.base_types.specs.declared.time.Time.{Time}
use Rattle.base_commands.specs.declared.command.Kind.TheVariants.{Guarantee}
use Rattle.lists_versions.specs.declared.change.Change.{Change}
use Rattle.lists_versions.specs.Changes.{mapped}
use Rattle.lists_index.specs.Indexes.{state_of, Indexes}
use Rattle.lists_index.specs.Loads.{Loaded, AreLoaded}
use Rattle.lists_index.specs.Words.{words_in}
use Rattle.journal_entries.specs.declared.place.Place.{Place}
use Rattle.journal_entries.specs.declared.plan.PlanEntry.{PlanEntry}
use Rattle.plans_partitions.specs.Partitions.{IsBest, space}
use Rattle.plans_kinds.specs.Plans.{IsFitFor, plan_space}
use Rattle.archive_entries.specs.Texts.{text_in, bare, nothing}
use Rattle.archive_check.specs.declared.segments.Wrong.{Wrong}
use Rattle.archive_check.specs.declared.texts.Texts.{Texts}
use Rattle.archive_check.specs.declared.texts.Texts.TheVariants.{Good, Bad}
use Rattle.model_archive.specs.declared.stored.StoredPlan.{StoredPlan}
use Rattle.model_archive.specs.declared.verdict.Verdict.{Verdict}
use Rattle.model_archive.specs.declared.verdict.Verdict.TheVariants.{Sound, Differs, NotLeast, BadText}
use Rattle.archive_check.specs.declared.digests.Digests.{Digests}
use Rattle.archive_check.specs.declared.digests.Digests.TheVariants.{Asked}
use Rattle.archive_check.specs.declared.verifying.Altered.{Altered}
use Rattle.archive_check.specs.declared.verifying.Checked.{Checked}
use Rattle.model_archive.specs.Orders.{AreByNumber}
use Rattle.model_archive.specs.Verifying.{IsLeastSpace}
use Rattle.archive_check.specs.Verdicts.{with_texts, IsText, IsFirstBad, SegmentDiffers, HasDifference, TakesMore, Says}
use Rattle.archive_check.specs.Digests.{HasDigest, HasDigests, IsAltered, IsFirstAltered, TellsSound}

-- ---- texts; on a disk that tells they are those that stand in the journal

-- a change's text was loaded behind others; it is UTF-8
pub record IsLoadedBehind (tells : Type 0) (journal : List ℕ) (texts : List (Change (List ℕ))) (change : Change TextPlace)
    (loader : Loaded) : Type 0 where
  pub text : Option (List ℕ)
  pub loads : AreLoaded loader (texts ++ record { doc = change.doc; at = change.at; held = text } ∷ [])
  pub utf8 : IfSome text IsUtf8
  pub some : option_map nothing text ≡ option_map nothing change.held
  pub is : tells → text ≡ option_map (text_in journal) change.held

-- the texts of these changes were loaded; they are UTF-8
pub record AreAllLoaded (tells : Type 0) (journal : List ℕ) (changes : List (Change TextPlace)) (loader : Loaded) : Type 0 where
  pub texts : List (Change (List ℕ))
  pub loads : AreLoaded loader texts
  pub alike : map bare texts ≡ map bare changes
  pub utf8 : All IsText texts
  pub are : tells → texts ≡ with_texts journal changes

-- the texts in front of this change are UTF-8, and its own isn't
pub record IsStopped (tells : Type 0) (journal : List ℕ) (changes : List (Change TextPlace)) (i : ℕ) : Type 0 where
  pub within : i < length changes
  pub utf8 : tells → All IsText (with_texts journal (take i changes))
  pub bad : tells → (change : Change TextPlace) → change ≡ get_or changes i change → ¬ (IsText (mapped (text_in journal) change))

-- all texts were read: they are UTF-8 and this is their index, or this is the first that isn't
abbrev pub AreRead : Type 0 → List ℕ → List (Change TextPlace) → Texts → Type 0
AreRead tells journal changes (Good index) =
    (texts : List (Change (List ℕ))) × Indexes (state_of index) texts × All IsText texts × (tells → texts ≡ with_texts journal changes)
AreRead tells journal changes (Bad version) = tells → IsFirstBad (with_texts journal changes) version.doc version.at

-- ---- plans

-- the bytes of all segments are as wanted, or those of this one are the first that aren't
abbrev pub IsFirstWrong : (found wanted : List (List ℕ)) → Option Wrong → Type 0
IsFirstWrong found wanted o = MatchOption o (found ≡ wanted)
    (λ (w : Wrong). SegmentDiffers found wanted w.segment w.spot.place w.spot.found w.spot.wanted)

-- a partition takes more than the least space of those that keep the factor, from its first cut to the horizon
pub record IsBeaten (list : List Posting) (factor : Fraction) (h : ℕ) (cuts : List ℕ) (taken least : ℕ) : Type 0 where
  pub taken_is : taken ≡ space list (slice_index cuts 0) (drop 1 cuts)
  pub least_is : IsBest list factor h (slice_index cuts 0) h least
  pub more : least < taken

-- a plan of a list that takes more space than it has to
pub record IsExcess (list : List Posting) (factor : Fraction) (cuts : List Time) (h taken least : ℕ) : Type 0 where
  pub fit : IsFitFor Guarantee list factor cuts h
  pub taken_is : taken ≡ plan_space list cuts h
  pub least_is : IsLeastSpace list factor cuts h least
  pub more : least < taken

-- the verdict tells a fault of the plan
abbrev pub IsFaultOf : List (Change (List ℕ)) → List ℕ → PlanEntry → Verdict → Type 0
IsFaultOf texts pages plan (Sound words segments) = ⊥
IsFaultOf texts pages plan (Differs word segment place found wanted) = HasDifference word segment place found wanted texts pages plan
IsFaultOf texts pages plan (NotLeast word taken least) = TakesMore word taken least texts pages plan
IsFaultOf texts pages plan (BadText doc at) = ⊥

-- the verdict tells that the plan of a list takes more than it has to
abbrev pub IsExcessOf : PlanEntry → List Posting → Verdict → Type 0
IsExcessOf plan list (Sound words segments) = ⊥
IsExcessOf plan list (Differs word segment place found wanted) = ⊥
IsExcessOf plan list (NotLeast word taken least) = (word ≡ plan.word) × (plan.kind ≡ Guarantee)
    × IsExcess list plan.fraction plan.cuts plan.horizon.seconds taken least
IsExcessOf plan list (BadText doc at) = ⊥

-- ---- digests

-- all places have the digests of their bytes, or this segment's is the first that hasn't
abbrev pub AreAltered : List ℕ → List Place → Option ℕ → Type 0
AreAltered pages places o = MatchOption o (All (HasDigest pages) places) (λ segment. IsAltered pages places segment)

-- all plans have the digests of their bytes, or of this word's plan this segment's is the first that is wrong
abbrev pub AreFirstAltered : List ℕ → List StoredPlan → Option Altered → Type 0
AreFirstAltered pages plans o = MatchOption o (All (λ s. HasDigests pages s.plan) plans)
    (λ (a : Altered). IsFirstAltered a.word a.segment pages plans)

-- what a check of plans in this order tells of digests, where it asks them: one is wrong only where all else is sound
abbrev pub DigestsTold : Checked → List ℕ → List StoredPlan → Type 0
DigestsTold checked pages plans = (TellsSound checked.verdict → AreFirstAltered pages plans checked.altered)
    × IfSome checked.altered (λ _. TellsSound checked.verdict)

-- what a check came to, with digests or without
pub record TellsAll (digests : Digests) (checked : Checked) (texts : List (Change (List ℕ))) (pages : List ℕ)
    (plans : List StoredPlan) : Type 0 where
  pub ordered : List StoredPlan
  pub by_number : AreByNumber (words_in texts) plans ordered
  pub says : Says checked.verdict texts pages ordered
  pub digests_told : digests ≡ Asked → DigestsTold checked pages ordered
