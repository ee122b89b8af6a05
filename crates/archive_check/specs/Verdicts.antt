-- What a check tells of an archive: by the bytes that reads give, and where texts and sublists lie. No digest is asked.
use Rattle.std.specs.Prelude.{◌≡◌, ◌≢◌, ◌⊎◌, ℕ, ◌<◌, ◌≤◌, List, ◌∷◌, ◌++◌, length, take, map, slice_get, All, Contains, Option, IfSome, IsUtf8}
use Rattle.base_types.specs.declared.ids.DocId.{DocId}
use Rattle.base_types.specs.declared.time.Time.{Time}
use Rattle.base_types.specs.declared.text_place.TextPlace.{TextPlace}
use Rattle.base_types.specs.declared.posting.Posting.{Posting}
use Rattle.base_commands.specs.declared.command.Kind.TheVariants.{Guarantee}
use Rattle.lists_postings.specs.Lists.{EachNext}
use Rattle.lists_postings.specs.ListsOf.{IsListOf}
use Rattle.lists_versions.specs.declared.change.Change.{Change}
use Rattle.lists_versions.specs.Changes.{changes_of, mapped}
use Rattle.lists_index.specs.Words.{frequency_in, words_in}
use Rattle.plans_kinds.specs.Plans.{IsFitFor, IsLeastPlan, plan_space}
use Rattle.pages_area.specs.Ranges.{bytes_in}
use Rattle.pages_area.specs.Live.{IsInside}
use Rattle.journal_entries.specs.declared.plan.PlanEntry.{PlanEntry}
use Rattle.pages_sublists.specs.Segments.{seconds}
use Rattle.pages_sublists.specs.Preparing.{spellings}
use Rattle.model_archive.specs.Plans.{segments_of}
use Rattle.model_archive.specs.Verifying.{IsLeastSpace}
use Rattle.model_archive.specs.declared.stored.StoredPlan.{StoredPlan}
use Rattle.archive_entries.specs.Texts.{text_in}
use Rattle.model_archive.specs.declared.verdict.Verdict.{Verdict}
use Rattle.model_archive.specs.declared.verdict.Verdict.TheVariants.{Sound, Differs, NotLeast, BadText}
use Rattle.model_archive.specs.Orders.{AreByNumber}

-- ---- texts

-- the changes with the texts that stand at their places in the journal
abbrev pub with_texts : List ℕ → List (Change TextPlace) → List (Change (List ℕ))
with_texts journal changes = map (mapped (text_in journal)) changes

-- the change's text is UTF-8, if it has one
abbrev pub IsText : Change (List ℕ) → Type 0
IsText change = IfSome change.held IsUtf8

-- a change isn't behind another one in the order of (document, time)
abbrev pub IsUpTo : {A : Type 0} → Change A → Change A → Type 0
IsUpTo one other = (one.doc.0 < other.doc.0) ⊎ ((one.doc.0 ≡ other.doc.0) × (one.at.seconds ≤ other.at.seconds))

-- of the changes whose text isn't UTF-8 the first in that order is of this document, at this time
pub record IsFirstBad (texts : List (Change (List ℕ))) (doc : DocId) (at : Time) : Type 0 where
  pub change : Change (List ℕ)
  pub among : Contains texts change
  pub doc_is : doc ≡ change.doc
  pub at_is : at ≡ change.at
  pub bad : ¬ (IsText change)
  pub first : All (λ other. ¬ (IsText other) → IsUpTo change other) texts

-- ---- the list of a plan's word, and the bytes of its sublists

-- the list of the plan's word by these texts, up to the plan's horizon
abbrev pub IsPlanned : List (Change (List ℕ)) → PlanEntry → List Posting → Type 0
IsPlanned texts plan list = IsListOf (frequency_in texts plan.word) 0 plan.horizon.seconds list

-- the bytes that stand in the places of a plan's segments, in order
abbrev pub found_in : List ℕ → PlanEntry → List (List ℕ)
found_in pages plan = map (λ place. bytes_in place.extent pages) plan.places

-- the bytes that should stand there: the spellings of the segments' sublists
abbrev pub wanted_of : PlanEntry → List Posting → List (List ℕ)
wanted_of plan list = spellings plan.layout list (seconds plan.cuts) plan.horizon.seconds

-- two lists of bytes differ first at a place, where they have these bytes; a list has none past its end
pub record DifferAt (one other : List ℕ) (place : ℕ) (found wanted : Option ℕ) : Type 0 where
  pub same : take place one ≡ take place other
  pub found_is : found ≡ slice_get one place
  pub wanted_is : wanted ≡ slice_get other place
  pub differ : found ≢ wanted

-- of two rows of lists of bytes those in front of this segment are the same, and those of the segment differ first at this place
pub record SegmentDiffers (one other : List (List ℕ)) (segment place : ℕ) (found wanted : Option ℕ) : Type 0 where
  pub front : List (List ℕ)
  pub this : List ℕ
  pub that : List ℕ
  pub behind : List (List ℕ)
  pub after : List (List ℕ)
  pub one_is : one ≡ front ++ this ∷ behind
  pub other_is : other ≡ front ++ that ∷ after
  pub segment_is : segment ≡ length front
  pub differs : DifferAt this that place found wanted

-- ---- plans that have to be least

-- the plan keeps to a guarantee, and may be loaded for this list; so it has to be a least one
abbrev pub IsToBeLeast : PlanEntry → List Posting → Type 0
IsToBeLeast plan list = (plan.kind ≡ Guarantee) × IsFitFor Guarantee list plan.fraction plan.cuts plan.horizon.seconds

-- ---- plans

-- the places of a plan hold the sublists of its word's list, and it is a least one if it has to be
pub record IsSound (texts : List (Change (List ℕ))) (pages : List ℕ) (plan : PlanEntry) : Type 0 where
  pub list : List Posting
  pub planned : IsPlanned texts plan list
  pub held : found_in pages plan ≡ wanted_of plan list
  pub least : IsToBeLeast plan list → IsLeastPlan list plan.fraction plan.cuts plan.horizon.seconds

-- the bytes of a plan's sublist differ from what they should be
pub record HasDifference (word : List ℕ) (segment place : ℕ) (found wanted : Option ℕ) (texts : List (Change (List ℕ))) (pages : List ℕ)
    (plan : PlanEntry) : Type 0 where
  pub word_is : word ≡ plan.word
  pub list : List Posting
  pub planned : IsPlanned texts plan list
  pub differs : SegmentDiffers (found_in pages plan) (wanted_of plan list) segment place found wanted

-- the bytes are what they should be, but the plan takes more than it has to
pub record TakesMore (word : List ℕ) (taken least : ℕ) (texts : List (Change (List ℕ))) (pages : List ℕ) (plan : PlanEntry) : Type 0 where
  pub word_is : word ≡ plan.word
  pub list : List Posting
  pub planned : IsPlanned texts plan list
  pub held : found_in pages plan ≡ wanted_of plan list
  pub asked : IsToBeLeast plan list
  pub taken_is : taken ≡ plan_space list plan.cuts plan.horizon.seconds
  pub least_is : IsLeastSpace list plan.fraction plan.cuts plan.horizon.seconds least
  pub more : least < taken

-- ---- the verdict

-- the texts are UTF-8, the first plans are sound, and the next one has this fault
pub record FirstFault (fault : List (Change (List ℕ)) → List ℕ → PlanEntry → Type 0) (texts : List (Change (List ℕ))) (pages : List ℕ)
    (plans : List StoredPlan) : Type 0 where
  pub utf8 : All IsText texts
  pub front : List StoredPlan
  pub stored : StoredPlan
  pub back : List StoredPlan
  pub plans_are : plans ≡ front ++ stored ∷ back
  pub sound : All (λ s. IsSound texts pages s.plan) front
  pub there : fault texts pages stored.plan

-- the texts are UTF-8 if there are plans, all plans are sound, and so many are they and their segments
pub record AllSound (words segments : ℕ) (texts : List (Change (List ℕ))) (pages : List ℕ) (plans : List StoredPlan) : Type 0 where
  pub utf8 : 0 < length plans → All IsText texts
  pub sound : All (λ s. IsSound texts pages s.plan) plans
  pub words_are : words ≡ length plans
  pub segments_are : segments ≡ segments_of plans

-- what a verdict says of texts, pages and plans that are checked in this order
abbrev pub Says : Verdict → List (Change (List ℕ)) → List ℕ → List StoredPlan → Type 0
Says (Sound words segments) texts pages plans = AllSound words segments texts pages plans
Says (Differs word segment place found wanted) texts pages plans = FirstFault (HasDifference word segment place found wanted) texts pages
    plans
Says (NotLeast word taken least) texts pages plans = FirstFault (TakesMore word taken least) texts pages plans
Says (BadText doc at) texts pages plans = (0 < length plans) × IsFirstBad texts doc at

-- what a verdict says of them where the plans are checked by the numbers that their words have in the texts
abbrev pub Tells : Verdict → List (Change (List ℕ)) → List ℕ → List StoredPlan → Type 0
Tells verdict texts pages plans = (ordered : List StoredPlan) × AreByNumber (words_in texts) plans ordered
    × Says verdict texts pages ordered

-- the verdict is that of these plans, by the bytes of the journal and of Pages
abbrev pub IsVerdict : (journal : List ℕ) → List (Change TextPlace) → (pages : List ℕ) → List StoredPlan → Verdict → Type 0
IsVerdict journal changes pages plans verdict = Tells verdict (with_texts journal changes) pages plans

-- ---- what a check asks for

-- each change comes later than the earlier ones of its document
abbrev pub AreInOrder : {A : Type 0} → List (Change A) → Type 0
AreInOrder changes = (doc : DocId) → EachNext (λ c d. c.at.seconds < d.at.seconds) (changes_of doc changes)

-- each segment of a plan has its place, and all places lie in so many bytes
pub record LiesInside (reach : ℕ) (plan : PlanEntry) : Type 0 where
  pub as_many : length plan.places ≡ length plan.cuts
  pub inside : All (λ place. IsInside reach place.extent) plan.places
