-- What holds of verdicts and of what a check asks for.
use Rattle.std.specs.Prelude.{◌≡◌, ℕ, List, [], length, All}
use Rattle.journal_gates.specs.Records.{first_gate}
use Rattle.machine_model.specs.Areas.{Bytes}
use Rattle.base_types.specs.declared.text_place.TextPlace.{TextPlace}
use Rattle.lists_versions.specs.declared.change.Change.{Change}
use Rattle.journal_gates.specs.Spelled.{Spells}
use Rattle.pages_area.specs.Live.{AreLive}
use Rattle.model_archive.specs.Histories.{History}
use Rattle.model_archive.specs.Holding.{HoldsPlans}
use Rattle.model_archive.specs.Legal.{IsLegal, IsLoadable}
use Rattle.model_archive.specs.Plans.{live_plans, live_extents}
use Rattle.model_archive.specs.Stands.{Stands, bodies_of}
use Rattle.model_archive.specs.Verifying.{Verifies, sound_of}
use Rattle.model_archive.specs.declared.stored.StoredPlan.{StoredPlan}
use Rattle.archive_entries.specs.Places.{ArePlaced}
use Rattle.model_archive.specs.declared.verdict.Verdict.{Verdict}
use Rattle.model_archive.specs.declared.verdict.Verdict.TheVariants.{Sound}
use Rattle.archive_check.specs.Verdicts.{AreInOrder, IsVerdict}
use Rattle.archive_check.specs.Checked.{IsChecked}
use Rattle.archive_check.specs.declared.finding.Finding.{Finding}
use Rattle.archive_check.specs.declared.finding.Finding.TheVariants.{Told}
use Rattle.archive_check.specs.Digests.{HasDigests, IsFinding, IsExamined}

-- The changes of a history that loads come in the order that a check asks for.
abbrev pub LoadedChangesAreInOrder : Type 0
LoadedChangesAreInOrder = (history : History) (changes : List (Change TextPlace)) → IsLoadable history
    → ArePlaced first_gate history changes → AreInOrder changes

-- Of some plans there is one verdict at most.
abbrev pub OneVerdict : Type 0
OneVerdict = (journal : List ℕ) (changes : List (Change TextPlace)) (pages : List ℕ) (plans : List StoredPlan) (one other : Verdict)
    → IsVerdict journal changes pages plans one → IsVerdict journal changes pages plans other → one ≡ other

-- The verdict on an image that stands for a history is the history's.
abbrev pub WhatStandsIsVerified : Type 0
WhatStandsIsVerified = (history : History) (image : Bytes) (verdict : Verdict) → Stands history image → IsChecked history image verdict
    → Verifies history verdict

-- So where each plan is what its kind promises, all is sound.
abbrev pub WhatStandsIsSound : Type 0
WhatStandsIsSound = (history : History) (image : Bytes) (verdict : Verdict) → IsLegal history → Stands history image
    → IsChecked history image verdict → verdict ≡ sound_of history

-- Of a new archive all is sound, whatever an image holds, and nothing else is told.
abbrev pub ANewArchiveIsSound : Type 0
ANewArchiveIsSound = (image : Bytes)
    → IsChecked [] image (Sound 0 0) × ((verdict : Verdict) → IsChecked [] image verdict → verdict ≡ Sound 0 0)

-- ---- digests

-- Of some plans there is one finding at most.
abbrev pub OneFinding : Type 0
OneFinding = (journal : List ℕ) (changes : List (Change TextPlace)) (pages : List ℕ) (plans : List StoredPlan) (one other : Finding)
    → IsFinding journal changes pages plans one → IsFinding journal changes pages plans other → one ≡ other

-- An image that stands for a history in which each plan is what its kind promises has one finding, that all is sound.
abbrev pub WhatStandsIsFoundSound : Type 0
WhatStandsIsFoundSound = (history : History) (image : Bytes) (finding : Finding) → IsLegal history → Stands history image
    → IsExamined history image finding → finding ≡ Told (sound_of history)

-- Where the journal spells a history, its live extents lie inside Pages with no page of two, a check tells that all is sound, and all digests are
-- right, the pages hold the live plans' sublists. With a history that loads, the image stands for it.
abbrev pub SoundWithDigestsIsHeld : Type 0
SoundWithDigestsIsHeld = (history : History) (image : Bytes) (words segments : ℕ) → Spells image.journal (bodies_of history)
    → IsChecked history image (Sound words segments)
    → All (λ stored. HasDigests image.pages stored.plan) (live_plans history) → AreLive (live_extents history) (length image.pages)
    → HoldsPlans history image.pages

-- Pages that hold the live plans' sublists have their digests.
abbrev pub WhatIsHeldHasItsDigests : Type 0
WhatIsHeldHasItsDigests = (history : History) (pages : List ℕ) → HoldsPlans history pages
    → All (λ stored. HasDigests pages stored.plan) (live_plans history)
