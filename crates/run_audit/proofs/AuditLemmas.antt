-- How an audit ends, and what it leaves.
use Rattle.std.proofs.Common.{◌≡◌, ◌⊎◌, ℕ, ◌≤◌, List, [], Ok, Err, IsErrOf, refl, inl, inr, ap, sym, subst, ◌∙◌, arith}
use Rattle.std.proofs.lemmas.List.{append-nil}
use Rattle.machine_model.specs.Areas.{Bytes}
use Rattle.machine_model.specs.Calls.{OnlyReads}
use Rattle.machine_model.specs.Causes.{Rose}
use Rattle.machine_model.specs.Images.{MayLeave}
use Rattle.machine_model.specs.Moments.{LeavesOnly}
use Rattle.machine_model.specs.Pushes.{IsPrefix, OnlyShows}
use Rattle.machine_model.specs.States.{DiskState, Moment}
use Rattle.machine_model.proofs.MomentLemmas.{joined, left_now, goes_on_reads}
use Rattle.model_archive.specs.Histories.{History}
use Rattle.model_archive.specs.Stands.{Stands}
use Rattle.model_archive.specs.Verifying.{sound_of}
use Rattle.model_archive.specs.Holding.{HoldsPlans}
use Rattle.model_archive.specs.declared.verdict.Verdict.TheVariants as verdicts
use Rattle.model_archive.specs.Legal.{IsLegal}
use Rattle.model_archive.proofs.StandsLemmas.{spells_one_history}
use Rattle.archive_check.specs.declared.finding.Finding.{Finding}
use Rattle.archive_check.specs.declared.finding.Finding.TheVariants.{Told, BadDigest}
use Rattle.archive_check.specs.Digests.{Finds, IsExamined}
use Rattle.archive_check.specs.Verdicts.{with_texts}
use Rattle.archive_check.proofs.DigestLemmas.{finds_one}
use Rattle.archive_check.proofs.HeldLemmas.{found_sound, sound_is_held}
use Rattle.archive_entries.proofs.PlaceLemmas.{texts_are}
use Rattle.lists_versions.specs.declared.change.Change.{Change}
use Rattle.model_archive.specs.Plans.{live_plans}
use Rattle.run_audit.specs.Laws.{OneFindingOnAnImage, SoundImagesAreWhole}
use Rattle.archive_entries.specs.declared.error.LoadError.{LoadError}
use Rattle.archive_entries.specs.declared.error.LoadError.TheVariants as loads
use Rattle.run_audit.specs.declared.status.AuditStatus.{AuditStatus}
use Rattle.run_audit.specs.declared.status.AuditStatus.TheVariants.{Sound, Faulty, Usage, NotArchive, Disk, Sink, Memory}
use Rattle.run_audit.specs.Audits.{IsFindingOn}
use Rattle.run_audit.specs.Statuses.{EndsEarly, status_of_finding, status_of_load}

-- ---- statuses

-- a count that rose since a later moment rose since an earlier one
pub rose_earlier : (a b c : ℕ) → a ≤ b → Rose b c → Rose a c
rose_earlier a b c later rose = omega (arith, later, rose)

-- an audit whose archive isn't opened is refused at that place, or the disk failed, or there was no memory
pub load_refused : (error : LoadError) (at : ℕ) → ((place : ℕ) → error ≡ loads.NotArchive place → place ≡ at)
    → IsErrOf {T = Finding} (Err (status_of_load error)) (NotArchive at) ⊎ (IsErrOf {T = Finding} (Err (status_of_load error)) Disk ⊎ IsErrOf {T = Finding} (Err (status_of_load error)) Memory)
load_refused loads.Failed at same = inr (inl refl)
load_refused (loads.NotArchive place) at same = inl (ap (λ n. Err (NotArchive n)) (same place refl))
load_refused loads.Memory at same = inr (inr refl)

-- and so is one that ends with that
pub refused_is : (status : AuditStatus) (at : ℕ) → IsErrOf {T = Finding} (Err status) (NotArchive at) ⊎ (IsErrOf {T = Finding} (Err status) Disk ⊎ IsErrOf {T = Finding} (Err status) Memory)
    → (status ≡ NotArchive at) ⊎ ((status ≡ Disk) ⊎ (status ≡ Memory))
refused_is status at (inl is) = inl cc
refused_is status at (inr (inl is)) = inr (inl cc)
refused_is status at (inr (inr is)) = inr (inr cc)

-- where something is found, nothing was refused
pub not_refused : (finding : Finding) (at : ℕ) → IsErrOf {E = AuditStatus} (Ok finding) (NotArchive at) ⊎ (IsErrOf {E = AuditStatus} (Ok finding) Disk ⊎ IsErrOf {E = AuditStatus} (Ok finding) Memory) → ⊥
not_refused finding at (inl is) = absurd cc
not_refused finding at (inr (inl is)) = absurd cc
not_refused finding at (inr (inr is)) = absurd cc

-- an audit of an archive that found nothing, and whose disk didn't fail, had no memory
pub early_completes : (status : AuditStatus) → EndsEarly status → ((at : ℕ) → status ≡ NotArchive at → ⊥) → (status ≡ Disk → ⊥) → (status ≡ Sound) ⊎ ((status ≡ Faulty) ⊎ (status ≡ Memory))
early_completes Sound early archive disk = absurd early
early_completes Faulty early archive disk = absurd early
early_completes Usage early archive disk = absurd early
early_completes (NotArchive at) early archive disk = absurd (archive at refl)
early_completes Disk early archive disk = absurd (disk refl)
early_completes Sink early archive disk = absurd early
early_completes Memory early archive disk = inr (inr refl)

-- an audit that ended well ends as what it found tells
pub decided : (status told : AuditStatus) → (status ≡ told) ⊎ ((status ≡ Sink) ⊎ (status ≡ Memory)) → (status ≡ Sound) ⊎ (status ≡ Faulty) → status ≡ told
decided status told (inl is) which = is
decided status told (inr (inl is)) (inl sound) = absurd cc
decided status told (inr (inl is)) (inr faulty) = absurd cc
decided status told (inr (inr is)) (inl sound) = absurd cc
decided status told (inr (inr is)) (inr faulty) = absurd cc

-- ---- what is found

-- of what stands all is sound, where each plan is what its kind promises
pub stands_as_sound : (history : History) (image : Bytes) (finding : Finding) → IsLegal history → Stands history image → IsFindingOn image finding → status_of_finding finding ≡ Sound
stands_as_sound history image finding legal stands is =
    let one : is.loaded ≡ history = spells_one_history image.journal is.loaded history is.spelled is.loadable stands.spelled stands.loadable in
    let E : History → Type 0 = λ h. IsExamined h image finding in
    let sound : finding ≡ Told (sound_of history) = found_sound history image finding legal stands (subst E one is.examined) in
    ap status_of_finding sound

-- the history that an image spells is one, and its texts are those that stand there; so one thing is found
pub one_finding_on : OneFindingOnAnImage
one_finding_on image one other is also =
    let same : also.loaded ≡ is.loaded = spells_one_history image.journal also.loaded is.loaded also.spelled also.loadable is.spelled is.loadable in
    let E : History → Type 0 = λ h. IsExamined h image other in
    let there : IsExamined is.loaded image other = subst E same also.examined in
    let alike : with_texts image.journal there.0 ≡ with_texts image.journal is.examined.0
    = texts_are image.journal is.loaded there.0 is.spelled there.1 ∙ sym (texts_are image.journal is.loaded is.examined.0 is.spelled is.examined.1) in
    let F : List (Change (List ℕ)) → Type 0 = λ l. Finds other l image.pages (live_plans is.loaded) in
    finds_one (with_texts image.journal is.examined.0) image.pages (live_plans is.loaded) one other is.examined.2 (subst F alike there.2)

-- where all is found sound, the pages hold what the history needs
sound_held : (image : Bytes) (finding : Finding) (is : IsFindingOn image finding) → status_of_finding finding ≡ Sound → HoldsPlans is.loaded image.pages
sound_held image (Told (verdicts.Sound words segments)) is sound =
    let examined = is.examined in
    sound_is_held is.loaded image words segments is.spelled (examined.0, examined.1, examined.2.0) (examined.2.1 tt) is.live
sound_held image (Told (verdicts.Differs word segment place found wanted)) is sound = absurd cc
sound_held image (Told (verdicts.NotLeast word taken least)) is sound = absurd cc
sound_held image (Told (verdicts.BadText doc at)) is sound = absurd cc
sound_held image (BadDigest word segment) is sound = absurd cc

pub sound_whole : SoundImagesAreWhole
sound_whole image finding is sound = (is.loaded, record { spelled = is.spelled; loadable = is.loadable; held = sound_held image finding is sound })

-- so no audit ends with a fault that told that
pub not_faulty : (status told : AuditStatus) → told ≡ Sound → status ≡ told → status ≡ Faulty → ⊥
not_faulty status told sound is faulty = absurd cc

-- ---- the disk

-- an image that was allowed at the start, beside bytes that go on from those shown then
abbrev WasAllowed : DiskState → List ℕ → Bytes → List ℕ → Type 0
WasAllowed old shown image beside = MayLeave old.now image × IsPrefix shown beside

-- where nothing is done, each image was allowed
pub still_images : (d : DiskState) (shown : List ℕ) → d.now.beside ≡ shown → LeavesOnly d d (λ image beside. MayLeave d.now image × IsPrefix shown beside)
still_images d shown beside = left_now d (WasAllowed d shown) (λ image allowed. (allowed, ([], beside ∙ sym (append-nil shown))))

-- reads leave that
pub read_images : (old mid : DiskState) (shown : List ℕ) → old.now.beside ≡ shown → OnlyReads old mid → LeavesOnly old mid (λ image beside. MayLeave old.now image × IsPrefix shown beside)
read_images old mid shown beside same =
    let L : DiskState → Type 0 = λ d. LeavesOnly old d (WasAllowed old shown) in
    subst L (sym same) (still_images old shown beside)

-- and so do pushes behind them
pub shown_images : (old mid new : DiskState) (before between after : List ℕ) → old.now.beside ≡ before → between ≡ before → OnlyReads old mid → OnlyShows mid new between after
    → LeavesOnly old new (λ image beside. MayLeave old.now image × IsPrefix before beside)
shown_images old mid new before between after beside same reads shows =
    joined (WasAllowed old before) (goes_on_reads old mid reads) (read_images old mid before beside reads) shows.goes_on (λ image other left.
    let is = shows.since image other left in
    let M : Moment → Type 0 = λ m. MayLeave m image in
    let P : List ℕ → Type 0 = λ l. IsPrefix l other in
    (subst M (ap (λ (d : DiskState). d.now) reads) is.0, subst P same is.1))
