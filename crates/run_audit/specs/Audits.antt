-- What an audit finds, shows and leaves.
use Rattle.std.specs.Prelude.{◌≡◌, ℕ, ◌+◌, ◌<◌, List, ◌++◌, length}
use Rattle.machine_model.specs.Areas.{Bytes}
use Rattle.machine_model.specs.States.{DiskState}
use Rattle.machine_model.specs.Pushes.{IsPrefix}
use Rattle.journal_gates.specs.Spelled.{Spells}
use Rattle.pages_area.specs.Live.{AreLive}
use Rattle.model_archive.specs.Histories.{History}
use Rattle.model_archive.specs.Legal.{IsLoadable}
use Rattle.model_archive.specs.Plans.{live_extents}
use Rattle.model_archive.specs.Stands.{Stands, bodies_of}
use Rattle.model_archive.specs.Steps.{Verified}
use Rattle.model_archive.specs.Replies.{reply_text}
use Rattle.archive_check.specs.declared.finding.Finding.{Finding}
use Rattle.archive_check.specs.declared.finding.Finding.TheVariants.{Told, BadDigest}
use Rattle.archive_check.specs.Digests.{IsExamined}
use Rattle.archive_replies.specs.Findings.{bad_digest_text}
use Rattle.run_audit.specs.declared.status.AuditStatus.{AuditStatus}
use Rattle.run_audit.specs.Statuses.{status_of_finding}

-- What is found of an image: of the history that its journal spells and a load accepts, by the texts, the sublists and the digests that stand in the
-- image.
pub record IsFindingOn (image : Bytes) (finding : Finding) : Type 0 where
  pub loaded : History
  pub loadable : IsLoadable loaded
  pub spelled : Spells image.journal (bodies_of loaded)
  pub live : AreLive (live_extents loaded) (length image.pages)
  pub examined : IsExamined loaded image finding

-- the line of what is found: that of the verdict, as `verify` has it; or that of a digest
abbrev pub finding_text : Finding → List ℕ
finding_text (Told verdict) = reply_text (Verified verdict)
finding_text (BadDigest word segment) = bad_digest_text word segment

-- an audit found something of an image: it showed its line, and ends as it tells
pub record IsAudited (image : Bytes) (status : AuditStatus) (before after : List ℕ) : Type 0 where
  pub finding : Finding
  pub is : IsFindingOn image finding
  pub shown : after ≡ before ++ finding_text finding
  pub decides : status ≡ status_of_finding finding

-- an audit found something of an image, and of its line a part was shown, and not all
pub record IsCutOff (image : Bytes) (before after : List ℕ) : Type 0 where
  pub finding : Finding
  pub is : IsFindingOn image finding
  pub front : IsPrefix after (before ++ finding_text finding)
  pub short : length after < length before + length (finding_text finding)

-- an image has all that an archive answers from: it stands for a history
abbrev pub IsWhole : Bytes → Type 0
IsWhole image = (history : History) × Stands history image

-- a disk has the lengths, the bytes and the images that it had: nothing changed but its counts, and its moments by what was shown
pub record IsLeftAlone (old new : DiskState) : Type 0 where
  pub reach : new.reach ≡ old.reach
  pub holds : new.holds ≡ old.holds
  pub stable : new.now.stable ≡ old.now.stable
  pub pending : new.now.pending ≡ old.now.pending
