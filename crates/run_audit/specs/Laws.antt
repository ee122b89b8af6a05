-- What holds of what is found of an image.
use Rattle.std.specs.Prelude.{◌≡◌}
use Rattle.machine_model.specs.Areas.{Bytes}
use Rattle.archive_check.specs.declared.finding.Finding.{Finding}
use Rattle.run_audit.specs.declared.status.AuditStatus.TheVariants.{Sound}
use Rattle.run_audit.specs.Audits.{IsFindingOn, IsWhole}
use Rattle.run_audit.specs.Statuses.{status_of_finding}

-- Of an image one thing is found at most.
abbrev pub OneFindingOnAnImage : Type 0
OneFindingOnAnImage = (image : Bytes) (one other : Finding) → IsFindingOn image one → IsFindingOn image other → one ≡ other

-- An image of which all is found sound has all that an archive answers from.
abbrev pub SoundImagesAreWhole : Type 0
SoundImagesAreWhole = (image : Bytes) (finding : Finding) → IsFindingOn image finding → status_of_finding finding ≡ Sound → IsWhole image
