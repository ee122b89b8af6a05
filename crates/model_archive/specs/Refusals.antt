-- The refusals by number, and those of the directory of versions among them.
use Rattle.std.specs.Prelude.{ℕ}
use Rattle.model_archive.specs.declared.refusal.Refusal.{Refusal}
use Rattle.model_archive.specs.declared.refusal.Refusal.TheVariants as refusals
use Rattle.lists_versions.specs.declared.refusal.VersionRefusal.{VersionRefusal}
use Rattle.lists_versions.specs.declared.refusal.VersionRefusal.TheVariants as versions

-- the number by which a reply names a refusal
abbrev pub number_of : Refusal → ℕ
number_of refusals.Line = 1
number_of (refusals.TimeBack last) = 2
number_of refusals.SameTime = 3
number_of refusals.NoDocument = 4
number_of (refusals.TooLong limit) = 5
number_of (refusals.BadText offset) = 6
number_of refusals.NotOneTerm = 7
number_of refusals.NothingSealed = 8
number_of (refusals.TooWide boundaries) = 9
number_of (refusals.Full which limit) = 10
number_of (refusals.BadQuery offset) = 11
number_of refusals.Busy = 12
number_of refusals.UnknownWord = 13
number_of refusals.NoPlan = 14
number_of refusals.OneJob = 15
number_of (refusals.BatchLine index) = 16
number_of (refusals.BatchTooLong limit) = 17
number_of refusals.OldFormat = 18
number_of refusals.HasFormat = 19
number_of refusals.NotDisjunction = 20

-- a refusal of the directory of versions, as one of the archive
abbrev pub refusal_of : VersionRefusal → Refusal
refusal_of (versions.TimeBack last) = refusals.TimeBack last
refusal_of versions.SameTime = refusals.SameTime
refusal_of versions.NoDocument = refusals.NoDocument
refusal_of (versions.Full which limit) = refusals.Full which limit
