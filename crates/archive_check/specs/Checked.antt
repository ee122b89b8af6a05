-- What is checked of an archive: its live plans, by the bytes of an image.
use Rattle.std.specs.Prelude.{List}
use Rattle.journal_gates.specs.Records.{first_gate}
use Rattle.machine_model.specs.Areas.{Bytes}
use Rattle.base_types.specs.declared.text_place.TextPlace.{TextPlace}
use Rattle.lists_versions.specs.declared.change.Change.{Change}
use Rattle.model_archive.specs.Histories.{History}
use Rattle.model_archive.specs.Plans.{live_plans}
use Rattle.model_archive.specs.declared.verdict.Verdict.{Verdict}
use Rattle.archive_entries.specs.Places.{ArePlaced}
use Rattle.archive_check.specs.Verdicts.{IsVerdict}

-- the verdict on a history's live plans by the bytes of an image: texts are read where the history's entries lie, and sublists where its plans say
abbrev pub IsChecked : History → Bytes → Verdict → Type 0
IsChecked history image verdict = (changes : List (Change TextPlace)) × ArePlaced first_gate history changes
    × IsVerdict image.journal changes image.pages (live_plans history) verdict
