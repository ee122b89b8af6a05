-- Texts by their places: what a place of an open archive holds, and that it lies in front of the journal's end.
use Rattle.std.proofs.Common.{◌≡◌, ℕ, ◌+◌, ◌≤◌, All, Some, ap, subst, sym, ◌∙◌}
use Rattle.std.specs.Option.{option_map}
use Rattle.machine_model.specs.States.{DiskState}
use Rattle.machine_model.specs.Images.{MayLeave}
use Rattle.base_types.specs.declared.ids.DocId.{DocId}
use Rattle.base_types.specs.declared.text_place.TextPlace.{TextPlace}
use Rattle.lists_versions.specs.Changes.{held_at}
use Rattle.lists_versions.proofs.Mapped.{held_at-mapped}
use Rattle.lists_versions.proofs.Holding.{held_has}
use Rattle.model_archive.specs.Histories.{History, text_at}
use Rattle.model_archive.specs.Stands.{bodies_of}
use Rattle.journal_gates.specs.InStep.{IsInStep}
use Rattle.archive_hand.specs.States.{ArchiveState, StandsFor, StandsBut}
use Rattle.archive_entries.specs.Texts.{text_in, LiesIn}
use Rattle.archive_entries.proofs.PlaceLemmas.{texts_are}
use Rattle.archive_check.proofs.OpenLemmas.{placed_lie}
use Rattle.journal_gates.proofs.InStepLemmas.{step_spells}

-- the text of a document that is alive at a time, by its place
pub text_is : (d : DiskState) (a : ArchiveState) (h : History) (doc : DocId) (t : ℕ) → MayLeave d.now d.holds → StandsFor a h → IsInStep d a.end (bodies_of h)
    → option_map (text_in d.holds.journal) (held_at doc t a.changes) ≡ text_at h doc t
text_is d a h doc t allowed stands step =
    sym (held_at-mapped (text_in d.holds.journal) doc t a.changes)
    ∙ ap (held_at doc t) (texts_are d.holds.journal h a.changes (step_spells d a.end (bodies_of h) step d.holds allowed) stands.changes_are)

-- each place lies in front of the end
pub all_lie : (a : ArchiveState) (h : History) → StandsBut a h → All (λ c. LiesIn a.end c.held) a.changes
all_lie a h stands = placed_lie h a.changes a.end stands.changes_are stands.end_is

-- a place that is found lies in front of the end
pub found_lies : (a : ArchiveState) (h : History) (doc : DocId) (t : ℕ) (place : TextPlace) → StandsBut a h → held_at doc t a.changes ≡ Some place → place.at + place.bytes ≤ a.end
found_lies a h doc t place stands found = subst (LiesIn a.end) found (held_has (LiesIn a.end) doc t a.changes tt (all_lie a h stands))
