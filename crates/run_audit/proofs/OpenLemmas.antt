-- What an archive that is opened is.
use Rattle.std.proofs.Common.{◌≡◌, ℕ, ◌≤◌, List, [], length, inl, refl, subst, ◌∙◌}
use Rattle.std.proofs.lemmas.List.Elements.{All-nil}
use Rattle.machine_model.specs.Areas.{Both, Bytes}
use Rattle.journal_gates.specs.declared.head.Head.{Head}
use Rattle.pages_area.specs.Live.{AreLive}
use Rattle.model_archive.specs.declared.stored.StoredPlan.{StoredPlan}
use Rattle.model_archive.specs.Histories.{History, end_of}
use Rattle.model_archive.specs.Holding.{HoldsPlan}
use Rattle.model_archive.specs.Stands.{Stands}
use Rattle.archive_entries.specs.Replaying.{IsReplayed}
use Rattle.archive_plans.specs.Shelves.{extents_all}
use Rattle.run_audit.specs.declared.opening.Opened.{Opened}
use Rattle.run_audit.specs.Opened.{IsOpened}

-- a journal of at most 17 bytes is that of an archive without entries, which needs nothing of Pages
pub new_stands : (image : Bytes) → length image.journal ≤ 17 → Stands [] image
new_stands image few = record { spelled = inl (few, refl); loadable = tt; held = record { apart = tt; each = All-nil (λ (stored : StoredPlan). HoldsPlan [] image.pages stored.plan) } }

-- entries that were gone over, with places that lie well
pub is_opened : (h : History) (heads : List Head) (plans : List StoredPlan) (reach : Both ℕ) (pages : ℕ) (opened : Opened) → IsReplayed h heads opened.directory.changes plans → opened.journal.end ≡ end_of h
    → opened.journal.end ≤ reach.journal → opened.shelf.plans ≡ plans → AreLive (extents_all plans) pages → pages ≡ reach.pages → IsOpened h reach opened
is_opened h heads plans reach pages opened replayed end within same live long = record {
  loadable = replayed.loadable;
  end_is = end;
  within = within;
  placed = replayed.placed;
  plans_are = same ∙ replayed.plans_are;
  live = subst (λ (l : List StoredPlan). AreLive (extents_all l) reach.pages) replayed.plans_are (subst (AreLive (extents_all plans)) long live);
}
