-- Why bytes are no archive's: an entry that no load accepts, or places that lie badly.
use Rattle.std.proofs.Common.{◌≡◌, ℕ, List, length, inl, inr, ap, subst, sym, ◌∙◌}
use Rattle.machine_model.specs.Areas.{Bytes}
use Rattle.machine_model.specs.Calls.{OnlyReads}
use Rattle.machine_model.specs.States.{DiskState}
use Rattle.journal_gates.specs.Spelled.{Spells}
use Rattle.model_archive.specs.declared.stored.StoredPlan.{StoredPlan}
use Rattle.model_archive.specs.Histories.{History}
use Rattle.model_archive.specs.Legal.{IsLoadable}
use Rattle.model_archive.specs.Plans.{live_plans}
use Rattle.model_archive.specs.Stands.{IsNotArchive, bodies_of}
use Rattle.archive_entries.specs.Replaying.{IsBadAmong}
use Rattle.archive_plans.specs.Shelves.{IsBadShelf}

-- bodies of which one is bad are no archive's
pub bad_archive : (image : Bytes) (bodies : List (List ℕ)) (at : ℕ) → Spells image.journal bodies → IsBadAmong bodies at → IsNotArchive image at
bad_archive image bodies at spelled bad =
    inr (inl (record { before = bad.before; body = bad.next.body; rest = bad.next.rest; spelled = rw (← bad.next.split) spelled; loadable = bad.loadable; fault = bad.next.fault }))

-- nor are places that lie badly
pub bad_shelf : (image : Bytes) (h : History) (plans : List StoredPlan) (reach at : ℕ) → Spells image.journal (bodies_of h) → IsLoadable h → plans ≡ live_plans h → reach ≡ length image.pages → IsBadShelf plans reach at → IsNotArchive image at
bad_shelf image h plans reach at spelled loads live long bad =
    let is = subst (λ (l : List StoredPlan). IsBadShelf l (length image.pages) at) live (subst (λ (n : ℕ). IsBadShelf plans n at) long bad) in
    inr (inr (record { history = h; spelled = spelled; loadable = loads; index = is.index; inside = is.inside; good = is.good; bad = is.bad; at_is = is.at_is }))

-- pages that are as long as those of a disk are as long as it tells after reads
pub pages_long : (image : Bytes) (old after : DiskState) (reach : ℕ) → reach ≡ after.reach.pages → OnlyReads old after → length image.pages ≡ old.reach.pages → reach ≡ length image.pages
pages_long image old after reach is same long = is ∙ ap (λ (d : DiskState). d.reach.pages) same ∙ sym long
