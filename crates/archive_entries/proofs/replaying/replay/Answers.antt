use Rattle.std.proofs.Common.{◌≡◌, ◌∙◌, ◌⊎◌, ◌++◌, ℕ, List, [], All, Option, None, Some, Ok, fold, ap, subst, refl, inl, inr}
use Rattle.journal_gates.specs.Heads.{heads_of}
use Rattle.journal_gates.specs.Spelled.{Spells}
use Rattle.lists_index.specs.Loads.{loaded}
use Rattle.lists_index.specs.Indexes.{state_of, Indexes}
use Rattle.model_archive.specs.declared.stored.StoredPlan.{StoredPlan}
use Rattle.model_archive.specs.Histories as histories
use Rattle.model_archive.specs.Histories.{History, is_marked}
use Rattle.model_archive.specs.Plans.{with_plan}
use Rattle.model_archive.specs.Stands.{bodies_of}
use Rattle.archive_entries.specs.Replaying.{IsFitIn, IsFirstUnfit, IsReplayed, IsBadAmong}
use Rattle.archive_entries.proofs.ReplayLemmas.{all_read}
use Rattle.archive_entries.proofs.SettleLemmas.{settled, unfit_among, unfit_ahead, next_ahead, live_are, replayed_end, replayed_length}
use Rattle.archive_entries.proofs.replaying.replay.Given.{Over}
use Rattle.archive_entries.proofs.replaying.replay.Goals as goal

none_or_some : (o : Option ℕ) → (o ≡ None) ⊎ ((at : ℕ) × (o ≡ Some at))
none_or_some None = inl refl
none_or_some (Some at) = inr (at, refl)

-- a plan that isn't fit, where all entries were gone over, or those up to a fault
pub returns-in-Some-clause-bad : goal.returns-in-Some-clause-bad
returns-in-Some-clause-bad g c = λ tells bodies heads spelled at is.
    let same : c.in-Some.at ≡ at = cc in
    let B : ℕ → Type 0 = λ n. IsBadAmong bodies n in
    subst B same (elim (none_or_some c.in_ok-fault.fault) [
      | inl none ↦ let whole = c.in_ok-fault.ensures.whole (ap Ok none) in
          let all = whole.1 in
          let U : List StoredPlan → Type 0 = λ l. IsFirstUnfit all.history l c.in-Some.at in
          let unfit = c.in_ok-at.ensures.first c.in-Some.at c.in-Some.is all.history (c.in_ok-index.ensures (histories.changes all.history) all.loads) in
          let before = all.left tells bodies heads spelled in
          unfit_among all.history bodies before.0 c.in-Some.at all.reached.opens before.1 (subst U (c.deref.ensures.value ∙ all.reached.plans_are) unfit)
      | inr fault ↦ let part = c.in_ok-fault.ensures.stopped fault.0 (ap Ok fault.1) in
          let U : List StoredPlan → Type 0 = λ l. IsFirstUnfit (part.history ++ part.has.ahead) l c.in-Some.at in
          let unfit = c.in_ok-at.ensures.first c.in-Some.at c.in-Some.is (part.history ++ part.has.ahead) (c.in_ok-index.ensures (histories.changes (part.history ++ part.has.ahead)) part.has.loads) in
          unfit_ahead part.history part.has.ahead bodies _ c.in-Some.at part.opens part.has.allowed (part.next tells bodies heads spelled).split (subst U (c.deref.ensures.value ∙ part.plans_are) unfit)
    ])

pub returns-in-Some-fault-clause-bad : goal.returns-in-Some-fault-clause-bad
returns-in-Some-fault-clause-bad g c = λ tells bodies heads spelled at is.
    let part = c.in_ok-fault.ensures.stopped c.in-Some-fault.at (ap Ok c.in-Some-fault.is) in
    let all = part.history ++ part.has.ahead in
    let F : List StoredPlan → Type 0 = λ l. All (IsFitIn all) l in
    let fit = c.in_ok-at.ensures.none c.in_default.is all (c.in_ok-index.ensures (histories.changes all) part.has.loads) in
    let same : c.in-Some-fault.at ≡ at = cc in
    let B : ℕ → Type 0 = λ n. IsBadAmong bodies n in
    subst B same (next_ahead part.history part.has.ahead bodies c.in-Some-fault.at part.opens part.has.allowed (subst F (c.deref.ensures.value ∙ part.plans_are) fit) (part.next tells bodies heads spelled))

all_met : (g : Over) (c : goal.In_ok-plans g) → (h : History) × IsReplayed h c.args.heads.now c.go_over.new.met.directory.changes c.in_ok-plans.plans.items × Indexes (state_of c.in_ok-index.index) (histories.changes h)
    × (g.D.Disk.disk_tells → (bodies : List (List ℕ)) → c.args.heads.now ≡ heads_of 16 bodies → Spells (g.D.Disk.disk c.args.disk.now).holds.journal bodies → bodies_of h ≡ bodies) × (c.go_over.new.met.marked ≡ is_marked h)
all_met g c =
    let whole = c.in_ok-fault.ensures.whole (ap Ok c.in_default-fault.is) in
    let all = whole.1 in
    let F : List StoredPlan → Type 0 = λ l. All (IsFitIn all.history) l in
    let indexes = c.in_ok-index.ensures (histories.changes all.history) all.loads in
    let fit = c.in_ok-at.ensures.none c.in_default.is all.history indexes in
    let read = all_read g.D.Disk.disk_tells (g.D.Disk.disk c.args.disk.now).holds.journal c.args.heads.now whole.0 c.go_over.new.met.directory.changes c.go_over.new.met.plans.items (loaded c.go_over.new.met.loader) all whole.2 in
    let live : c.in_ok-plans.plans.items ≡ fold with_plan [] c.go_over.new.met.plans.items = c.in_ok-plans.ensures.live in (
      all.history,
      record {
        loadable = settled all.history all.reached.opens (subst F (c.deref.ensures.value ∙ all.reached.plans_are) fit);
        heads_are = read.0;
        placed = all.reached.placed;
        plans_are = live ∙ ap (fold with_plan []) all.reached.plans_are ∙ live_are all.history;
      },
      indexes,
      read.1,
      all.reached.marked_is,
    )

pub returns-clause-stands : goal.returns-clause-stands
returns-clause-stands g c = let all = all_met g c in (all.0, all.1, all.2, all.4)

pub returns-clause-found : goal.returns-clause-found
returns-clause-found g c = λ tells bodies heads spelled. let all = all_met g c in (all.0, all.1, all.2, all.3 tells bodies heads spelled, all.4)

pub returns-clause-counted : goal.returns-clause-counted
returns-clause-counted g c = λ h is.
    (replayed_end h c.args.heads.now c.go_over.new.met.directory.changes c.in_ok-plans.plans.items c.args.journal.now.end c.requires.row is, replayed_length h c.args.heads.now c.go_over.new.met.directory.changes c.in_ok-plans.plans.items is)
