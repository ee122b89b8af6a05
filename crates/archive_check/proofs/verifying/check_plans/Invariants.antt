-- The plans so far are sound, and of them the first digest is known that is wrong.
use Rattle.std.specs.Prelude.{◌≡◌, List, ℕ, All, length, map, take, sum_by}
use Rattle.machine_model.specs.Calls.{OnlyReads}
use Rattle.lists_versions.specs.declared.change.Change.{Change}
use Rattle.lists_index.specs.Indexes.{state_of, Indexes}
use Rattle.model_archive.specs.declared.stored.StoredPlan.{StoredPlan}
use Rattle.archive_check.specs.declared.digests.Digests.TheVariants.{Asked}
use Rattle.archive_check.specs.Verdicts.{IsSound}
use Rattle.archive_check.specs.Checking.{AreFirstAltered}
use Rattle.archive_check.proofs.verifying.check_plans.Given as goal

abbrev pub invariant-loop-one : goal.invariant-loop-one
invariant-loop-one g l = record {
  only : g.D.Disk.only l.fn.disk l.disk;
  same : OnlyReads (g.D.Disk.disk l.fn.disk) (g.D.Disk.disk l.disk);
  sound : g.D.Disk.disk_tells → (texts : List (Change (List ℕ))) → Indexes (state_of l.index) texts → All (λ s. IsSound texts (g.D.Disk.disk l.fn.disk).holds.pages s.plan) (take l.one-index (map (λ t. t.stored.now) l.ranked));
  altered : g.D.Disk.disk_tells → l.fn.digests ≡ Asked → AreFirstAltered (g.D.Disk.disk l.fn.disk).holds.pages (take l.one-index (map (λ t. t.stored.now) l.ranked)) l.altered;
  segments_are : l.segments ≡ sum_by (λ (s : StoredPlan). length s.plan.cuts) (take l.one-index (map (λ t. t.stored.now) l.ranked));
}
