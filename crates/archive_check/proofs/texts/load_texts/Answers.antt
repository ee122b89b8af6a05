use Rattle.std.proofs.Common.{ℕ, List, subst}
use Rattle.machine_model.proofs.MomentLemmas.{reads_join}
use Rattle.lists_index.specs.Loads.{loaded}
use Rattle.archive_check.specs.Checking.{IsLoadedBehind}
use Rattle.archive_check.proofs.SegmentLemmas.{journal_on}
use Rattle.archive_check.proofs.TextLemmas.{comes_behind, loaded_more}
use Rattle.archive_check.proofs.texts.load_texts.Goals as goal

pub loop-at-preserved : goal.loop-at-preserved
loop-at-preserved g c =
    let tells = g.D.Disk.disk_tells in
    let journal = (g.D.Disk.disk c.args.disk.now).holds.journal in
    let changes = c.args.changes.now in
    let i = c.loop-at.at in
    let change = c.index-changes-at.result in
    let r = c.loop-at.invariant.loads in
    let J : List ℕ → Type 0 = λ l. IsLoadedBehind tells l r.texts change (loaded c.load_text.new.loader) in
    record {
      only = g.met.D.Disk.only_joins _ _ _ c.loop-at.invariant.only c.load_text.ensures.only;
      same = reads_join (g.D.Disk.disk c.args.disk.now) (g.D.Disk.disk c.loop-at.disk) (g.D.Disk.disk c.load_text.new.disk) c.loop-at.invariant.same c.load_text.ensures.same;
      loads = loaded_more tells journal changes i change (loaded c.loop-at.loader) (loaded c.load_text.new.loader) c.loop-at-test.true c.index-changes-at.is r
          (subst J (journal_on (g.D.Disk.disk c.args.disk.now) (g.D.Disk.disk c.loop-at.disk) c.loop-at.invariant.same)
          (c.in_ok-load_text.ensures.loaded c.if-not-branch.false r.texts r.loads (comes_behind tells journal changes i change (loaded c.loop-at.loader) c.requires.order c.loop-at-test.true c.index-changes-at.is r)));
    }
