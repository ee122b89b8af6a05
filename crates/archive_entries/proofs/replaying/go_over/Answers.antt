use Rattle.std.proofs.Common.{◌≡◌, ◌∙◌, ◌++◌, ℕ, Err, ap, subst, arith, rules}
use Rattle.machine_model.specs.declared.area.Area.TheVariants.{Journal}
use Rattle.machine_model.proofs.MomentLemmas.{reads_join}
use Rattle.lists_index.specs.Loads.{loaded}
use Rattle.model_archive.specs.Stands.{bodies_of}
use Rattle.archive_entries.specs.Replaying.{IsNextBad}
use Rattle.archive_entries.specs.declared.error.LoadError.TheVariants.{NotArchive}
use Rattle.archive_entries.proofs.ReplayLemmas.{replaying_none, comes, reached_by, replayed_more, next_bad}
use Rattle.archive_entries.proofs.replaying.go_over.Goals as goal

pub loop-bodies-init : goal.loop-bodies-init
loop-bodies-init g c = record {
  only = search rules;
  same = search rules;
  unread = search rules;
  end = c.bodies-bodies.ensures.end;
  replaying = replaying_none g.D.Disk.disk_tells (g.D.Disk.disk c.args.disk.now).holds.journal c.args.heads.now c.bodies-bodies.result c.args.met.now.directory.changes c.args.met.now.plans.items c.args.met.now.marked (loaded c.args.met.now.loader)
      c.requires.changes c.requires.plans c.requires.marked c.requires.loads c.bodies-bodies.ensures.behind (c.bodies-bodies.ensures.left (g.D.Disk.disk c.args.disk.now).holds.journal);
}

pub apply-requires-clause-within : goal.apply-requires-clause-within
apply-requires-clause-within g c =
    let next = rw c.in-Some.is at c.in_ok-head.ensures.next in
    omega (arith, next.lies.within, c.loop-bodies.invariant.end, c.requires.reached, g.met.D.Disk.reach_limit c.args.disk.now Journal)

pub loop-bodies-preserved : goal.loop-bodies-preserved
loop-bodies-preserved g c =
    let so_far = c.loop-bodies.invariant in
    let r = so_far.replaying in
    let came = comes g.D.Disk.disk_tells (g.D.Disk.disk c.args.disk.now) (g.D.Disk.disk c.loop-bodies.disk) c.args.heads.now r.history c.loop-bodies.bodies c.next.new.self c.in-Some.head c.body.result.now so_far.same c.body.ensures.body
    (rw c.in-Some.is at (c.in_ok-head.ensures.behind c.args.heads.now (bodies_of r.history) r.behind)) (λ told bodies left. rw c.in-Some.is at (c.in_ok-head.ensures.left told bodies left)) in
    record {
      only = g.met.D.Disk.only_joins _ _ _ so_far.only c.next.ensures.only;
      same = reads_join (g.D.Disk.disk c.args.disk.now) (g.D.Disk.disk c.loop-bodies.disk) (g.D.Disk.disk c.next.new.disk) so_far.same c.next.ensures.same;
      unread = λ tells. c.next.ensures.unread tells ∙ so_far.unread tells;
      end = c.next.ensures.end ∙ so_far.end;
      replaying = replayed_more g.D.Disk.disk_tells (g.D.Disk.disk c.args.disk.now).holds.journal c.args.heads.now c.loop-bodies.bodies c.next.new.self c.loop-bodies.met.directory.changes c.apply.new.met.directory.changes
          c.loop-bodies.met.plans.items c.apply.new.met.plans.items (loaded c.loop-bodies.met.loader) (loaded c.apply.new.met.loader) c.in-Some.head.gate c.body.result.now
          r came (c.in-Ok.ensures.more r.history (reached_by came r.reached) r.loads);
    }

pub returns-in-Err-NotArchive-clause-stopped : goal.returns-in-Err-NotArchive-clause-stopped
returns-in-Err-NotArchive-clause-stopped g c = λ at is.
    let so_far = c.loop-bodies.invariant in
    let r = so_far.replaying in
    let came = comes g.D.Disk.disk_tells (g.D.Disk.disk c.args.disk.now) (g.D.Disk.disk c.loop-bodies.disk) c.args.heads.now r.history c.loop-bodies.bodies c.next.new.self c.in-Some.head c.body.result.now so_far.same c.body.ensures.body
    (rw c.in-Some.is at (c.in_ok-head.ensures.behind c.args.heads.now (bodies_of r.history) r.behind)) (λ told bodies left. rw c.in-Some.is at (c.in_ok-head.ensures.left told bodies left)) in
    let refused : c.apply.result ≡ Err (NotArchive c.in-Err-NotArchive.at) = c.in-Err-NotArchive.is ∙ ap Err c.in-Err-NotArchive.field-0-is in
    let reached = reached_by came r.reached in
    let left = c.apply.ensures.left r.history reached r.loads c.in-Err-NotArchive.at refused in
    let shown = is in
    let here = c.in-Err-NotArchive.at-is in
    let there : c.in-Err-NotArchive.at ≡ at = cc in
    record {
      history = r.history;
      opens = r.reached.opens;
      plans_are = left.0 ∙ r.reached.plans_are;
      has = left.1;
      next = λ tells bodies heads spelled.
          let B : ℕ → Type 0 = λ n. IsNextBad r.history bodies n in
          subst B there (next_bad c.in-Err-NotArchive.at bodies tells came (r.left tells bodies heads spelled) (c.apply.ensures.bad r.history reached r.loads c.in-Err-NotArchive.at refused));
    }

pub returns-in-Err-NotArchive-clause-loads : goal.returns-in-Err-NotArchive-clause-loads
returns-in-Err-NotArchive-clause-loads g c =
    let so_far = c.loop-bodies.invariant in
    let r = so_far.replaying in
    let came = comes g.D.Disk.disk_tells (g.D.Disk.disk c.args.disk.now) (g.D.Disk.disk c.loop-bodies.disk) c.args.heads.now r.history c.loop-bodies.bodies c.next.new.self c.in-Some.head c.body.result.now so_far.same c.body.ensures.body
    (rw c.in-Some.is at (c.in_ok-head.ensures.behind c.args.heads.now (bodies_of r.history) r.behind)) (λ told bodies left. rw c.in-Some.is at (c.in_ok-head.ensures.left told bodies left)) in
    let refused : c.apply.result ≡ Err (NotArchive c.in-Err-NotArchive.at) = c.in-Err-NotArchive.is ∙ ap Err c.in-Err-NotArchive.field-0-is in
    let left = (c.apply.ensures.left r.history (reached_by came r.reached) r.loads c.in-Err-NotArchive.at refused).1 in
    (r.history ++ left.ahead, left.loads)
