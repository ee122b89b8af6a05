use Rattle.std.proofs.Common.{◌≡◌, ◌<◌, ◌^◌, ℕ, ◌∙◌, length, subst, arith, rules}
use Rattle.machine_model.proofs.MomentLemmas.{reads_join}
use Rattle.machine_model.specs.declared.area.Area.TheVariants.{Journal}
use Rattle.journal_gates.specs.declared.gate.Gate.TheVariants.{Closed, CutShort}
use Rattle.journal_gates.specs.Refused.{IsCutShort}
use Rattle.journal_gates.specs.Windows.{IsView}
use Rattle.journal_gates.proofs.ScanLemmas.{row_more, found_at, scanned_none, scanned_next, scanned_closed, scanned_cut, lies_as}
use Rattle.journal_gates.proofs.WindowLemmas.{view_read, view_before}
use Rattle.journal_gates.proofs.load.scan.Goals as goal

pub loop-heads-init : goal.loop-heads-init
loop-heads-init g c = record {
  only = search rules;
  same = search rules;
  unread = search rules;
  end = search rules;
  least = omega arith;
  inside = omega arith;
  row = search rules;
  view = λ tells v. v;
  scanned = λ tells view right. rw c.new-heads.ensures.items (scanned_none _ right);
}

pub returns-in-Closed-clause-only : goal.returns-in-Closed-clause-only
returns-in-Closed-clause-only g c = g.met.D.Disk.only_joins _ _ _ c.loop-heads.invariant.only c.cover.ensures.only

pub returns-in-Closed-clause-found : goal.returns-in-Closed-clause-found
returns-in-Closed-clause-found g c = λ tells view right.
    let so_far = c.loop-heads.invariant in
    let a = g.D.Disk.disk c.args.disk.now in
    let b = g.D.Disk.disk c.loop-heads.disk in
    let now = view_before a b c.cover.new.self so_far.same (c.in_ok-cover.ensures.view tells (view_read a b c.loop-heads.window so_far.same (so_far.view tells view))) in
    let long : length a.holds.journal ≡ c.cover.new.self.end = omega (arith, g.met.D.Disk.reach_holds c.args.disk.now Journal tells, c.cover.ensures.end, so_far.end) in
    found_at c.at.ensures.end (scanned_closed a.holds.journal _ _ (so_far.scanned tells view right) (lies_as _ _ Closed c.in-Closed.is (c.gate_at.ensures.lies a.holds.journal long now)))

pub at-requires-clause-high : goal.at-requires-clause-high
at-requires-clause-high g c = omega (arith, c.loop-heads.invariant.inside, g.met.D.Disk.reach_limit c.args.disk.now Journal)

pub returns-in-CutShort-clause-only : goal.returns-in-CutShort-clause-only
returns-in-CutShort-clause-only g c = g.met.D.Disk.only_joins _ _ _ c.loop-heads.invariant.only c.cover.ensures.only

pub returns-in-CutShort-clause-not_journal : goal.returns-in-CutShort-clause-not_journal
returns-in-CutShort-clause-not_journal g c = λ tells view right at is.
    let so_far = c.loop-heads.invariant in
    let a = g.D.Disk.disk c.args.disk.now in
    let b = g.D.Disk.disk c.loop-heads.disk in
    let here : c.loop-heads.gate ≡ at = cc in
    let now = view_before a b c.cover.new.self so_far.same (c.in_ok-cover.ensures.view tells (view_read a b c.loop-heads.window so_far.same (so_far.view tells view))) in
    let long : length a.holds.journal ≡ c.cover.new.self.end = omega (arith, g.met.D.Disk.reach_holds c.args.disk.now Journal tells, c.cover.ensures.end, so_far.end) in
    subst (λ (n : ℕ). IsCutShort a.holds.journal n) here
    (scanned_cut a.holds.journal _ _ (so_far.scanned tells view right) (lies_as _ _ CutShort c.in-CutShort.is (c.gate_at.ensures.lies a.holds.journal long now)))

pub returns-in_err-push-in-Open-clause-only : goal.returns-in_err-push-in-Open-clause-only
returns-in_err-push-in-Open-clause-only g c = g.met.D.Disk.only_joins _ _ _ c.loop-heads.invariant.only c.cover.ensures.only

pub loop-heads-preserved : goal.loop-heads-preserved
loop-heads-preserved g c =
    let so_far = c.loop-heads.invariant in
    let a = g.D.Disk.disk c.args.disk.now in
    let b = g.D.Disk.disk c.loop-heads.disk in
    let room = c.gate_at.ensures.fits c.in-Open.bytes cc in
    let fits : c.in-Open.bytes < 2 ^ 32 = omega arith in
    let view = λ (tells : g.D.Disk.disk_tells) (view : IsView c.args.window a.holds.journal).
    view_before a b c.cover.new.self so_far.same (c.in_ok-cover.ensures.view tells (view_read a b c.loop-heads.window so_far.same (so_far.view tells view))) in
    record {
      only = g.met.D.Disk.only_joins _ _ _ so_far.only c.cover.ensures.only;
      same = reads_join a b (g.D.Disk.disk c.cover.new.disk) so_far.same c.cover.ensures.same;
      unread = λ tells. c.cover.ensures.unread tells ∙ so_far.unread tells;
      end = c.cover.ensures.end ∙ so_far.end;
      least = omega (arith, so_far.least);
      inside = omega (arith, room, c.from.ensures, c.cover.ensures.end, so_far.end);
      row = row_more 16 c.loop-heads.gate c.in-Open.bytes _ c.loop-heads.heads.items _ so_far.row c.in_ok-push-in-Open.ensures.items (omega (arith, c.from.ensures));
      view = view;
      scanned = λ tells viewed right.
          let long : length a.holds.journal ≡ c.cover.new.self.end = omega (arith, g.met.D.Disk.reach_holds c.args.disk.now Journal tells, c.cover.ensures.end, so_far.end) in
          scanned_next fits (so_far.scanned tells viewed right) (lies_as _ _ _ c.in-Open.is (c.gate_at.ensures.lies a.holds.journal long (view tells viewed)))
          c.in_ok-push-in-Open.ensures.items (omega (arith, c.from.ensures));
    }
