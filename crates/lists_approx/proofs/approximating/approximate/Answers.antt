use Rattle.std.proofs.Common.{◌+◌, drop, refl}
use Rattle.lists_approx.proofs.Runs.{step-first, step-longer, step-close, next-left}
use Rattle.lists_approx.proofs.Fewest.{finished, longest-first, fewest}
use Rattle.lists_approx.proofs.approximating.approximate.Goals as goal
use Rattle.lists_approx.proofs.approximating.approximate.Goals.{in-Some-longer, in_default-longer+in_ok-push}

pub loop-p-init : goal.loop-p-init
loop-p-init c = rw c.new-done.ensures.items (step-first c.args.tolerance c.args.list.now c.requires c.in-Some.first.now c.in-Some.others.now c.begun-run.result.posting c.begun-run.result.most c.in-Some.ensures.cases.0 c.begun-run.ensures)

pub loop-p-preserved : goal.loop-p-preserved
loop-p-preserved c =
    let i = next-left c.args.tolerance c.args.list.now c.loop-p.done.items c.in-Some.others.now c.loop-p.run.posting c.p-item.result c.loop-p.run.most c.loop-p.p-index c.loop-p-test.true c.p-item.is c.loop-p.invariant in
    elim c.match-longer.branch [
      | in-Some-longer w ↦ rw (w.done-is, w.run-is) (step-longer c.args.tolerance c.args.list.now c.requires c.loop-p.done.items c.loop-p.run.posting c.loop-p.run.most c.p-item.result (drop (c.loop-p.p-index + 1) c.in-Some.others.now) w.in-Some-longer.next.posting w.in-Some-longer.next.most w.in-Some-longer.ensures.longer i)
      | in_default-longer+in_ok-push w ↦ rw (w.done-is, w.run-is) (step-close c.args.tolerance c.args.list.now c.requires c.loop-p.done.items w.push.new.self.items c.loop-p.run.posting c.loop-p.run.most c.p-item.result (drop (c.loop-p.p-index + 1) c.in-Some.others.now) w.begun-run-in_default-longer.result.posting w.begun-run-in_default-longer.result.most w.in_ok-push.ensures.items (w.in_default-longer.ensures.over refl) w.begun-run-in_default-longer.ensures i)
    ]

pub returns-clause-longest_first : goal.returns-clause-longest_first
returns-clause-longest_first c =
    let f = finished c.args.tolerance c.args.list.now c.loop-p.done.items c.push-2.new.self.items c.in-Some.others.now c.loop-p.run.posting c.loop-p.run.most c.loop-p.p-index c.requires c.loop-p-test.false c.in_ok-push-2.ensures.items c.loop-p.invariant in
    longest-first c.args.tolerance c.args.list.now c.push-2.new.self.items f.0 f.1 f.2

pub returns-clause-fewest : goal.returns-clause-fewest
returns-clause-fewest c =
    let f = finished c.args.tolerance c.args.list.now c.loop-p.done.items c.push-2.new.self.items c.in-Some.others.now c.loop-p.run.posting c.loop-p.run.most c.loop-p.p-index c.requires c.loop-p-test.false c.in_ok-push-2.ensures.items c.loop-p.invariant in
    fewest c.args.tolerance c.args.list.now c.push-2.new.self.items f.0 f.1 f.2
