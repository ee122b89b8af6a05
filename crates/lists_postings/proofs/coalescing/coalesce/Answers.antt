use Rattle.std.proofs.Common.{◌+◌, drop}
use Rattle.lists_postings.proofs.Joins.{step-join, step-push, next-left, finish-shortest}
use Rattle.lists_postings.proofs.coalescing.coalesce.Goals as goal
use Rattle.lists_postings.proofs.coalescing.coalesce.Goals.{then-continues, else-continues+in_ok-push}

pub loop-p-preserved : goal.loop-p-preserved
loop-p-preserved c =
    let i = next-left c.args.list.now c.loop-p.done.items c.in-Some.others.now c.loop-p.current c.p-item.result c.loop-p.p-index c.loop-p-test.true c.p-item.is c.loop-p.invariant in
    elim c.if-continues.branch [
      | then-continues w ↦
          rw (w.done-is, w.current-is)
          (step-join c.args.list.now c.loop-p.done.items c.loop-p.current c.p-item.result w.joined-current.result (drop (c.loop-p.p-index + 1) c.in-Some.others.now) (c.continues.ensures.0 w.if-continues.true) w.joined-current.ensures i)
      | else-continues+in_ok-push w ↦
          rw (w.done-is, w.current-is)
          (step-push c.args.list.now c.loop-p.done.items w.push.new.self.items c.loop-p.current c.p-item.result (drop (c.loop-p.p-index + 1) c.in-Some.others.now) (λ k. let a = c.continues.ensures.1 k in let b = w.if-continues.false in cc) w.in_ok-push.ensures.items i)
    ]

pub returns-clause-shortest : goal.returns-clause-shortest
returns-clause-shortest c = finish-shortest c.args.list.now c.loop-p.done.items c.push-2.new.self.items c.in-Some.others.now c.loop-p.current c.loop-p.p-index c.loop-p-test.false c.in_ok-push-2.ensures.items c.loop-p.invariant
