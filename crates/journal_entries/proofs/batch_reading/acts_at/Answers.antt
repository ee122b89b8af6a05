use Rattle.std.proofs.lemmas.Result.{err_from_is_err_and}
use Rattle.journal_entries.specs.Reading.{acts_at}
use Rattle.journal_entries.proofs.BatchLemmas.{goes_on, ends, is_done}
use Rattle.journal_entries.proofs.batch_reading.acts_at.Goals as goal

pub returns-in_err-act : goal.returns-in_err-act
returns-in_err-act c =
    let p = err_from_is_err_and c.from_residual-in_err-act.result c.from_residual-in_err-act.ensures.1 in
    rw (p.1, p.2) (ends c.in_err-act.field-0.0 c.loop.acts.items c.args.count c.loop.counter c.loop.rest.now (acts_at c.args.count c.args.bytes.now) c.loop-test.true c.in_err-act.ensures c.loop.invariant)

pub loop-preserved : goal.loop-preserved
loop-preserved c =
    rw c.in_ok-push.ensures.items
    (goes_on c.loop.acts.items c.args.count c.loop.counter c.loop.rest.now c.in_ok-act.act c.in_ok-act.behind.now (acts_at c.args.count c.args.bytes.now) c.loop-test.true c.in_ok-act.ensures c.loop.invariant)

pub returns : goal.returns
returns c = rw c.new.ensures (is_done c.loop.acts.items c.args.count c.loop.counter c.loop.rest.now (acts_at c.args.count c.args.bytes.now) c.loop-test.false c.loop.invariant)
