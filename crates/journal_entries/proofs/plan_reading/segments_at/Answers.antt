use Rattle.std.proofs.lemmas.Result.{err_from_is_err_and}
use Rattle.journal_entries.specs.PlanReading.{segments_at}
use Rattle.journal_entries.proofs.SegmentLemmas.{goes_on, ends, is_done}
use Rattle.journal_entries.proofs.plan_reading.segments_at.Goals as goal

pub returns-in_err-cut : goal.returns-in_err-cut
returns-in_err-cut c =
    let p = err_from_is_err_and c.from_residual-in_err-cut.result c.from_residual-in_err-cut.ensures.1 in
    rw (p.1, p.2) (ends c.in_err-cut.field-0.0 c.loop.cuts.items c.loop.places.items c.args.count c.loop.counter c.loop.least c.args.horizon c.loop.rest.now (segments_at c.args.count 0 c.args.horizon c.args.bytes.now) c.loop-test.true c.in_err-cut.ensures c.loop.invariant)

pub loop-preserved : goal.loop-preserved
loop-preserved c =
    rw (c.in_ok-push.ensures.items, c.in_ok-push-2.ensures.items, c.seconds-least.ensures.value)
    (goes_on c.loop.cuts.items c.loop.places.items c.args.count c.loop.counter c.loop.least c.args.horizon c.loop.rest.now c.in_ok-cut.cut c.in_ok-cut.place c.in_ok-cut.behind.now (segments_at c.args.count 0 c.args.horizon c.args.bytes.now) c.loop-test.true c.in_ok-cut.ensures c.loop.invariant)

pub returns : goal.returns
returns c = rw (c.new.ensures, c.new-2.ensures) (is_done c.loop.cuts.items c.loop.places.items c.args.count c.loop.counter c.loop.least c.args.horizon c.loop.rest.now (segments_at c.args.count 0 c.args.horizon c.args.bytes.now) c.loop-test.false c.loop.invariant)
