use Rattle.std.proofs.Common.{◌∷◌, take, arith}
use Rattle.pages_sublists.specs.Segments.{seconds}
use Rattle.pages_sublists.proofs.SpellLemmas.{cuts_to, earliest_push, latest_push}
use Rattle.pages_sublists.proofs.parts.reach_of.Goals as goal

pub loop-cut-preserved : goal.loop-cut-preserved
loop-cut-preserved c =
    let was = c.loop-cut.invariant in
    let end = c.args.end.seconds in
    let met = end ∷ seconds (take c.loop-cut.cut-index c.args.cuts.now) in
    let more = cuts_to c.args.cuts.now c.loop-cut.cut-index c.cut-item.result (omega arith) c.cut-item.is in
    record {
      from = rw (more, c.with-reach.ensures.from) (earliest_push met c.loop-cut.reach.from c.cut-item.result.seconds was.from);
      to = rw (more, c.with-reach.ensures.to) (latest_push met c.loop-cut.reach.to c.cut-item.result.seconds was.to);
    }
