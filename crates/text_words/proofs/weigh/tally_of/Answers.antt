use Rattle.std.proofs.Common.{arith, rules}
use Rattle.text_words.proofs.RunLemmas.{taken}
use Rattle.text_words.proofs.weigh.tally_of.Goals as goal

pub weigh_run-requires-clause-some : goal.weigh_run-requires-clause-some
weigh_run-requires-clause-some c =
    let (done, cut, tallied, _) = c.loop-run.invariant in
    let t = taken c.args.text.now done _ _ _ cut c.in-Some.ensures.some in
    (done, tallied, omega (arith, t.0, c.requires.short))

pub loop-run-preserved : goal.loop-run-preserved
loop-run-preserved c =
    let (done, cut, tallied, _) = c.loop-run.invariant in
    (_, (taken c.args.text.now done _ _ _ cut c.in-Some.ensures.some).1, c.in_ok-weigh_run.ensures done tallied, search rules)
