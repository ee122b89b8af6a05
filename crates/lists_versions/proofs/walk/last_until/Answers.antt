use Rattle.lists_versions.proofs.Reaching.{behind-more, when-none}
use Rattle.lists_versions.proofs.walk.last_until.Goals as goal

pub returns-in-None-clause-reached : goal.returns-in-None-clause-reached
returns-in-None-clause-reached c = λ doc o.
    let r = c.loop-place.invariant.reached doc o in
    behind-more doc c.args.t.seconds c.args.log.now c.args.latest c.loop-place.place r (when-none c.step_back.result _ _ c.in-None.is (c.step_back.ensures.reaches doc r.of))
