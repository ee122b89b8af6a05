use Rattle.std.proofs.Common.{arith}
use Rattle.plans_choice.proofs.ChoiceLemmas.{early_cut}
use Rattle.plans_choice.proofs.parts.times_of.Goals as goal

pub push_time-requires : goal.push_time-requires
push_time-requires c =
    omega (arith, early_cut c.args.cuts.now c.args.horizon.seconds c.loop-cut.cut-index c.requires.ascending c.requires.last c.loop-cut-test.true, c.args.horizon.before_now)
