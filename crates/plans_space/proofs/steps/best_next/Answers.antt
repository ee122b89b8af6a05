use Rattle.std.proofs.Common.{sym}
use Rattle.plans_space.specs.Steps.{through}
use Rattle.plans_space.proofs.steps.best_next.Goals as goal

pub loop-j-preserved : goal.loop-j-preserved
loop-j-preserved c = c.better-best.ensures (through c.args.cells.now c.args.width c.args.legs.now.charges.items c.args.legs.now.costs.items c.args.c) (sym c.through.ensures) c.loop-j.invariant
