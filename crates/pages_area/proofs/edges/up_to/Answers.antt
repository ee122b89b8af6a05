use Rattle.std.proofs.Common.{arith}
use Rattle.pages_area.proofs.EdgeLemmas.{no_fall}
use Rattle.pages_area.proofs.edges.up_to.Goals as goal

pub returns-in-Ok-clause-before : goal.returns-in-Ok-clause-before
returns-in-Ok-clause-before c k lt = omega (arith, no_fall c.args.edges.now k c.in-Ok.at c.requires (omega (arith, lt)) c.in-Ok.ensures.0, c.in-Ok.ensures.1)

pub returns-in-Ok-clause-behind : goal.returns-in-Ok-clause-behind
returns-in-Ok-clause-behind c k from within = omega (arith, c.requires.rise c.in-Ok.at k (omega (arith, from)) within, c.in-Ok.ensures.1)
