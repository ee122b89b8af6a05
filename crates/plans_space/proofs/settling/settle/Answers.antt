use Rattle.std.proofs.Common.{arith}
use Rattle.plans_space.proofs.CellLemmas.{cells_more}
use Rattle.plans_space.proofs.settling.settle.Goals as goal

pub loop-i-preserved : goal.loop-i-preserved
loop-i-preserved c = record {
  some = omega arith;
  cells = rw c.in_ok-append.ensures.items (cells_more _ _ _ _ _ _ _ _ c.loop-i.invariant.some c.loop-i.invariant.cells c.in_ok-legs.ensures.charge c.in_ok-legs.ensures.cost c.in_ok-legs.ensures.small c.in_ok-legs.ensures.costs_long (rw c.deref.ensures.value at c.in_ok-next.ensures));
}
