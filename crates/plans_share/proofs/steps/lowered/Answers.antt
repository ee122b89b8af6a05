use Rattle.std.proofs.Common.{None, refl}
use Rattle.std.specs.Prelude.{slice_index_or}
use Rattle.plans_share.proofs.Cells.{nothing-lowered}
use Rattle.plans_share.proofs.steps.lowered.Goals as goal

pub loop-c-init : goal.loop-c-init
loop-c-init c = record {
  long = refl;
  lowered = λ k l. nothing-lowered c.args.below.now c.args.point k (slice_index_or c.args.row.items k None) (c.first_charge-c.ensures.early k l);
  kept = λ k l. refl;
}
