use Rattle.std.proofs.Common.{arith, ap, List, ◌∙◌}
use Rattle.std.specs.Prelude.{map}
use Rattle.std.proofs.lemmas.List.{take_all}
use Rattle.plans_space.specs.declared.point.Point.{Point}
use Rattle.plans_share.specs.Offers.{in_units}
use Rattle.plans_share.proofs.offering.charged.Goals as goal

pub returns : goal.returns
returns c = c.loop-point.invariant ∙ ap (λ (l : List Point). map (in_units c.args.shared.unit c.args.own.unit) l) (take_all c.loop-point.point-index c.args.points.now (omega (arith, c.loop-point-test.false)))
