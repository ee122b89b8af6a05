use Rattle.std.proofs.Common.{◌≡◌, map, take}
use Rattle.plans_share.specs.Offers.{in_units}
use Rattle.plans_share.proofs.offering.charged.Given as goal

abbrev pub invariant-loop-point : goal.invariant-loop-point
invariant-loop-point l = l.front.items ≡ map (in_units l.shared.unit l.own.unit) (take l.point-index l.points)
