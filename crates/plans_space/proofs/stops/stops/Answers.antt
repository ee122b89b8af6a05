use Rattle.std.proofs.Common.{rules, arith, subst, ℕ, ◌+◌, ◌-◌, ◌*◌, ◌<◌, ◌≡◌}
use Rattle.std.specs.Prelude.{slice_index, min}
use Rattle.plans_space.proofs.StopLemmas.{stops_are}
use Rattle.plans_space.proofs.stops.stops.Goals as goal

pub returns : goal.returns
returns c =
    let e : c.loop-i.i ≡ c.div_ceil-gaps.result + 1 = search rules in
    stops_are c.args.boundaries c.div_ceil-gaps.result c.div_ceil-stride.result c.loop-i.places.items c.requires.some c.div_ceil-stride.ensures c.div_ceil-gaps.ensures (omega (arith, c.loop-i.invariant.long, e))
    (subst (λ i. (k : ℕ) → k < i → slice_index c.loop-i.places.items k ≡ min ((c.div_ceil-gaps.result - k) * c.div_ceil-stride.result) (c.args.boundaries - 1)) e c.loop-i.invariant.each)
