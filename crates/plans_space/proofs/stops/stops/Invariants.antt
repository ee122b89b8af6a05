use Rattle.std.proofs.Common.{◌≡◌, ◌<◌, ◌*◌, ◌-◌, ℕ, length}
use Rattle.std.specs.Prelude.{min, slice_index}
use Rattle.plans_space.proofs.stops.stops.Given as goal

abbrev pub invariant-loop-i : goal.invariant-loop-i
invariant-loop-i l = record { long : length l.places.items ≡ l.i; each : (k : ℕ) → k < l.i → slice_index l.places.items k ≡ min ((l.gaps - k) * l.stride) l.last }
