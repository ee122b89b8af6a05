use Rattle.std.specs.Prelude.{◌≡◌, ◌<◌, ℕ, slice_index}
use Rattle.plans_space.proofs.judging.stop_at.Given as goal

abbrev pub invariant-loop-j : goal.invariant-loop-j
invariant-loop-j l = (i : ℕ) → i < l.j → slice_index l.times (slice_index l.places i) ≡ l.cut → ⊥
