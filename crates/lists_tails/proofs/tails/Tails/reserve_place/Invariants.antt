use Rattle.std.proofs.Common.{◌+◌, ◌-◌, ◌≡◌, ◌≤◌, ℕ, vec_len}
use Rattle.lists_tails.specs.Tails.{tail_of, room_of}
use Rattle.lists_tails.proofs.tails.Tails.reserve_place.Given as goal

abbrev pub invariant-loop-alloc : goal.invariant-loop-alloc
invariant-loop-alloc l = record {
  same : (w : ℕ) → tail_of l.self-inside.tails.items w ≡ tail_of l.fn.self w;
  room : (w : ℕ) → room_of l.fn.self w ≤ room_of l.self-inside.tails.items w;
}

abbrev pub decreases-loop-alloc : goal.decreases-loop-alloc
decreases-loop-alloc l = l.place + 1 - vec_len l.self-inside.tails
