use Rattle.std.proofs.Common.{◌≡◌, ◌≤◌, ℕ, take}
use Rattle.lists_tails.specs.Tails.{tail_of, room_of, HaveRoom}
use Rattle.lists_tails.proofs.tails.Tails.reserve_turn.Given as goal

abbrev pub invariant-loop-x : goal.invariant-loop-x
invariant-loop-x l = record {
  room_for : HaveRoom (take l.x-index l.new) l.self;
  same : (w : ℕ) → tail_of l.self w ≡ tail_of l.fn.self w;
  room : (w : ℕ) → room_of l.fn.self w ≤ room_of l.self w;
}
