use Rattle.std.proofs.Common.{◌≡◌, ℕ, ◌+◌, ◌-◌, ◌*◌, ◌^◌, ◌<◌, ◌≤◌, length, drop, get_or}
use Rattle.query_top.specs.Lanes.{tally}
use Rattle.query_top.proofs.lane.Lane.add.Given as goal

abbrev pub invariant-loop-self : goal.invariant-loop-self
invariant-loop-self l = record {
  sums : (k : ℕ) → k < length l.sums → get_or l.fn.sums k 0 + l.fn.self.weight * tally l.at.seconds (l.from + k) (drop l.fn.self.cursor l.fn.self.hits.items) < 2 ^ 64 → get_or l.sums k 0 + l.fn.self.weight * tally l.at.seconds (l.from + k) (drop l.self.cursor l.fn.self.hits.items) ≡ get_or l.fn.sums k 0 + l.fn.self.weight * tally l.at.seconds (l.from + k) (drop l.fn.self.cursor l.fn.self.hits.items);
  left : (x : ℕ) → l.from + length l.sums ≤ x → tally l.at.seconds x (drop l.self.cursor l.fn.self.hits.items) ≡ tally l.at.seconds x (drop l.fn.self.cursor l.fn.self.hits.items);
  cursor : l.self.cursor ≤ length l.fn.self.hits.items;
  same : l.self ≡ record l.fn.self { cursor = l.self.cursor };
}

abbrev pub decreases-loop-self : goal.decreases-loop-self
decreases-loop-self l = length l.fn.self.hits.items - l.self.cursor
