use Rattle.std.proofs.Common.{◌≡◌, ◌⊎◌, ℕ, ◌<◌, ◌≤◌, ◌-◌, length, get_or}
use Rattle.query_top.specs.Sheets.{no_head}
use Rattle.query_top.proofs.moving.begun_from.Given as goal

abbrev pub invariant-loop-after : goal.invariant-loop-after
invariant-loop-after l = record {
  behind : l.cover ≤ l.after;
  within : l.after ≤ length l.heads;
  begun : (i : ℕ) → l.cover ≤ i → i < l.after → (get_or l.heads i no_head).first.0 ≤ l.d;
  high : (i : ℕ) → l.cover ≤ i → i < l.after → (get_or l.heads i no_head).top ≤ l.top;
  low : (l.top ≡ 0) ⊎ ((i : ℕ) × (l.cover ≤ i) × (i < l.after) × (l.top ≡ (get_or l.heads i no_head).top));
}

abbrev pub decreases-loop-after : goal.decreases-loop-after
decreases-loop-after l = length l.heads - l.after
