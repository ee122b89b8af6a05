use Rattle.std.proofs.Common.{ℕ, ◌<◌, ◌≤◌, ◌-◌, length, get_or}
use Rattle.query_top.specs.Sheets.{no_head}
use Rattle.query_top.proofs.moving.covering.Given as goal

abbrev pub invariant-loop-i : goal.invariant-loop-i
invariant-loop-i l = record { behind : l.cover ≤ l.i; within : l.i ≤ length l.heads; passed : (i : ℕ) → l.cover ≤ i → i < l.i → (get_or l.heads i no_head).last.0 < l.d }

abbrev pub decreases-loop-i : goal.decreases-loop-i
decreases-loop-i l = length l.heads - l.i
