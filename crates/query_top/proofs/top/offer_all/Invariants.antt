use Rattle.std.proofs.Common.{◌≡◌, ◌⊎◌, true, ℕ, ◌+◌, ◌<◌, ◌≤◌, length, get_or}
use Rattle.query_top.specs.Firsts.{AreFirst, below, shows}
use Rattle.query_top.proofs.top.offer_all.Given as goal

abbrev pub invariant-loop-k : goal.invariant-loop-k
invariant-loop-k l = record {
  few : length l.rows.items ≤ l.count;
  first : (of : ℕ → ℕ) → ((k : ℕ) → k < length l.sums → of (l.from + k) ≡ get_or l.sums k 0) → AreFirst (below l.from of) l.count l.fn.rows.items → AreFirst (below (l.from + l.k) of) l.count l.rows.items;
  shown : (x : ℕ) → shows l.rows.items x ≡ true → (shows l.fn.rows.items x ≡ true) ⊎ ((l.from ≤ x) × (x < l.from + l.k));
}
