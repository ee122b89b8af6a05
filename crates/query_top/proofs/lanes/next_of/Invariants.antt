use Rattle.std.proofs.Common.{◌≡◌, ℕ, ◌<◌, ◌≤◌, take}
use Rattle.query_top.specs.Firsts.{Each}
use Rattle.query_top.specs.Lanes.{AreAscending, given}
use Rattle.query_top.proofs.lanes.next_of.Given as goal

abbrev pub invariant-loop-lane : goal.invariant-loop-lane
invariant-loop-lane l = record {
  until : l.next ≤ l.end;
  none : Each (λ k. AreAscending k.hits.items) l.lanes → (at x : ℕ) → x < l.next → given at x (take l.lane-index l.lanes) ≡ 0;
}
