use Rattle.std.proofs.Common.{◌≡◌, ℕ, ◌+◌, ◌^◌, ◌<◌, length, take, drop, get_or}
use Rattle.query_top.specs.Firsts.{Each}
use Rattle.std.specs.List.{AllZip}
use Rattle.query_top.specs.Lanes.{AreAscending, IsPassed, given}
use Rattle.query_top.proofs.lanes.add_all.Given as goal

abbrev pub invariant-loop-lane : goal.invariant-loop-lane
invariant-loop-lane l = record {
  todo : drop l.lane-index l.lanes ≡ drop l.lane-index l.fn.lanes;
  sums : Each (λ lane. AreAscending lane.hits.items) l.fn.lanes → (k : ℕ) → k < length l.sums → get_or l.fn.sums k 0 + given l.at.seconds (l.from + k) (take l.lane-index l.fn.lanes) < 2 ^ 64
      → get_or l.sums k 0 ≡ get_or l.fn.sums k 0 + given l.at.seconds (l.from + k) (take l.lane-index l.fn.lanes);
  passed : AllZip (IsPassed l.at.seconds (l.from + length l.fn.sums)) (take l.lane-index l.fn.lanes) (take l.lane-index l.lanes);
}
