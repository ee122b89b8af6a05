use Rattle.std.proofs.Common.{◌≡◌, ◌<◌, ◌≤◌, ◌^◌, take}
use Rattle.query_top.specs.Sheets.{greatest}
use Rattle.query_top.specs.Firsts.{Each}
use Rattle.query_top.proofs.lanes.range_of.Given as goal

abbrev pub invariant-loop-p : goal.invariant-loop-p
invariant-loop-p l = record {
  docs : Each (λ p. (l.range.from ≤ p.doc.0) × (p.doc.0 < l.range.to)) (take l.p-index l.list);
  top : l.range.top ≡ greatest (take l.p-index l.list);
  ends : l.range.to ≤ 2 ^ 32;
}
