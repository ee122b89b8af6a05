use Rattle.std.proofs.Common.{◌≡◌, ◌-◌, ◌^◌, ◌≤◌, List, [], length}
use Rattle.query_top.specs.Sheets.{IsSheet}
use Rattle.query_top.specs.Firsts.{Each}
use Rattle.query_top.specs.Lanes.{weights_of, AreFit}
use Rattle.query_top.specs.Opening.{Opened, Opens}
use Rattle.query_top.specs.Steps.{AreThrough}
use Rattle.query_top.proofs.top.search.Given as goal

abbrev pub invariant-loop-d : goal.invariant-loop-d
invariant-loop-d g l = record {
  sheets : g.B.Blocks.sheets l.blocks ≡ g.B.Blocks.sheets l.fn.blocks;
  few : length l.rows.items ≤ l.count;
  fit : AreFit (g.B.Blocks.sheets l.fn.blocks) l.lanes;
  weights : weights_of l.lanes ≡ weights_of l.fn.lanes;
  near : l.d ≤ 2 ^ 32;
  os : List Opened;
  opens : Opens g.B.Blocks.opens l.fn.blocks os l.blocks;
  through : Each (IsSheet l.at.seconds) (g.B.Blocks.sheets l.fn.blocks) → AreThrough l.at.seconds (weights_of l.fn.lanes) (g.B.Blocks.sheets l.fn.blocks) l.count 0 l.fn.lanes l.fn.rows.items []
      → AreThrough l.at.seconds (weights_of l.fn.lanes) (g.B.Blocks.sheets l.fn.blocks) l.count l.d l.lanes l.rows.items os;
}

abbrev pub decreases-loop-d : goal.decreases-loop-d
decreases-loop-d g l = 2 ^ 32 - l.d
