use Rattle.std.proofs.Common.{◌-◌, ◌≡◌, ◌<◌, ◌≤◌, ℕ, max, length}
use Rattle.query_top.specs.Sheets.{IsSheet, sheet_at}
use Rattle.query_top.specs.Lanes.{Keeps, Stands}
use Rattle.query_top.specs.Opening.{Opens, run_of}
use Rattle.query_top.proofs.opening.open_covering.Given as goal

abbrev pub invariant-loop-lane : goal.invariant-loop-lane
invariant-loop-lane g l = record {
  sheets : g.B.Blocks.sheets l.blocks ≡ g.B.Blocks.sheets l.fn.blocks;
  same : l.lane ≡ record l.fn.lane { opened = l.lane.opened; hits = l.lane.hits; cursor = l.lane.cursor };
  from : max l.fn.lane.opened l.fn.lane.cover ≤ l.lane.opened;
  to : l.lane.opened ≤ max (max l.fn.lane.opened l.fn.lane.cover) l.fn.lane.after;
  cursor : l.lane.cursor ≤ length l.lane.hits.items;
  opens : Opens g.B.Blocks.opens l.fn.blocks (run_of l.word (max l.fn.lane.opened l.fn.lane.cover) (l.lane.opened - max l.fn.lane.opened l.fn.lane.cover)) l.blocks;
  keeps : (at d : ℕ) → IsSheet at (sheet_at (g.B.Blocks.sheets l.fn.blocks) l.word) → d < l.fn.lane.border → Keeps at (sheet_at (g.B.Blocks.sheets l.fn.blocks) l.word) d l.fn.lane → Stands at (sheet_at (g.B.Blocks.sheets l.fn.blocks) l.word) d l.fn.lane → Keeps at (sheet_at (g.B.Blocks.sheets l.fn.blocks) l.word) d l.lane;
}

abbrev pub decreases-loop-lane : goal.decreases-loop-lane
decreases-loop-lane g l = l.fn.lane.after - l.lane.opened
