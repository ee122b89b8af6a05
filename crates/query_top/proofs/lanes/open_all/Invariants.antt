use Rattle.std.proofs.Common.{◌≡◌, ℕ, ◌<◌, take, drop}
use Rattle.std.specs.List.{AllZip}
use Rattle.query_top.specs.Sheets.{IsSheet}
use Rattle.query_top.specs.Firsts.{Each}
use Rattle.query_top.specs.Lanes.{Lie, IsOpened}
use Rattle.query_top.specs.Opening.{Opens}
use Rattle.query_top.specs.Steps.{runs}
use Rattle.query_top.proofs.lanes.open_all.Given as goal

abbrev pub invariant-loop-lane : goal.invariant-loop-lane
invariant-loop-lane g l = record {
  word : l.word ≡ l.lane-index;
  sheets : g.B.Blocks.sheets l.blocks ≡ g.B.Blocks.sheets l.fn.blocks;
  todo : drop l.lane-index l.lanes ≡ drop l.lane-index l.fn.lanes;
  opens : Opens g.B.Blocks.opens l.fn.blocks (runs 0 (take l.lane-index l.fn.lanes)) l.blocks;
  opened : AllZip IsOpened (take l.lane-index l.fn.lanes) (take l.lane-index l.lanes);
  lies : (at d : ℕ) → Each (IsSheet at) (g.B.Blocks.sheets l.fn.blocks) → Each (λ k. d < k.border) l.fn.lanes → Lie at d (g.B.Blocks.sheets l.fn.blocks) l.fn.lanes
      → Lie at d (g.B.Blocks.sheets l.fn.blocks) l.lanes;
}
