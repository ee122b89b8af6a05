use Rattle.std.proofs.Common.{◌≡◌, ℕ, take}
use Rattle.query_top.specs.Sheets.{IsSheet}
use Rattle.query_top.specs.Firsts.{Each}
use Rattle.query_top.specs.Lanes.{weights_of, AreFit, Lie}
use Rattle.query_top.proofs.lanes.lanes_of.Given as goal

abbrev pub invariant-loop-word : goal.invariant-loop-word
invariant-loop-word g l = record {
  fit : AreFit (take l.word (g.B.Blocks.sheets l.blocks)) l.lanes.items;
  weights : weights_of l.lanes.items ≡ take l.word l.weights;
  opened : Each (λ k. k.opened ≡ 0) l.lanes.items;
  lies : (at : ℕ) → Each (IsSheet at) (g.B.Blocks.sheets l.blocks) → Lie at 0 (take l.word (g.B.Blocks.sheets l.blocks)) l.lanes.items;
}
