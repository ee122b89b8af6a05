use Rattle.std.proofs.Common.{◌≡◌, ℕ, ◌<◌, ◌≤◌, ◌*◌, ◌^◌, take}
use Rattle.query_top.specs.Sheets.{IsSheet}
use Rattle.query_top.specs.Firsts.{Each}
use Rattle.query_top.specs.Lanes.{weighted, weights_of, opened_at, AreFit, Lie}
use Rattle.query_top.proofs.lanes.survey.Given as goal

abbrev pub invariant-loop-lane : goal.invariant-loop-lane
invariant-loop-lane g l = record {
  word : l.word ≡ l.lane-index;
  fit : AreFit (g.B.Blocks.sheets l.blocks) l.lanes;
  weights : weights_of l.lanes ≡ weights_of l.fn.lanes;
  opened : (word : ℕ) → opened_at l.lanes word ≡ opened_at l.fn.lanes word;
  lies : (at : ℕ) → Each (IsSheet at) (g.B.Blocks.sheets l.blocks) → Lie at l.d (g.B.Blocks.sheets l.blocks) l.fn.lanes → Lie at l.d (g.B.Blocks.sheets l.blocks) l.lanes;
  top : l.view.top ≡ weighted (λ k. k.top) (take l.lane-index l.lanes);
  room : l.view.top ≤ l.lane-index * 4294967296000;
  border : Each (λ k. (l.view.border ≤ k.border) × (l.view.start ≤ k.start)) (take l.lane-index l.lanes);
  far : (l.d < l.view.border) × (l.view.border ≤ l.view.start) × (l.view.start ≤ 2 ^ 32);
}
