use Rattle.std.proofs.Common.{◌≡◌, ◌<◌, ◌≤◌, List, length, get_or, arith, ap, sym, subst, ◌∙◌}
use Rattle.pages_codec.specs.declared.head.BlockHead.{BlockHead}
use Rattle.query_top.specs.Sheets.{IsSheet, no_sheet}
use Rattle.query_top.specs.Lanes.{IsFit, Lies}
use Rattle.query_top.proofs.EachLemmas.{each-at, each-weaker}
use Rattle.query_top.proofs.LoopLemmas.{each-turn, weighted-turn}
use Rattle.query_top.proofs.RunLemmas.{opened-set}
use Rattle.query_top.proofs.ScoreLemmas.{weights-set}
use Rattle.query_top.proofs.ZipLemmas.{zip-at, zip-set, zip-long}
use Rattle.query_top.proofs.lanes.survey.Goals as goal

pub heads-requires : goal.heads-requires
heads-requires g c =
    let i = c.loop-lane.invariant in
    let test = c.loop-lane-test.true in
    let long = c.loop-lane.auto.lanes in
    let word = i.word in
    let n = zip-long (λ s k. IsFit (length s.heads) k) (g.B.Blocks.sheets c.args.blocks.now) c.args.lanes.now c.requires.fit in
    omega arith

pub move_to-requires : goal.move_to-requires
move_to-requires g c =
    let i = c.loop-lane.invariant in
    let test = c.loop-lane-test.true in
    let long = c.loop-lane.auto.lanes in
    let here : c.loop-lane.lane-index < length c.loop-lane.lanes = omega arith in
    let heads : c.heads.result.now ≡ (get_or (g.B.Blocks.sheets c.args.blocks.now) c.loop-lane.lane-index no_sheet).heads = c.heads.ensures ∙ ap (λ n. (get_or (g.B.Blocks.sheets c.args.blocks.now) n no_sheet).heads) i.word in
    subst (λ (hs : List BlockHead). IsFit (length hs) (get_or c.loop-lane.lanes c.loop-lane.lane-index c.lane-item.result)) (sym heads)
    (zip-at (λ s k. IsFit (length s.heads) k) (g.B.Blocks.sheets c.args.blocks.now) c.loop-lane.lanes c.loop-lane.lane-index no_sheet c.lane-item.result i.fit here)

pub loop-lane-preserved : goal.loop-lane-preserved
loop-lane-preserved g c =
    let i = c.loop-lane.invariant in
    let test = c.loop-lane-test.true in
    let long = c.loop-lane.auto.lanes in
    let n = zip-long (λ s k. IsFit (length s.heads) k) (g.B.Blocks.sheets c.args.blocks.now) c.args.lanes.now c.requires.fit in
    let here : c.loop-lane.lane-index < length c.loop-lane.lanes = omega arith in
    let there : c.loop-lane.lane-index < length (g.B.Blocks.sheets c.args.blocks.now) = omega arith in
    let heads : c.heads.result.now ≡ (get_or (g.B.Blocks.sheets c.args.blocks.now) c.loop-lane.lane-index no_sheet).heads = c.heads.ensures ∙ ap (λ n. (get_or (g.B.Blocks.sheets c.args.blocks.now) n no_sheet).heads) i.word in
    let far = c.move_to.ensures.far c.requires.near in
    let fit = c.move_to.ensures.fit in
    let near = fit.border in
    let word = i.word in
    let top = c.with-view.ensures.top in
    let most = c.with-view.ensures.most in
    let border = c.with-view.ensures.border in
    let start = c.with-view.ensures.start in
    let was = i.top in
    let room = i.room in
    let more = weighted-turn (λ k. k.top) c.loop-lane.lane-index c.loop-lane.lanes c.move_to.new.self here in
    record {
      word = omega (arith, word);
      fit = zip-set (λ s k. IsFit (length s.heads) k) (g.B.Blocks.sheets c.args.blocks.now) c.loop-lane.lanes c.loop-lane.lane-index no_sheet c.move_to.new.self i.fit here
          (subst (λ (hs : List BlockHead). IsFit (length hs) c.move_to.new.self) heads fit);
      weights = weights-set c.loop-lane.lanes c.loop-lane.lane-index c.move_to.new.self c.lane-item.result here c.move_to.ensures.weight ∙ i.weights;
      opened = λ w. opened-set c.loop-lane.lanes c.loop-lane.lane-index c.move_to.new.self c.lane-item.result w here c.move_to.ensures.opened ∙ i.opened w;
      lies = λ at sheets k. zip-set (λ s l. Lies at s c.args.d l) (g.B.Blocks.sheets c.args.blocks.now) c.loop-lane.lanes c.loop-lane.lane-index no_sheet c.move_to.new.self (i.lies at sheets k) here
          (c.move_to.ensures.lies at (get_or (g.B.Blocks.sheets c.args.blocks.now) c.loop-lane.lane-index no_sheet) heads (each-at (IsSheet at) c.loop-lane.lane-index (g.B.Blocks.sheets c.args.blocks.now) no_sheet there sheets) c.requires.near
          (zip-at (λ s l. Lies at s c.args.d l) (g.B.Blocks.sheets c.args.blocks.now) c.loop-lane.lanes c.loop-lane.lane-index no_sheet c.lane-item.result (i.lies at sheets k) here));
      top = omega (arith, top, was, more);
      room = omega (arith, most, room);
      border = each-turn (λ k. (c.with-view.result.border ≤ k.border) × (c.with-view.result.start ≤ k.start)) c.loop-lane.lane-index c.loop-lane.lanes c.move_to.new.self here
          (each-weaker (λ k. (c.loop-lane.view.border ≤ k.border) × (c.loop-lane.view.start ≤ k.start)) (λ k. (c.with-view.result.border ≤ k.border) × (c.with-view.result.start ≤ k.start)) (λ k q. (omega (arith, q.0, border), omega (arith, q.1, start))) _ i.border)
          (omega (arith, border), omega (arith, start));
      far = let f = i.far in (omega (arith, far, border, f.0), omega (arith, border, start, near, f.1), omega (arith, start, f.2));
    }
