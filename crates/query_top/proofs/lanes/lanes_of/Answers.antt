use Rattle.std.proofs.Common.{◌≡◌, ◌<◌, ◌+◌, ◌++◌, ◌∷◌, [], List, length, take, get_or, arith, ap, sym, subst, ◌∙◌}
use Rattle.query_top.specs.Sheets.{Sheet, IsSheet, no_sheet}
use Rattle.query_top.specs.Firsts.{Each}
use Rattle.query_top.specs.Lanes.{AreFit, IsFit, Lie, Lies, weights_of}
use Rattle.query_top.specs.declared.lane.Lane.{Lane}
use Rattle.query_top.proofs.EachLemmas.{each-at, each-append, take-at}
use Rattle.query_top.proofs.ScoreLemmas.{weights-push}
use Rattle.query_top.proofs.ZipLemmas.{zip-more}
use Rattle.query_top.proofs.lanes.lanes_of.Goals as goal

pub loop-word-preserved : goal.loop-word-preserved
loop-word-preserved g c =
    let i = c.loop-word.invariant in
    let test = c.loop-word-test.true in
    let words = c.requires.words in
    let there : c.loop-word.word < length (g.B.Blocks.sheets c.args.blocks.now) = omega arith in
    let push : c.push.new.self.items ≡ c.loop-word.lanes.items ++ c.in_ok-lane.lane ∷ [] = c.in_ok-push.ensures.items in
    let more : take (c.loop-word.word + 1) (g.B.Blocks.sheets c.args.blocks.now) ≡ take c.loop-word.word (g.B.Blocks.sheets c.args.blocks.now) ++ get_or (g.B.Blocks.sheets c.args.blocks.now) c.loop-word.word no_sheet ∷ []
    = take-at c.loop-word.word (g.B.Blocks.sheets c.args.blocks.now) no_sheet there in
    record {
      fit = subst (λ (ls : List Lane). AreFit (take (c.loop-word.word + 1) (g.B.Blocks.sheets c.args.blocks.now)) ls) (sym push) (subst (λ (ss : List Sheet). AreFit ss (c.loop-word.lanes.items ++ c.in_ok-lane.lane ∷ [])) (sym more)
          (zip-more (λ s k. IsFit (length s.heads) k) (take c.loop-word.word (g.B.Blocks.sheets c.args.blocks.now)) c.loop-word.lanes.items (get_or (g.B.Blocks.sheets c.args.blocks.now) c.loop-word.word no_sheet) c.in_ok-lane.lane i.fit
          (c.in_ok-lane.ensures.fit (length (get_or (g.B.Blocks.sheets c.args.blocks.now) c.loop-word.word no_sheet).heads))));
      weights = ap weights_of push ∙ weights-push c.loop-word.lanes.items c.in_ok-lane.lane ∙ ap (λ ws. ws ++ c.in_ok-lane.lane.weight ∷ []) i.weights ∙ ap (λ w. take c.loop-word.word c.args.weights.now ++ w ∷ []) c.in_ok-lane.ensures.weight
          ∙ sym (take-at c.loop-word.word c.args.weights.now 0 (omega arith));
      opened = subst (Each (λ (k : Lane). k.opened ≡ 0)) (sym push) (each-append (λ (k : Lane). k.opened ≡ 0) c.loop-word.lanes.items (c.in_ok-lane.lane ∷ []) i.opened (c.in_ok-lane.ensures.opened, tt));
      lies = λ at sheets. subst (λ (ls : List Lane). Lie at 0 (take (c.loop-word.word + 1) (g.B.Blocks.sheets c.args.blocks.now)) ls) (sym push) (subst (λ (ss : List Sheet). Lie at 0 ss (c.loop-word.lanes.items ++ c.in_ok-lane.lane ∷ [])) (sym more)
          (zip-more (λ s k. Lies at s 0 k) (take c.loop-word.word (g.B.Blocks.sheets c.args.blocks.now)) c.loop-word.lanes.items (get_or (g.B.Blocks.sheets c.args.blocks.now) c.loop-word.word no_sheet) c.in_ok-lane.lane (i.lies at sheets)
          (c.in_ok-lane.ensures.lies at (get_or (g.B.Blocks.sheets c.args.blocks.now) c.loop-word.word no_sheet) c.flat.ensures (each-at (IsSheet at) c.loop-word.word (g.B.Blocks.sheets c.args.blocks.now) no_sheet there sheets))));
    }
