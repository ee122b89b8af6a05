use Rattle.std.proofs.Common.{◌≡◌, ◌+◌, length, take, [], ◌∷◌, ◌++◌, sym, ap, ◌∙◌, arith, subst}
use Rattle.std.proofs.lemmas.List.{take_more}
use Rattle.query_lang.specs.Numbered.{named}
use Rattle.query_lang.proofs.NumberLemmas.{AreNumbered, numbered-more}
use Rattle.query_lang.proofs.numbering.numbered.Goals as goal

pub loop-op-init : goal.loop-op-init
loop-op-init c = record {
  words_are = c.new-words.ensures.empty;
  ops_are = ap (named c.new-words.result.keys) c.new-ops.ensures.items;
  placed = λ k d l. absurd (let h = ap length c.new-ops.ensures.items in omega (arith, h, l));
}

pub loop-op-preserved : goal.loop-op-preserved
loop-op-preserved c =
    let n = c.in_ok-number.ensures in
    let h = c.op-item.is in
    let e : take (c.loop-op.op-index + 1) c.args.laid.now ≡ take c.loop-op.op-index c.args.laid.now ++ c.op-item.result ∷ [] = take_more c.args.laid.now c.loop-op.op-index c.op-item.result c.loop-op-test.true ∙ ap (λ x. take c.loop-op.op-index c.args.laid.now ++ x ∷ []) (sym h) in
    subst (λ done. AreNumbered done c.number.new.words.keys c.push.new.self.items) (sym e)
    (subst (λ ops. AreNumbered (take c.loop-op.op-index c.args.laid.now ++ c.op-item.result ∷ []) c.number.new.words.keys ops) (sym c.in_ok-push.ensures.items)
    (numbered-more _ _ _ _ _ _ c.loop-op.invariant n.words n.op n.placed))
