use Rattle.std.proofs.Common.{◌∙◌, ap, sym, append_assoc, ◌+◌, ◌++◌, ◌∷◌, [], get_or, arith}
use Rattle.lists_index.proofs.Measures.{numbered-more}
use Rattle.lists_index.proofs.measure.number_counts.Goals as goal

pub loop-i-preserved : goal.loop-i-preserved
loop-i-preserved c =
    c.in_ok-push.ensures.items ∙ ap (λ l. l ++ (c.args.words + c.loop-i.i, get_or c.args.fresh.now c.loop-i.i 0) ∷ []) c.loop-i.invariant
    ∙ append_assoc c.args.known.items _ _ ∙ ap (λ l. c.args.known.items ++ l) (sym (numbered-more c.args.words c.loop-i.i c.args.fresh.now (omega arith)))
