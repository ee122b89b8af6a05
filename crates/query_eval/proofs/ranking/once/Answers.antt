use Rattle.std.proofs.Common.{◌+◌, ◌++◌, drop, sym, ap, ◌∙◌, append_assoc}
use Rattle.query_eval.specs.Found.{once}
use Rattle.query_eval.proofs.ranking.once.Goals as goal

pub loop-i-preserved : goal.loop-i-preserved
loop-i-preserved c =
    let next = once (drop (c.loop-i.i + 1) c.args.rows.now) in
    ap (λ l. l ++ next) c.in_ok-put.ensures ∙ append_assoc c.loop-i.all.items _ next ∙ ap (λ l. c.loop-i.all.items ++ l) (sym c.kept.ensures) ∙ c.loop-i.invariant
