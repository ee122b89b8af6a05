use Rattle.std.proofs.Common.{◌≡◌, List, take, sym, subst, ◌∙◌, arith}
use Rattle.std.proofs.lemmas.List.{take_more, take_all}
use Rattle.query_eval.specs.Firsts.{IsFront}
use Rattle.query_eval.specs.declared.answer.Row.{Row}
use Rattle.query_eval.proofs.FirstLemmas.{front-first}
use Rattle.query_eval.proofs.ranking.first_of.Goals as goal

pub loop-row-preserved : goal.loop-row-preserved
loop-row-preserved c =
    let items = c.deref-row-items.result.now in
    let i = c.loop-row.row-index in
    let more = take_more items i _ (let h = c.loop-row-test.true in omega arith) in
    subst (λ (l : List Row). IsFront c.args.count l c.take_in.new.front.rows.items c.take_in.new.front.last) (sym more) (c.in_ok-take_in.ensures (take i items) c.loop-row.invariant)

pub returns : goal.returns
returns c =
    let items = c.deref-row-items.result.now in
    let all : take c.loop-row.row-index items ≡ c.args.rows.items = take_all c.loop-row.row-index items (let h = c.loop-row-test.false in omega arith) ∙ c.deref-row-items.ensures.value in
    front-first c.args.count c.args.rows.items c.loop-row.front.rows.items c.shorten-2.new.rows.items c.loop-row.front.last
    (subst (λ (l : List Row). IsFront c.args.count l c.loop-row.front.rows.items c.loop-row.front.last) all c.loop-row.invariant) c.in_ok-shorten-2.ensures
