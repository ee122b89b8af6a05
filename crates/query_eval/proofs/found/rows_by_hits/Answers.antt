use Rattle.std.proofs.Common.{List, arith, subst}
use Rattle.std.proofs.lemmas.List.{take_all}
use Rattle.query_eval.specs.Hits.{AreMade}
use Rattle.query_eval.specs.declared.hit.Hit.{Hit}
use Rattle.query_eval.proofs.MadeLemmas.{made_more}
use Rattle.query_eval.proofs.found.rows_by_hits.Goals as goal

pub loop-start-preserved : goal.loop-start-preserved
loop-start-preserved g c = (
  c.end_of-end.ensures.inside,
  c.end_of-end.ensures.next,
  λ alive tells. made_more alive c.args.query.now c.args.hits.now c.loop-start.start c.end_of-end.result _ c.end_of-end.ensures.behind c.end_of-end.ensures.inside (c.end_of-end.ensures.group _) c.loop-start.rows.items c.put_living.new.rows.items _ (c.loop-start.invariant.2 alive tells) c.in_ok-row.ensures (c.in_ok-put_living.ensures alive tells),
)

pub returns : goal.returns
returns g c = λ alive tells.
    let hits = c.args.hits.now in
    subst (λ (some : List Hit). AreMade alive c.args.query.now hits some c.loop-start.rows.items) (take_all c.loop-start.start hits (omega (arith, c.loop-start-test.false))) (c.loop-start.invariant.2 alive tells)
