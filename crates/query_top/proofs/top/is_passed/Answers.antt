use Rattle.std.proofs.Common.{arith, inr}
use Rattle.std.proofs.lemmas.Bool.Decides.{nat_tests}
use Rattle.query_top.specs.Firsts.{no_row}
use Rattle.query_top.proofs.RankLemmas.{ranked-full}
use Rattle.query_top.proofs.top.is_passed.Goals as goal

pub returns-then-rows-count-clause-yes : goal.returns-then-rows-count-clause-yes
returns-then-rows-count-clause-yes c = λ e few ranked.
    let n = c.if-rows-count.true in
    inr (ranked-full c.args.rows.now c.args.count c.args.most no_row c.requires (omega arith) (grind (arith, nat_tests, e)) few ranked)
