use Rattle.std.proofs.Common.{◌≡◌, length, arith, refl}
use Rattle.query_top.proofs.RankLemmas.{ranked-all}
use Rattle.query_top.proofs.ranking.makes_room.Goals as goal

pub returns-then-score-index-clause-no : goal.returns-then-score-index-clause-no
returns-then-score-index-clause-no c = λ _.
    let n : length c.args.rows.now.items ≡ c.args.count = omega arith in
    (refl, n, λ k. ranked-all c.args.rows.now.items c.args.count c.args.score c.index.result.now c.requires.some n c.index.ensures c.if-score-index.true k)
