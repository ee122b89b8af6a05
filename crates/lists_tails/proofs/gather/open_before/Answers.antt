use Rattle.std.proofs.Common.{rules, ◌≢◌}
use Rattle.lists_tails.proofs.Gathered.{open-other}
use Rattle.lists_tails.proofs.gather.open_before.Goals as goal

pub returns-clause-open : goal.returns-clause-open
returns-clause-open c = λ d s w. open-other c.args.turns.now c.args.i c.index-turns-i.result c.index-turns-i-2.result d c.if-i-eq0.false c.requires.inside c.index-turns-i.is c.index-turns-i-2.is (let n : c.index-turns-i.result.doc.0 ≢ c.index-turns-i-2.result.doc.0 = search rules in n) s w
