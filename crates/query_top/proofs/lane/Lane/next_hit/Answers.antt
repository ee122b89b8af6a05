use Rattle.std.proofs.Common.{arith}
use Rattle.query_top.proofs.LaneLemmas.{tally-before}
use Rattle.query_top.proofs.lane.Lane.next_hit.Goals as goal

pub returns-then-self-len : goal.returns-then-self-len
returns-then-self-len c = λ asc at x l.
    let doc = c.from.ensures in
    tally-before at x c.args.self.now.cursor c.args.self.now.hits.items c.index.result.now (omega arith) c.index.ensures asc (omega (arith, l, doc))
