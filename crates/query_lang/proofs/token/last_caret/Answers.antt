use Rattle.std.proofs.Common.{arith}
use Rattle.query_lang.proofs.TokenLemmas.{parted_here}
use Rattle.query_lang.proofs.token.last_caret.Goals as goal

pub returns-then-bytes-i-eq94-clause-parts : goal.returns-then-bytes-i-eq94-clause-parts
returns-then-bytes-i-eq94-clause-parts c =
    let t = c.loop-i-test.true in
    let w = c.loop-i.invariant.within in
    parted_here c.loop-i.i _ c.args.bytes.now (omega arith) (omega arith) c.if-bytes-i-eq94.true c.loop-i.invariant.none
