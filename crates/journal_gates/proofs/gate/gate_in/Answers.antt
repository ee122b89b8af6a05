use Rattle.std.proofs.Common.{arith, rules}
use Rattle.journal_gates.proofs.GateLemmas.{lies_open}
use Rattle.journal_gates.proofs.gate.gate_in.Goals as goal

pub returns-then-from-left-clause-lies : goal.returns-then-from-left-clause-lies
returns-then-from-left-clause-lies c = λ all long view.
    lies_open c.args.bytes.now all c.spelled_count-count.result (omega arith) view (search rules) c.spelled_count-count.ensures (omega (arith, long))
