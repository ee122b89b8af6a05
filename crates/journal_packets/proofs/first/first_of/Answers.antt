use Rattle.std.proofs.Common.{arith, ◌+◌, ◌≤◌, length}
use Rattle.journal_packets.proofs.FirstLemmas.{split}
use Rattle.journal_packets.proofs.first.first_of.Goals as goal

pub returns-clause-begins : goal.returns-clause-begins
returns-clause-begins c =
    let fits : 12 + c.size_in-size.result ≤ length c.args.bytes.now = omega arith in (
      fits,
      omega arith,
      omega arith,
      omega arith,
      split c.args.bytes.now c.number_in-number.result c.size_in-size.result fits c.number_in-number.ensures.spelled c.size_in-size.ensures.spelled,
    )
