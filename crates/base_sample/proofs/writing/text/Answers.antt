use Rattle.std.proofs.Common.{arith, length, vec_len, ◌≡◌, ◌≤◌, rules}
use Rattle.base_sample.proofs.SampleLemmas.{length-text}
use Rattle.base_sample.proofs.writing.text.Goals as goal

pub new-requires : goal.new-requires
new-requires c =
    let n : vec_len c.in_ok-bytes.bytes ≡ length c.in_ok-bytes.bytes.items = search rules in
    let short : length c.in_ok-bytes.bytes.items ≤ 24 = rw c.in_ok-bytes.ensures (length-text c.args.start c.args.number) in
    omega (arith, n, short)
