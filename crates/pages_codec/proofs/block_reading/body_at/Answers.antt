use Rattle.std.proofs.Common.{arith}
use Rattle.pages_codec.specs.Fields.{seen}
use Rattle.base_types.proofs.Bytes.{IsBytes-take}
use Rattle.pages_codec.proofs.BlockLaws.{postings_reads}
use Rattle.pages_codec.proofs.block_reading.body_at.Goals as goal

pub overflow_add-result : goal.overflow_add-result
overflow_add-result c =
    let inside = postings_reads (seen c.args.before) c.args.head.first.0 c.args.head.count c.split_at.result.0.now c.requires.doc c.requires.some (rw c.split_at.ensures.front (IsBytes-take c.args.head.size c.args.rest.now (λ i. omega (arith, c.type_inv.rest i)))) in
    let h = inside.fails c.in-Err-Form.left (rw c.in-Err-Form.field-0-is at c.in-Err-Form.ensures) in
    rw c.in-Err-Form.field-0-is (omega (arith, h, c.split_at.ensures.front_len, c.split_at.ensures.back_len))
