use Rattle.std.proofs.Common.{◌++◌, ℕ, List, length, ap, ◌∙◌, arith}
use Rattle.pages_codec.proofs.WriteLemmas.{block_length, block_is, head_is, cleared}
use Rattle.pages_codec.proofs.block_writing.put_block.Goals as goal

pub overflow_cast-head-2 : goal.overflow_cast-head-2
overflow_cast-head-2 c =
    let e = cleared c.args.list.now c.clear.new.self.items c.put_inside.new.bytes.items c.clear.ensures.items c.in_ok-put_inside.ensures in
    let h = block_length c.args.list.now c.requires.most in
    let l = ap (λ (xs : List ℕ). length xs) e in
    omega arith

pub returns : goal.returns
returns c =
    let e = cleared c.args.list.now c.clear.new.self.items c.put_inside.new.bytes.items c.clear.ensures.items c.in_ok-put_inside.ensures in
    block_is c.args.list.now c.args.bytes.now.items c.bytes_of.result c.put_inside.new.bytes.items c.extend_from_slice-2.new.self.items _ c.bytes_of.ensures
    (head_is c.args.list.now c.index-list-0.result c.put_inside.new.bytes.items c.len.result _ _ c.requires.some e (omega arith) c.summary-top.ensures.top c.summary-top.ensures.last)
    e
    (c.in_ok-extend_from_slice-2.ensures.items ∙ (λ i. c.in_ok-extend_from_slice.ensures.items i ++ c.deref.ensures.value i))
