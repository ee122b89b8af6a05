use Rattle.std.proofs.Common.{rules, arith}
use Rattle.machine_mem.proofs.PickLemmas.{tail_byte}
use Rattle.machine_mem.proofs.store.Remains.pick.Goals as goal

pub returns-in-Byte : goal.returns-in-Byte
returns-in-Byte c =
    let was = c.args.self.now in
    tail_byte was.stable.items was.pending.items was.written.items c.args.tail c.saturating_add-wanted.result c.min-len.result c.in-Byte.byte c.len-least.result _
    c.deref-in-Byte.result.now c.in_ok-image.image.items c.fill_open.new.bytes was.sound (omega arith) (omega arith) c.in-Byte.is
    c.deref-in-Byte.ensures.value (omega arith) (search rules) (omega arith) (rw c.deref_mut.ensures.value at c.fill_open.ensures.filled) c.fill_open.ensures.bytes
