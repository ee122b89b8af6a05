use Rattle.std.proofs.Common.{arith}
use Rattle.pages_codec.proofs.FlatLemmas.{spelling_more}
use Rattle.pages_codec.proofs.flat.encode_list.Goals as goal

pub loop-posting-preserved : goal.loop-posting-preserved
loop-posting-preserved c = spelling_more c.args.list.now c.loop-posting.posting-index c.posting-item.result c.loop-posting.bytes.items c.put_posting.new.bytes.items (omega arith) c.posting-item.is c.loop-posting.invariant c.in_ok-put_posting.ensures
