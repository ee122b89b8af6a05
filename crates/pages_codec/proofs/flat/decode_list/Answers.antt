use Rattle.std.proofs.Common.{arith}
use Rattle.pages_codec.specs.Flat.{spelling, list_at}
use Rattle.pages_codec.proofs.LayoutLemmas.{decodes}
use Rattle.pages_codec.proofs.FlatLemmas.{flat_codec}
use Rattle.pages_codec.proofs.flat.decode_list.Goals as goal

pub returns : goal.returns
returns c = decodes spelling list_at flat_codec c.args.bytes.now c.list_at.result (λ i. omega (arith, c.type_inv.bytes i)) c.list_at.ensures.found c.list_at.ensures.fault
