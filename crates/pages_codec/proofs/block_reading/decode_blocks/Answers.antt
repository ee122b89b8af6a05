use Rattle.std.proofs.Common.{arith}
use Rattle.pages_codec.specs.Blocks.{block_spelling, blocks_at}
use Rattle.pages_codec.proofs.LayoutLemmas.{decodes}
use Rattle.pages_codec.proofs.BlockCodec.{block_codec}
use Rattle.pages_codec.proofs.block_reading.decode_blocks.Goals as goal

pub returns : goal.returns
returns c = decodes block_spelling blocks_at block_codec c.args.bytes.now c.blocks_at.result (λ i. omega (arith, c.type_inv.bytes i)) c.blocks_at.ensures.found c.blocks_at.ensures.fault
