use Rattle.pages_codec.specs.Blocks.{block_spelling, blocks_at}
use Rattle.pages_codec.proofs.LayoutLemmas.{layout_of}
use Rattle.pages_codec.proofs.BlockCodec.{block_codec}
use Rattle.pages_codec.proofs.laws.block_laws.Goals as goal

pub returns : goal.returns
returns c = layout_of block_spelling blocks_at block_codec
