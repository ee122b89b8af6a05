use Rattle.std.proofs.Common.{length}
use Rattle.lists_postings.specs.Lists.{IsList}
use Rattle.pages_codec.specs.Blocks.{block_spelling}
use Rattle.pages_codec.proofs.WriteLemmas.{IsCut}
use Rattle.pages_codec.proofs.block_writing.encode_blocks.Given as goal

abbrev pub invariant-loop-rest : goal.invariant-loop-rest
invariant-loop-rest l = record {
  list : IsList l.rest;
  cut : IsCut (block_spelling l.list) l.bytes.items l.rest;
}

abbrev pub decreases-loop-rest : goal.decreases-loop-rest
decreases-loop-rest l = length l.rest
