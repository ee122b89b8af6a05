use Rattle.std.proofs.Common.{◌≡◌, map, drop}
use Rattle.pages_codec.specs.Fields.{fields}
use Rattle.pages_codec.specs.Blocks.{top_of, last_doc}
use Rattle.pages_codec.proofs.block_reading.summary.Given as goal

abbrev pub invariant-loop-posting : goal.invariant-loop-posting
invariant-loop-posting l = record {
  top : top_of l.top (map fields (drop l.posting-index l.list)) ≡ top_of 0 (map fields l.list);
  last : last_doc l.last (map fields (drop l.posting-index l.list)) ≡ last_doc 0 (map fields l.list);
}
