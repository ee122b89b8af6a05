use Rattle.std.proofs.Common.{◌≡◌, ◌∷◌, ◌++◌, length, map}
use Rattle.std.specs.List.{flat_map}
use Rattle.lists_postings.specs.Lists.{IsList}
use Rattle.pages_codec.specs.Fields.{fields}
use Rattle.pages_codec.specs.Numbers.{number_bytes}
use Rattle.pages_codec.specs.Blocks.{other_numbers}
use Rattle.pages_codec.proofs.block_writing.put_others.Given as goal

abbrev pub invariant-loop-posting : goal.invariant-loop-posting
invariant-loop-posting l = record {
  list : IsList (l.last ∷ l.rest);
  same : l.bytes.items ++ flat_map (number_bytes 6) (other_numbers (fields l.last) (map fields l.rest)) ≡ l.fn.bytes.items ++ flat_map (number_bytes 6) (other_numbers (fields l.fn.last) (map fields l.fn.list));
}

abbrev pub decreases-loop-posting : goal.decreases-loop-posting
decreases-loop-posting l = length l.rest
