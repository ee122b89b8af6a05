-- The header of a block, as numbers.
use Rattle.pages_codec.specs.declared.head.BlockHead.{BlockHead}
use Rattle.pages_codec.specs.Blocks.{Head}

abbrev pub head_of : BlockHead → Head
head_of h = record { count = h.count; size = h.size; top = h.top; first = h.first.0; last = h.last.0 }
