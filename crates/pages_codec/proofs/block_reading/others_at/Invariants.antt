use Rattle.std.proofs.Common.{◌≡◌, ◌-◌, map}
use Rattle.pages_codec.specs.Fields.{fields}
use Rattle.pages_codec.specs.Blocks.{others_at}
use Rattle.pages_codec.specs.Gives.{with_front}
use Rattle.pages_codec.proofs.block_reading.others_at.Given as goal

abbrev pub invariant-loop : goal.invariant-loop
invariant-loop l = with_front (map fields l.list.items) (others_at (l.count - l.counter) (fields l.last) l.rest) ≡ with_front (map fields l.fn.list.items) (others_at l.count (fields l.fn.last) l.bytes)
