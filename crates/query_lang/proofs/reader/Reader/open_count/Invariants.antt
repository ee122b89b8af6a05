use Rattle.std.proofs.Common.{◌≡◌, ◌≤◌, take, reverse}
use Rattle.query_lang.specs.Stacks.{open_count}
use Rattle.query_lang.proofs.reader.Reader.open_count.Given as goal

abbrev pub invariant-loop-kind : goal.invariant-loop-kind
invariant-loop-kind l = (l.count ≡ open_count (reverse (take l.kind-index l.kind-items))) × (l.count ≤ l.kind-index)
