use Rattle.std.proofs.Common.{◌≡◌, take, reverse}
use Rattle.query_lang.specs.Stacks.{is_even}
use Rattle.query_lang.proofs.reader.Reader.is_even.Given as goal

abbrev pub invariant-loop-kind : goal.invariant-loop-kind
invariant-loop-kind l = l.even ≡ is_even (reverse (take l.kind-index l.kind-items))
