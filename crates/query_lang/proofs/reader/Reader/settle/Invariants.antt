use Rattle.std.proofs.Common.{◌≡◌, length}
use Rattle.query_lang.specs.Stacks.{settled}
use Rattle.query_lang.proofs.reader.Reader.settle.Given as goal

abbrev pub invariant-loop-op : goal.invariant-loop-op
invariant-loop-op l = settled l.self.kinds l.self.laid ≡ settled l.fn.self.kinds l.fn.self.laid

abbrev pub decreases-loop-op : goal.decreases-loop-op
decreases-loop-op l = length l.self.kinds
