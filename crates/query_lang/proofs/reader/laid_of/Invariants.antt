use Rattle.std.proofs.Common.{◌≡◌, drop, []}
use Rattle.query_lang.specs.Stacks.{laid_from, wanting}
use Rattle.query_lang.proofs.reader.laid_of.Given as goal

abbrev pub invariant-loop-placed : goal.invariant-loop-placed
invariant-loop-placed l = laid_from l.end l.reader (drop l.placed-index l.tokens) ≡ laid_from l.end (wanting [] []) l.tokens
