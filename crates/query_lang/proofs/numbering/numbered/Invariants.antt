use Rattle.std.proofs.Common.{take}
use Rattle.query_lang.proofs.NumberLemmas.{AreNumbered}
use Rattle.query_lang.proofs.numbering.numbered.Given as goal

abbrev pub invariant-loop-op : goal.invariant-loop-op
invariant-loop-op l = AreNumbered (take l.op-index l.laid) l.words.keys l.ops.items
