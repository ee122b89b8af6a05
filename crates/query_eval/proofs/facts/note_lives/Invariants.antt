use Rattle.std.proofs.Common.{◌≡◌, ◌++◌, map, take}
use Rattle.query_eval.specs.Facts.{life_fact}
use Rattle.query_eval.proofs.facts.note_lives.Given as goal

abbrev pub invariant-loop-life : goal.invariant-loop-life
invariant-loop-life l = l.facts.items ≡ l.fn.facts.items ++ map life_fact (take l.life-index l.lives)
