use Rattle.std.proofs.Common.{◌≡◌, ◌++◌, drop, map}
use Rattle.query_eval.specs.Facts.{life_fact, facts_of}
use Rattle.query_eval.proofs.facts.gather.Given as goal

abbrev pub invariant-loop-place : goal.invariant-loop-place
invariant-loop-place l = l.facts.items ++ facts_of l.shows l.place (drop l.place l.parts) ≡ map life_fact l.lives ++ facts_of l.shows 0 l.parts
