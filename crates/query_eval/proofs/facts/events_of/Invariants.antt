use Rattle.std.proofs.Common.{take}
use Rattle.query_eval.specs.Facts.{AreEvents}
use Rattle.query_eval.proofs.facts.events_of.Given as goal

abbrev pub invariant-loop-fact : goal.invariant-loop-fact
invariant-loop-fact l = AreEvents (take l.fact-index l.facts) l.span.from l.span.to l.events.items
