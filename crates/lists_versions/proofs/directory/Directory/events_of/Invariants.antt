use Rattle.std.proofs.Common.{take}
use Rattle.lists_versions.specs.Lives.{AreEventsOf}
use Rattle.lists_versions.proofs.directory.Directory.events_of.Given as goal

abbrev pub invariant-loop-i : goal.invariant-loop-i
invariant-loop-i l = AreEventsOf l.self.changes (take l.i l.docs) l.span.from l.span.to l.events.items
