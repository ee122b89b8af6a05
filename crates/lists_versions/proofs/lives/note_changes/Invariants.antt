use Rattle.std.proofs.Common.{◌<◌, ◌≤◌, length}
use Rattle.lists_versions.proofs.Noting.{AreNotedFrom}
use Rattle.lists_versions.proofs.lives.note_changes.Given as goal

abbrev pub invariant-loop-end : goal.invariant-loop-end
invariant-loop-end l = record {
  there : l.place < length l.log;
  until : l.end ≤ l.span.to;
  noted : AreNotedFrom l.log l.doc l.span.from l.span.to l.fn.latest l.place l.end l.fn.events.items l.events.items;
}

abbrev pub decreases-loop-end : goal.decreases-loop-end
decreases-loop-end l = l.end
