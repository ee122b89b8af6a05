use Rattle.std.proofs.Common.{◌<◌, length}
use Rattle.base_types.specs.declared.ids.DocId.{DocId}
use Rattle.lists_versions.specs.Index.{Leads}
use Rattle.lists_versions.specs.Walks.{IsOf, IsReached}
use Rattle.lists_versions.proofs.walk.last_until.Given as goal

abbrev pub invariant-loop-place : goal.invariant-loop-place
invariant-loop-place l = record {
  there : l.place < length l.log;
  reached : (doc : DocId) → IsOf doc l.log l.fn.latest → IsReached doc l.t.seconds l.log l.fn.latest l.place;
  leads : (doc : DocId) → Leads doc l.t.seconds l.log l.fn.latest → Leads doc l.t.seconds l.log l.place;
}

abbrev pub decreases-loop-place : goal.decreases-loop-place
decreases-loop-place l = l.place
