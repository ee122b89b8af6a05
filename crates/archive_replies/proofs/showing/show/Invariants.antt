use Rattle.std.proofs.Common.{◌≡◌, ◌≤◌, ◌++◌, length}
use Rattle.archive_replies.proofs.showing.show.Given as goal

abbrev pub invariant-loop-rest : goal.invariant-loop-rest
invariant-loop-rest g l = g.K.Sink.only l.fn.sink l.sink × (g.K.Sink.sink l.fn.sink).faults ≤ (g.K.Sink.sink l.sink).faults
    × (g.K.Sink.sink_tells → (g.K.Sink.sink l.sink).shown ++ l.rest ≡ (g.K.Sink.sink l.fn.sink).shown ++ l.piece)

abbrev pub decreases-loop-rest : goal.decreases-loop-rest
decreases-loop-rest g l = length l.rest
