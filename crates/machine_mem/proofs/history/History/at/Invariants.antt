use Rattle.std.proofs.Common.{◌≡◌, drop}
use Rattle.machine_mem.specs.Differences.{holding_of, first_of, snapshot_at}
use Rattle.machine_mem.proofs.history.History.at.Given as goal

abbrev pub invariant-loop-recorded : goal.invariant-loop-recorded
invariant-loop-recorded l =
    snapshot_at l.calls (holding_of l.then) (drop l.recorded-index l.self.differences.items) ≡ snapshot_at l.calls (first_of l.self.first) l.self.differences.items
