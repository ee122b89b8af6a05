use Rattle.std.proofs.Common.{ap}
use Rattle.lists_index.specs.Newest.{kept}
use Rattle.lists_index.proofs.newest.Newest.reserve.Goals as goal

pub returns-clause-same : goal.returns-clause-same
returns-clause-same c = λ d. ap kept (c.reserve.ensures.entries.2 (record { 0 = d }))
