use Rattle.std.proofs.Common.{arith, rules}
use Rattle.pages_area.specs.Runs.{pages_for}
use Rattle.pages_area.specs.Edges.{IsFit}
use Rattle.pages_area.proofs.TakenLemmas.{run_free, lowest_run}
use Rattle.pages_area.proofs.pages.Pages.take.Goals as goal

pub returns-in_default-clause-full : goal.returns-in_default-clause-full
returns-in_default-clause-full c extents has is first run =
    c.in_default.ensures first run.below (λ p low high. cc (run_free c.args.self.now extents (pages_for c.args.bytes) first has run p low high))

pub returns-clause-lowest : goal.returns-clause-lowest
returns-clause-lowest c extents has = lowest_run c.args.self.now extents (pages_for c.args.bytes) c.in-Some.extent.first has (search rules)

pub returns-clause-taken : goal.returns-clause-taken
returns-clause-taken c extents has =
    let fit : IsFit (pages_for c.args.bytes) c.args.self.now.edges c.in-Some.extent.first = search rules in
    c.in_ok-hold.ensures.held extents has (λ p low high. fit.free p low (omega (arith, high, c.in-Some.ensures.0)))
