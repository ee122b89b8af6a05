use Rattle.std.proofs.Common.{drop, slice_index}
use Rattle.std.proofs.lemmas.Bool.{eqb-true, eq-eqb}
use Rattle.plans_space.proofs.BestLemmas.{as_good}
use Rattle.plans_space.proofs.judging.costs_least.Goals as goal

pub returns-in_default : goal.returns-in_default
returns-in_default c factor weights s list horizon t = (
  (λ x. cc),
  (λ b. absurd (c.in_default.ensures factor weights s list horizon t b.eligible)),
)

pub returns : goal.returns
returns c factor weights s list horizon t =
    let times = c.args.table.now.boundaries in
    let p = c.in_ok-least.field-0-0 in
    let is = c.in-Some.ensures factor weights s list horizon t in
    let best = c.in_ok-least.ensures.best factor weights s list horizon t in
    let good = as_good list times weights factor (slice_index times 0) (slice_index p 0) horizon (drop 1 c.args.cuts.now) (drop 1 p) c.in-Some.cost c.in_ok-least.least c.in_ok-least.ensures.fits.first is.0 is.1 best.0 best.1 in (
      (λ same. good.0 (eqb-true c.in-Some.cost c.in_ok-least.least same)),
      (λ b. eq-eqb c.in-Some.cost c.in_ok-least.least (good.1 b)),
    )
