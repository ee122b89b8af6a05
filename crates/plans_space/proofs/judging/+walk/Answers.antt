use Rattle.std.proofs.Common.{◌≡◌, ◌<◌, ℕ, List, slice_index, subst}
use Rattle.std.specs.List.Sorted.{IsStrictlyIncreasing}
use Rattle.plans_space.proofs.JudgeLemmas.{no_stop, no_rest, way_more}
use Rattle.plans_space.proofs.judging.+walk.Goals as goal

pub returns-in_err-next-clause-none : goal.returns-in_err-next-clause-none
returns-in_err-next-clause-none t c =
    let places = c.args.places.now in
    let P : List ℕ → Type 0 = λ ts. (j : ℕ) → j < c.args.at → slice_index ts (slice_index places j) ≡ c.in-Some.cut.now → ⊥ in
    rw (c.from_residual.ensures, c.in-Some.ensures.cases.0) (no_stop c.args.table.now.boundaries places c.args.at c.in-Some.cut.now c.in-Some.behind.now (subst P c.boundaries.ensures.value c.in_err-next.ensures.none))

pub returns-in_err-charged-clause-none : goal.returns-in_err-charged-clause-none
returns-in_err-charged-clause-none t c =
    let places = c.args.places.now in
    let S : List ℕ → Type 0 = λ ts. (c.in_ok-next.next < c.args.at) × (slice_index ts (slice_index places c.in_ok-next.next) ≡ c.in-Some.cut.now) in
    let stop = subst S c.boundaries.ensures.value c.in_ok-next.ensures.stop in
    let up = subst IsStrictlyIncreasing c.boundaries.ensures.value c.boundaries.ensures.ascending in
    rw (c.from_residual-in_err-charged.ensures, c.in-Some.ensures.cases.0)
    (no_rest c.args.table.now.boundaries places c.requires.some up c.requires.stops c.args.at c.in_ok-next.next c.in-Some.cut.now c.in-Some.behind.now c.requires.inside stop.0 stop.1 c.in_err-charged.ensures.none)

pub returns-clause-way : goal.returns-clause-way
returns-clause-way t c =
    let places = c.args.places.now in
    let S : List ℕ → Type 0 = λ ts. (c.in_ok-next.next < c.args.at) × (slice_index ts (slice_index places c.in_ok-next.next) ≡ c.in-Some.cut.now) in
    let stop = subst S c.boundaries.ensures.value c.in_ok-next.ensures.stop in
    rw (c.in-Some.ensures.cases.0)
    (way_more c.args.table.now c.args.limits.unit c.args.sums.now places c.args.at c.in_ok-next.next c.in-Some.cut.now c.in-Some.behind.now c.leg-charge.result.0 c.leg-charge.result.1 c.in_ok-charged.charged c.in_ok-charged.costs
    stop.0 stop.1 c.leg-charge.ensures.charge c.leg-charge.ensures.cost c.in_ok-charged.ensures.way)
