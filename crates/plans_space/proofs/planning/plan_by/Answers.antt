use Rattle.std.proofs.Common.{sym, subst, List, ℕ, ◌≡◌}
use Rattle.std.specs.Prelude.{slice_index, drop}
use Rattle.std.specs.List.Sorted.{IsStrictlyIncreasing}
use Rattle.plans_partitions.specs.Partitions.{IsFitting}
use Rattle.plans_space.specs.Costs.{expected_cost}
use Rattle.plans_space.specs.Plans.{IsBestUnder}
use Rattle.plans_space.proofs.CutLemmas.{chosen_parts, made_of}
use Rattle.plans_space.proofs.BestLemmas.{chosen_best}
use Rattle.plans_space.proofs.planning.plan_by.Goals as goal

pub unwrap-partition-requires : goal.unwrap-partition-requires
unwrap-partition-requires c =
    let up : IsStrictlyIncreasing c.args.table.now.boundaries = subst (λ (l : List ℕ). IsStrictlyIncreasing l) c.boundaries-times.ensures.value c.boundaries-times.ensures.ascending in
    c.new.ensures.valid.1 (chosen_parts c.args.table.now c.args.survey.now.limits.unit c.args.survey.now.limits.budget c.args.survey.now.sums.items c.args.survey.now.places.items c.args.survey.now.cells.items c.in_ok-cuts.cuts.items c.in_ok-cuts.cost
    c.requires.2.many up c.requires.2.stops c.in_ok-cuts.ensures).0

pub returns-clause-fits : goal.returns-clause-fits
returns-clause-fits c =
    let up : IsStrictlyIncreasing c.args.table.now.boundaries = subst (λ (l : List ℕ). IsStrictlyIncreasing l) c.boundaries-times.ensures.value c.boundaries-times.ensures.ascending in
    subst (λ (l : List ℕ). IsFitting c.args.table.now.boundaries l) (sym (made_of c.new.result c.unwrap-partition.result c.in_ok-cuts.cuts.items c.unwrap-partition.ensures c.new.ensures.value))
    (chosen_parts c.args.table.now c.args.survey.now.limits.unit c.args.survey.now.limits.budget c.args.survey.now.sums.items c.args.survey.now.places.items c.args.survey.now.cells.items c.in_ok-cuts.cuts.items c.in_ok-cuts.cost
    c.requires.2.many up c.requires.2.stops c.in_ok-cuts.ensures).1

pub returns-clause-best : goal.returns-clause-best
returns-clause-best c factor weights s list horizon t =
    subst (λ (l : List ℕ). IsBestUnder list c.args.table.now.boundaries weights factor (slice_index l 0) horizon (drop 1 l) × (c.in_ok-cuts.cost ≡ expected_cost list (slice_index l 0) (drop 1 l) c.args.table.now.boundaries weights))
    (sym (made_of c.new.result c.unwrap-partition.result c.in_ok-cuts.cuts.items c.unwrap-partition.ensures c.new.ensures.value))
    (chosen_best list horizon c.args.table.now factor c.args.survey.now.limits.unit c.args.survey.now.limits.budget weights c.args.survey.now.sums.items c.args.survey.now.places.items c.args.survey.now.cells.items t s c.in_ok-cuts.cuts.items c.in_ok-cuts.cost c.in_ok-cuts.ensures)
