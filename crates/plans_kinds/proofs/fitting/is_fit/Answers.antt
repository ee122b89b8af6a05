use Rattle.std.proofs.Common.{arith, [], ◌∷◌}
use Rattle.std.proofs.lemmas.List.{map-append}
use Rattle.base_types.specs.declared.time.Time.{Time}
use Rattle.plans_partitions.proofs.Tables.{last_is_horizon}
use Rattle.plans_kinds.proofs.GoodLemmas.{fit_is_partition}
use Rattle.plans_kinds.proofs.PlanLemmas.{ends_at}
use Rattle.plans_kinds.proofs.fitting.is_fit.Goals as goal

pub returns-in_default : goal.returns-in_default
returns-in_default c = grind (arith, fit_is_partition c.args.kind c.args.list.now c.args.factor c.args.cuts.now c.args.horizon)

pub keeps-requires : goal.keeps-requires
keeps-requires c =
    let t = c.in_ok-table.ensures in
    let made = rw c.in-Some.is at c.in_ok-partition.ensures.value in
    record { last = rw (made, map-append (λ (t : Time). t.seconds) c.args.cuts.now (c.args.horizon ∷ [])) (omega (arith, ends_at c.args.cuts.now c.args.horizon.seconds, last_is_horizon c.args.list.now c.args.horizon.seconds c.in_ok-table.table.boundaries t.boundaries t.early)) }
