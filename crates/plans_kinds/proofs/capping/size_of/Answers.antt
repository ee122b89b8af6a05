use Rattle.std.proofs.Common.{◌-◌, ◌∙◌, arith, sym}
use Rattle.plans_partitions.proofs.Places.{place_below}
use Rattle.plans_kinds.proofs.CapLemmas.{size_around}
use Rattle.plans_kinds.proofs.capping.size_of.Goals as goal

pub size-requires-clause-order : goal.size-requires-clause-order
size-requires-clause-order c =
    place_below c.boundaries-times.result.now c.boundaries-times.ensures.ascending (c.first_after-from.result - 1) c.first_after-to.result (omega (arith, c.first_after-from.ensures.inside))
    (omega (arith, c.first_after-from.ensures.to, c.requires.order, c.first_after-to.ensures.after))

pub returns-clause-count : goal.returns-clause-count
returns-clause-count c list horizon t =
    let same = c.boundaries-times.ensures.value in
    c.size.ensures.count list horizon t ∙ sym (size_around list horizon c.args.table.now.boundaries t.boundaries c.args.f c.args.g _ _ c.requires.order (rw same at c.first_after-from.ensures) (rw same at c.first_after-to.ensures))
