use Rattle.std.proofs.Common.{◌<◌, length, ap, sym, ◌∙◌, arith}
use Rattle.journal_entries.specs.declared.place.Place.{Place}
use Rattle.std.specs.Prelude.{List}
use Rattle.archive_plans.proofs.ShelfLemmas.{gate_here}
use Rattle.archive_plans.proofs.shelf.gate_at.Goals as goal

pub returns-then-left-count : goal.returns-then-left-count
returns-then-left-count c =
    let few : c.loop-stored.left < length c.stored-item.result.plan.places = omega (arith, ap (λ (ps : List Place). length ps) c.as_slice-count.ensures) in
    sym (c.loop-stored.invariant ∙ gate_here c.args.plans.now c.loop-stored.stored-index c.loop-stored.left c.stored-item.result (omega arith) c.stored-item.is few)
