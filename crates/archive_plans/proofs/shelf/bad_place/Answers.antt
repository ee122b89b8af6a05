use Rattle.std.proofs.Common.{◌≡◌, subst, get_or}
use Rattle.pages_area.specs.Live.{IsRefused}
use Rattle.pages_area.specs.declared.live.LiveError.{LiveError}
use Rattle.archive_plans.specs.Shelves.{extents_all}
use Rattle.archive_plans.specs.Shelves.{gates_all}
use Rattle.archive_plans.proofs.ShelfLemmas.{bad_clash}
use Rattle.archive_plans.proofs.shelf.bad_place.Goals as goal

pub returns-in-Clash-clause-bad : goal.returns-in-Clash-clause-bad
returns-in-Clash-clause-bad c = λ at same.
    let gate : at ≡ get_or (gates_all c.args.plans.now) c.in-Clash.index 0 = cc in
    bad_clash c.args.plans.now c.args.reach c.in-Clash.index at (subst (λ (why : LiveError). IsRefused (extents_all c.args.plans.now) c.args.reach why) c.in-Clash.is c.requires) gate
