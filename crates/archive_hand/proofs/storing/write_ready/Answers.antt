use Rattle.std.proofs.Common.{All, sym, subst}
use Rattle.pages_area.specs.Caches.{StandsFor as IsCacheOf}
use Rattle.pages_area.specs.Runs.{IsTaken}
use Rattle.pages_sublists.specs.Caching.{SublistsState}
use Rattle.pages_sublists.specs.Preparing.{extents}
use Rattle.archive_plans.specs.Shelves.{extents_all}
use Rattle.archive_hand.proofs.CacheLemmas.{kept_apart}
use Rattle.archive_hand.proofs.storing.write_ready.Goals as goal

-- what is kept is of live plans, from whose places the new ones are apart
pub put_down-requires-clause-unkept : goal.put_down-requires-clause-unkept
put_down-requires-clause-unkept g c =
    let shelf = c.args.shelf.now in
    let places = c.args.ready.prepared.places in
    let U : SublistsState → Type 0 = λ s. All (λ k. IsTaken (extents places) k.page → ⊥) s.cache in
    subst U (sym c.sublists.ensures.value) (kept_apart shelf.pages (extents places) c.requires.taken.0 (extents_all shelf.plans) shelf.cache c.requires.taken.1 c.sublists.ensures.lie)

pub returns-in-Ok-clause-cached : goal.returns-in-Ok-clause-cached
returns-in-Ok-clause-cached g c = λ tells cached.
    let S : SublistsState → Type 0 = λ s. IsCacheOf s.cache (g.D.Disk.disk c.args.disk.now).holds.pages in
    let N : SublistsState → Type 0 = λ s. IsCacheOf s.cache (g.D.Disk.disk c.put_down.new.disk).holds.pages in
    c.put.ensures.stays (g.D.Disk.disk c.put_down.new.disk).holds.pages (subst N c.sublists.ensures.value (c.in-Ok.ensures.cached tells (subst S (sym c.sublists.ensures.value) cached)))
