use Rattle.std.proofs.Common.{◌+◌, ◌++◌, All, [], take, sym, subst}
use Rattle.pages_area.specs.Caches.{StandsFor as IsCacheOf}
use Rattle.pages_area.specs.Runs.{IsTaken}
use Rattle.pages_sublists.specs.Caching.{SublistsState}
use Rattle.pages_sublists.specs.Preparing.{extents}
use Rattle.archive_plans.specs.Shelves.{extents_all}
use Rattle.archive_hand.specs.Jobs.{job_pages}
use Rattle.archive_hand.proofs.CacheLemmas.{kept_apart}
use Rattle.archive_hand.proofs.working.finish.Goals as goal

-- what is kept is of live plans, from whose places its own are apart
pub put_rest-requires-clause-unkept : goal.put_rest-requires-clause-unkept
put_rest-requires-clause-unkept g c =
    let shelf = c.args.shelf.now in
    let places = c.args.job.ready.prepared.places in
    let U : SublistsState → Type 0 = λ s. All (λ k. IsTaken (extents places) k.page → ⊥) s.cache in
    subst U (sym c.sublists.ensures.value) (kept_apart shelf.pages (extents places) [] (extents_all shelf.plans) shelf.cache c.requires.taken c.sublists.ensures.lie)

pub returns-in-Ok-clause-cached : goal.returns-in-Ok-clause-cached
returns-in-Ok-clause-cached g c = λ tells cached.
    let written = take c.args.job.written (job_pages c.args.job) in
    let S : SublistsState → Type 0 = λ s. IsCacheOf (s.cache ++ written) (g.D.Disk.disk c.args.disk.now).holds.pages in
    let N : SublistsState → Type 0 = λ s. IsCacheOf s.cache (g.D.Disk.disk c.put_rest.new.disk).holds.pages in
    c.adopt.ensures.stays (g.D.Disk.disk c.put_rest.new.disk).holds.pages (subst N c.sublists.ensures.value (c.in-Ok.ensures.cached tells (subst S (sym c.sublists.ensures.value) cached)))

pub returns-in-Ok-clause-puts : goal.returns-in-Ok-clause-puts
returns-in-Ok-clause-puts g c = λ tells bodies step cached.
    let written = take c.args.job.written (job_pages c.args.job) in
    let S : SublistsState → Type 0 = λ s. IsCacheOf (s.cache ++ written) (g.D.Disk.disk c.args.disk.now).holds.pages in
    c.in-Ok.ensures.puts tells bodies step (subst S (sym c.sublists.ensures.value) cached)

pub returns-in-Err-clause-stops : goal.returns-in-Err-clause-stops
returns-in-Err-clause-stops g c = λ tells bodies step cached.
    let written = take c.args.job.written (job_pages c.args.job) in
    let S : SublistsState → Type 0 = λ s. IsCacheOf (s.cache ++ written) (g.D.Disk.disk c.args.disk.now).holds.pages in
    c.in-Err.ensures.stops tells bodies step (subst S (sym c.sublists.ensures.value) cached)
