use Rattle.std.proofs.Common.{ℕ, List, ◌++◌, ◌+◌, take, ap, inl, inr, sym, subst, ◌∙◌}
use Rattle.machine_model.specs.Areas.{Both, Bytes}
use Rattle.journal_gates.specs.InStep.{IsInStep}
use Rattle.pages_area.specs.Caches.{StandsFor as IsCacheOf}
use Rattle.pages_area.specs.Wrote.{Stored, ranges_of}
use Rattle.pages_sublists.specs.Paged.{ReachPages, some_pages}
use Rattle.pages_sublists.specs.Preparing.{pieces}
use Rattle.archive_hand.specs.Jobs.{job_pages}
use Rattle.archive_hand.specs.Storing.{IsPutDown}
use Rattle.archive_hand.proofs.AddLemmas.{step_stays}
use Rattle.archive_hand.proofs.JobLemmas.{kept_part}
use Rattle.archive_hand.proofs.PutLemmas.{begun, on_err, one_pages}
use Rattle.archive_hand.proofs.StintLemmas.{rest_begun, rest_down, rest_synced, rest_there}
use Rattle.archive_hand.proofs.working.put_rest.Given.{Over}
use Rattle.archive_hand.proofs.working.put_rest.Goals.{After-append}
use Rattle.archive_hand.proofs.working.put_rest.Goals as goal

pub returns-in-Ok-clause-inside : goal.returns-in-Ok-clause-inside
returns-in-Ok-clause-inside g c =
    subst (λ (n : ℕ). ReachPages n (some_pages c.args.job.now.written 8 c.args.job.now.ready.prepared))
    (sym (c.append.ensures.pages_reach ∙ ap (λ (b : Both ℕ). b.pages) c.settle.ensures.reach)) c.in_ok-write_some.ensures.inside

pub returns-in-Ok-clause-cached : goal.returns-in-Ok-clause-cached
returns-in-Ok-clause-cached g c = λ tells cached.
    let job = c.args.job.now in
    let cache = c.args.sublists.now.cache in
    let now = c.in_ok-write_some.ensures.counted tells cached in
    let kept = kept_part cache (take (job.written + 8) (job_pages job)) (g.D.Disk.disk c.write_some.new.disk).holds.pages now in
    subst (λ (ps : List ℕ). IsCacheOf cache ps) (sym (c.in-Ok.ensures.pages_hold tells ∙ ap (λ (b : Bytes). b.pages) (c.settle.ensures.images tells).holds)) kept

pub returns-in-Ok-clause-entered : goal.returns-in-Ok-clause-entered
returns-in-Ok-clause-entered g c = λ tells bodies step.
    let job = c.args.job.now in
    c.in-Ok.ensures.in_step tells bodies (step_stays (ranges_of (pieces job.ready.prepared)) _ _ _ bodies
    (rest_synced job.ready.prepared job.written _ _ _ c.requires.each (c.write_some.ensures.images tells) (c.settle.ensures.images tells)) step)

pub returns-in_err-write_some-clause-stops : goal.returns-in_err-write_some-clause-stops
returns-in_err-write_some-clause-stops g c = λ tells bodies step cached.
    on_err _ c.from_residual.result _ c.from_residual.ensures.1 (inl (rest_begun bodies c.args.job.now.ready.prepared c.args.job.now.written _ _ _ c.requires.each step (c.write_some.ensures.images tells)))

pub returns-in_err-settle-clause-stops : goal.returns-in_err-settle-clause-stops
returns-in_err-settle-clause-stops g c = λ tells bodies step cached.
    let job = c.args.job.now in
    on_err _ c.from_residual-in_err-settle.result _ c.from_residual-in_err-settle.ensures.1
    (inl (begun bodies (pieces job.ready.prepared) _ _ _ step (rest_synced job.ready.prepared job.written _ _ _ c.requires.each (c.write_some.ensures.images tells) (c.settle.ensures.images tells))))

-- the pages are stored once all is durable
stored : (g : Over) (c : After-append g) (tells : g.D.Disk.disk_tells) → IsCacheOf (c.args.sublists.now.cache ++ take c.args.job.now.written (job_pages c.args.job.now)) (g.D.Disk.disk c.args.disk.now).holds.pages
    → Stored (pieces c.args.job.now.ready.prepared) (g.D.Disk.disk c.args.disk.now) (g.D.Disk.disk c.settle.new.disk)
stored g c tells cached =
    let job = c.args.job.now in
    rest_there c.args.sublists.now.cache job.ready.prepared job.written _ _ _ c.requires.each c.requires.last (c.in_ok-write_some.ensures.wrote tells) (c.in_ok-write_some.ensures.counted tells cached)
    (c.settle.ensures.images tells) (c.in_ok-settle.ensures.durable tells)

down : (g : Over) (c : After-append g) (tells : g.D.Disk.disk_tells) (bodies : List (List ℕ)) → IsInStep (g.D.Disk.disk c.args.disk.now) c.args.journal.now.end bodies
    → IsCacheOf (c.args.sublists.now.cache ++ take c.args.job.now.written (job_pages c.args.job.now)) (g.D.Disk.disk c.args.disk.now).holds.pages
    → IsPutDown bodies c.args.job.now.ready.frame (pieces c.args.job.now.ready.prepared) (g.D.Disk.disk c.settle.new.disk).holds.pages (g.D.Disk.disk c.args.disk.now) (g.D.Disk.disk c.append.new.disk)
down g c tells bodies step cached =
    let job = c.args.job.now in
    rest_down bodies job.ready.frame job.ready.prepared _ _ (g.D.Disk.disk c.settle.new.disk) _ c.requires.each step (g.met.D.Disk.holds_allowed c.args.disk.now tells)
    (rest_synced job.ready.prepared job.written _ _ _ c.requires.each (c.write_some.ensures.images tells) (c.settle.ensures.images tells))
    (g.met.D.Disk.only_beside _ _ tells (g.met.D.Disk.only_joins _ _ _ c.write_some.ensures.only c.settle.ensures.only)) (stored g c tells cached) (c.append.ensures.crash tells bodies) (c.append.ensures.pages tells)

pub returns-in-Ok-clause-puts : goal.returns-in-Ok-clause-puts
returns-in-Ok-clause-puts g c = λ tells bodies step cached.
    let held = c.in-Ok.ensures.pages_hold tells in
    let after = (goal.at.returns-in-Ok-clause-puts g c).After-append in (
      rw held (down g after tells bodies step cached),
      one_pages (pieces c.args.job.now.ready.prepared) (g.D.Disk.disk c.args.disk.now) (g.D.Disk.disk c.settle.new.disk) (g.D.Disk.disk c.append.new.disk) (stored g after tells cached) (c.append.ensures.pages tells) held,
    )

pub returns-in-Err-Failed-clause-stops : goal.returns-in-Err-Failed-clause-stops
returns-in-Err-Failed-clause-stops g c = λ tells bodies step cached.
    inr ((g.D.Disk.disk c.settle.new.disk).holds.pages, down g (goal.at.returns-in-Err-Failed-clause-stops g c).After-append tells bodies step cached)
