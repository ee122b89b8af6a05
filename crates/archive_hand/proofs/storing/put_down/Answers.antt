use Rattle.std.proofs.Common.{ℕ, List, length, All, inl, inr, sym, subst}
use Rattle.machine_model.specs.declared.area.Area.TheVariants.{Pages}
use Rattle.journal_gates.specs.InStep.{IsInStep}
use Rattle.pages_area.specs.Live.{IsInside}
use Rattle.journal_entries.specs.declared.place.Place.{Place}
use Rattle.pages_area.specs.Caches.{StandsFor as IsCacheOf}
use Rattle.pages_area.specs.Wrote.{ranges_of}
use Rattle.pages_sublists.specs.Preparing.{pieces}
use Rattle.archive_hand.proofs.AddLemmas.{step_stays}
use Rattle.archive_hand.proofs.JobLemmas.{others_stay}
use Rattle.archive_hand.proofs.PutLemmas.{begun, on_err, one_pages, pieces_inside, put_down}
use Rattle.archive_hand.specs.Storing.{IsPutDown}
use Rattle.archive_hand.proofs.storing.put_down.Given.{Over}
use Rattle.archive_hand.proofs.storing.put_down.Goals.{After-append}
use Rattle.archive_hand.proofs.storing.put_down.Goals as goal

pub returns-in-Ok-clause-cached : goal.returns-in-Ok-clause-cached
returns-in-Ok-clause-cached g c = λ tells cached.
    subst (λ (ps : List ℕ). IsCacheOf c.args.sublists.now.cache ps) (sym (c.in-Ok.ensures.pages_hold tells)) (c.in_ok-write.ensures.stays tells cached)

pub returns-in-Ok-clause-others : goal.returns-in-Ok-clause-others
returns-in-Ok-clause-others g c = λ tells ks apart stands.
    subst (λ (ps : List ℕ). IsCacheOf ks ps) (sym (c.in-Ok.ensures.pages_hold tells)) (others_stay ks c.args.prepared.now (g.D.Disk.disk c.args.disk.now) (g.D.Disk.disk c.write.new.disk) apart (c.in_ok-write.ensures.stored tells) stands)

pub returns-in-Ok-clause-entered : goal.returns-in-Ok-clause-entered
returns-in-Ok-clause-entered g c = λ tells bodies step.
    c.in-Ok.ensures.in_step tells bodies (step_stays (ranges_of (pieces c.args.prepared.now)) _ _ _ bodies (c.write.ensures.images tells) step)

pub returns-in_err-write-clause-stops : goal.returns-in_err-write-clause-stops
returns-in_err-write-clause-stops g c = λ tells bodies step. on_err _ c.from_residual.result _ c.from_residual.ensures.1 (inl (begun bodies (pieces c.args.prepared.now) _ _ _ step (c.write.ensures.images tells)))

-- what was put down once the sublists were stored
down : (g : Over) (c : After-append g) (tells : g.D.Disk.disk_tells) (bodies : List (List ℕ)) → IsInStep (g.D.Disk.disk c.args.disk.now) c.args.journal.now.end bodies
    → IsPutDown bodies c.args.frame.now (pieces c.args.prepared.now) (g.D.Disk.disk c.write.new.disk).holds.pages (g.D.Disk.disk c.args.disk.now) (g.D.Disk.disk c.append.new.disk)
down g c tells bodies step =
    let mid = g.D.Disk.disk c.write.new.disk in
    let inside = subst (λ (n : ℕ). All (λ (p : Place). IsInside n p.extent) c.args.prepared.now.places) (sym (g.met.D.Disk.reach_holds c.write.new.disk Pages tells)) c.in_ok-write.ensures.inside in
    put_down bodies c.args.frame.now (pieces c.args.prepared.now) _ _ mid _ step (g.met.D.Disk.holds_allowed c.args.disk.now tells) (c.write.ensures.images tells) (g.met.D.Disk.only_beside _ _ tells c.write.ensures.only)
    (c.in_ok-write.ensures.stored tells) (pieces_inside (length mid.holds.pages) c.args.prepared.now.places c.args.prepared.now.spellings inside) (c.append.ensures.crash tells bodies) (c.append.ensures.pages tells)

pub returns-in-Ok-clause-puts : goal.returns-in-Ok-clause-puts
returns-in-Ok-clause-puts g c = λ tells bodies step.
    let held = c.in-Ok.ensures.pages_hold tells in (
      rw held (down g (goal.at.returns-in-Ok-clause-puts g c).After-append tells bodies step),
      one_pages (pieces c.args.prepared.now) (g.D.Disk.disk c.args.disk.now) (g.D.Disk.disk c.write.new.disk) (g.D.Disk.disk c.append.new.disk) (c.in_ok-write.ensures.stored tells) (c.append.ensures.pages tells) held,
    )

pub returns-in-Err-Failed-clause-stops : goal.returns-in-Err-Failed-clause-stops
returns-in-Err-Failed-clause-stops g c = λ tells bodies step. inr ((g.D.Disk.disk c.write.new.disk).holds.pages, down g (goal.at.returns-in-Err-Failed-clause-stops g c).After-append tells bodies step)
