use Rattle.std.proofs.Common.{◌≡◌, ◌<◌, List, length, get_or, Contains, Some, IfOk, IfErr, arith, refl, sym, subst}
use Rattle.pages_area.specs.Caches.{StandsFor}
use Rattle.pages_sublists.specs.Fetching.{IfDamaged}
use Rattle.pages_sublists.specs.Framing.{IsUnframed}
use Rattle.pages_sublists.specs.Gathering.{Chosen, bytes_of}
use Rattle.model_archive.specs.declared.stored.StoredPlan.{StoredPlan}
use Rattle.archive_plans.specs.Framing.{AreInTurn, IsFramedAt, IsUnframedAt, chosen_at}
use Rattle.archive_plans.specs.Segments.{chosen_of}
use Rattle.archive_plans.specs.Shelves.{ShelfState, extents_all}
use Rattle.archive_plans.specs.declared.framing.SegmentFrames.{SegmentFrames}
use Rattle.archive_plans.proofs.ShelfLemmas.{plan_among, plan_is}
use Rattle.archive_plans.proofs.SegmentLemmas.{if-damaged, place-taken}
use Rattle.archive_plans.proofs.shelf.Shelf.frames_at.Goals as goal
use Rattle.archive_plans.proofs.shelf.Shelf.frames_at.Goals.{in-Ok, in-Err}

pub invariant_of-self : goal.invariant_of-self
invariant_of-self g c =
    let plans = c.self.inside.plans.items in
    let there = subst (λ (s : ShelfState). c.args.at < length s.plans) (sym c.self.view_is) c.requires.there in
    let (k, l, is) = c.in-Some.ensures.among in (
      c.self.invariant.0,
      c.fetch_frames.ensures.lie (extents_all plans)
          (λ p of. plan_among plans c.args.at c.index.result.now c.index.result.now.plan.places there c.index.ensures refl p (place-taken c.index.result.now.plan.places k p c.in-Some.segment.place l is of)) c.self.invariant.1,
    )

pub returns-clause-framed : goal.returns-clause-framed
returns-clause-framed g c = λ tells stands s same turn.
    let pages = (g.D.Disk.disk c.args.disk.now).holds.pages in
    let time = c.args.t.seconds in
    let there = subst (λ (s : ShelfState). c.args.at < length s.plans) (sym c.self.view_is) c.requires.there in
    let mine = subst (λ (x : ShelfState). s ≡ get_or x.plans c.args.at s) (sym c.self.view_is) same in
    let one : s ≡ c.index.result.now = plan_is c.self.inside.plans.items c.args.at s c.index.result.now there mine c.index.ensures in
    let here = subst (λ (x : ShelfState). StandsFor x.cache pages) (sym c.self.view_is) stands in
    let seg = c.in-Some.ensures.found (subst (λ (x : StoredPlan). AreInTurn x.plan) one turn) in
    elim c.match-fetch_frames.branch [
      | in-Ok w ↦
          let o : SegmentFrames = record { frames = w.in-Ok.frames; page = c.in-Some.segment.place.extent.first; span = c.in-Some.segment.span } in
          subst (λ r. IfOk r (IsFramedAt pages s.plan time)) (sym w.result-is)
          (subst (λ (x : StoredPlan). IsFramedAt pages x.plan time (Some o)) (sym one)
          (chosen_of c.in-Some.segment seg.0, seg.1, record { page = refl; from = refl; to = refl; framed = w.in-Ok.ensures.found tells here }))
      | in-Err w ↦ subst (λ r. IfOk r (IsFramedAt pages s.plan time)) (sym w.result-is) tt
    ]

pub returns-clause-damaged : goal.returns-clause-damaged
returns-clause-damaged g c = λ tells stands s same turn.
    let pages = (g.D.Disk.disk c.args.disk.now).holds.pages in
    let time = c.args.t.seconds in
    let there = subst (λ (s : ShelfState). c.args.at < length s.plans) (sym c.self.view_is) c.requires.there in
    let mine = subst (λ (x : ShelfState). s ≡ get_or x.plans c.args.at s) (sym c.self.view_is) same in
    let one : s ≡ c.index.result.now = plan_is c.self.inside.plans.items c.args.at s c.index.result.now there mine c.index.ensures in
    let here = subst (λ (x : ShelfState). StandsFor x.cache pages) (sym c.self.view_is) stands in
    let seg = c.in-Some.ensures.found (subst (λ (x : StoredPlan). AreInTurn x.plan) one turn) in
    let this : Chosen = chosen_of c.in-Some.segment seg.0 in
    let among : Contains (chosen_at c.index.result.now.plan time) this = subst (λ (cs : List Chosen). Contains cs this) (sym seg.1) (0, omega arith, refl) in
    elim c.match-fetch_frames.branch [
      | in-Ok w ↦ subst (λ r. IfErr r (IfDamaged (IsUnframedAt pages s.plan time))) (sym w.result-is) tt
      | in-Err w ↦
          subst (λ r. IfErr r (IfDamaged (IsUnframedAt pages s.plan time))) (sym w.result-is)
          (if-damaged (λ d. (d.page ≡ this.place.extent.first) × IsUnframed this.place.digest (bytes_of this pages) d.why) (IsUnframedAt pages s.plan time)
          (λ d is. subst (λ (x : StoredPlan). IsUnframedAt pages x.plan time d) (sym one) (this, among, is.0, is.1)) w.in-Err.error (w.in-Err.ensures.damaged tells here))
    ]

pub returns-clause-stays : goal.returns-clause-stays
returns-clause-stays g c = λ tells stands.
    c.fetch_frames.ensures.stays tells (subst (λ (s : ShelfState). StandsFor s.cache (g.D.Disk.disk c.args.disk.now).holds.pages) (sym c.self.view_is) stands)
