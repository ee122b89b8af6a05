use Rattle.std.proofs.Common.{◌≡◌, ℕ, IsTrue, List, ◌++◌, Option, Some, None, ap, refl, sym, subst, ◌∙◌, arith}
use Rattle.lists_index.specs.Indexes.{state_of}
use Rattle.pages_area.specs.Taken.{HasTaken}
use Rattle.journal_entries.specs.declared.place.Place.{Place}
use Rattle.pages_sublists.specs.Preparing.{extents}
use Rattle.model_archive.specs.Steps.{pages_in}
use Rattle.model_archive.specs.Plans.{live_extents}
use Rattle.archive_entries.specs.declared.error.Declined.TheVariants as declines
use Rattle.archive_plans.specs.Readying.{IsFull}
use Rattle.archive_plans.specs.Shelves.{ShelfState}
use Rattle.archive_hand.specs.Jobs.{places_of}
use Rattle.archive_hand.specs.States.{ArchiveState, IsSound, StandsFor}
use Rattle.archive_hand.specs.declared.job.Job.{Job}
use Rattle.archive_hand.proofs.BeginLemmas.{begun_taken, job_of, same_but, stands_begun, still_sound}
use Rattle.archive_hand.proofs.CacheLemmas.{is_sound, stands_live}
use Rattle.archive_hand.proofs.JobLemmas.{under_way_more}
use Rattle.archive_hand.proofs.PhraseLemmas.{retyped}
use Rattle.archive_hand.proofs.StoreLemmas.{stands_still}
use Rattle.archive_hand.proofs.archive.Archive.begin.Goals as goal

pub invariant_of-self : goal.invariant_of-self
invariant_of-self c =
    let a : ArchiveState = record { end = c.self.inside.journal.end; live = c.self.inside.live; length = c.self.inside.entries; changes = c.self.inside.directory.changes; index = state_of c.self.inside.index; shelf = c.self.inside.shelf; marked = c.self.inside.marked; asked = c.self.inside.asked; job = c.self.inside.job } in
    let sound : IsSound a = c.self.invariant.2 in
    let live = subst (λ (s : ArchiveState). IsTrue s.live) (sym c.self.view_is) c.requires.live in
    (c.self.invariant.0, c.self.invariant.1, still_sound a sound c.make_ready.new.shelf live c.in-Err.ensures.plans (c.in-Err.ensures.none _ sound.1.pages_are) c.make_ready.ensures.more)

pub returns-in-Err-clause-same : goal.returns-in-Err-clause-same
returns-in-Err-clause-same c =
    let a : ArchiveState = record { end = c.self.inside.journal.end; live = c.self.inside.live; length = c.self.inside.entries; changes = c.self.inside.directory.changes; index = state_of c.self.inside.index; shelf = c.self.inside.shelf; marked = c.self.inside.marked; asked = c.self.inside.asked; job = c.self.inside.job } in
    subst (λ (x : ArchiveState). record a { shelf = c.make_ready.new.shelf } ≡ record x { shelf = record (x.shelf) { pages = c.make_ready.new.shelf.pages; room = c.make_ready.new.shelf.room }; job = a.job }) c.self.view_is (same_but a c.make_ready.new.shelf a.job c.in-Err.ensures.plans c.in-Err.ensures.cache)

pub returns-in-Err-clause-refused : goal.returns-in-Err-clause-refused
returns-in-Err-clause-refused c = λ h now why is.
    let a : ArchiveState = record { end = c.self.inside.journal.end; live = c.self.inside.live; length = c.self.inside.entries; changes = c.self.inside.directory.changes; index = state_of c.self.inside.index; shelf = c.self.inside.shelf; marked = c.self.inside.marked; asked = c.self.inside.asked; job = c.self.inside.job } in
    let before = subst (λ (s : ArchiveState). StandsFor s h) (sym c.self.view_is) now in
    let idle : a.job ≡ None = ap (λ (s : ArchiveState). s.job) c.self.view_is ∙ c.requires.idle in
    subst (λ (n : ℕ). IsFull c.args.draft (live_extents h) n why) (c.end.ensures.end ∙ ap (λ (s : ArchiveState). s.end) c.self.view_is)
    (c.in-Err.ensures.full (live_extents h) (subst (λ (o : Option Job). HasTaken c.self.inside.shelf.pages (places_of o ++ live_extents h)) idle before.pages_are) why (retyped c.in-Err.why (declines.Refused why) is))

pub returns-in-Err-clause-stays : goal.returns-in-Err-clause-stays
returns-in-Err-clause-stays c = λ h now.
    let a : ArchiveState = record { end = c.self.inside.journal.end; live = c.self.inside.live; length = c.self.inside.entries; changes = c.self.inside.directory.changes; index = state_of c.self.inside.index; shelf = c.self.inside.shelf; marked = c.self.inside.marked; asked = c.self.inside.asked; job = c.self.inside.job } in
    let before = subst (λ (s : ArchiveState). StandsFor s h) (sym c.self.view_is) now in
    stands_still a h c.make_ready.new.shelf before c.in-Err.ensures.plans (c.in-Err.ensures.none _ before.pages_are) (under_way_more h _ _ a.job c.make_ready.ensures.more before.under_way)

pub forget-requires : goal.forget-requires
forget-requires c =
    let a : ArchiveState = record { end = c.self.inside.journal.end; live = c.self.inside.live; length = c.self.inside.entries; changes = c.self.inside.directory.changes; index = state_of c.self.inside.index; shelf = c.self.inside.shelf; marked = c.self.inside.marked; asked = c.self.inside.asked; job = c.self.inside.job } in
    let sound : IsSound a = c.self.invariant.2 in
    record { taken = (_, c.in-Ok.ensures.taken _ sound.1.pages_are) }

pub invariant_of-self-in_default : goal.invariant_of-self-in_default
invariant_of-self-in_default c =
    let a : ArchiveState = record { end = c.self.inside.journal.end; live = c.self.inside.live; length = c.self.inside.entries; changes = c.self.inside.directory.changes; index = state_of c.self.inside.index; shelf = c.self.inside.shelf; marked = c.self.inside.marked; asked = c.self.inside.asked; job = c.self.inside.job } in
    let sound : IsSound a = c.self.invariant.2 in
    let live = subst (λ (s : ArchiveState). IsTrue s.live) (sym c.self.view_is) c.requires.live in
    (c.self.invariant.0, c.self.invariant.1, still_sound a sound c.forget.new.self live (c.forget.ensures.plans ∙ c.in-Ok.ensures.plans) (c.forget.ensures.freed _ (c.in-Ok.ensures.taken _ sound.1.pages_are)) (omega (arith, c.forget.ensures.room, c.make_ready.ensures.more)))

pub returns-in_default-clause-same : goal.returns-in_default-clause-same
returns-in_default-clause-same c =
    let a : ArchiveState = record { end = c.self.inside.journal.end; live = c.self.inside.live; length = c.self.inside.entries; changes = c.self.inside.directory.changes; index = state_of c.self.inside.index; shelf = c.self.inside.shelf; marked = c.self.inside.marked; asked = c.self.inside.asked; job = c.self.inside.job } in
    subst (λ (x : ArchiveState). record a { shelf = c.forget.new.self } ≡ record x { shelf = record (x.shelf) { pages = c.forget.new.self.pages; room = c.forget.new.self.room }; job = a.job }) c.self.view_is (same_but a c.forget.new.self a.job (c.forget.ensures.plans ∙ c.in-Ok.ensures.plans) (c.forget.ensures.cache ∙ c.in-Ok.ensures.cache))

pub returns-in_default-clause-stays : goal.returns-in_default-clause-stays
returns-in_default-clause-stays c = λ h now.
    let a : ArchiveState = record { end = c.self.inside.journal.end; live = c.self.inside.live; length = c.self.inside.entries; changes = c.self.inside.directory.changes; index = state_of c.self.inside.index; shelf = c.self.inside.shelf; marked = c.self.inside.marked; asked = c.self.inside.asked; job = c.self.inside.job } in
    let before = subst (λ (s : ArchiveState). StandsFor s h) (sym c.self.view_is) now in
    stands_still a h c.forget.new.self before (c.forget.ensures.plans ∙ c.in-Ok.ensures.plans) (c.forget.ensures.freed _ (c.in-Ok.ensures.taken _ before.pages_are)) (under_way_more h _ _ a.job (omega (arith, c.forget.ensures.room, c.make_ready.ensures.more)) before.under_way)

pub invariant_of-self-2 : goal.invariant_of-self-2
invariant_of-self-2 c =
    let a : ArchiveState = record { end = c.self.inside.journal.end; live = c.self.inside.live; length = c.self.inside.entries; changes = c.self.inside.directory.changes; index = state_of c.self.inside.index; shelf = c.self.inside.shelf; marked = c.self.inside.marked; asked = c.self.inside.asked; job = c.self.inside.job } in
    let sound : IsSound a = c.self.invariant.2 in
    let live = subst (λ (s : ArchiveState). IsTrue s.live) (sym c.self.view_is) c.requires.live in
    let idle : a.job ≡ None = ap (λ (s : ArchiveState). s.job) c.self.view_is ∙ c.requires.idle in
    let r = c.in-Ok.ready in
    let stands = stands_live a sound live in
    let h = sound.0 in
    let drafted = c.requires.drafted h (subst (λ (s : ArchiveState). StandsFor s h) c.self.view_is stands) in (
      c.self.invariant.0,
      c.self.invariant.1,
      is_sound _ h (stands_begun a h c.args.draft c.end.result c.self.inside.entries c.in-Some.pages r c.make_ready.new.shelf stands drafted c.requires.guarantee c.in-Ok.ensures.ready c.in-Ok.ensures.plans (subst (λ (o : Option Job). HasTaken c.make_ready.new.shelf.pages (extents r.prepared.places ++ (places_of o ++ live_extents h))) idle (c.in-Ok.ensures.taken _ stands.pages_are)) (c.in-Some.ensures ∙ ap (λ (ps : List Place). pages_in (extents ps)) c.places.ensures.value) c.in-Ok.ensures.room),
    )

pub returns-clause-same : goal.returns-clause-same
returns-clause-same c =
    let a : ArchiveState = record { end = c.self.inside.journal.end; live = c.self.inside.live; length = c.self.inside.entries; changes = c.self.inside.directory.changes; index = state_of c.self.inside.index; shelf = c.self.inside.shelf; marked = c.self.inside.marked; asked = c.self.inside.asked; job = c.self.inside.job } in
    let shelf : ShelfState = c.make_ready.new.shelf in
    let job : Option Job = Some (job_of c.in-Ok.ready c.in-Some.pages) in
    subst (λ (x : ArchiveState). record a { shelf = shelf; job = job } ≡ record x { shelf = record (x.shelf) { pages = shelf.pages; room = shelf.room }; job = job }) c.self.view_is (same_but a shelf job c.in-Ok.ensures.plans c.in-Ok.ensures.cache)

pub returns-clause-begun : goal.returns-clause-begun
returns-clause-begun c = λ h now.
    let a : ArchiveState = record { end = c.self.inside.journal.end; live = c.self.inside.live; length = c.self.inside.entries; changes = c.self.inside.directory.changes; index = state_of c.self.inside.index; shelf = c.self.inside.shelf; marked = c.self.inside.marked; asked = c.self.inside.asked; job = c.self.inside.job } in
    let idle : a.job ≡ None = ap (λ (s : ArchiveState). s.job) c.self.view_is ∙ c.requires.idle in
    let before = subst (λ (s : ArchiveState). StandsFor s h) (sym c.self.view_is) now in
    let r = c.in-Ok.ready in
    let many = (c.in-Some.ensures ∙ ap (λ (ps : List Place). pages_in (extents ps)) c.places.ensures.value) in
    let at = c.end.ensures.end ∙ before.end_is in
    let has = c.in-Ok.ensures.placed (live_extents h) (subst (λ (o : Option Job). HasTaken c.self.inside.shelf.pages (places_of o ++ live_extents h)) idle before.pages_are) in (
      begun_taken h c.args.draft c.end.result c.self.inside.entries c.in-Some.pages r _ c.in-Ok.ensures.ready at has many refl refl,
      stands_begun a h c.args.draft c.end.result c.self.inside.entries c.in-Some.pages r c.make_ready.new.shelf before (c.requires.drafted h now) c.requires.guarantee c.in-Ok.ensures.ready c.in-Ok.ensures.plans
          (subst (λ (o : Option Job). HasTaken c.make_ready.new.shelf.pages (extents r.prepared.places ++ (places_of o ++ live_extents h))) idle (c.in-Ok.ensures.taken _ before.pages_are)) many c.in-Ok.ensures.room,
    )
