use Rattle.std.proofs.Common.{◌≡◌, false, ◌+◌, ◌-◌, ◌<◌, ◌≤◌, IsTrue, List, ◌++◌, All, Option, Some, None, true, take, length, inl, refl, ap, sym, subst, ◌∙◌, arith}
use Rattle.machine_model.specs.declared.area.Area.TheVariants.{Journal, Pages}
use Rattle.lists_index.specs.Indexes.{state_of}
use Rattle.pages_area.specs.Caches.{Kept, StandsFor as IsCacheOf}
use Rattle.pages_area.specs.Runs.{IsTaken}
use Rattle.pages_area.specs.Taken.{HasTaken}
use Rattle.pages_sublists.specs.Caching.{SublistsState}
use Rattle.pages_sublists.specs.Preparing.{extents}
use Rattle.model_archive.specs.Plans.{live_extents}
use Rattle.model_archive.specs.Stands.{bodies_of}
use Rattle.model_archive.specs.Steps.{Finished, Refused, Silent}
use Rattle.archive_plans.specs.Shelves.{extents_all}
use Rattle.std.proofs.lemmas.Bool.{false≢true}
use Rattle.archive_hand.specs.Adding.{IsSpent}
use Rattle.archive_hand.specs.Changing.{LeadsBy}
use Rattle.archive_hand.specs.Jobs.{job_pages, written_of}
use Rattle.archive_hand.specs.States.{ArchiveState, AreInStepBy, CacheStands, IsSound, Reaches}
use Rattle.archive_hand.specs.Stored.{Store, StoreStint}
use Rattle.archive_hand.specs.declared.job.Job.{Job}
use Rattle.archive_hand.proofs.AdvanceLemmas.{cached_at, failed, cached_idle, dropped_sound, dropped_within, failed_sound, failed_spent, failed_within, finished_sound, finished_within, frame_short, last_pages, went_sound, went_within}
use Rattle.archive_hand.proofs.JobLemmas.{kept_part}
use Rattle.archive_hand.proofs.StintLemmas.{sound_live, sound_taken, sound_unkept, sound_waits}
use Rattle.archive_hand.proofs.WorkLemmas.{job_taken, stint_done, stint_dropped, stint_keeps, stint_stopped, stint_wrote, went_on}
use Rattle.archive_hand.proofs.archive.Archive.advance.Goals as goal

pub overflow_sub-job : goal.overflow_sub-job
overflow_sub-job g c =
    let a : ArchiveState = record { end = c.self.inside.journal.end; live = c.self.inside.live; length = c.self.inside.entries; changes = c.self.inside.directory.changes; index = state_of c.self.inside.index; shelf = c.self.inside.shelf; marked = c.self.inside.marked; asked = c.self.inside.asked; job = c.self.inside.job } in
    let job = c.in-Some.job in
    let is : a.job ≡ Some job = sym c.take.ensures.value ∙ c.in-Some.is in
    let sound : IsSound a = c.self.invariant.2 in
    omega (arith, (sound_waits a sound job is).within)

pub write_next-requires-clause-taken : goal.write_next-requires-clause-taken
write_next-requires-clause-taken g c =
    let a : ArchiveState = record { end = c.self.inside.journal.end; live = c.self.inside.live; length = c.self.inside.entries; changes = c.self.inside.directory.changes; index = state_of c.self.inside.index; shelf = c.self.inside.shelf; marked = c.self.inside.marked; asked = c.self.inside.asked; job = c.self.inside.job } in
    let job = c.in-Some.job in
    let is : a.job ≡ Some job = sym c.take.ensures.value ∙ c.in-Some.is in
    let sound : IsSound a = c.self.invariant.2 in (
      extents_all a.shelf.plans,
      subst (λ (s : SublistsState). HasTaken s.pages (extents job.ready.prepared.places ++ extents_all a.shelf.plans)) (sym c.sublists.ensures.value) (sound_taken a sound job is),
    )

pub write_next-requires-clause-unkept : goal.write_next-requires-clause-unkept
write_next-requires-clause-unkept g c =
    let a : ArchiveState = record { end = c.self.inside.journal.end; live = c.self.inside.live; length = c.self.inside.entries; changes = c.self.inside.directory.changes; index = state_of c.self.inside.index; shelf = c.self.inside.shelf; marked = c.self.inside.marked; asked = c.self.inside.asked; job = c.self.inside.job } in
    let job = c.in-Some.job in
    let is : a.job ≡ Some job = sym c.take.ensures.value ∙ c.in-Some.is in
    let sound : IsSound a = c.self.invariant.2 in
    subst (λ (s : SublistsState). All (λ k. IsTaken (extents job.ready.prepared.places) k.page → ⊥) s.cache) (sym c.sublists.ensures.value) (sound_unkept a sound job is c.sublists.ensures.lie)

pub write_next-requires-clause-more : goal.write_next-requires-clause-more
write_next-requires-clause-more g c =
    let a : ArchiveState = record { end = c.self.inside.journal.end; live = c.self.inside.live; length = c.self.inside.entries; changes = c.self.inside.directory.changes; index = state_of c.self.inside.index; shelf = c.self.inside.shelf; marked = c.self.inside.marked; asked = c.self.inside.asked; job = c.self.inside.job } in
    let job = c.in-Some.job in
    let is : a.job ≡ Some job = sym c.take.ensures.value ∙ c.in-Some.is in
    let sound : IsSound a = c.self.invariant.2 in
    omega (arith, c.if-job-gt-STINT_PAGES.true, (sound_waits a sound job is).within)

pub invariant_of-self : goal.invariant_of-self
invariant_of-self g c =
    let a : ArchiveState = record { end = c.self.inside.journal.end; live = c.self.inside.live; length = c.self.inside.entries; changes = c.self.inside.directory.changes; index = state_of c.self.inside.index; shelf = c.self.inside.shelf; marked = c.self.inside.marked; asked = c.self.inside.asked; job = c.self.inside.job } in
    let job = c.in-Some.job in
    let is : a.job ≡ Some job = sym c.take.ensures.value ∙ c.in-Some.is in
    let sound : IsSound a = c.self.invariant.2 in
    let live = subst (λ (s : ArchiveState). IsTrue s.live) (sym c.self.view_is) c.requires.live in
    let more : 8 < job.pages - job.written = omega (arith, c.if-job-gt-STINT_PAGES.true) in
    let path : record a { live = true; job = Some c.in-Ok.job } ≡ went_on a job = ap (λ (j : Job). record a { live = true; job = Some j }) c.in-Ok.ensures.wrote in
    (λ now. c.self.invariant.0 live, c.self.invariant.1, subst IsSound (sym path) (went_sound a sound job live is more))

pub returns-in-Ok-clause-within : goal.returns-in-Ok-clause-within
returns-in-Ok-clause-within g c =
    let a : ArchiveState = record { end = c.self.inside.journal.end; live = c.self.inside.live; length = c.self.inside.entries; changes = c.self.inside.directory.changes; index = state_of c.self.inside.index; shelf = c.self.inside.shelf; marked = c.self.inside.marked; asked = c.self.inside.asked; job = c.self.inside.job } in
    let job = c.in-Some.job in
    let is : a.job ≡ Some job = sym c.take.ensures.value ∙ c.in-Some.is in
    let was = subst (Reaches (g.D.Disk.disk c.args.disk.now).reach) (sym c.self.view_is) c.requires.within in
    let reach = g.met.D.Disk.only_reach c.args.disk.now c.write_next.new.disk in
    let path : record a { live = true; job = Some c.in-Ok.job } ≡ went_on a job = ap (λ (j : Job). record a { live = true; job = Some j }) c.in-Ok.ensures.wrote in
    subst (Reaches (g.D.Disk.disk c.write_next.new.disk).reach) (sym path) (went_within _ _ a job is (reach Journal c.write_next.ensures.only) (reach Pages c.write_next.ensures.only) was c.in-Ok.ensures.inside)

pub returns-in-Ok-clause-cached : goal.returns-in-Ok-clause-cached
returns-in-Ok-clause-cached g c = λ tells cached.
    let a : ArchiveState = record { end = c.self.inside.journal.end; live = c.self.inside.live; length = c.self.inside.entries; changes = c.self.inside.directory.changes; index = state_of c.self.inside.index; shelf = c.self.inside.shelf; marked = c.self.inside.marked; asked = c.self.inside.asked; job = c.self.inside.job } in
    let job = c.in-Some.job in
    let is : a.job ≡ Some job = sym c.take.ensures.value ∙ c.in-Some.is in
    let old = g.D.Disk.disk c.args.disk.now in
    let new = g.D.Disk.disk c.write_next.new.disk in
    let all = subst (CacheStands old) (sym c.self.view_is) cached in
    let kept = subst (λ (s : SublistsState). IsCacheOf (s.cache ++ take (job.written + 8) (job_pages job)) new.holds.pages) c.sublists.ensures.value
    (c.in-Ok.ensures.cached tells (subst (λ (s : SublistsState). IsCacheOf (s.cache ++ take job.written (job_pages job)) old.holds.pages) (sym c.sublists.ensures.value) (cached_at old a job is all))) in
    subst (λ (j : Job). IsCacheOf (a.shelf.cache ++ written_of (Some j)) new.holds.pages) (sym c.in-Ok.ensures.wrote) kept

pub returns-in-Ok-clause-works : goal.returns-in-Ok-clause-works
returns-in-Ok-clause-works g c = λ tells s now.
    let a : ArchiveState = record { end = c.self.inside.journal.end; live = c.self.inside.live; length = c.self.inside.entries; changes = c.self.inside.directory.changes; index = state_of c.self.inside.index; shelf = c.self.inside.shelf; marked = c.self.inside.marked; asked = c.self.inside.asked; job = c.self.inside.job } in
    let job = c.in-Some.job in
    let is : a.job ≡ Some job = sym c.take.ensures.value ∙ c.in-Some.is in
    let old = g.D.Disk.disk c.args.disk.now in
    let new = g.D.Disk.disk c.write_next.new.disk in
    let more : 8 < job.pages - job.written = omega (arith, c.if-job-gt-STINT_PAGES.true) in
    let path : record a { live = true; job = Some c.in-Ok.job } ≡ went_on a job = ap (λ (j : Job). record a { live = true; job = Some j }) c.in-Ok.ensures.wrote in
    let in_step = subst (λ (x : ArchiveState). AreInStepBy old x s) (sym c.self.view_is) now in
    let kept = subst (λ (t : SublistsState). IsCacheOf (t.cache ++ take (job.written + 8) (job_pages job)) new.holds.pages) c.sublists.ensures.value
    (c.in-Ok.ensures.cached tells (subst (λ (t : SublistsState). IsCacheOf (t.cache ++ take job.written (job_pages job)) old.holds.pages) (sym c.sublists.ensures.value) (cached_at old a job is in_step.cached))) in
    subst (λ (x : ArchiveState). (next : Store) × StoreStint s Silent next × LeadsBy s next old new × AreInStepBy new x next) (sym path)
    (stint_wrote s a job old new in_step is more (c.write_next.ensures.images tells) (g.met.D.Disk.holds_allowed c.write_next.new.disk tells) kept)

pub invariant_of-self-in-Err : goal.invariant_of-self-in-Err
invariant_of-self-in-Err g c =
    let a : ArchiveState = record { end = c.self.inside.journal.end; live = c.self.inside.live; length = c.self.inside.entries; changes = c.self.inside.directory.changes; index = state_of c.self.inside.index; shelf = c.self.inside.shelf; marked = c.self.inside.marked; asked = c.self.inside.asked; job = c.self.inside.job } in
    let job = c.in-Some.job in
    let is : a.job ≡ Some job = sym c.take.ensures.value ∙ c.in-Some.is in
    let sound : IsSound a = c.self.invariant.2 in
    let live = subst (λ (s : ArchiveState). IsTrue s.live) (sym c.self.view_is) c.requires.live in
    (λ now. c.self.invariant.0 live, c.self.invariant.1, failed_sound a sound a.end a.shelf c.in-Err.job job live is refl refl c.in-Err.ensures.back)

pub returns-in-Err-clause-within : goal.returns-in-Err-clause-within
returns-in-Err-clause-within g c =
    let a : ArchiveState = record { end = c.self.inside.journal.end; live = c.self.inside.live; length = c.self.inside.entries; changes = c.self.inside.directory.changes; index = state_of c.self.inside.index; shelf = c.self.inside.shelf; marked = c.self.inside.marked; asked = c.self.inside.asked; job = c.self.inside.job } in
    let job = c.in-Some.job in
    let is : a.job ≡ Some job = sym c.take.ensures.value ∙ c.in-Some.is in
    let was = subst (Reaches (g.D.Disk.disk c.args.disk.now).reach) (sym c.self.view_is) c.requires.within in
    let reach = g.met.D.Disk.only_reach c.args.disk.now c.write_next.new.disk in
    failed_within _ _ a a.end a.shelf c.in-Err.job job is refl refl c.in-Err.ensures.back (reach Journal c.write_next.ensures.only) (reach Pages c.write_next.ensures.only) was

pub returns-in-Err-clause-spent : goal.returns-in-Err-clause-spent
returns-in-Err-clause-spent g c =
    let a : ArchiveState = record { end = c.self.inside.journal.end; live = c.self.inside.live; length = c.self.inside.entries; changes = c.self.inside.directory.changes; index = state_of c.self.inside.index; shelf = c.self.inside.shelf; marked = c.self.inside.marked; asked = c.self.inside.asked; job = c.self.inside.job } in
    let job = c.in-Some.job in
    let is : a.job ≡ Some job = sym c.take.ensures.value ∙ c.in-Some.is in
    subst (λ (x : ArchiveState). IsSpent x (failed a a.end a.shelf c.in-Err.job)) c.self.view_is (failed_spent a a.end a.shelf c.in-Err.job job is refl refl c.in-Err.ensures.back)

pub returns-in-Err-clause-works : goal.returns-in-Err-clause-works
returns-in-Err-clause-works g c = λ tells s now.
    let a : ArchiveState = record { end = c.self.inside.journal.end; live = c.self.inside.live; length = c.self.inside.entries; changes = c.self.inside.directory.changes; index = state_of c.self.inside.index; shelf = c.self.inside.shelf; marked = c.self.inside.marked; asked = c.self.inside.asked; job = c.self.inside.job } in
    let job = c.in-Some.job in
    let is : a.job ≡ Some job = sym c.take.ensures.value ∙ c.in-Some.is in
    let old = g.D.Disk.disk c.args.disk.now in
    let new = g.D.Disk.disk c.write_next.new.disk in
    let in_step = subst (λ (x : ArchiveState). AreInStepBy old x s) (sym c.self.view_is) now in
    inl (stint_keeps s a job old new in_step is (c.write_next.ensures.images tells))

pub forget-requires : goal.forget-requires
forget-requires g c =
    let a : ArchiveState = record { end = c.self.inside.journal.end; live = c.self.inside.live; length = c.self.inside.entries; changes = c.self.inside.directory.changes; index = state_of c.self.inside.index; shelf = c.self.inside.shelf; marked = c.self.inside.marked; asked = c.self.inside.asked; job = c.self.inside.job } in
    let job = c.in-Some.job in
    let is : a.job ≡ Some job = sym c.take.ensures.value ∙ c.in-Some.is in
    let sound : IsSound a = c.self.invariant.2 in
    record { taken = (extents_all a.shelf.plans, sound_taken a sound job is) }

pub invariant_of-self-then-limit-end : goal.invariant_of-self-then-limit-end
invariant_of-self-then-limit-end g c =
    let a : ArchiveState = record { end = c.self.inside.journal.end; live = c.self.inside.live; length = c.self.inside.entries; changes = c.self.inside.directory.changes; index = state_of c.self.inside.index; shelf = c.self.inside.shelf; marked = c.self.inside.marked; asked = c.self.inside.asked; job = c.self.inside.job } in
    let job = c.in-Some.job in
    let is : a.job ≡ Some job = sym c.take.ensures.value ∙ c.in-Some.is in
    let sound : IsSound a = c.self.invariant.2 in
    let live = subst (λ (s : ArchiveState). IsTrue s.live) (sym c.self.view_is) c.requires.live in
    let none : c.take.new.self ≡ None = c.take.ensures.after in
    (λ now. c.self.invariant.0 live, c.self.invariant.1, subst (λ (o : Option Job). IsSound (record a { live = true; shelf = c.forget.new.self; job = o })) (sym none) (dropped_sound a sound c.forget.new.self live c.forget.ensures.plans (c.forget.ensures.freed (live_extents sound.0) (sound_live a sound job is))))

pub returns-then-limit-end-clause-within : goal.returns-then-limit-end-clause-within
returns-then-limit-end-clause-within g c =
    let a : ArchiveState = record { end = c.self.inside.journal.end; live = c.self.inside.live; length = c.self.inside.entries; changes = c.self.inside.directory.changes; index = state_of c.self.inside.index; shelf = c.self.inside.shelf; marked = c.self.inside.marked; asked = c.self.inside.asked; job = c.self.inside.job } in
    let was = subst (Reaches (g.D.Disk.disk c.args.disk.now).reach) (sym c.self.view_is) c.requires.within in
    let none : c.take.new.self ≡ None = c.take.ensures.after in
    subst (λ (o : Option Job). Reaches (g.D.Disk.disk c.args.disk.now).reach (record a { live = true; shelf = c.forget.new.self; job = o })) (sym none) (dropped_within _ a c.forget.new.self c.forget.ensures.plans was)

pub returns-then-limit-end-clause-cached : goal.returns-then-limit-end-clause-cached
returns-then-limit-end-clause-cached g c = λ tells cached.
    let a : ArchiveState = record { end = c.self.inside.journal.end; live = c.self.inside.live; length = c.self.inside.entries; changes = c.self.inside.directory.changes; index = state_of c.self.inside.index; shelf = c.self.inside.shelf; marked = c.self.inside.marked; asked = c.self.inside.asked; job = c.self.inside.job } in
    let old = g.D.Disk.disk c.args.disk.now in
    let all = subst (CacheStands old) (sym c.self.view_is) cached in
    let none : c.take.new.self ≡ None = c.take.ensures.after in
    subst (λ (o : Option Job). IsCacheOf (c.forget.new.self.cache ++ written_of o) old.holds.pages) (sym none) (cached_idle c.forget.new.self.cache old.holds.pages (subst (λ (ks : List Kept). IsCacheOf ks old.holds.pages) (sym c.forget.ensures.cache) (kept_part a.shelf.cache (written_of a.job) old.holds.pages all)))

pub returns-then-limit-end-clause-works : goal.returns-then-limit-end-clause-works
returns-then-limit-end-clause-works g c = λ tells s now.
    let a : ArchiveState = record { end = c.self.inside.journal.end; live = c.self.inside.live; length = c.self.inside.entries; changes = c.self.inside.directory.changes; index = state_of c.self.inside.index; shelf = c.self.inside.shelf; marked = c.self.inside.marked; asked = c.self.inside.asked; job = c.self.inside.job } in
    let job = c.in-Some.job in
    let is : a.job ≡ Some job = sym c.take.ensures.value ∙ c.in-Some.is in
    let old = g.D.Disk.disk c.args.disk.now in
    let last : job.pages - job.written ≤ 8 = omega (arith, c.if-job-gt-STINT_PAGES.false) in
    let in_step = subst (λ (x : ArchiveState). AreInStepBy old x s) (sym c.self.view_is) now in
    let none : c.take.new.self ≡ None = c.take.ensures.after in
    subst (λ (o : Option Job). (next : Store) × StoreStint s (Refused c.full_journal.result) next × LeadsBy s next old old × AreInStepBy old (record a { live = true; shelf = c.forget.new.self; job = o }) next) (sym none)
    (stint_dropped s a job c.forget.new.self c.full_journal.result old in_step is last (omega (arith, c.if-limit-end.true, c.limit.ensures, c.end.ensures.end)) c.forget.ensures.plans c.forget.ensures.cache
    (c.forget.ensures.freed (live_extents s.history) (job_taken a s.history job is in_step.stands)) c.full_journal.ensures)

pub overflow_add-end-else-job-gt-STINT_PAGES : goal.overflow_add-end-else-job-gt-STINT_PAGES
overflow_add-end-else-job-gt-STINT_PAGES g c =
    let a : ArchiveState = record { end = c.self.inside.journal.end; live = c.self.inside.live; length = c.self.inside.entries; changes = c.self.inside.directory.changes; index = state_of c.self.inside.index; shelf = c.self.inside.shelf; marked = c.self.inside.marked; asked = c.self.inside.asked; job = c.self.inside.job } in
    let job = c.in-Some.job in
    let is : a.job ≡ Some job = sym c.take.ensures.value ∙ c.in-Some.is in
    let sound : IsSound a = c.self.invariant.2 in
    omega (arith, frame_short sound.0 a.shelf.room job (sound_waits a sound job is), c.end.ensures.most)

pub finish-requires : goal.finish-requires
finish-requires g c =
    let a : ArchiveState = record { end = c.self.inside.journal.end; live = c.self.inside.live; length = c.self.inside.entries; changes = c.self.inside.directory.changes; index = state_of c.self.inside.index; shelf = c.self.inside.shelf; marked = c.self.inside.marked; asked = c.self.inside.asked; job = c.self.inside.job } in
    let job = c.in-Some.job in
    let is : a.job ≡ Some job = sym c.take.ensures.value ∙ c.in-Some.is in
    let sound : IsSound a = c.self.invariant.2 in
    let waits = sound_waits a sound job is in
    let live = subst (λ (s : ArchiveState). IsTrue s.live) (sym c.self.view_is) c.requires.live in
    let last : job.pages - job.written ≤ 8 = omega (arith, c.if-job-gt-STINT_PAGES.false) in
    record {
      live = c.self.invariant.0 live;
      fits = omega (arith, c.if-limit-end.false, c.limit.ensures, c.end.ensures.end, waits.bytes_are);
      room = waits.room;
      few = omega (arith, c.self.invariant.1, c.end.ensures.end, c.end.ensures.most);
      places = waits.storable.places;
      taken = sound_taken a sound job is;
      each = waits.storable.each;
      last = last_pages sound.0 a.shelf.room job waits last;
    }

pub invariant_of-self-in-Ok-finish : goal.invariant_of-self-in-Ok-finish
invariant_of-self-in-Ok-finish g c =
    let a : ArchiveState = record { end = c.self.inside.journal.end; live = c.self.inside.live; length = c.self.inside.entries; changes = c.self.inside.directory.changes; index = state_of c.self.inside.index; shelf = c.self.inside.shelf; marked = c.self.inside.marked; asked = c.self.inside.asked; job = c.self.inside.job } in
    let job = c.in-Some.job in
    let is : a.job ≡ Some job = sym c.take.ensures.value ∙ c.in-Some.is in
    let sound : IsSound a = c.self.invariant.2 in
    let live = subst (λ (s : ArchiveState). IsTrue s.live) (sym c.self.view_is) c.requires.live in
    let none : c.take.new.self ≡ None = c.take.ensures.after in (
      λ now. c.in-Ok-finish.ensures.live,
      omega (arith, c.self.invariant.1, c.in-Ok-finish.ensures.end),
      subst (λ (o : Option Job). IsSound (record a { end = c.finish.new.journal.end; live = true; length = a.length + 1; shelf = c.finish.new.shelf; job = o })) (sym none) (finished_sound a sound job c.finish.new.journal.end c.finish.new.shelf live is c.in-Ok-finish.ensures.end c.in-Ok-finish.ensures.plans c.in-Ok-finish.ensures.pages),
    )

pub returns-in-Ok-finish-clause-within : goal.returns-in-Ok-finish-clause-within
returns-in-Ok-finish-clause-within g c =
    let a : ArchiveState = record { end = c.self.inside.journal.end; live = c.self.inside.live; length = c.self.inside.entries; changes = c.self.inside.directory.changes; index = state_of c.self.inside.index; shelf = c.self.inside.shelf; marked = c.self.inside.marked; asked = c.self.inside.asked; job = c.self.inside.job } in
    let job = c.in-Some.job in
    let is : a.job ≡ Some job = sym c.take.ensures.value ∙ c.in-Some.is in
    let sound : IsSound a = c.self.invariant.2 in
    let waits = sound_waits a sound job is in
    let last : job.pages - job.written ≤ 8 = omega (arith, c.if-job-gt-STINT_PAGES.false) in
    let was = subst (Reaches (g.D.Disk.disk c.args.disk.now).reach) (sym c.self.view_is) c.requires.within in
    let reach = g.met.D.Disk.only_reach c.args.disk.now c.finish.new.disk in
    let none : c.take.new.self ≡ None = c.take.ensures.after in
    subst (λ (o : Option Job). Reaches (g.D.Disk.disk c.finish.new.disk).reach (record a { end = c.finish.new.journal.end; live = true; length = a.length + 1; shelf = c.finish.new.shelf; job = o })) (sym none)
    (finished_within _ _ a sound.0 job c.finish.new.journal.end c.finish.new.shelf is waits last (reach Pages c.finish.ensures.only) was c.in-Ok-finish.ensures.reached c.in-Ok-finish.ensures.plans c.in-Ok-finish.ensures.inside)

pub returns-in-Ok-finish-clause-cached : goal.returns-in-Ok-finish-clause-cached
returns-in-Ok-finish-clause-cached g c = λ tells cached.
    let a : ArchiveState = record { end = c.self.inside.journal.end; live = c.self.inside.live; length = c.self.inside.entries; changes = c.self.inside.directory.changes; index = state_of c.self.inside.index; shelf = c.self.inside.shelf; marked = c.self.inside.marked; asked = c.self.inside.asked; job = c.self.inside.job } in
    let job = c.in-Some.job in
    let is : a.job ≡ Some job = sym c.take.ensures.value ∙ c.in-Some.is in
    let old = g.D.Disk.disk c.args.disk.now in
    let new = g.D.Disk.disk c.finish.new.disk in
    let all = subst (CacheStands old) (sym c.self.view_is) cached in
    let none : c.take.new.self ≡ None = c.take.ensures.after in
    subst (λ (o : Option Job). IsCacheOf (c.finish.new.shelf.cache ++ written_of o) new.holds.pages) (sym none) (cached_idle c.finish.new.shelf.cache new.holds.pages (c.in-Ok-finish.ensures.cached tells (cached_at old a job is all)))

pub returns-in-Ok-finish-clause-works : goal.returns-in-Ok-finish-clause-works
returns-in-Ok-finish-clause-works g c = λ tells s now.
    let a : ArchiveState = record { end = c.self.inside.journal.end; live = c.self.inside.live; length = c.self.inside.entries; changes = c.self.inside.directory.changes; index = state_of c.self.inside.index; shelf = c.self.inside.shelf; marked = c.self.inside.marked; asked = c.self.inside.asked; job = c.self.inside.job } in
    let job = c.in-Some.job in
    let is : a.job ≡ Some job = sym c.take.ensures.value ∙ c.in-Some.is in
    let old = g.D.Disk.disk c.args.disk.now in
    let new = g.D.Disk.disk c.finish.new.disk in
    let last : job.pages - job.written ≤ 8 = omega (arith, c.if-job-gt-STINT_PAGES.false) in
    let in_step = subst (λ (x : ArchiveState). AreInStepBy old x s) (sym c.self.view_is) now in
    let sound : IsSound a = c.self.invariant.2 in
    let waits = sound_waits a sound job is in
    let kept = cached_at old a job is in_step.cached in
    let none : c.take.new.self ≡ None = c.take.ensures.after in
    subst (λ (o : Option Job). (next : Store) × StoreStint s (Finished c.in-Ok-finish.summary) next × LeadsBy s next old new × AreInStepBy new (record a { end = c.finish.new.journal.end; live = true; length = a.length + 1; shelf = c.finish.new.shelf; job = o }) next) (sym none)
    (stint_done s a job c.finish.new.journal.end c.finish.new.shelf c.in-Ok-finish.summary old new in_step is last (omega (arith, c.if-limit-end.false, c.limit.ensures, c.end.ensures.end, waits.bytes_are)) c.in-Ok-finish.ensures.end c.in-Ok-finish.ensures.plans c.in-Ok-finish.ensures.pages c.in-Ok-finish.ensures.summary
    (c.in-Ok-finish.ensures.puts tells (bodies_of s.history) in_step.journal kept) (c.in-Ok-finish.ensures.entered tells (bodies_of s.history) in_step.journal) (c.in-Ok-finish.ensures.cached tells kept))

pub invariant_of-self-in-Err-finish : goal.invariant_of-self-in-Err-finish
invariant_of-self-in-Err-finish g c =
    let a : ArchiveState = record { end = c.self.inside.journal.end; live = c.self.inside.live; length = c.self.inside.entries; changes = c.self.inside.directory.changes; index = state_of c.self.inside.index; shelf = c.self.inside.shelf; marked = c.self.inside.marked; asked = c.self.inside.asked; job = c.self.inside.job } in
    let job = c.in-Some.job in
    let is : a.job ≡ Some job = sym c.take.ensures.value ∙ c.in-Some.is in
    let sound : IsSound a = c.self.invariant.2 in
    let live = subst (λ (s : ArchiveState). IsTrue s.live) (sym c.self.view_is) c.requires.live in (
      λ now. absurd (false≢true now),
      omega (arith, c.self.invariant.1, c.in-Err-finish.ensures.spent.0),
      failed_sound a sound c.finish.new.journal.end c.finish.new.shelf c.in-Err-finish.job job live is c.in-Err-finish.ensures.spent.0 c.in-Err-finish.ensures.spent.1 c.in-Err-finish.ensures.back,
    )

pub returns-in-Err-finish-clause-within : goal.returns-in-Err-finish-clause-within
returns-in-Err-finish-clause-within g c =
    let a : ArchiveState = record { end = c.self.inside.journal.end; live = c.self.inside.live; length = c.self.inside.entries; changes = c.self.inside.directory.changes; index = state_of c.self.inside.index; shelf = c.self.inside.shelf; marked = c.self.inside.marked; asked = c.self.inside.asked; job = c.self.inside.job } in
    let job = c.in-Some.job in
    let is : a.job ≡ Some job = sym c.take.ensures.value ∙ c.in-Some.is in
    let was = subst (Reaches (g.D.Disk.disk c.args.disk.now).reach) (sym c.self.view_is) c.requires.within in
    let reach = g.met.D.Disk.only_reach c.args.disk.now c.finish.new.disk in
    failed_within _ _ a c.finish.new.journal.end c.finish.new.shelf c.in-Err-finish.job job is c.in-Err-finish.ensures.spent.0 c.in-Err-finish.ensures.spent.1 c.in-Err-finish.ensures.back (reach Journal c.finish.ensures.only) (reach Pages c.finish.ensures.only) was

pub returns-in-Err-finish-clause-spent : goal.returns-in-Err-finish-clause-spent
returns-in-Err-finish-clause-spent g c =
    let a : ArchiveState = record { end = c.self.inside.journal.end; live = c.self.inside.live; length = c.self.inside.entries; changes = c.self.inside.directory.changes; index = state_of c.self.inside.index; shelf = c.self.inside.shelf; marked = c.self.inside.marked; asked = c.self.inside.asked; job = c.self.inside.job } in
    let job = c.in-Some.job in
    let is : a.job ≡ Some job = sym c.take.ensures.value ∙ c.in-Some.is in
    subst (λ (x : ArchiveState). IsSpent x (failed a c.finish.new.journal.end c.finish.new.shelf c.in-Err-finish.job)) c.self.view_is
    (failed_spent a c.finish.new.journal.end c.finish.new.shelf c.in-Err-finish.job job is c.in-Err-finish.ensures.spent.0 c.in-Err-finish.ensures.spent.1 c.in-Err-finish.ensures.back)

pub returns-in-Err-finish-clause-works : goal.returns-in-Err-finish-clause-works
returns-in-Err-finish-clause-works g c = λ tells s now.
    let a : ArchiveState = record { end = c.self.inside.journal.end; live = c.self.inside.live; length = c.self.inside.entries; changes = c.self.inside.directory.changes; index = state_of c.self.inside.index; shelf = c.self.inside.shelf; marked = c.self.inside.marked; asked = c.self.inside.asked; job = c.self.inside.job } in
    let job = c.in-Some.job in
    let is : a.job ≡ Some job = sym c.take.ensures.value ∙ c.in-Some.is in
    let old = g.D.Disk.disk c.args.disk.now in
    let new = g.D.Disk.disk c.finish.new.disk in
    let last : job.pages - job.written ≤ 8 = omega (arith, c.if-job-gt-STINT_PAGES.false) in
    let in_step = subst (λ (x : ArchiveState). AreInStepBy old x s) (sym c.self.view_is) now in
    let sound : IsSound a = c.self.invariant.2 in
    let waits = sound_waits a sound job is in
    stint_stopped s a job old new in_step is last (omega (arith, c.if-limit-end.false, c.limit.ensures, c.end.ensures.end, waits.bytes_are))
    (c.in-Err-finish.ensures.stops tells (bodies_of s.history) in_step.journal (cached_at old a job is in_step.cached))

pub overflow_sub-left : goal.overflow_sub-left
overflow_sub-left g c = omega (arith, c.if-job-gt-STINT_PAGES.true, ap (λ (j : Job). j.pages) c.in-Ok.ensures.wrote, ap (λ (j : Job). j.written) c.in-Ok.ensures.wrote)

pub overflow_add-self : goal.overflow_add-self
overflow_add-self g c = omega (arith, c.self.invariant.1, c.end.ensures.end, c.end.ensures.most)
