use Rattle.std.proofs.Common.{ℕ, ◌+◌, List, ◌∷◌, [], ◌++◌, length, Option, Err, true, inl, inr, refl, ap, sym, subst, ◌∙◌, arith, rules}
use Rattle.std.proofs.lemmas.Bool.{false≢true}
use Rattle.machine_model.specs.declared.area.Area.TheVariants.{Journal, Pages}
use Rattle.journal_entries.specs.declared.entry.Entry.TheVariants as entries
use Rattle.journal_entries.specs.declared.plan.PlanEntry.{PlanEntry}
use Rattle.lists_index.specs.Indexes.{seen, state_of}
use Rattle.pages_area.specs.Caches.{Kept, StandsFor as IsCacheOf}
use Rattle.pages_area.specs.Taken.{HasTaken}
use Rattle.pages_sublists.specs.Paged.{ReachPages}
use Rattle.pages_sublists.specs.Preparing.{extents}
use Rattle.model_archive.specs.declared.stored.StoredPlan.{StoredPlan}
use Rattle.model_archive.specs.Histories.{History}
use Rattle.model_archive.specs.Plans.{with_plan, live_extents}
use Rattle.archive_hand.specs.Adding.{HasSameShelf}
use Rattle.model_archive.specs.Stands.{bodies_of}
use Rattle.model_archive.specs.Worlds.{taken_in}
use Rattle.archive_hand.specs.Jobs.{places_of, plain_job, written_of}
use Rattle.archive_hand.specs.Storing.{IsStorable}
use Rattle.archive_hand.specs.StoringAt.{HasOwnPlaces}
use Rattle.archive_hand.specs.declared.job.Job.{Job}
use Rattle.archive_hand.specs.States.{ArchiveState, StandsFor, IsSound, AreInStepBy, with_entry}
use Rattle.archive_plans.specs.Shelves.{extents_all}
use Rattle.archive_plans.specs.ReadyingAt.{IsUntaken}
use Rattle.archive_hand.proofs.AddLemmas.{bodies_more, inside_on}
use Rattle.archive_hand.proofs.AtLemmas.{at_own, at_planned, at_storable, still_in_step}
use Rattle.archive_hand.proofs.ByReadsLemmas.{all_same, keeps_nowhere, same_as}
use Rattle.archive_hand.proofs.PutLemmas.{begun_keeps, put_there}
use Rattle.archive_hand.proofs.CacheLemmas.{cached_on, is_sound, stands_live}
use Rattle.archive_hand.proofs.JobLemmas.{both_stand, kept_part, reach_on, taken_same, under_way_more, written_apart, written_part}
use Rattle.archive_hand.proofs.StoreLemmas.{placed_inside, same_shelf, stands_still, still_but}
use Rattle.archive_hand.proofs.archive.Archive.store_at.Given.{Over}
use Rattle.archive_hand.proofs.archive.Archive.store_at.Goals as goal

pub returns-in-Err-NoRoom-clause-refused : goal.returns-in-Err-NoRoom-clause-refused
returns-in-Err-NoRoom-clause-refused g c = λ h stands is.
    let before = subst (λ (s : ArchiveState). StandsFor s h) (sym c.self.view_is) stands in
    let job = c.args.self.now.job in
    let taken = taken_same h c.args.self.now.shelf.room job stands.under_way in (
      subst (λ (n : ℕ). IsUntaken c.args.plan c.args.list.now (taken_in (plain_job job) h) n (length c.args.body.now)) (c.end.ensures.end ∙ ap (λ (s : ArchiveState). s.end) c.self.view_is)
          (c.in-Err-NoRoom.ensures.refused (taken_in (plain_job job) h) (subst (HasTaken c.self.inside.shelf.pages) (ap (λ (o : Option Job). places_of o ++ live_extents h) (ap (λ (s : ArchiveState). s.job) c.self.view_is) ∙ taken) before.pages_are) (ap Err c.in-Err-NoRoom.field-0-is)),
      stands_still _ h c.ready_at.new.shelf before c.ready_at.ensures.plans (c.in-Err-NoRoom.ensures.none _ before.pages_are) (under_way_more h _ _ _ c.ready_at.ensures.more before.under_way),
    )

pub returns-in-Err-NoRoom-clause-cached : goal.returns-in-Err-NoRoom-clause-cached
returns-in-Err-NoRoom-clause-cached g c = λ tells cached is.
    let disk = g.D.Disk.disk c.args.disk.now in
    cached_on (c.args.self.now.shelf.cache ++ written_of c.args.self.now.job) (c.ready_at.new.shelf.cache ++ written_of c.self.inside.job) disk disk
    (ap (λ (ks : List Kept). ks ++ written_of c.self.inside.job) c.ready_at.ensures.cache ∙ ap (λ (s : ArchiveState). s.shelf.cache ++ written_of s.job) c.self.view_is) refl cached

pub returns-in-Err-NoRoom-clause-kept : goal.returns-in-Err-NoRoom-clause-kept
returns-in-Err-NoRoom-clause-kept g c = λ tells s now is.
    let view = c.self.view_is in
    still_in_step _ c.args.self.now _ s now (returns-in-Err-NoRoom-clause-refused g c s.history now.stands refl).1 (ap (λ (a : ArchiveState). a.end) view) (ap (λ (a : ArchiveState). a.asked) view)
    (c.ready_at.ensures.cache ∙ ap (λ (a : ArchiveState). a.shelf.cache) view) (ap (λ (a : ArchiveState). a.job) view) (returns-in-Err-NoRoom-clause-cached g c tells now.cached (inr refl))

pub returns-in-Err-Memory-clause-cached : goal.returns-in-Err-Memory-clause-cached
returns-in-Err-Memory-clause-cached g c = λ tells cached is. absurd (elim is [ inl ok ↦ false≢true ok | inr other ↦ cc ])

pub returns-in-Err-Memory-clause-starved : goal.returns-in-Err-Memory-clause-starved
returns-in-Err-Memory-clause-starved g c = λ tells s now is. keeps_nowhere _ c.args.self.now s now

-- its pages are taken beside those of the live plans, and of a plan that is being written
pub write_ready-requires-clause-taken : goal.write_ready-requires-clause-taken
write_ready-requires-clause-taken g c =
    let stands = c.self.invariant.2.1 in (
      places_of c.self.inside.job,
      subst (λ (l : List StoredPlan). HasTaken c.ready_at.new.shelf.pages (extents c.in-Ok.ready.prepared.places ++ (places_of c.self.inside.job ++ extents_all l))) (sym (c.in-Ok.ensures.plans ∙ stands.plans_are)) (c.in-Ok.ensures.taken _ stands.pages_are),
    )

-- the archive with the plan
abbrev after : (g : Over) (c : goal.After-self-in-Ok-write_ready-2-1 g) → ArchiveState
after g c = record { end = c.write_ready.new.journal.end; live = true; length = c.self.inside.entries + 1; changes = c.self.inside.directory.changes; index = state_of c.self.inside.index; shelf = c.write_ready.new.shelf; marked = c.self.inside.marked; asked = c.self.inside.asked; job = c.self.inside.job }

-- its pages are taken beside those of the live plans, and of a plan that is being written
ready_taken : (g : Over) (c : goal.After-self-in-Ok-write_ready-2-1 g) (h : History)
    → StandsFor (record { end = c.self.inside.journal.end; live = c.self.inside.live; length = c.self.inside.entries; changes = c.self.inside.directory.changes; index = state_of c.self.inside.index; shelf = c.self.inside.shelf; marked = c.self.inside.marked; asked = c.self.inside.asked; job = c.self.inside.job }) h
    → HasTaken c.ready_at.new.shelf.pages (extents c.in-Ok.ready.prepared.places ++ (places_of c.self.inside.job ++ extents_all c.ready_at.new.shelf.plans))
ready_taken g c h before =
    subst (λ (l : List StoredPlan). HasTaken c.ready_at.new.shelf.pages (extents c.in-Ok.ready.prepared.places ++ (places_of c.self.inside.job ++ extents_all l))) (sym (c.in-Ok.ensures.plans ∙ before.plans_are)) (c.in-Ok.ensures.taken _ before.pages_are)

-- the archive with the plan stands for a history more
planned : (g : Over) (c : goal.After-self-in-Ok-write_ready-2-1 g) (h : History) → StandsFor c.args.self.now h
    → StandsFor (after g c) (h ++ entries.Planned c.args.plan ∷ [])
planned g c h now =
    at_planned _ h c.args.plan c.args.list.now c.args.body.now c.end.result c.write_ready.new.journal.end c.in-Ok.ready c.write_ready.new.shelf (subst (λ (s : ArchiveState). StandsFor s h) (sym c.self.view_is) now) (c.requires.legal h now).0 c.requires.spelled
    c.end.ensures.end c.in-Ok.ensures.ready c.in-Ok-write_ready.ensures.end (c.in-Ok-write_ready.ensures.plans ∙ ap (λ (l : List StoredPlan). with_plan l c.in-Ok.ready.stored) c.in-Ok.ensures.plans)
    (c.in-Ok-write_ready.ensures.pages (places_of c.self.inside.job) (ready_taken g c h (subst (λ (s : ArchiveState). StandsFor s h) (sym c.self.view_is) now))) (λ some. omega (arith, c.in-Ok-write_ready.ensures.room, c.in-Ok.ensures.room))

pub invariant_of-self-in-Ok-write_ready : goal.invariant_of-self-in-Ok-write_ready
invariant_of-self-in-Ok-write_ready g c =
    let sound : IsSound c.args.self.now = subst IsSound c.self.view_is c.self.invariant.2 in
    let h = sound.0 in (
      λ live. search rules,
      omega (arith, c.self.invariant.1, c.in-Ok-write_ready.ensures.end),
      is_sound _ (h ++ entries.Planned c.args.plan ∷ []) (planned g c h (stands_live c.args.self.now sound c.requires.live)),
    )

pub invariant_of-self-in-Err : goal.invariant_of-self-in-Err
invariant_of-self-in-Err g c =
    let a : ArchiveState = record { end = c.self.inside.journal.end; live = c.self.inside.live; length = c.self.inside.entries; changes = c.self.inside.directory.changes; index = state_of c.self.inside.index; shelf = c.self.inside.shelf; marked = c.self.inside.marked; asked = c.self.inside.asked; job = c.self.inside.job } in
    let h = c.self.invariant.2.0 in
    let stands = c.self.invariant.2.1 in
    let spent = c.in-Err.ensures.spent in (
      λ now. absurd (false≢true now),
      omega (arith, c.self.invariant.1, spent.0),
      (
        h,
        still_but a h c.write_ready.new.journal.end c.write_ready.new.shelf stands spent.0 (spent.1 ∙ c.in-Ok.ensures.plans) (c.in-Err.ensures.freed _ (c.in-Ok.ensures.taken _ stands.pages_are))
            (omega (arith, spent.3, c.ready_at.ensures.more)),
        λ now. absurd (false≢true now),
      ),
    )

pub returns-in-Ok-write_ready-clause-within : goal.returns-in-Ok-write_ready-clause-within
returns-in-Ok-write_ready-clause-within g c =
    let r = c.in-Ok.ready in
    let plans = c.in-Ok-write_ready.ensures.plans ∙ ap (λ (l : List StoredPlan). with_plan l r.stored) (c.in-Ok.ensures.plans ∙ ap (λ (s : ArchiveState). s.shelf.plans) c.self.view_is) in
    let longer = g.met.D.Disk.only_reach c.args.disk.now c.write_ready.new.disk Pages c.write_ready.ensures.only in (
      c.in-Ok-write_ready.ensures.reached,
      placed_inside (g.D.Disk.disk c.args.disk.now).reach.pages (g.D.Disk.disk c.write_ready.new.disk).reach.pages c.args.self.now.shelf.plans c.write_ready.new.shelf.plans r.stored r.prepared.places longer c.requires.within.1 plans (ap (λ p. p.places) c.in-Ok.ensures.ready.plan_is ∙ sym c.in-Ok.ensures.ready.places_are) c.in-Ok-write_ready.ensures.inside,
      subst (λ (s : ArchiveState). ReachPages (g.D.Disk.disk c.write_ready.new.disk).reach.pages (written_of s.job)) (sym c.self.view_is) (reach_on _ _ _ longer c.requires.within.2),
    )

pub returns-in-Ok-write_ready-clause-stores : goal.returns-in-Ok-write_ready-clause-stores
returns-in-Ok-write_ready-clause-stores g c = λ h now.
    let stands = subst (λ (s : ArchiveState). StandsFor s h) (sym c.self.view_is) now in
    (planned g c h now, ap (λ (n : ℕ). n + 1) stands.length_is)

pub returns-in-Ok-write_ready-clause-placed : goal.returns-in-Ok-write_ready-clause-placed
returns-in-Ok-write_ready-clause-placed g c = λ h now is.
    let stands = subst (λ (s : ArchiveState). StandsFor s h) (sym c.self.view_is) now in
    subst (λ (s : ArchiveState). HasOwnPlaces (plain_job s.job) h c.args.plan c.args.list.now) c.self.view_is
    (at_own (plain_job c.self.inside.job) h c.args.plan c.args.list.now c.args.body.now c.end.result c.in-Ok.ready (c.end.ensures.end ∙ stands.end_is) c.requires.spelled c.in-Ok.ensures.ready
    (c.in-Ok.ensures.taken _ (subst (HasTaken c.self.inside.shelf.pages) (taken_same h _ c.self.inside.job stands.under_way) stands.pages_are)).apart)

pub returns-in-Err-clause-placed : goal.returns-in-Err-clause-placed
returns-in-Err-clause-placed g c = λ h now is.
    let stands = subst (λ (s : ArchiveState). StandsFor s h) (sym c.self.view_is) now in
    subst (λ (s : ArchiveState). HasOwnPlaces (plain_job s.job) h c.args.plan c.args.list.now) c.self.view_is
    (at_own (plain_job c.self.inside.job) h c.args.plan c.args.list.now c.args.body.now c.end.result c.in-Ok.ready (c.end.ensures.end ∙ stands.end_is) c.requires.spelled c.in-Ok.ensures.ready
    (c.in-Ok.ensures.taken _ (subst (HasTaken c.self.inside.shelf.pages) (taken_same h _ c.self.inside.job stands.under_way) stands.pages_are)).apart)

pub returns-in-Ok-write_ready-clause-cached : goal.returns-in-Ok-write_ready-clause-cached
returns-in-Ok-write_ready-clause-cached g c = λ tells cached is.
    let pages = (g.D.Disk.disk c.args.disk.now).holds.pages in
    let now = (g.D.Disk.disk c.write_ready.new.disk).holds.pages in
    let stands = c.self.invariant.2.1 in
    let written = written_of c.self.inside.job in
    let all : IsCacheOf (c.self.inside.shelf.cache ++ written) pages = subst (λ (s : ArchiveState). IsCacheOf (s.shelf.cache ++ written_of s.job) pages) (sym c.self.view_is) cached in
    let kept = c.in-Ok-write_ready.ensures.cached tells (subst (λ (ks : List Kept). IsCacheOf ks pages) (sym c.in-Ok.ensures.cache) (kept_part c.self.inside.shelf.cache written pages all)) in
    let r = c.in-Ok.ready in
    let each = c.in-Ok.ensures.ready.each in
    let apart = written_apart c.self.invariant.2.0 _ c.self.inside.job r.prepared (live_extents c.self.invariant.2.0) stands.under_way each (c.in-Ok.ensures.taken _ stands.pages_are).apart in
    both_stand c.write_ready.new.shelf.cache written now kept (c.in-Ok-write_ready.ensures.others tells written apart (written_part c.self.inside.shelf.cache written pages all))

pub returns-in-Err-clause-within : goal.returns-in-Err-clause-within
returns-in-Err-clause-within g c =
    let spent = c.in-Err.ensures.spent in
    let only = g.met.D.Disk.only_reach c.args.disk.now c.write_ready.new.disk in (
      omega (arith, spent.0, c.requires.within.0, ap (λ (s : ArchiveState). s.end) c.self.view_is, only Journal c.write_ready.ensures.only),
      rw (spent.1 ∙ c.in-Ok.ensures.plans ∙ ap (λ (s : ArchiveState). s.shelf.plans) c.self.view_is) (inside_on _ _ _ (only Pages c.write_ready.ensures.only) c.requires.within.1),
      subst (λ (s : ArchiveState). ReachPages (g.D.Disk.disk c.write_ready.new.disk).reach.pages (written_of s.job)) (sym c.self.view_is) (reach_on _ _ _ (only Pages c.write_ready.ensures.only) c.requires.within.2),
    )

pub returns-in-Err-clause-spent : goal.returns-in-Err-clause-spent
returns-in-Err-clause-spent g c = λ is.
    let h = c.self.invariant.2.0 in
    let stands = c.self.invariant.2.1 in
    let spent = c.in-Err.ensures.spent in
    let pages = c.in-Err.ensures.freed _ (c.in-Ok.ensures.taken _ stands.pages_are) in
    let view = c.self.view_is in
    let shelf = same_shelf c.self.inside.shelf c.write_ready.new.shelf (places_of c.self.inside.job ++ live_extents h) (spent.1 ∙ c.in-Ok.ensures.plans) (omega (arith, spent.3, c.ready_at.ensures.more)) stands.pages_are pages (spent.2 ∙ c.in-Ok.ensures.cache) in
    record {
      end_is = spent.0 ∙ ap (λ (s : ArchiveState). s.end) view;
      length_is = ap (λ (s : ArchiveState). s.length) view;
      changes_are = ap (λ (s : ArchiveState). s.changes) view;
      index_is = ap (λ (s : ArchiveState). seen s.index) view;
      shelf_is = subst (λ (s : ArchiveState). HasSameShelf s.shelf c.write_ready.new.shelf) view shelf;
      marked_is = ap (λ (s : ArchiveState). s.marked) view;
      asked_is = ap (λ (s : ArchiveState). s.asked) view;
      job_is = ap (λ (s : ArchiveState). s.job) view;
      live_is = refl;
    }

pub returns-in-Ok-write_ready-clause-puts : goal.returns-in-Ok-write_ready-clause-puts
returns-in-Ok-write_ready-clause-puts g c = λ tells s now.
    let in_step = subst (λ (a : ArchiveState). AreInStepBy (g.D.Disk.disk c.args.disk.now) a s) (sym c.self.view_is) now in
    let h = s.history in
    let r = c.in-Ok.ready in
    let ready = c.in-Ok.ensures.ready in
    let plan = c.args.plan in
    let (legal, listed) = c.requires.legal h now.stands in
    let pages = (g.D.Disk.disk c.write_ready.new.disk).holds.pages in
    let storable : IsStorable h plan r.prepared r.frame = subst (λ (p : PlanEntry). IsStorable h p r.prepared r.frame) ready.plan_is
    (at_storable h (places_of c.self.inside.job) plan c.args.list.now c.args.body.now c.end.result r legal listed c.requires.spelled ready (c.in-Ok.ensures.taken _ in_step.stands.pages_are).apart) in
    let put = c.in-Ok-write_ready.ensures.puts tells (bodies_of h) in_step.journal in
    let there = put_there s plan r.prepared r.frame pages _ _ _ (after g c) in_step storable put.0 in (
      with_entry s (entries.Planned plan) pages (after g c) (g.D.Disk.disk c.write_ready.new.disk),
      (
        record {
          job_is = refl;
          next_is = refl;
          stocks = there.stocks;
          leads = there.leads;
        },
        record {
          stands = planned g c h now.stands;
          asked_are = in_step.asked_are;
          journal = rw (← bodies_more h (entries.Planned plan) r.frame storable.framed) (c.in-Ok-write_ready.ensures.entered tells (bodies_of h) in_step.journal);
          pages_are = refl;
          kept_are = refl;
          read_is = refl;
          job_is = in_step.job_is;
          live = (there.inside, there.stocks.apart);
          same = λ image allowed. same_as pages pages image.pages (live_extents (h ++ entries.Planned plan ∷ [])) (put.1 image allowed) (all_same pages (live_extents (h ++ entries.Planned plan ∷ [])) there.inside);
          cached = returns-in-Ok-write_ready-clause-cached g c tells now.cached (inl refl);
        },
      ),
    )

pub returns-in-Err-clause-stops : goal.returns-in-Err-clause-stops
returns-in-Err-clause-stops g c = λ tells s now is.
    let in_step = subst (λ (a : ArchiveState). AreInStepBy (g.D.Disk.disk c.args.disk.now) a s) (sym c.self.view_is) now in
    let h = s.history in
    let r = c.in-Ok.ready in
    let ready = c.in-Ok.ensures.ready in
    let plan = c.args.plan in
    let (legal, listed) = c.requires.legal h now.stands in
    let storable : IsStorable h plan r.prepared r.frame = subst (λ (p : PlanEntry). IsStorable h p r.prepared r.frame) ready.plan_is
    (at_storable h (places_of c.self.inside.job) plan c.args.list.now c.args.body.now c.end.result r legal listed c.requires.spelled ready (c.in-Ok.ensures.taken _ in_step.stands.pages_are).apart) in
    elim (c.in-Err.ensures.stops tells (bodies_of h) in_step.journal) [
      | inl started ↦ inl (begun_keeps s plan r.prepared r.frame _ _ _ in_step storable started)
      | inr put ↦
          let there = put_there s plan r.prepared r.frame put.0 _ _ _ c.args.self.now in_step storable put.1 in
          inr (
            with_entry s (entries.Planned plan) put.0 c.args.self.now (g.D.Disk.disk c.write_ready.new.disk),
            record {
              job_is = refl;
              next_is = refl;
              stocks = there.stocks;
              leads = there.leads;
            },
          )
    ]
