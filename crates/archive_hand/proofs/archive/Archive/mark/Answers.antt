use Rattle.std.proofs.Common.{◌≡◌, ◌++◌, ◌∷◌, [], ℕ, List, All, length, Err, ap, sym, subst, ◌∙◌, arith, rules}
use Rattle.machine_model.specs.declared.area.Area.TheVariants.{Journal, Pages}
use Rattle.pages_area.specs.Live.{IsInside}
use Rattle.journal_gates.specs.Crash.{Appends}
use Rattle.journal_gates.proofs.InStepLemmas.{step_at}
use Rattle.journal_entries.specs.Spelling.{spelling}
use Rattle.journal_entries.specs.declared.entry.Entry.TheVariants.{Format}
use Rattle.model_archive.specs.Histories.{History}
use Rattle.pages_sublists.specs.Paged.{ReachPages}
use Rattle.archive_plans.specs.Shelves.{extents_all}
use Rattle.archive_hand.specs.Jobs.{written_of}
use Rattle.archive_hand.specs.States.{ArchiveState, StandsFor, IsSound}
use Rattle.archive_hand.proofs.CacheLemmas.{is_sound, stands_live}
use Rattle.archive_hand.proofs.AddLemmas.{appends_nowhere, end_stays, inside_on, pages_nowhere, stands_marked, unrefused, with_mark}
use Rattle.archive_hand.proofs.JobLemmas.{reach_on}
use Rattle.archive_hand.proofs.archive.Archive.mark.Given.{Over}
use Rattle.archive_hand.proofs.archive.Archive.mark.Goals as goal

pub returns-then-self-clause-pages : goal.returns-then-self-clause-pages
returns-then-self-clause-pages g c = λ tells. pages_nowhere _

pub returns-then-limit-end-clause-pages : goal.returns-then-limit-end-clause-pages
returns-then-limit-end-clause-pages g c = λ tells. pages_nowhere _

pub returns-in_err-body-clause-crash : goal.returns-in_err-body-clause-crash
returns-in_err-body-clause-crash g c = λ tells bodies step. appends_nowhere _ _ bodies (spelling Format) step

pub returns-in_err-body-clause-pages : goal.returns-in_err-body-clause-pages
returns-in_err-body-clause-pages g c = λ tells. pages_nowhere _

pub returns-in_err-frame-clause-crash : goal.returns-in_err-frame-clause-crash
returns-in_err-frame-clause-crash g c = λ tells bodies step. appends_nowhere _ _ bodies (spelling Format) step

pub returns-in_err-frame-clause-pages : goal.returns-in_err-frame-clause-pages
returns-in_err-frame-clause-pages g c = λ tells. pages_nowhere _

pub returns-in-Ok-clause-crash : goal.returns-in-Ok-clause-crash
returns-in-Ok-clause-crash g c = λ tells bodies step.
    let B : List ℕ → Type 0 = λ b. Appends bodies b (g.D.Disk.disk c.args.disk.now) (g.D.Disk.disk c.append.new.disk) in
    subst B (c.in_ok-frame.ensures.body ∙ c.deref.ensures.value ∙ c.in_ok-body.ensures.spelled) (c.in-Ok.ensures.crash tells bodies (step_at (ap (λ s. s.end) c.self.view_is) step))

pub returns-clause-crash : goal.returns-clause-crash
returns-clause-crash g c = λ tells bodies step.
    let B : List ℕ → Type 0 = λ b. Appends bodies b (g.D.Disk.disk c.args.disk.now) (g.D.Disk.disk c.append.new.disk) in
    subst B (c.in_ok-frame.ensures.body ∙ c.deref.ensures.value ∙ c.in_ok-body.ensures.spelled) (c.in-Err.ensures.crash tells bodies (step_at (ap (λ s. s.end) c.self.view_is) step))

-- nothing refuses the mark
marks : (g : Over) (c : goal.After-drop-body-in-Ok g) (h : History) → StandsFor c.args.self.now h → StandsFor (with_mark c.args.self.now c.append.new.self.end) (h ++ Format ∷ [])
marks g c h now =
    let view = ap (λ (s : ArchiveState). s.end) c.self.view_is in
    let long : length c.in_ok-frame.frame ≡ 3 = ap length (c.in_ok-frame.ensures.body ∙ c.deref.ensures.value) ∙ c.in_ok-body.ensures.len in
    stands_marked c.args.self.now h c.append.new.self.end now
    (unrefused h (sym now.marked_is ∙ sym (ap (λ (s : ArchiveState). s.marked) c.self.view_is) ∙ c.if-self.false)
    (omega (arith, c.if-limit-end.false, c.limit.ensures, c.end.ensures.end, view, now.end_is)))
    (omega (arith, c.in-Ok.ensures.end, view, long))

pub invariant_of-self-in-Ok : goal.invariant_of-self-in-Ok
invariant_of-self-in-Ok g c =
    let sound : IsSound c.args.self.now = subst IsSound c.self.view_is c.self.invariant.2 in
    let h = sound.0 in (
      λ live. search rules,
      omega (arith, c.self.invariant.1, c.in-Ok.ensures.end),
      is_sound _ (h ++ Format ∷ []) (rw (← c.self.view_is) at (marks g c h (stands_live c.args.self.now sound c.requires.live))),
    )

pub returns-in-Ok-clause-stands : goal.returns-in-Ok-clause-stands
returns-in-Ok-clause-stands g c = λ h now. (rw (← c.self.view_is) at (marks g c h now), omega (arith, now.length_is, ap (λ (s : ArchiveState). s.length) c.self.view_is))

pub returns-clause-within : goal.returns-clause-within
returns-clause-within g c =
    let view = ap (λ s. s.end) c.self.view_is in
    let reach = g.met.D.Disk.only_reach c.args.disk.now c.append.new.disk Journal c.append.ensures.only in
    let P : ArchiveState → Type 0 = λ a. All (IsInside (g.D.Disk.disk c.append.new.disk).reach.pages) (extents_all a.shelf.plans) in
    let W : ArchiveState → Type 0 = λ a. ReachPages (g.D.Disk.disk c.append.new.disk).reach.pages (written_of a.job) in
    let further = g.met.D.Disk.only_reach c.args.disk.now c.append.new.disk Pages c.append.ensures.only in (
      omega (arith, end_stays c.in-Err.field-0 c.append.new.self c.self.inside.journal (λ is. (c.in-Err.ensures.same (ap Err is)).0) (λ is. c.in-Err.ensures.spent (ap Err is)), view, reach, c.requires.within.0),
      subst P (sym c.self.view_is) (inside_on _ _ _ further c.requires.within.1),
      subst W (sym c.self.view_is) (reach_on _ _ _ further c.requires.within.2),
    )
