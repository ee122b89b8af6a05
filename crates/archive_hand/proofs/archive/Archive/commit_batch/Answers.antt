use Rattle.std.proofs.Common.{◌≡◌, ◌+◌, ◌++◌, ◌∷◌, [], ℕ, List, All, length, is_err, Result, Ok, Err, OnOk, true, false, ap, sym, subst, ◌∙◌, arith, rules}
use Rattle.machine_model.specs.declared.area.Area.TheVariants.{Journal, Pages}
use Rattle.base_types.specs.declared.text_place.TextPlace.{TextPlace}
use Rattle.pages_area.specs.Live.{IsInside}
use Rattle.lists_versions.specs.declared.change.Change.{Change}
use Rattle.journal_entries.specs.declared.act.Act.{Act}
use Rattle.journal_entries.specs.declared.entry.Entry.TheVariants.{Batch}
use Rattle.journal_gates.specs.Crash.{Appends}
use Rattle.journal_gates.proofs.InStepLemmas.{step_at}
use Rattle.lists_index.specs.Indexes.{Indexes, state_of}
use Rattle.model_archive.specs.Histories.{History, changes}
use Rattle.archive_entries.specs.Batches.{IsNextBatch}
use Rattle.pages_sublists.specs.Paged.{ReachPages}
use Rattle.archive_plans.specs.Shelves.{extents_all}
use Rattle.archive_hand.specs.Jobs.{written_of}
use Rattle.archive_hand.specs.States.{ArchiveState, StandsFor, IsSound}
use Rattle.archive_hand.proofs.AddLemmas.{appends_nowhere, end_stays, inside_on, pages_nowhere, stands_batch}
use Rattle.archive_hand.proofs.CacheLemmas.{cached_on, is_sound, stands_live}
use Rattle.archive_hand.proofs.JobLemmas.{reach_on}
use Rattle.archive_hand.proofs.archive.Archive.commit_batch.Given.{Over}
use Rattle.archive_hand.proofs.archive.Archive.commit_batch.Goals as goal

pub returns-then-limit-end-clause-crash : goal.returns-then-limit-end-clause-crash
returns-then-limit-end-clause-crash g c = λ tells bodies step. appends_nowhere _ _ bodies c.args.prepared.body.items step

pub returns-then-limit-end-clause-pages : goal.returns-then-limit-end-clause-pages
returns-then-limit-end-clause-pages g c = λ tells. pages_nowhere _

pub returns-in_err-frame-clause-crash : goal.returns-in_err-frame-clause-crash
returns-in_err-frame-clause-crash g c = λ tells bodies step. appends_nowhere _ _ bodies c.args.prepared.body.items step

pub returns-in_err-frame-clause-pages : goal.returns-in_err-frame-clause-pages
returns-in_err-frame-clause-pages g c = λ tells. pages_nowhere _

pub returns-in_err-reserve_all-clause-crash : goal.returns-in_err-reserve_all-clause-crash
returns-in_err-reserve_all-clause-crash g c = λ tells bodies step. appends_nowhere _ _ bodies c.args.prepared.body.items step

pub returns-in_err-reserve_all-clause-pages : goal.returns-in_err-reserve_all-clause-pages
returns-in_err-reserve_all-clause-pages g c = λ tells. pages_nowhere _

pub returns-then-is_err-clause-crash : goal.returns-then-is_err-clause-crash
returns-then-is_err-clause-crash g c = λ tells bodies step. appends_nowhere _ _ bodies c.args.prepared.body.items step

pub returns-then-is_err-clause-pages : goal.returns-then-is_err-clause-pages
returns-then-is_err-clause-pages g c = λ tells. pages_nowhere _

pub returns-in-Ok-clause-crash : goal.returns-in-Ok-clause-crash
returns-in-Ok-clause-crash g c = λ tells bodies step.
    let B : List ℕ → Type 0 = λ b. Appends bodies b (g.D.Disk.disk c.args.disk.now) (g.D.Disk.disk c.append.new.disk) in
    subst B (c.in_ok-frame.ensures.body ∙ c.deref.ensures.value) (c.in-Ok.ensures.crash tells bodies (step_at (ap (λ s. s.end) c.self.view_is) step))

pub returns-clause-crash : goal.returns-clause-crash
returns-clause-crash g c = λ tells bodies step.
    let B : List ℕ → Type 0 = λ b. Appends bodies b (g.D.Disk.disk c.args.disk.now) (g.D.Disk.disk c.append.new.disk) in
    subst B (c.in_ok-frame.ensures.body ∙ c.deref.ensures.value) (c.in-Err.ensures.crash tells bodies (step_at (ap (λ s. s.end) c.self.view_is) step))

pub returns-then-limit-end-clause-cached : goal.returns-then-limit-end-clause-cached
returns-then-limit-end-clause-cached g c = λ tells cached is. cached

pub returns-in-Ok-clause-cached : goal.returns-in-Ok-clause-cached
returns-in-Ok-clause-cached g c = λ tells cached is.
    cached_on (c.args.self.now.shelf.cache ++ written_of c.args.self.now.job) (c.self.inside.shelf.cache ++ written_of c.self.inside.job) (g.D.Disk.disk c.args.disk.now) (g.D.Disk.disk c.append.new.disk) (ap (λ (s : ArchiveState). s.shelf.cache ++ written_of s.job) c.self.view_is) (c.in-Ok.ensures.pages_hold tells) cached

pub returns-clause-within : goal.returns-clause-within
returns-clause-within g c =
    let view = ap (λ s. s.end) c.self.view_is in
    let reach = g.met.D.Disk.only_reach c.args.disk.now c.append.new.disk Journal c.append.ensures.only in
    let P : ArchiveState → Type 0 = λ a. All (IsInside (g.D.Disk.disk c.append.new.disk).reach.pages) (extents_all a.shelf.plans) in
    let W : ArchiveState → Type 0 = λ a. ReachPages (g.D.Disk.disk c.append.new.disk).reach.pages (written_of a.job) in
    let further = g.met.D.Disk.only_reach c.args.disk.now c.append.new.disk Pages c.append.ensures.only in (
      omega (arith, end_stays c.in-Err.field-0 c.append.new.self c.self.inside.journal (λ is. (c.in-Err.ensures.same (ap Err is)).0) (λ is. c.in-Err.ensures.spent (ap Err is)), view, reach, c.requires.within.0),
      subst P (sym c.self.view_is) (inside_on _ _ _ further c.requires.within.1),
      subst W (sym c.self.view_is) (reach_on _ _ _ further c.requires.within.2),
    )

-- an index that took the acts in tells of them
on_ok_is : {T E : Type 0} (P : Type 0) (r : Result T E) → is_err r ≡ false → OnOk r P → P
on_ok_is P (Ok x) none is = is
on_ok_is P (Err e) none is = absurd cc

taken : (g : Over) (c : goal.After-drop-changes-in-Ok g) (h : History) (batch : List Act) → StandsFor c.args.self.now h → IsNextBatch h batch c.args.prepared
    → Indexes (state_of c.take_in_all.new.index) (changes (h ++ Batch batch ∷ []))
taken g c h batch now next =
    let stands = subst (λ (a : ArchiveState). StandsFor a h) (sym c.self.view_is) now in
    on_ok_is _ c.take_in_all.result (sym c.is_err.ensures.value ∙ c.if-is_err.false) c.take_in_all.ensures.taken h batch stands.loadable next.legal.allowed next.ready stands.index_is

-- an archive with the batch
made : (g : Over) (c : goal.After-drop-changes-in-Ok g) (h : History) (batch : List Act) → StandsFor c.args.self.now h → IsNextBatch h batch c.args.prepared
    → StandsFor (record { end = c.append.new.self.end; live = true; length = c.self.inside.entries + 1; changes = c.note_all.new.directory.changes; index = state_of c.take_in_all.new.index; shelf = c.self.inside.shelf; marked = c.self.inside.marked; asked = c.self.inside.asked; job = c.self.inside.job }) (h ++ Batch batch ∷ [])
made g c h batch now next =
    let stands = subst (λ (a : ArchiveState). StandsFor a h) (sym c.self.view_is) now in
    stands_batch _ h batch c.args.prepared c.append.new.self.end c.note_all.new.directory.changes (state_of c.take_in_all.new.index) stands next
    (omega (arith, c.in-Ok.ensures.end, ap length (c.in_ok-frame.ensures.body ∙ c.deref.ensures.value)))
    (c.note_all.ensures ∙ ap (λ (l : List (Change TextPlace)). l ++ c.deref-in-Ok.result.now) c.reserve_all.ensures.same
    ∙ ap (λ (l : List (Change TextPlace)). c.self.inside.directory.changes ++ l) c.deref-in-Ok.ensures.value)
    (taken g c h batch now next)

pub invariant_of-self-in-Ok : goal.invariant_of-self-in-Ok
invariant_of-self-in-Ok g c =
    let sound : IsSound c.args.self.now = subst IsSound c.self.view_is c.self.invariant.2 in
    let h = sound.0 in
    let now : StandsFor c.args.self.now h = stands_live c.args.self.now sound c.requires.live in
    let (batch, next) = c.requires.next h now in (
      λ live. search rules,
      omega (arith, c.self.invariant.1, c.in-Ok.ensures.end),
      is_sound _ (h ++ Batch batch ∷ []) (made g c h batch now next),
    )

pub returns-in-Ok-clause-stands : goal.returns-in-Ok-clause-stands
returns-in-Ok-clause-stands g c = λ h batch now next. (made g c h batch now next, omega (arith, now.length_is, ap (λ (s : ArchiveState). s.length) c.self.view_is))
