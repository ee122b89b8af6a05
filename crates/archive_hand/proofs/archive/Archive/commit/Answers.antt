use Rattle.std.proofs.Common.{◌+◌, ◌++◌, ◌∷◌, [], ℕ, List, All, length, Err, true, refl, ap, ap₂, sym, subst, ◌∙◌, arith, rules}
use Rattle.machine_model.specs.declared.area.Area.TheVariants.{Journal, Pages}
use Rattle.pages_area.specs.Live.{IsInside}
use Rattle.base_types.specs.declared.ids.DocId.{DocId}
use Rattle.base_types.specs.declared.text_place.TextPlace.{TextPlace}
use Rattle.base_types.specs.declared.time.Time.{Time}
use Rattle.lists_versions.specs.declared.change.Change.{Change}
use Rattle.journal_gates.specs.Crash.{Appends}
use Rattle.lists_index.specs.Indexes.{state_of}
use Rattle.lists_index.specs.Indexing.{IndexValue, AreIndexed}
use Rattle.lists_index.specs.Measuring.{IsMeasured}
use Rattle.archive_entries.specs.Entries.{IsHeld}
use Rattle.archive_hand.specs.Adding.{IsMore}
use Rattle.archive_hand.specs.Jobs.{written_of}
use Rattle.archive_hand.specs.States.{ArchiveState, StandsFor, IsSound}
use Rattle.pages_sublists.specs.Paged.{ReachPages}
use Rattle.archive_plans.specs.Shelves.{extents_all}
use Rattle.archive_hand.proofs.CacheLemmas.{cached_on, is_sound, stands_live}
use Rattle.journal_gates.proofs.InStepLemmas.{step_at}
use Rattle.archive_hand.proofs.AddLemmas.{appends_nowhere, end_stays, inside_on, pages_nowhere, stands_more}
use Rattle.archive_hand.proofs.JobLemmas.{reach_on}
use Rattle.archive_hand.proofs.archive.Archive.commit.Given.{Over}
use Rattle.archive_hand.proofs.archive.Archive.commit.Goals as goal

pub returns-then-limit-end-clause-crash : goal.returns-then-limit-end-clause-crash
returns-then-limit-end-clause-crash g c = λ tells bodies step. appends_nowhere _ _ bodies c.args.prepared.body.items step

pub returns-then-limit-end-clause-pages : goal.returns-then-limit-end-clause-pages
returns-then-limit-end-clause-pages g c = λ tells. pages_nowhere _

pub returns-in_err-frame-clause-crash : goal.returns-in_err-frame-clause-crash
returns-in_err-frame-clause-crash g c = λ tells bodies step. appends_nowhere _ _ bodies c.args.prepared.body.items step

pub returns-in_err-frame-clause-pages : goal.returns-in_err-frame-clause-pages
returns-in_err-frame-clause-pages g c = λ tells. pages_nowhere _

pub returns-in_err-reserve-clause-crash : goal.returns-in_err-reserve-clause-crash
returns-in_err-reserve-clause-crash g c = λ tells bodies step. appends_nowhere _ _ bodies c.args.prepared.body.items step

pub returns-in_err-reserve-clause-pages : goal.returns-in_err-reserve-clause-pages
returns-in_err-reserve-clause-pages g c = λ tells. pages_nowhere _

pub returns-then-is_err-clause-crash : goal.returns-then-is_err-clause-crash
returns-then-is_err-clause-crash g c = λ tells bodies step. appends_nowhere _ _ bodies c.args.prepared.body.items step

pub returns-then-is_err-clause-pages : goal.returns-then-is_err-clause-pages
returns-then-is_err-clause-pages g c = λ tells. pages_nowhere _

pub returns-in-Ok-clause-crash : goal.returns-in-Ok-clause-crash
returns-in-Ok-clause-crash g c = λ tells bodies step.
    let B : List ℕ → Type 0 = λ b. Appends bodies b (g.D.Disk.disk c.args.disk.now) (g.D.Disk.disk c.append.new.disk) in
    subst B (c.in_ok-frame.ensures.body ∙ c.deref.ensures.value) (c.in-Ok.ensures.crash tells bodies (step_at (ap (λ s. s.end) c.self.view_is) step))

pub returns-clause-crash : goal.returns-clause-crash
returns-clause-crash g c = λ tells bodies step.
    let B : List ℕ → Type 0 = λ b. Appends bodies b (g.D.Disk.disk c.args.disk.now) (g.D.Disk.disk c.append.new.disk) in
    subst B (c.in_ok-frame.ensures.body ∙ c.deref.ensures.value) (c.in-Err.ensures.crash tells bodies (step_at (ap (λ s. s.end) c.self.view_is) step))

-- an archive with the entry
more : (g : Over) (c : goal.After-drop-body-in-Ok g)
    → IsMore c.args.self.now (record { end = c.append.new.self.end; live = true; length = c.self.inside.entries + 1; changes = c.note.new.directory.changes; index = state_of c.commit.new.self; shelf = c.self.inside.shelf; marked = c.self.inside.marked; asked = c.self.inside.asked; job = c.self.inside.job })
    c.args.prepared.change c.args.prepared.body.items c.args.prepared.words
more g c =
    rw (← c.self.view_is) (record {
      end_is = omega (arith, c.in-Ok.ensures.end, ap length (c.in_ok-frame.ensures.body ∙ c.deref.ensures.value));
      length_is = refl;
      held = c.placed.result.held;
      held_is = subst (λ (n : ℕ). IsHeld n c.args.prepared.change.held c.placed.result.held) (omega (arith, c.in-Ok.ensures.place)) c.placed.ensures.held;
      changes_are = c.note.ensures.changes ∙ ap (λ (l : List (Change TextPlace)). l ++ c.placed.result ∷ []) c.reserve.ensures.same
          ∙ ap₂ (λ (d : DocId) (t : Time). c.self.inside.directory.changes ++ record { doc = d; at = t; held = c.placed.result.held } ∷ []) c.placed.ensures.doc c.placed.ensures.at;
      shelf_is = refl;
      marked_is = refl;
      asked_is = refl;
      job_is = refl;
      indexed = λ texts doc text stands prepared later. c.commit.ensures texts doc text
          (subst (λ (v : IndexValue). AreIndexed v texts) (sym c.make_room.ensures.same) stands)
          (record { doc_is = prepared.doc_is; measured = subst (λ (v : IndexValue). IsMeasured v.words text c.args.prepared.words.fresh.items c.args.prepared.words.weights) (sym c.make_room.ensures.same) prepared.measured }) later;
    })

pub invariant_of-self-in-Ok : goal.invariant_of-self-in-Ok
invariant_of-self-in-Ok g c =
    let sound : IsSound c.args.self.now = subst IsSound c.self.view_is c.self.invariant.2 in
    let h = sound.0 in
    let now : StandsFor c.args.self.now h = stands_live c.args.self.now sound c.requires.live in
    let (e, next, prepared) = c.requires.next h now in (
      λ live. search rules,
      omega (arith, c.self.invariant.1, c.in-Ok.ensures.end),
      is_sound _ (h ++ e ∷ []) (stands_more c.args.self.now _ h e c.args.prepared.change c.args.prepared.body.items c.args.prepared.words now next prepared (more g c)),
    )

pub returns-in-Ok-clause-more : goal.returns-in-Ok-clause-more
returns-in-Ok-clause-more g c = (more g c, refl)

pub returns-then-limit-end-clause-cached : goal.returns-then-limit-end-clause-cached
returns-then-limit-end-clause-cached g c = λ tells cached is. cached

pub returns-in-Ok-clause-cached : goal.returns-in-Ok-clause-cached
returns-in-Ok-clause-cached g c = λ tells cached is.
    cached_on (c.args.self.now.shelf.cache ++ written_of c.args.self.now.job) (c.self.inside.shelf.cache ++ written_of c.self.inside.job) (g.D.Disk.disk c.args.disk.now) (g.D.Disk.disk c.append.new.disk) (ap (λ (s : ArchiveState). s.shelf.cache ++ written_of s.job) c.self.view_is) (c.in-Ok.ensures.pages_hold tells) cached

pub returns-clause-within : goal.returns-clause-within
returns-clause-within g c =
    let view = ap (λ s. s.end) c.self.view_is in
    let reach = g.met.D.Disk.only_reach c.args.disk.now c.append.new.disk Journal c.append.ensures.only in
    let P : ArchiveState → Type 0 = λ a. All (IsInside (g.D.Disk.disk c.append.new.disk).reach.pages) (extents_all a.shelf.plans) in
    let W : ArchiveState → Type 0 = λ a. ReachPages (g.D.Disk.disk c.append.new.disk).reach.pages (written_of a.job) in
    let further = g.met.D.Disk.only_reach c.args.disk.now c.append.new.disk Pages c.append.ensures.only in (
      omega (arith, end_stays c.in-Err.field-0 c.append.new.self c.self.inside.journal (λ is. (c.in-Err.ensures.same (ap Err is)).0) (λ is. c.in-Err.ensures.spent (ap Err is)), view, reach, c.requires.within.0),
      subst P (sym c.self.view_is) (inside_on _ _ _ further c.requires.within.1),
      subst W (sym c.self.view_is) (reach_on _ _ _ further c.requires.within.2),
    )
