use Rattle.std.proofs.Common.{None, ◌≡◌, ℕ, ◌∙◌, List, [], length, inl, ap, refl, sym, subst}
use Rattle.std.proofs.lemmas.Result.{IfOk-weaker, err_from_is_err_and}
use Rattle.machine_model.specs.declared.area.Area.TheVariants.{Pages}
use Rattle.journal_gates.specs.Spelled.{Spells}
use Rattle.journal_gates.proofs.LoadLemmas.{kept_reads, sync_reads}
use Rattle.model_archive.specs.Stands.{bodies_of}
use Rattle.model_archive.proofs.StandsLemmas.{stands_is_archive}
use Rattle.archive_hand.proofs.LoadLemmas.{history_loaded, pages_reads, journal_exit, IfOk-both, loaded_by}
use Rattle.archive_hand.specs.States.{Reaches}
use Rattle.archive_hand.proofs.StandingLemmas.{loaded_in_step}
use Rattle.archive_hand.proofs.archive.Archive.load.Given.{Over}
use Rattle.archive_hand.proofs.archive.Archive.load.Goals as goal

pub returns-in_err-journal-clause-crash : goal.returns-in_err-journal-clause-crash
returns-in_err-journal-clause-crash g c = λ tells h each.
    history_loaded h (g.D.Disk.disk c.args.disk.now) (g.D.Disk.disk c.load.new.disk) (g.D.Disk.disk c.load.new.disk) (g.met.D.Disk.holds_allowed c.args.disk.now tells) each (c.load.ensures.crash tells (bodies_of h)) (c.load.ensures.pages tells) refl

pub returns-in_err-journal-clause-never : goal.returns-in_err-journal-clause-never
returns-in_err-journal-clause-never g c = λ tells h each at is.
    let p = err_from_is_err_and c.from_residual.result c.from_residual.ensures.1 in
    let refused = c.load.ensures.not_journal tells at (journal_exit c.load.result c.from_residual.result c.in_err-journal.field-0.0 p.0 at c.in_err-journal.was p.1 p.2 is) in
    stands_is_archive h (g.D.Disk.disk c.args.disk.now).holds at (each _ (g.met.D.Disk.holds_allowed c.args.disk.now tells)) (inl refused)

pub returns-clause-only : goal.returns-clause-only
returns-clause-only g c = g.met.D.Disk.only_joins _ _ _ c.load.ensures.only c.archive_of.ensures.only

-- after the journal's load Pages are as long as at the start
long : (g : Over) (c : goal.After-drop-heads g) (tells : g.D.Disk.disk_tells) → length (g.D.Disk.disk c.args.disk.now).holds.pages ≡ (g.D.Disk.disk c.load.new.disk).reach.pages
long g c tells = ap length (sym (c.in_ok-journal.ensures.pages_hold tells)) ∙ g.met.D.Disk.reach_holds c.load.new.disk Pages tells

pub returns-clause-not_archive : goal.returns-clause-not_archive
returns-clause-not_archive g c = λ tells at is.
    let found = c.in_ok-journal.ensures.found tells in
    let step = c.in_ok-journal.ensures.in_step tells found.bodies found.spelled in
    c.archive_of.ensures.not_archive tells found.bodies (c.deref.ensures.value ∙ found.laid_out.heads_are) step.2 (g.D.Disk.disk c.args.disk.now).holds found.spelled (long g c tells) at is

pub returns-clause-found : goal.returns-clause-found
returns-clause-found g c = λ tells.
    let found = c.in_ok-journal.ensures.found tells in
    let step = c.in_ok-journal.ensures.in_step tells found.bodies found.spelled in
    let S : List (List ℕ) → Type 0 = Spells (g.D.Disk.disk c.args.disk.now).holds.journal in
    IfOk-weaker c.archive_of.result _ _ (λ a all. (all.0, (all.1.0, subst S (sym all.1.1) found.spelled)))
    (c.archive_of.ensures.found tells found.bodies (c.deref.ensures.value ∙ found.laid_out.heads_are) step.2)

pub returns-clause-exact : goal.returns-clause-exact
returns-clause-exact g c = λ tells.
    let found = c.in_ok-journal.ensures.found tells in
    let step = c.in_ok-journal.ensures.in_step tells found.bodies found.spelled in
    c.archive_of.ensures.exact tells found.bodies (c.deref.ensures.value ∙ found.laid_out.heads_are) step.2 (g.D.Disk.disk c.args.disk.now).holds found.spelled (long g c tells)

pub returns-clause-crash : goal.returns-clause-crash
returns-clause-crash g c = λ tells h each.
    history_loaded h (g.D.Disk.disk c.args.disk.now) (g.D.Disk.disk c.load.new.disk) (g.D.Disk.disk c.archive_of.new.disk) (g.met.D.Disk.holds_allowed c.args.disk.now tells) each (c.load.ensures.crash tells (bodies_of h)) (c.load.ensures.pages tells)
    c.archive_of.ensures.same

pub returns-clause-never : goal.returns-clause-never
returns-clause-never g c = λ tells h each at is.
    stands_is_archive h (g.D.Disk.disk c.args.disk.now).holds at (each _ (g.met.D.Disk.holds_allowed c.args.disk.now tells)) (returns-clause-not_archive g c tells at is)

pub returns-clause-longer : goal.returns-clause-longer
returns-clause-longer g c = λ tells longer.
    sync_reads (g.D.Disk.disk c.args.disk.now) (g.D.Disk.disk c.load.new.disk) (g.D.Disk.disk c.archive_of.new.disk) (c.load.ensures.longer tells longer) c.archive_of.ensures.same

pub returns-clause-pages : goal.returns-clause-pages
returns-clause-pages g c = λ tells. pages_reads (g.D.Disk.disk c.args.disk.now) (g.D.Disk.disk c.load.new.disk) (g.D.Disk.disk c.archive_of.new.disk) (c.load.ensures.pages tells) c.archive_of.ensures.same

pub returns-clause-by_reads : goal.returns-clause-by_reads
returns-clause-by_reads g c = λ tells.
    let found = c.in_ok-journal.ensures.found tells in
    let step = c.in_ok-journal.ensures.in_step tells found.bodies found.spelled in
    let known = IfOk-both c.archive_of.result _ _ (λ a. (a.end ≡ c.in_ok-journal.journal.end) × (a.shelf.cache ≡ [])) (λ a end empty. (end, empty)) c.archive_of.ensures.end c.archive_of.ensures.empty in
    let fresh = IfOk-both c.archive_of.result _ _ (λ a. (a.asked ≡ []) × (a.job ≡ None)) (λ a one two. (one, two)) c.archive_of.ensures.unasked c.archive_of.ensures.idle in
    let within = IfOk-both c.archive_of.result _ _ (λ a. Reaches (g.D.Disk.disk c.archive_of.new.disk).reach a × ((a.asked ≡ []) × (a.job ≡ None))) (λ a one two. (one, two)) c.archive_of.ensures.within fresh in
    IfOk-both c.archive_of.result (λ a. ((a.end ≡ c.in_ok-journal.journal.end) × (a.shelf.cache ≡ [])) × (Reaches (g.D.Disk.disk c.archive_of.new.disk).reach a × ((a.asked ≡ []) × (a.job ≡ None)))) _ _ (λ a ((end, empty), (within, (unasked, idle))) all. loaded_by a (g.D.Disk.disk c.load.new.disk) (g.D.Disk.disk c.archive_of.new.disk) (g.D.Disk.disk c.args.disk.now).holds c.in_ok-journal.journal.end found.bodies all.0
    all.1.0 empty idle end all.1.1 found.spelled step.1 c.archive_of.ensures.same (c.in_ok-journal.ensures.one tells) (c.in_ok-journal.ensures.pages_hold tells) within (g.met.D.Disk.reach_holds c.archive_of.new.disk Pages tells) unasked)
    (IfOk-both c.archive_of.result _ _ _ (λ a one two. (one, two)) known within) (c.archive_of.ensures.found tells found.bodies (c.deref.ensures.value ∙ found.laid_out.heads_are) step.2)

pub returns-clause-in_step : goal.returns-clause-in_step
returns-clause-in_step g c = λ tells h stood. IfOk-weaker c.archive_of.result _ _ (λ a is. loaded_in_step (g.D.Disk.disk c.archive_of.new.disk) a h (g.D.Disk.disk c.args.disk.now).holds is stood) (returns-clause-by_reads g c tells)

pub returns-clause-kept : goal.returns-clause-kept
returns-clause-kept g c = λ tells bodies each. kept_reads bodies (g.D.Disk.disk c.args.disk.now) (g.D.Disk.disk c.load.new.disk) (g.D.Disk.disk c.archive_of.new.disk) (c.load.ensures.crash tells bodies each) c.archive_of.ensures.same
