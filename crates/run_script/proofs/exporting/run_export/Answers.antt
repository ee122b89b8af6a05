use Rattle.std.specs.Result.{is_ok}
use Rattle.std.proofs.Common.{◌≡◌, ℕ, IsOk, Err, refl, inl, inr, ap, subst, ◌∙◌, arith}
use Rattle.machine_model.specs.Causes.{Rose}
use Rattle.machine_model.specs.Pushes.{OnlyShows}
use Rattle.machine_model.specs.States.{SinkState}
use Rattle.journal_gates.specs.Spelled.{EachSpells}
use Rattle.model_archive.specs.Histories.{History}
use Rattle.model_archive.specs.Stands.{bodies_of}
use Rattle.model_archive.proofs.StandsLemmas.{not_archive_once}
use Rattle.run_follow.specs.Exporting.{IsJournalOf}
use Rattle.run_follow.specs.declared.error.ExportError.TheVariants as exports
use Rattle.run_script.specs.Exporting.{Exported, LeavesAlone}
use Rattle.run_script.specs.Headline.{LoadsAs}
use Rattle.run_script.specs.declared.status.Status.{Status}
use Rattle.run_script.specs.declared.status.Status.TheVariants.{Done}
use Rattle.run_script.proofs.ExportLemmas.{is_exported, load_spares, load_tells, loaded_journal, not_exported, shows_spares, tells_export}
use Rattle.run_script.proofs.ServeLemmas.{IsUndone, load_completes, load_fails, load_refused, load_undone, loads_found, synced_if_refused}
use Rattle.run_script.proofs.exporting.run_export.Given.{Over}
use Rattle.run_script.proofs.exporting.run_export.Goals.{After-export}
use Rattle.run_script.proofs.exporting.run_export.Goals as goal

-- ---- the archive wasn't loaded

pub returns-in-Err-clause-ends : goal.returns-in-Err-clause-ends
returns-in-Err-clause-ends g c = load_tells c.from.result c.in-Err.error c.from.ensures

pub returns-in-Err-clause-refused : goal.returns-in-Err-clause-refused
returns-in-Err-clause-refused g c = λ disk_tells at refused.
    load_refused c.from.result c.in-Err.error at c.from.ensures (λ place is. not_archive_once (g.M.Disk.disk c.args.machine.now).holds place at (c.in-Err.ensures.not_archive disk_tells place (ap Err is)) refused)

pub returns-in-Err-clause-left_alone : goal.returns-in-Err-clause-left_alone
returns-in-Err-clause-left_alone g c = λ disk_tells at refused.
    ((g.met.M.Machine.disk_alone _ _ c.load.ensures.only).1, synced_if_refused (g.M.Disk.disk c.args.machine.now) (g.M.Disk.disk c.load.new.disk) at refused (c.in-Err.ensures.longer disk_tells))

pub returns-in-Err-clause-loaded : goal.returns-in-Err-clause-loaded
returns-in-Err-clause-loaded g c = λ disk_tells. load_fails c.from.result c.in-Err.error (g.M.Disk.disk c.args.machine.now).holds c.from.ensures

pub returns-in-Err-clause-exported : goal.returns-in-Err-clause-exported
returns-in-Err-clause-exported g c = λ sink_tells disk_tells h begins.
    let m = c.args.machine.now in
    not_exported h c.args.first.number c.from.result _ _ (g.M.Disk.disk m) (g.M.Disk.disk c.load.new.disk) (λ is. subst IsUndone is (load_undone c.from.result c.in-Err.error c.from.ensures))
    (g.met.M.Machine.beside_shown m sink_tells disk_tells) (g.met.M.Machine.disk_alone m c.load.new.disk c.load.ensures.only).1 (c.load.ensures.pages disk_tells) (c.load.ensures.kept disk_tells (bodies_of h)) (c.load.ensures.crash disk_tells h)

pub returns-in-Err-clause-spared : goal.returns-in-Err-clause-spared
returns-in-Err-clause-spared g c = λ sink_tells disk_tells.
    let m = c.args.machine.now in
    load_spares (g.M.Disk.disk m) (g.M.Disk.disk c.load.new.disk) _ _ (g.met.M.Machine.beside_shown m sink_tells disk_tells) (ap (λ (s : SinkState). s.shown) (g.met.M.Machine.disk_alone m c.load.new.disk c.load.ensures.only).1)
    (c.load.ensures.pages disk_tells) (c.load.ensures.longer disk_tells)

pub returns-in-Err-clause-complete : goal.returns-in-Err-clause-complete
returns-in-Err-clause-complete g c = λ disk_tells archive disk sink.
    inr (load_completes c.from.result c.in-Err.error c.from.ensures (λ is. disk (c.in-Err.ensures.failed (ap Err is))) (λ at is. archive at (c.in-Err.ensures.not_archive disk_tells at (ap Err is))))

-- ---- it was loaded

-- the journal behind the load is that of the history for which it took the bytes
loaded : (g : Over) (c : After-export g) → g.M.Disk.disk_tells → (h : History) → LoadsAs h (g.M.Disk.disk c.args.machine.now).holds
    → IsJournalOf h (g.M.Disk.disk c.load.new.disk).holds.journal c.in-Ok.archive.end × EachSpells (g.M.Disk.disk c.load.new.disk) (bodies_of h)
loaded g c disk_tells h begins =
    let n = c.load.new.disk in
    loaded_journal h (g.M.Disk.disk c.args.machine.now) (g.M.Disk.disk n) c.in-Ok.archive (g.met.M.Disk.holds_allowed n disk_tells) (c.in-Ok.ensures.by_reads disk_tells) begins

-- what was shown behind it
exported : (g : Over) (c : After-export g) (status : Status) → (status ≡ Done → IsOk c.export.result) → g.M.Sink.sink_tells → g.M.Disk.disk_tells → (h : History) → LoadsAs h (g.M.Disk.disk c.args.machine.now).holds
    → Exported h c.args.first.number status (g.M.Sink.sink c.args.machine.now) (g.M.Sink.sink c.export.new.machine) (g.M.Disk.disk c.args.machine.now) (g.M.Disk.disk c.export.new.machine)
exported g c status well sink_tells disk_tells h begins =
    let m = c.args.machine.now in
    let n = c.load.new.disk in
    let is = loaded g c disk_tells h begins in
    is_exported h c.args.first.number status (IsOk c.export.result) (g.M.Sink.sink m) (g.M.Sink.sink n) (g.M.Sink.sink c.export.new.machine) (g.M.Disk.disk m) (g.M.Disk.disk n) (g.M.Disk.disk c.export.new.machine) well
    (g.met.M.Machine.beside_shown m sink_tells disk_tells) (g.met.M.Machine.disk_alone m n c.load.ensures.only).1 (c.load.ensures.pages disk_tells) (c.load.ensures.kept disk_tells (bodies_of h)) (c.load.ensures.crash disk_tells h)
    is.1 (c.export.ensures.shows sink_tells disk_tells h (rw c.journal.ensures is.0))

-- and nothing else was done
kept : (g : Over) (c : After-export g) → g.M.Sink.sink_tells → g.M.Disk.disk_tells
    → LeavesAlone (g.M.Disk.disk c.args.machine.now) (g.M.Disk.disk c.export.new.machine) (g.M.Sink.sink c.args.machine.now).shown (g.M.Sink.sink c.export.new.machine).shown
kept g c sink_tells disk_tells =
    let m = c.args.machine.now in
    let n = c.load.new.disk in
    let last = c.export.new.machine in
    let found = c.in-Ok.ensures.by_reads disk_tells in
    let is = loaded g c disk_tells found.0.history (loads_found (g.M.Disk.disk m) found) in
    let same = (g.met.M.Machine.disk_alone m n c.load.ensures.only).1 in
    shows_spares (g.M.Disk.disk m) (g.M.Disk.disk n) (g.M.Disk.disk last) (g.M.Sink.sink m).shown (g.M.Sink.sink last).shown
    (load_spares (g.M.Disk.disk m) (g.M.Disk.disk n) (g.M.Sink.sink m).shown (g.M.Sink.sink m).shown (g.met.M.Machine.beside_shown m sink_tells disk_tells) refl (c.load.ensures.pages disk_tells) (c.load.ensures.longer disk_tells))
    c.export.ensures.holds (subst (λ (s : SinkState). OnlyShows (g.M.Disk.disk n) (g.M.Disk.disk last) s.shown (g.M.Sink.sink last).shown) same (c.export.ensures.shows sink_tells disk_tells found.0.history (rw c.journal.ensures is.0)).beside)

-- the journal isn't refused behind a load
never : (g : Over) (c : After-export g) → g.M.Disk.disk_tells → (at : ℕ) → c.export.result ≡ Err (exports.NotArchive at) → ⊥
never g c disk_tells at is =
    let found = c.in-Ok.ensures.by_reads disk_tells in
    let of = loaded g c disk_tells found.0.history (loads_found (g.M.Disk.disk c.args.machine.now) found) in
    c.export.ensures.fair disk_tells found.0.history (rw c.journal.ensures of.0) at is

-- faults behind the load are faults of the run
disk_rose : (g : Over) (c : After-export g) → c.export.result ≡ Err exports.Disk → Rose (g.M.Disk.disk c.args.machine.now).faults (g.M.Disk.disk c.export.new.machine).faults
disk_rose g c is = omega (arith, g.met.M.Disk.only_faults c.args.machine.now c.load.new.disk c.load.ensures.only, c.export.ensures.disk_fault is)

sink_rose : (g : Over) (c : After-export g) → c.export.result ≡ Err exports.Sink → Rose (g.M.Sink.sink c.args.machine.now).faults (g.M.Sink.sink c.export.new.machine).faults
sink_rose g c is = rw (g.met.M.Machine.disk_alone c.args.machine.now c.load.new.disk c.load.ensures.only).1 at (c.export.ensures.sink_fault is)

source : (g : Over) (c : After-export g) → g.M.Source.source c.export.new.machine ≡ g.M.Source.source c.args.machine.now
source g c = c.export.ensures.source ∙ (g.met.M.Machine.disk_alone c.args.machine.now c.load.new.disk c.load.ensures.only).0

pub returns-in-Ok-export-clause-source : goal.returns-in-Ok-export-clause-source
returns-in-Ok-export-clause-source g c = source g (goal.at.returns-in-Ok-export-clause-source g c).After-export

pub returns-in-Ok-export-clause-refused : goal.returns-in-Ok-export-clause-refused
returns-in-Ok-export-clause-refused g c = λ disk_tells at refused. absurd (c.in-Ok.ensures.exact disk_tells at refused)

pub returns-in-Ok-export-clause-left_alone : goal.returns-in-Ok-export-clause-left_alone
returns-in-Ok-export-clause-left_alone g c = λ disk_tells at refused. absurd (c.in-Ok.ensures.exact disk_tells at refused)

pub returns-in-Ok-export-clause-loaded : goal.returns-in-Ok-export-clause-loaded
returns-in-Ok-export-clause-loaded g c = λ disk_tells. let found = c.in-Ok.ensures.by_reads disk_tells in inl (found.0.history, loads_found (g.M.Disk.disk c.args.machine.now) found)

pub returns-in-Ok-export-clause-exported : goal.returns-in-Ok-export-clause-exported
returns-in-Ok-export-clause-exported g c = λ sink_tells disk_tells h begins.
    exported g (goal.at.returns-in-Ok-export-clause-exported g c).After-export Done (λ is. ap is_ok c.in-Ok-export.is) sink_tells disk_tells h begins

pub returns-in-Ok-export-clause-spared : goal.returns-in-Ok-export-clause-spared
returns-in-Ok-export-clause-spared g c = λ sink_tells disk_tells. kept g (goal.at.returns-in-Ok-export-clause-spared g c).After-export sink_tells disk_tells

pub returns-clause-source : goal.returns-clause-source
returns-clause-source g c = source g (goal.at.returns-clause-source g c).After-export

pub returns-clause-ends : goal.returns-clause-ends
returns-clause-ends g c = (tells_export c.from-in-Err-export.result c.in-Err-export.error c.from-in-Err-export.ensures).ends

pub returns-clause-disk_fault : goal.returns-clause-disk_fault
returns-clause-disk_fault g c = λ is.
    disk_rose g (goal.at.returns-clause-disk_fault g c).After-export (c.in-Err-export.is ∙ ap Err ((tells_export c.from-in-Err-export.result c.in-Err-export.error c.from-in-Err-export.ensures).disk is))

pub returns-clause-sink_fault : goal.returns-clause-sink_fault
returns-clause-sink_fault g c = λ is.
    sink_rose g (goal.at.returns-clause-sink_fault g c).After-export (c.in-Err-export.is ∙ ap Err ((tells_export c.from-in-Err-export.result c.in-Err-export.error c.from-in-Err-export.ensures).sink is))

pub returns-clause-not_archive : goal.returns-clause-not_archive
returns-clause-not_archive g c = λ disk_tells at is.
    absurd (never g (goal.at.returns-clause-not_archive g c).After-export disk_tells at (c.in-Err-export.is ∙ ap Err ((tells_export c.from-in-Err-export.result c.in-Err-export.error c.from-in-Err-export.ensures).archive at is)))

pub returns-clause-refused : goal.returns-clause-refused
returns-clause-refused g c = λ disk_tells at refused. absurd (c.in-Ok.ensures.exact disk_tells at refused)

pub returns-clause-left_alone : goal.returns-clause-left_alone
returns-clause-left_alone g c = λ disk_tells at refused. absurd (c.in-Ok.ensures.exact disk_tells at refused)

pub returns-clause-loaded : goal.returns-clause-loaded
returns-clause-loaded g c = λ disk_tells. let found = c.in-Ok.ensures.by_reads disk_tells in inl (found.0.history, loads_found (g.M.Disk.disk c.args.machine.now) found)

pub returns-clause-exported : goal.returns-clause-exported
returns-clause-exported g c = λ sink_tells disk_tells h begins.
    exported g (goal.at.returns-clause-exported g c).After-export c.from-in-Err-export.result (λ is. absurd ((tells_export c.from-in-Err-export.result c.in-Err-export.error c.from-in-Err-export.ensures).undone is))
    sink_tells disk_tells h begins

pub returns-clause-spared : goal.returns-clause-spared
returns-clause-spared g c = λ sink_tells disk_tells. kept g (goal.at.returns-clause-spared g c).After-export sink_tells disk_tells

pub returns-clause-complete : goal.returns-clause-complete
returns-clause-complete g c = λ disk_tells archive disk sink.
    let here = (goal.at.returns-clause-complete g c).After-export in
    inr ((tells_export c.from-in-Err-export.result c.in-Err-export.error c.from-in-Err-export.ensures).memory (λ is. disk (disk_rose g here (c.in-Err-export.is ∙ ap Err is))) (λ is. sink (sink_rose g here (c.in-Err-export.is ∙ ap Err is))) (λ at is. never g here disk_tells at (c.in-Err-export.is ∙ ap Err is)))
