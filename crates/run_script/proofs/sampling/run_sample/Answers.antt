use Rattle.std.proofs.Common.{◌≡◌, [], length, Err, refl, inl, inr, ap, sym, ◌∙◌, arith}
use Rattle.machine_model.specs.Causes.{Rose}
use Rattle.machine_model.specs.States.{SinkState}
use Rattle.machine_model.proofs.MomentLemmas.{goes_on_same}
use Rattle.journal_gates.specs.Spelled.{Spells}
use Rattle.model_archive.specs.Histories.{History}
use Rattle.model_archive.specs.Legal.{IsLoadable}
use Rattle.model_archive.specs.Stands.{bodies_of}
use Rattle.model_archive.proofs.StandsLemmas.{spells_one_history, stands_is_archive, not_archive_once}
use Rattle.run_script.specs.declared.status.Status.TheVariants.{Disk, Sink, Memory, NotEmpty}
use Rattle.journal_gates.proofs.SpellingLemmas.{spells_once}
use Rattle.journal_entries.specs.Spelling.{spelling}
use Rattle.std.proofs.lemmas.List.{length-map}
use Rattle.run_script.proofs.SampleLemmas.{empty_stands, not_loaded, sample_completes}
use Rattle.run_script.proofs.ServeLemmas.{bodies_still, keeps_still, load_completes, load_refused, load_undone, synced_if_refused}
use Rattle.run_script.proofs.sampling.run_sample.Given.{Over}
use Rattle.run_script.proofs.sampling.run_sample.Goals.{After-fill_and_show, After-length-length}
use Rattle.run_script.proofs.sampling.run_sample.Goals as goal

pub returns-in-Err-clause-spared : goal.returns-in-Err-clause-spared
returns-in-Err-clause-spared g c = λ disk_tells h each some. (refl, keeps_still h (g.M.Disk.disk c.args.machine.now) each)

pub returns-in-Err-clause-sampled : goal.returns-in-Err-clause-sampled
returns-in-Err-clause-sampled g c = λ sink_tells disk_tells stands.
    let m = c.args.machine.now in
    not_loaded c.args.numbers.seed c.args.numbers.count Memory _ _ _ _ tt (g.met.M.Machine.beside_shown m sink_tells disk_tells) refl (goes_on_same (g.M.Disk.disk m)) (keeps_still [] (g.M.Disk.disk m))

pub returns-in-Err-load-clause-refused : goal.returns-in-Err-load-clause-refused
returns-in-Err-load-clause-refused g c = λ disk_tells at refused.
    load_refused c.from.result c.in-Err-load.error at c.from.ensures (λ place is. not_archive_once (g.M.Disk.disk c.args.machine.now).holds place at (c.in-Err-load.ensures.not_archive disk_tells place (ap Err is)) refused)

pub returns-in-Err-load-clause-left_alone : goal.returns-in-Err-load-clause-left_alone
returns-in-Err-load-clause-left_alone g c = λ disk_tells at refused.
    ((g.met.M.Machine.disk_alone _ _ c.load.ensures.only).1, synced_if_refused (g.M.Disk.disk c.args.machine.now) (g.M.Disk.disk c.load.new.disk) at refused (c.in-Err-load.ensures.longer disk_tells))

pub returns-in-Err-load-clause-spared : goal.returns-in-Err-load-clause-spared
returns-in-Err-load-clause-spared g c = λ disk_tells h each some. ((g.met.M.Machine.disk_alone _ _ c.load.ensures.only).1, c.in-Err-load.ensures.crash disk_tells h each)

pub returns-in-Err-load-clause-sampled : goal.returns-in-Err-load-clause-sampled
returns-in-Err-load-clause-sampled g c = λ sink_tells disk_tells stands.
    let m = c.args.machine.now in
    not_loaded c.args.numbers.seed c.args.numbers.count c.from.result _ _ _ _ (load_undone c.from.result c.in-Err-load.error c.from.ensures) (g.met.M.Machine.beside_shown m sink_tells disk_tells)
    (g.met.M.Machine.disk_alone m c.load.new.disk c.load.ensures.only).1 (g.met.M.Disk.only_goes_on m c.load.new.disk disk_tells c.load.ensures.only) (c.in-Err-load.ensures.crash disk_tells [])

pub returns-in-Err-load-clause-complete : goal.returns-in-Err-load-clause-complete
returns-in-Err-load-clause-complete g c = λ disk_tells stands disk sink.
    inr (load_completes c.from.result c.in-Err-load.error c.from.ensures (λ is. disk (c.in-Err-load.ensures.failed (ap Err is)))
    (λ at is. stands_is_archive [] (g.M.Disk.disk c.args.machine.now).holds at stands (c.in-Err-load.ensures.not_archive disk_tells at (ap Err is))))

pub returns-then-length-gt0-clause-refused : goal.returns-then-length-gt0-clause-refused
returns-then-length-gt0-clause-refused g c = λ disk_tells at refused. absurd (c.in-Ok-load.ensures.exact disk_tells at refused)

pub returns-then-length-gt0-clause-left_alone : goal.returns-then-length-gt0-clause-left_alone
returns-then-length-gt0-clause-left_alone g c = λ disk_tells at refused. absurd (c.in-Ok-load.ensures.exact disk_tells at refused)

-- a history that the journal spells has as many entries as the archive
entries : (g : Over) (c : After-length-length g) → g.M.Disk.disk_tells → (h : History) → Spells (g.M.Disk.disk c.args.machine.now).holds.journal (bodies_of h) → IsLoadable h → c.length-length.result ≡ length h
entries g c disk_tells h spelled loads =
    let found = c.in-Ok-load.ensures.found disk_tells in
    c.length-length.ensures ∙ found.1.0.length_is ∙ ap (λ (x : History). length x) (spells_one_history (g.M.Disk.disk c.args.machine.now).holds.journal found.0 h found.1.1 found.1.0.loadable spelled loads)

pub returns-then-length-gt0-clause-occupied : goal.returns-then-length-gt0-clause-occupied
returns-then-length-gt0-clause-occupied g c = λ disk_tells h spelled loads some. inl (ap NotEmpty (entries g (goal.at.returns-then-length-gt0-clause-occupied g c).After-length-length disk_tells h spelled loads))

pub returns-then-length-gt0-clause-spared : goal.returns-then-length-gt0-clause-spared
returns-then-length-gt0-clause-spared g c = λ disk_tells h each some. ((g.met.M.Machine.disk_alone _ _ c.load.ensures.only).1, c.in-Ok-load.ensures.crash disk_tells h each)

pub returns-then-length-gt0-clause-sampled : goal.returns-then-length-gt0-clause-sampled
returns-then-length-gt0-clause-sampled g c = λ sink_tells disk_tells stands.
    absurd (omega (arith, c.if-length-gt0.true, entries g (goal.at.returns-then-length-gt0-clause-sampled g c).After-length-length disk_tells [] stands.spelled stands.loadable))

pub returns-then-length-gt0-clause-complete : goal.returns-then-length-gt0-clause-complete
returns-then-length-gt0-clause-complete g c = λ disk_tells stands disk sink.
    absurd (omega (arith, c.if-length-gt0.true, entries g (goal.at.returns-then-length-gt0-clause-complete g c).After-length-length disk_tells [] stands.spelled stands.loadable))

pub returns-clause-source : goal.returns-clause-source
returns-clause-source g c = c.fill_and_show.ensures.source ∙ (g.met.M.Machine.disk_alone _ _ c.load.ensures.only).0

-- faults behind the load are faults of the run
disk_rose : (g : Over) (c : After-fill_and_show g) → c.fill_and_show.result ≡ Disk → Rose (g.M.Disk.disk c.args.machine.now).faults (g.M.Disk.disk c.fill_and_show.new.machine).faults
disk_rose g c is = omega (arith, g.met.M.Disk.only_faults c.args.machine.now c.load.new.disk c.load.ensures.only, c.fill_and_show.ensures.disk_fault is)

sink_rose : (g : Over) (c : After-fill_and_show g) → c.fill_and_show.result ≡ Sink → Rose (g.M.Sink.sink c.args.machine.now).faults (g.M.Sink.sink c.fill_and_show.new.machine).faults
sink_rose g c is = rw (g.met.M.Machine.disk_alone c.args.machine.now c.load.new.disk c.load.ensures.only).1 at (c.fill_and_show.ensures.sink_fault is)

pub returns-clause-disk_fault : goal.returns-clause-disk_fault
returns-clause-disk_fault g c = disk_rose g (goal.at.returns-clause-disk_fault g c).After-fill_and_show

pub returns-clause-sink_fault : goal.returns-clause-sink_fault
returns-clause-sink_fault g c = sink_rose g (goal.at.returns-clause-sink_fault g c).After-fill_and_show

pub returns-clause-refused : goal.returns-clause-refused
returns-clause-refused g c = λ disk_tells at refused. absurd (c.in-Ok-load.ensures.exact disk_tells at refused)

pub returns-clause-left_alone : goal.returns-clause-left_alone
returns-clause-left_alone g c = λ disk_tells at refused. absurd (c.in-Ok-load.ensures.exact disk_tells at refused)

pub returns-clause-undamaged : goal.returns-clause-undamaged
returns-clause-undamaged g c = λ disk_tells d is.
    let found = c.in-Ok-load.ensures.found disk_tells in
    let none : length found.0 ≡ 0 = omega (arith, c.if-length-gt0.false, c.length-length.ensures, found.1.0.length_is) in
    let stands = empty_stands found.0 (g.M.Disk.disk c.args.machine.now).holds none found.1.1 in
    c.fill_and_show.ensures.undamaged disk_tells (c.in-Ok-load.ensures.in_step disk_tells [] stands) d is

pub returns-clause-occupied : goal.returns-clause-occupied
returns-clause-occupied g c = λ disk_tells h spelled loads some. absurd (omega (arith, some, c.if-length-gt0.false, entries g (goal.at.returns-clause-occupied g c).After-length-length disk_tells h spelled loads))

pub returns-clause-spared : goal.returns-clause-spared
returns-clause-spared g c = λ disk_tells h each some.
    let m = c.args.machine.now in
    let stands = each (g.M.Disk.disk m).holds (g.met.M.Disk.holds_allowed m disk_tells) in
    absurd (omega (arith, some, c.if-length-gt0.false, entries g (goal.at.returns-clause-spared g c).After-length-length disk_tells h stands.spelled stands.loadable))

pub returns-clause-sampled : goal.returns-clause-sampled
returns-clause-sampled g c = λ sink_tells disk_tells stands.
    let m = c.args.machine.now in
    let n = c.load.new.disk in
    let alone = g.met.M.Machine.disk_alone m n c.load.ensures.only in
    let shown = ap (λ (s : SinkState). s.shown) (sym alone.1) in
    rw alone.1 at (c.fill_and_show.ensures.sampled sink_tells disk_tells (c.in-Ok-load.ensures.in_step disk_tells [] stands) (g.M.Disk.disk m)
    (g.met.M.Machine.beside_shown m sink_tells disk_tells ∙ shown, g.met.M.Machine.beside_shown n sink_tells disk_tells, g.met.M.Disk.only_goes_on m n disk_tells c.load.ensures.only, c.in-Ok-load.ensures.crash disk_tells []))

pub returns-clause-complete : goal.returns-clause-complete
returns-clause-complete g c = λ disk_tells stands disk sink.
    let at = goal.at.returns-clause-complete g c in
    sample_completes c.fill_and_show.result c.fill_and_show.ensures.ends (λ is. disk (disk_rose g at.After-fill_and_show is)) (λ is. sink (sink_rose g at.After-fill_and_show is))
    (c.fill_and_show.ensures.undamaged disk_tells (c.in-Ok-load.ensures.in_step disk_tells [] stands))

pub returns-in-Err-clause-kept : goal.returns-in-Err-clause-kept
returns-in-Err-clause-kept g c = λ disk_tells bodies each some. (refl, bodies_still bodies (g.M.Disk.disk c.args.machine.now) each)

pub returns-in-Err-load-clause-kept : goal.returns-in-Err-load-clause-kept
returns-in-Err-load-clause-kept g c = λ disk_tells bodies each some. ((g.met.M.Machine.disk_alone _ _ c.load.ensures.only).1, c.load.ensures.kept disk_tells bodies each)

pub returns-then-length-gt0-clause-kept : goal.returns-then-length-gt0-clause-kept
returns-then-length-gt0-clause-kept g c = λ disk_tells bodies each some. ((g.met.M.Machine.disk_alone _ _ c.load.ensures.only).1, c.load.ensures.kept disk_tells bodies each)

pub returns-clause-kept : goal.returns-clause-kept
returns-clause-kept g c = λ disk_tells bodies each some.
    let m = c.args.machine.now in
    let found = c.in-Ok-load.ensures.found disk_tells in
    let same = spells_once (g.M.Disk.disk m).holds.journal (bodies_of found.0) bodies found.1.1 (each (g.M.Disk.disk m).holds (g.met.M.Disk.holds_allowed m disk_tells)) in
    absurd (omega (arith, some, c.if-length-gt0.false, c.length-length.ensures, found.1.0.length_is, ap length same, length-map found.0 spelling))

pub returns-then-length-gt0-clause-not_empty : goal.returns-then-length-gt0-clause-not_empty
returns-then-length-gt0-clause-not_empty g c = λ n is.
    let same : c.length-length.result ≡ n = cc in (
      omega (arith, c.if-length-gt0.true, same),
      λ disk_tells. (let found = c.in-Ok-load.ensures.found disk_tells in (found.0, found.1.1, found.1.0.loadable, sym same ∙ c.length-length.ensures ∙ found.1.0.length_is)),
    )
