use Rattle.std.proofs.Common.{◌≡◌, List, [], None, Err, refl, ap, ◌∙◌}
use Rattle.machine_model.specs.Pulls.{Pull}
use Rattle.machine_model.specs.States.{MachineState, state_by}
use Rattle.model_archive.specs.Stands.{bodies_of}
use Rattle.archive_hand.specs.States.{AreInStepBy}
use Rattle.archive_hand.specs.Stored.{Store}
use Rattle.run_taking.specs.Following.{Followed}
use Rattle.run_taking.specs.Serving.{Serves, Serving}
use Rattle.run_taking.specs.declared.ended.Ended.TheVariants.{Disk, Memory}
use Rattle.run_taking.proofs.EndLemmas.{may_end_later}
use Rattle.run_taking.proofs.StartLemmas.{by_bytes, followed_none, held_by, is_archive, later_alone, serving_start, spelled_now}
use Rattle.run_taking.proofs.StandLemmas.{followed_by}
use Rattle.run_taking.proofs.following.follow.Given.{Over}
use Rattle.run_taking.proofs.following.follow.Goals.{After-serve, In-Err-NotJournal, Start}
use Rattle.run_taking.proofs.following.follow.Goals as goal

-- the run ended before the bodies were found
early : (g : Over) (c : Start g) (source_tells : g.M.Source.source_tells) (sink_tells : g.M.Sink.sink_tells) (disk_tells : g.M.Disk.disk_tells) (s : Store) → AreInStepBy (g.M.Disk.disk c.args.machine.now) c.args.archive.now s
    → (pulls : List Pull) × g.M.Machine.asked c.args.machine.now pulls c.args.machine.now
    × Followed s.history Memory (state_by g.M.Source.source g.M.Sink.sink g.M.Disk.disk c.args.machine.now) (state_by g.M.Source.source g.M.Sink.sink g.M.Disk.disk c.args.machine.now) pulls
early g c source_tells sink_tells disk_tells s in_step =
    let m = c.args.machine.now in
    let at = state_by g.M.Source.source g.M.Sink.sink g.M.Disk.disk m in (
      [],
      g.met.M.Machine.asked_laws.of_disk m m (g.met.M.Disk.only_same m),
      followed_none s Memory at at c.args.archive.now tt (λ t. t) (λ is. cc) refl refl refl (g.met.M.Machine.beside_shown m sink_tells disk_tells) (g.met.M.Disk.holds_allowed m disk_tells) in_step,
    )

pub returns-in-Err-clause-followed : goal.returns-in-Err-clause-followed
returns-in-Err-clause-followed g c = λ source_tells sink_tells disk_tells s in_step idle. early g (goal.at.returns-in-Err-clause-followed g c).Start source_tells sink_tells disk_tells s in_step

pub returns-in-Err-new-clause-followed : goal.returns-in-Err-new-clause-followed
returns-in-Err-new-clause-followed g c = λ source_tells sink_tells disk_tells s in_step idle. early g (goal.at.returns-in-Err-new-clause-followed g c).Start source_tells sink_tells disk_tells s in_step

-- the bodies were to be found, and the run ended there
pub returns-in-Err-Failed-clause-followed : goal.returns-in-Err-Failed-clause-followed
returns-in-Err-Failed-clause-followed g c = λ source_tells sink_tells disk_tells s in_step idle.
    let m = c.args.machine.now in
    let n = c.of.new.disk in
    let alone = g.met.M.Machine.disk_alone m n c.of.ensures.only in (
      [],
      g.met.M.Machine.asked_laws.of_disk m n c.of.ensures.only,
      followed_none s Disk _ _ c.args.archive.now tt (λ t. t) (λ is. cc) alone.0 alone.1 c.of.ensures.same (g.met.M.Machine.beside_shown m sink_tells disk_tells) (g.met.M.Disk.holds_allowed m disk_tells) in_step,
    )

pub returns-in-Err-Memory-clause-followed : goal.returns-in-Err-Memory-clause-followed
returns-in-Err-Memory-clause-followed g c = λ source_tells sink_tells disk_tells s in_step idle.
    let m = c.args.machine.now in
    let n = c.of.new.disk in
    let alone = g.met.M.Machine.disk_alone m n c.of.ensures.only in (
      [],
      g.met.M.Machine.asked_laws.of_disk m n c.of.ensures.only,
      followed_none s Memory _ _ c.args.archive.now tt (λ t. t) (λ is. cc) alone.0 alone.1 c.of.ensures.same (g.met.M.Machine.beside_shown m sink_tells disk_tells) (g.met.M.Disk.holds_allowed m disk_tells) in_step,
    )

-- the loaded journal goes on to be an archive's
refused : (g : Over) (c : In-Err-NotJournal g) → g.M.Disk.disk_tells → (s : Store) → AreInStepBy (g.M.Disk.disk c.args.machine.now) c.args.archive.now s → ⊥
refused g c disk_tells s in_step =
    let m = c.args.machine.now in
    let d = g.M.Disk.disk m in
    c.of.ensures.never disk_tells (bodies_of s.history) (spelled_now d c.args.archive.now s (g.met.M.Disk.holds_allowed m disk_tells) in_step) (c.journal.ensures ∙ in_step.journal.end_is) c.in-Err-NotJournal.at
    (c.in-Err-NotJournal.is ∙ ap Err c.in-Err-NotJournal.field-0-is)

pub returns-in-Err-NotJournal-clause-followed : goal.returns-in-Err-NotJournal-clause-followed
returns-in-Err-NotJournal-clause-followed g c = λ source_tells sink_tells disk_tells s in_step idle. absurd (refused g (goal.at.returns-in-Err-NotJournal-clause-followed g c).In-Err-NotJournal disk_tells s in_step)

pub returns-in-Err-NotJournal-clause-ends : goal.returns-in-Err-NotJournal-clause-ends
returns-in-Err-NotJournal-clause-ends g c = λ source_tells sink_tells disk_tells s in_step idle. absurd (refused g (goal.at.returns-in-Err-NotJournal-clause-ends g c).In-Err-NotJournal disk_tells s in_step)

pub returns-in-Err-NotJournal-clause-fair : goal.returns-in-Err-NotJournal-clause-fair
returns-in-Err-NotJournal-clause-fair g c = λ disk_tells s in_step at is. refused g (goal.at.returns-in-Err-NotJournal-clause-fair g c).In-Err-NotJournal disk_tells s in_step

-- the run over the packets
served : (g : Over) (c : After-serve g) (source_tells : g.M.Source.source_tells) (sink_tells : g.M.Sink.sink_tells) (disk_tells : g.M.Disk.disk_tells) (s : Store) → AreInStepBy (g.M.Disk.disk c.args.machine.now) c.args.archive.now s → s.job ≡ None
    → (pulls : List Pull) × g.M.Machine.asked c.of.new.disk pulls c.serve.new.machine
    × Serves s c.serve.result (state_by g.M.Source.source g.M.Sink.sink g.M.Disk.disk c.args.machine.now) (state_by g.M.Source.source g.M.Sink.sink g.M.Disk.disk c.serve.new.machine) pulls
served g c source_tells sink_tells disk_tells s in_step idle =
    let m = c.args.machine.now in
    let n = c.of.new.disk in
    let d = g.M.Disk.disk m in
    let alone = g.met.M.Machine.disk_alone m n c.of.ensures.only in
    let bodies = c.in-Ok-of.ensures.found disk_tells (bodies_of s.history) (spelled_now d c.args.archive.now s (g.met.M.Disk.holds_allowed m disk_tells) in_step) (c.journal.ensures ∙ in_step.journal.end_is) in
    let old = state_by g.M.Source.source g.M.Sink.sink g.M.Disk.disk m in
    let start : Serving s old (state_by g.M.Source.source g.M.Sink.sink g.M.Disk.disk n) c.args.archive.now c.in-Ok.reader c.in-Ok-of.bodies [] =
    serving_start s old _ c.args.archive.now c.in-Ok.reader c.in-Ok-of.bodies c.in-Ok.ensures alone.0 alone.1 (g.met.M.Machine.beside_shown m sink_tells disk_tells) c.of.ensures.same (c.of.ensures.unread disk_tells) in_step idle bodies in
    c.serve.ensures.served source_tells sink_tells disk_tells s old start

pub returns-clause-followed : goal.returns-clause-followed
returns-clause-followed g c = λ source_tells sink_tells disk_tells s in_step idle.
    let m = c.args.machine.now in
    let n = c.of.new.disk in
    let made = served g (goal.at.returns-clause-followed g c).After-serve source_tells sink_tells disk_tells s in_step idle in (
      made.0,
      g.met.M.Machine.asked_laws.join m n c.serve.new.machine [] made.0 (g.met.M.Machine.asked_laws.of_disk m n c.of.ensures.only) made.1,
      followed_by s c.serve.result _ _ made.0 (held_by (g.M.Disk.disk m) c.args.archive.now s (g.met.M.Disk.holds_allowed m disk_tells) in_step) made.2,
    )

pub returns-clause-ends : goal.returns-clause-ends
returns-clause-ends g c = λ source_tells sink_tells disk_tells s in_step idle.
    let m = c.args.machine.now in
    let n = c.of.new.disk in
    let old : MachineState = state_by g.M.Source.source g.M.Sink.sink g.M.Disk.disk m in
    let mid : MachineState = state_by g.M.Source.source g.M.Sink.sink g.M.Disk.disk n in
    let new : MachineState = state_by g.M.Source.source g.M.Sink.sink g.M.Disk.disk c.serve.new.machine in
    let alone = g.met.M.Machine.disk_alone m n c.of.ensures.only in
    by_bytes c.serve.result old new (may_end_later c.serve.result old mid new (later_alone old mid alone.0 alone.1 (g.met.M.Disk.only_faults m n c.of.ensures.only)) c.serve.ensures.cause)
    (is_archive c.serve.result c.serve.ensures.ends)

pub returns-clause-fair : goal.returns-clause-fair
returns-clause-fair g c = λ disk_tells s in_step. is_archive c.serve.result c.serve.ensures.ends
