use Rattle.std.proofs.Common.{refl, inl, inr, ap, sym, subst, ◌∙◌, Err}
use Rattle.machine_model.specs.States.{SinkState}
use Rattle.run_audit.specs.Audits.{IsAudited, IsCutOff}
use Rattle.run_audit.specs.Statuses.{EndsEarly, status_of_finding}
use Rattle.run_audit.proofs.AuditLemmas.{decided, early_completes, not_faulty, not_refused, read_images, refused_is, shown_images, sound_whole, stands_as_sound, still_images}
use Rattle.run_audit.proofs.program.audit.Goals as goal

pub returns-then-are_refused-clause-reads : goal.returns-then-are_refused-clause-reads
returns-then-are_refused-clause-reads g c =
    let m = c.args.machine.now in
    (m, (g.met.M.Disk.only_same m, refl, g.met.M.Sink.only_same m))

pub returns-then-are_refused-clause-images : goal.returns-then-are_refused-clause-images
returns-then-are_refused-clause-images g c = λ sink_tells disk_tells.
    let m = c.args.machine.now in
    still_images (g.M.Disk.disk m) (g.M.Sink.sink m).shown (g.met.M.Machine.beside_shown m sink_tells disk_tells)

pub returns-in-Err-clause-images : goal.returns-in-Err-clause-images
returns-in-Err-clause-images g c = λ sink_tells disk_tells.
    let m = c.args.machine.now in
    read_images (g.M.Disk.disk m) (g.M.Disk.disk c.finding_of.new.disk) (g.M.Sink.sink m).shown (g.met.M.Machine.beside_shown m sink_tells disk_tells) c.finding_of.ensures.same

pub returns-in-Err-clause-refused : goal.returns-in-Err-clause-refused
returns-in-Err-clause-refused g c = λ disk_tells none at refused. refused_is c.in-Err.status at (c.in-Err.ensures.refused disk_tells at refused)

pub returns-in-Err-clause-complete : goal.returns-in-Err-clause-complete
returns-in-Err-clause-complete g c = λ disk_tells none archive disk sink.
    early_completes c.in-Err.status c.in-Err.ensures.early (λ at is. archive at (c.in-Err.ensures.not_archive disk_tells at (ap Err is))) (λ is. disk (c.in-Err.ensures.failed (ap Err is)))

pub returns-in-Ok-clause-images : goal.returns-in-Ok-clause-images
returns-in-Ok-clause-images g c = λ sink_tells disk_tells.
    let m = c.args.machine.now in
    let n = c.finding_of.new.disk in
    let last = c.tell.new.sink in
    let alone = g.met.M.Machine.disk_alone m n c.finding_of.ensures.only in
    shown_images (g.M.Disk.disk m) (g.M.Disk.disk n) (g.M.Disk.disk last) (g.M.Sink.sink m).shown (g.M.Sink.sink n).shown (g.M.Sink.sink last).shown
    (g.met.M.Machine.beside_shown m sink_tells disk_tells) (ap (λ (s : SinkState). s.shown) alone.1) c.finding_of.ensures.same
    (g.met.M.Machine.shows n last sink_tells disk_tells c.tell.ensures.only)

pub returns-in-Ok-clause-refused : goal.returns-in-Ok-clause-refused
returns-in-Ok-clause-refused g c = λ disk_tells none at refused. absurd (not_refused c.in-Ok.finding at (c.in-Ok.ensures.refused disk_tells at refused))

pub returns-in-Ok-clause-audited : goal.returns-in-Ok-clause-audited
returns-in-Ok-clause-audited g c = λ sink_tells disk_tells which.
    let m = c.args.machine.now in
    let n = c.finding_of.new.disk in
    let alone = g.met.M.Machine.disk_alone m n c.finding_of.ensures.only in
    let is = decided c.tell.result (status_of_finding c.in-Ok.finding) c.tell.ensures.ends which in
    let S : SinkState → Type 0 = λ s. IsAudited (g.M.Disk.disk m).holds c.tell.result s.shown (g.M.Sink.sink c.tell.new.sink).shown in
    subst S alone.1 (record { finding = c.in-Ok.finding; is = c.in-Ok.ensures.found disk_tells; shown = c.tell.ensures.whole sink_tells is; decides = is })

pub returns-in-Ok-clause-cut_off : goal.returns-in-Ok-clause-cut_off
returns-in-Ok-clause-cut_off g c = λ sink_tells disk_tells is.
    let m = c.args.machine.now in
    let n = c.finding_of.new.disk in
    let alone = g.met.M.Machine.disk_alone m n c.finding_of.ensures.only in
    let S : SinkState → Type 0 = λ s. IsCutOff (g.M.Disk.disk m).holds s.shown (g.M.Sink.sink c.tell.new.sink).shown in
    subst S alone.1 (record { finding = c.in-Ok.finding; is = c.in-Ok.ensures.found disk_tells; front = c.tell.ensures.front sink_tells is; short = c.tell.ensures.short sink_tells is })

pub returns-in-Ok-clause-no_false_alarm : goal.returns-in-Ok-clause-no_false_alarm
returns-in-Ok-clause-no_false_alarm g c = λ disk_tells h legal stands faulty.
    not_faulty c.tell.result (status_of_finding c.in-Ok.finding) (stands_as_sound h (g.M.Disk.disk c.args.machine.now).holds c.in-Ok.finding legal stands (c.in-Ok.ensures.found disk_tells))
    (decided c.tell.result (status_of_finding c.in-Ok.finding) c.tell.ensures.ends (inr faulty)) faulty

pub returns-in-Ok-clause-whole : goal.returns-in-Ok-clause-whole
returns-in-Ok-clause-whole g c = λ disk_tells is.
    sound_whole (g.M.Disk.disk c.args.machine.now).holds c.in-Ok.finding (c.in-Ok.ensures.found disk_tells) (sym (decided c.tell.result (status_of_finding c.in-Ok.finding) c.tell.ensures.ends (inl is)) ∙ is)

pub returns-in-Err-clause-whole : goal.returns-in-Err-clause-whole
returns-in-Err-clause-whole g c = λ disk_tells is. absurd (subst EndsEarly is c.in-Err.ensures.early)
