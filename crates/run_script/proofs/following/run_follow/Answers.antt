use Rattle.std.proofs.Common.{[], Err, refl, inl, ap, arith}
use Rattle.machine_model.specs.States.{state_by}
use Rattle.model_archive.specs.Stands.{bodies_of}
use Rattle.model_archive.proofs.StandsLemmas.{not_archive_once}
use Rattle.run_taking.specs.declared.ended.Ended.TheVariants as ends
use Rattle.run_script.specs.Headline.{store_of}
use Rattle.run_script.proofs.FollowLemmas.{is_decided, is_followed, load_follows, not_followed, tells_ended}
use Rattle.run_script.proofs.ServeLemmas.{begins_in_step, load_completes, load_fails, load_refused, loads_archive, loads_found, synced_if_refused}
use Rattle.run_script.proofs.following.run_follow.Goals as goal

-- ---- the archive wasn't loaded

pub returns-in-Err-clause-ends : goal.returns-in-Err-clause-ends
returns-in-Err-clause-ends g c = load_follows c.from.result c.in-Err.error c.from.ensures

pub returns-in-Err-clause-refused : goal.returns-in-Err-clause-refused
returns-in-Err-clause-refused g c = λ disk_tells at refused.
    load_refused c.from.result c.in-Err.error at c.from.ensures (λ place is. not_archive_once (g.M.Disk.disk c.args.machine.now).holds place at (c.in-Err.ensures.not_archive disk_tells place (ap Err is)) refused)

pub returns-in-Err-clause-left_alone : goal.returns-in-Err-clause-left_alone
returns-in-Err-clause-left_alone g c = λ disk_tells at refused.
    let alone = g.met.M.Machine.disk_alone _ _ c.load.ensures.only in
    (alone.0, alone.1, synced_if_refused (g.M.Disk.disk c.args.machine.now) (g.M.Disk.disk c.load.new.disk) at refused (c.in-Err.ensures.longer disk_tells))

pub returns-in-Err-clause-loaded : goal.returns-in-Err-clause-loaded
returns-in-Err-clause-loaded g c = λ disk_tells. load_fails c.from.result c.in-Err.error (g.M.Disk.disk c.args.machine.now).holds c.from.ensures

pub returns-in-Err-clause-followed : goal.returns-in-Err-clause-followed
returns-in-Err-clause-followed g c = λ source_tells sink_tells disk_tells h begins.
    let m = c.args.machine.now in
    let n = c.load.new.disk in
    let d = g.M.Disk.disk m in
    let alone = g.met.M.Machine.disk_alone m n c.load.ensures.only in (
      [],
      g.met.M.Machine.asked_laws.of_disk m n c.load.ensures.only,
      not_followed h c.from.result c.in-Err.error _ _ c.from.ensures (λ at is. loads_archive h d.holds at begins (c.in-Err.ensures.not_archive disk_tells at (ap Err is))) alone.0 alone.1
          (g.met.M.Machine.beside_shown m sink_tells disk_tells) (c.load.ensures.pages disk_tells) (c.load.ensures.kept disk_tells (bodies_of h)) (c.load.ensures.crash disk_tells h),
    )

pub returns-in-Err-clause-complete : goal.returns-in-Err-clause-complete
returns-in-Err-clause-complete g c = λ source_tells sink_tells disk_tells archive disk source sink.
    rw (load_completes c.from.result c.in-Err.error c.from.ensures (λ is. disk (c.in-Err.ensures.failed (ap Err is))) (λ at is. archive at (c.in-Err.ensures.not_archive disk_tells at (ap Err is)))) tt

-- ---- it was loaded

pub returns-clause-ends : goal.returns-clause-ends
returns-clause-ends g c = (tells_ended c.from-2.result c.follow.result c.from-2.ensures).ends_so

pub returns-clause-disk_fault : goal.returns-clause-disk_fault
returns-clause-disk_fault g c = λ is.
    omega (arith, g.met.M.Disk.only_faults c.args.machine.now c.load.new.disk c.load.ensures.only, c.follow.ensures.cause.disk ((tells_ended c.from-2.result c.follow.result c.from-2.ensures).disk is))

pub returns-clause-source_fault : goal.returns-clause-source_fault
returns-clause-source_fault g c = λ is.
    rw (g.met.M.Machine.disk_alone c.args.machine.now c.load.new.disk c.load.ensures.only).0 at (c.follow.ensures.cause.source ((tells_ended c.from-2.result c.follow.result c.from-2.ensures).source is))

pub returns-clause-sink_fault : goal.returns-clause-sink_fault
returns-clause-sink_fault g c = λ is.
    rw (g.met.M.Machine.disk_alone c.args.machine.now c.load.new.disk c.load.ensures.only).1 at (c.follow.ensures.cause.sink ((tells_ended c.from-2.result c.follow.result c.from-2.ensures).sink is))

pub returns-clause-not_archive : goal.returns-clause-not_archive
returns-clause-not_archive g c = λ disk_tells at is.
    let found = c.in-Ok.ensures.by_reads disk_tells in
    absurd (c.follow.ensures.fair disk_tells found.0 found.1.0 at ((tells_ended c.from-2.result c.follow.result c.from-2.ensures).archive at is))

pub returns-clause-refused : goal.returns-clause-refused
returns-clause-refused g c = λ disk_tells at refused. absurd (c.in-Ok.ensures.exact disk_tells at refused)

pub returns-clause-left_alone : goal.returns-clause-left_alone
returns-clause-left_alone g c = λ disk_tells at refused. absurd (c.in-Ok.ensures.exact disk_tells at refused)

pub returns-clause-loaded : goal.returns-clause-loaded
returns-clause-loaded g c = λ disk_tells. let found = c.in-Ok.ensures.by_reads disk_tells in inl (found.0.history, loads_found (g.M.Disk.disk c.args.machine.now) found)

pub returns-clause-followed : goal.returns-clause-followed
returns-clause-followed g c = λ source_tells sink_tells disk_tells h begins.
    let m = c.args.machine.now in
    let n = c.load.new.disk in
    let d = g.M.Disk.disk m in
    let alone = g.met.M.Machine.disk_alone m n c.load.ensures.only in
    let in_step = begins_in_step h d (g.M.Disk.disk n) c.in-Ok.archive c.in-Ok.ensures.empty (c.load.ensures.unread disk_tells) (c.in-Ok.ensures.by_reads disk_tells) begins in
    let made = c.follow.ensures.followed source_tells sink_tells disk_tells (store_of h d) in_step refl in (
      made.0,
      g.met.M.Machine.asked_laws.join m n c.follow.new.machine [] made.0 (g.met.M.Machine.asked_laws.of_disk m n c.load.ensures.only) made.1,
      is_followed h c.follow.result c.from-2.result _ _ _ made.0 c.from-2.ensures alone.0 alone.1 (g.met.M.Machine.beside_shown m sink_tells disk_tells)
          (c.load.ensures.pages disk_tells) (c.load.ensures.kept disk_tells (bodies_of h)) (c.load.ensures.crash disk_tells h) made.2,
    )

pub returns-clause-complete : goal.returns-clause-complete
returns-clause-complete g c = λ source_tells sink_tells disk_tells archive disk source sink.
    let m = c.args.machine.now in
    let n = c.load.new.disk in
    let alone = g.met.M.Machine.disk_alone m n c.load.ensures.only in
    let found = c.in-Ok.ensures.by_reads disk_tells in
    let by = c.follow.ensures.ends source_tells sink_tells disk_tells found.0 found.1.0 found.1.4 in
    is_decided c.from-2.result c.follow.result (state_by g.M.Source.source g.M.Sink.sink g.M.Disk.disk n) (state_by g.M.Source.source g.M.Sink.sink g.M.Disk.disk c.follow.new.machine) c.from-2.ensures by (λ rose. disk (omega (arith, rose, g.met.M.Disk.only_faults m n c.load.ensures.only))) (λ rose. source (rw alone.0 at rose)) (λ rose. sink (rw alone.1 at rose))
    (λ is. source (rw alone.0 at (c.follow.ensures.cause.source is)))
