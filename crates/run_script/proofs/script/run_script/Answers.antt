use Rattle.std.proofs.Common.{List, [], Err, refl, inl, inr, ap, subst}
use Rattle.machine_model.specs.Pulls.{Pull}
use Rattle.machine_model.specs.States.{SourceState, SinkState, state_by}
use Rattle.model_archive.specs.Histories.{History}
use Rattle.model_archive.specs.Stands.{StandsIn}
use Rattle.model_archive.specs.Steps.{Step, Works}
use Rattle.model_archive.specs.Worlds.{at_work, world_of}
use Rattle.model_archive.proofs.StandsLemmas.{not_archive_once}
use Rattle.archive_hand.specs.Stored.{StandsBy, StoreStep, StoreStint, is_at_work}
use Rattle.run_script.specs.Causes.{MayEnd}
use Rattle.run_script.specs.Headline.{LoadsAs, store_of}
use Rattle.run_script.specs.Serving.{Serves}
use Rattle.run_script.specs.declared.status.Status.TheVariants.{Memory}
use Rattle.run_script.proofs.FollowLemmas.{load_no_packets}
use Rattle.run_script.proofs.PullLemmas.{completes, ends_later, later_alone, not_early, not_pulled, pulling_start, spoiled_start}
use Rattle.run_script.proofs.ServeLemmas.{begins_in_step, kept_by, keeps_still, keeps_still_by, load_keeps, load_completes, load_early, load_ends, load_fails, load_refused, load_undamaged, loads_archive, loads_found, not_begun, serving_start, stands_loads, synced_if_refused, syncs_still, whole_run}
use Rattle.run_script.proofs.StandingLemmas.{kept_history, standing_run}
use Rattle.run_script.proofs.script.run_script.Given.{Over}
use Rattle.run_script.proofs.script.run_script.Goals.{After-serve}
use Rattle.run_script.proofs.script.run_script.Goals as goal

pub returns-in-Err-clause-left_alone : goal.returns-in-Err-clause-left_alone
returns-in-Err-clause-left_alone g c = λ disk_tells at refused. (refl, refl, syncs_still (g.M.Disk.disk c.args.machine.now))

pub returns-in-Err-clause-headline : goal.returns-in-Err-clause-headline
returns-in-Err-clause-headline g c = λ source_tells sink_tells disk_tells h stands.
    let m = c.args.machine.now in
    let d = g.M.Disk.disk m in (
      [],
      g.met.M.Machine.asked_laws.of_disk m m (g.met.M.Disk.only_same m),
      record {
        headline = not_begun Step Works at_work StandsIn (world_of h) Memory _ _ (inr (inr (inl refl))) (refl, refl) (kept_history h d d _ (g.met.M.Machine.beside_shown m sink_tells disk_tells) (keeps_still h d));
        over_all = refl;
        with_stints = refl;
        undamaged = λ damage is. cc;
      },
    )

pub returns-in-Err-clause-by_reads : goal.returns-in-Err-clause-by_reads
returns-in-Err-clause-by_reads g c = λ source_tells sink_tells disk_tells h begins.
    let m = c.args.machine.now in
    let d = g.M.Disk.disk m in
    let s = store_of h d in (
      [],
      g.met.M.Machine.asked_laws.of_disk m m (g.met.M.Disk.only_same m),
      record {
        headline = not_begun StoreStep StoreStint is_at_work StandsBy s Memory _ _ (inr (inr (inl refl))) (refl, refl) (kept_by s d d _ (g.met.M.Machine.beside_shown m sink_tells disk_tells) (keeps_still_by s d));
        damaged = λ damage is. cc;
        read = λ done. absurd done;
      },
    )

pub returns-in-Err-clause-loaded : goal.returns-in-Err-clause-loaded
returns-in-Err-clause-loaded g c = λ disk_tells. inr (inr (inr refl))

pub returns-in-Err-clause-input_at : goal.returns-in-Err-clause-input_at
returns-in-Err-clause-input_at g c = λ source_tells. inr (not_pulled Memory _ _ (inr (inr (inl refl))) refl)

pub returns-in-Err-load-clause-refused : goal.returns-in-Err-load-clause-refused
returns-in-Err-load-clause-refused g c = λ disk_tells at refused.
    load_refused c.from.result c.in-Err-load.error at c.from.ensures (λ place is. not_archive_once (g.M.Disk.disk c.args.machine.now).holds place at (c.in-Err-load.ensures.not_archive disk_tells place (ap Err is)) refused)

pub returns-in-Err-load-clause-left_alone : goal.returns-in-Err-load-clause-left_alone
returns-in-Err-load-clause-left_alone g c = λ disk_tells at refused.
    let alone = g.met.M.Machine.disk_alone _ _ c.load.ensures.only in
    (alone.0, alone.1, synced_if_refused (g.M.Disk.disk c.args.machine.now) (g.M.Disk.disk c.load.new.disk) at refused (c.in-Err-load.ensures.longer disk_tells))

pub returns-in-Err-load-clause-headline : goal.returns-in-Err-load-clause-headline
returns-in-Err-load-clause-headline g c = λ source_tells sink_tells disk_tells h stands.
    let m = c.args.machine.now in
    let n = c.load.new.disk in
    let ends = load_early c.from.result c.in-Err-load.error c.from.ensures (λ at is. loads_archive h (g.M.Disk.disk m).holds at (stands_loads h (g.M.Disk.disk m).holds stands) (c.in-Err-load.ensures.not_archive disk_tells at (ap Err is))) in (
      [],
      g.met.M.Machine.asked_laws.of_disk m n c.load.ensures.only,
      record {
        headline = not_begun Step Works at_work StandsIn (world_of h) c.from.result _ _ ends (g.met.M.Machine.disk_alone m n c.load.ensures.only)
            (kept_history h (g.M.Disk.disk m) (g.M.Disk.disk n) _ (g.met.M.Machine.beside_shown m sink_tells disk_tells) (c.load.ensures.crash disk_tells h));
        over_all = refl;
        with_stints = refl;
        undamaged = λ damage is. load_undamaged c.from.result c.in-Err-load.error damage c.from.ensures is;
      },
    )

pub returns-in-Err-load-clause-by_reads : goal.returns-in-Err-load-clause-by_reads
returns-in-Err-load-clause-by_reads g c = λ source_tells sink_tells disk_tells h begins.
    let m = c.args.machine.now in
    let n = c.load.new.disk in
    let d = g.M.Disk.disk m in
    let s = store_of h d in
    let ends = load_early c.from.result c.in-Err-load.error c.from.ensures (λ at is. loads_archive h d.holds at begins (c.in-Err-load.ensures.not_archive disk_tells at (ap Err is))) in (
      [],
      g.met.M.Machine.asked_laws.of_disk m n c.load.ensures.only,
      record {
        headline = not_begun StoreStep StoreStint is_at_work StandsBy s c.from.result _ _ ends (g.met.M.Machine.disk_alone m n c.load.ensures.only)
            (kept_by s d (g.M.Disk.disk n) _ (g.met.M.Machine.beside_shown m sink_tells disk_tells) (load_keeps s d (g.M.Disk.disk n) (c.load.ensures.kept disk_tells) (c.load.ensures.pages disk_tells)));
        damaged = λ damage is. absurd (load_undamaged c.from.result c.in-Err-load.error damage c.from.ensures is);
        read = λ done. absurd (not_early c.from.result ends done);
      },
    )

pub returns-in-Err-load-clause-loaded : goal.returns-in-Err-load-clause-loaded
returns-in-Err-load-clause-loaded g c = λ disk_tells. load_fails c.from.result c.in-Err-load.error (g.M.Disk.disk c.args.machine.now).holds c.from.ensures

pub returns-in-Err-load-clause-input_at : goal.returns-in-Err-load-clause-input_at
returns-in-Err-load-clause-input_at g c = λ source_tells.
    load_ends c.from.result c.in-Err-load.error _ _ c.from.ensures (g.met.M.Machine.disk_alone c.args.machine.now c.load.new.disk c.load.ensures.only).0

pub returns-in-Err-load-clause-complete : goal.returns-in-Err-load-clause-complete
returns-in-Err-load-clause-complete g c = λ source_tells sink_tells disk_tells archive script few disk source sink.
    inr (inl (load_completes c.from.result c.in-Err-load.error c.from.ensures (λ is. disk (c.in-Err-load.ensures.failed (ap Err is))) (λ at is. archive at (c.in-Err-load.ensures.not_archive disk_tells at (ap Err is)))))

-- the load pulls and shows nothing, so what the run may end with behind it it may end with
cause : (g : Over) (c : After-serve g) → MayEnd c.serve.result (state_by g.M.Source.source g.M.Sink.sink g.M.Disk.disk c.args.machine.now) (state_by g.M.Source.source g.M.Sink.sink g.M.Disk.disk c.serve.new.machine)
cause g c =
    let alone = g.met.M.Machine.disk_alone c.args.machine.now c.load.new.disk c.load.ensures.only in
    ends_later _ _ _ _ (later_alone _ _ alone.0 alone.1 (g.met.M.Disk.only_faults c.args.machine.now c.load.new.disk c.load.ensures.only)) c.serve.ensures.cause

pub returns-clause-disk_fault : goal.returns-clause-disk_fault
returns-clause-disk_fault g c = (cause g (goal.at.returns-clause-disk_fault g c).After-serve).disk

pub returns-clause-source_fault : goal.returns-clause-source_fault
returns-clause-source_fault g c = (cause g (goal.at.returns-clause-source_fault g c).After-serve).source

pub returns-clause-sink_fault : goal.returns-clause-sink_fault
returns-clause-sink_fault g c = (cause g (goal.at.returns-clause-sink_fault g c).After-serve).sink

pub returns-clause-not_archive : goal.returns-clause-not_archive
returns-clause-not_archive g c = λ disk_tells at is. absurd (c.serve.ensures.cause.no_load at is)

pub returns-clause-refused : goal.returns-clause-refused
returns-clause-refused g c = λ disk_tells at refused. absurd (c.in-Ok-load.ensures.exact disk_tells at refused)

pub returns-clause-left_alone : goal.returns-clause-left_alone
returns-clause-left_alone g c = λ disk_tells at refused. absurd (c.in-Ok-load.ensures.exact disk_tells at refused)

-- the items, behind the load
served : (g : Over) (c : After-serve g) → g.M.Source.source_tells → g.M.Sink.sink_tells → g.M.Disk.disk_tells → (h : History) → LoadsAs h (g.M.Disk.disk c.args.machine.now).holds
    → (pulls : List Pull) × g.M.Machine.asked c.args.machine.now pulls c.serve.new.machine × Serves (store_of h (g.M.Disk.disk c.args.machine.now)) c.serve.result
    (record { source = g.M.Source.source c.args.machine.now; sink = g.M.Sink.sink c.args.machine.now; disk = g.M.Disk.disk c.load.new.disk }) (state_by g.M.Source.source g.M.Sink.sink g.M.Disk.disk c.serve.new.machine) pulls
served g c source_tells sink_tells disk_tells h begins =
    let m = c.args.machine.now in
    let n = c.load.new.disk in
    let d = g.M.Disk.disk m in
    let s = store_of h d in
    let last = c.serve.new.machine in
    let alone = g.met.M.Machine.disk_alone m n c.load.ensures.only in
    let in_step = begins_in_step h d (g.M.Disk.disk n) c.in-Ok-load.archive c.in-Ok-load.ensures.empty (c.load.ensures.unread disk_tells) (c.in-Ok-load.ensures.by_reads disk_tells) begins in
    let served = c.serve.ensures.served source_tells sink_tells disk_tells s
    (serving_start s (state_by g.M.Source.source g.M.Sink.sink g.M.Disk.disk n) c.in-Ok-load.archive c.in-Ok.desk.reader c.in-Ok.ensures (g.met.M.Machine.beside_shown n sink_tells disk_tells) in_step) in
    let S : SourceState → SinkState → Type 0 = λ x y. Serves s c.serve.result (record { source = x; sink = y; disk = g.M.Disk.disk n }) (state_by g.M.Source.source g.M.Sink.sink g.M.Disk.disk last) served.0 in (
      served.0,
      g.met.M.Machine.asked_laws.join m n last [] served.0 (g.met.M.Machine.asked_laws.of_disk m n c.load.ensures.only) served.1,
      subst (λ (x : SourceState). S x (g.M.Sink.sink m)) alone.0 (subst (λ (y : SinkState). S (g.M.Source.source n) y) alone.1 served.2),
    )

pub returns-clause-headline : goal.returns-clause-headline
returns-clause-headline g c = λ source_tells sink_tells disk_tells h stands.
    let m = c.args.machine.now in
    let d = g.M.Disk.disk m in
    let (pulls, asked, serves) = served g (goal.at.returns-clause-headline g c).After-serve source_tells sink_tells disk_tells h (stands_loads h d.holds stands) in (
      pulls,
      asked,
      standing_run h d c.serve.result (state_by g.M.Source.source g.M.Sink.sink g.M.Disk.disk m) (g.M.Disk.disk c.load.new.disk) (state_by g.M.Source.source g.M.Sink.sink g.M.Disk.disk c.serve.new.machine) pulls
          (record { loadable = stands.loadable; may = tt; held = stands.held }) (g.met.M.Machine.beside_shown m sink_tells disk_tells) (c.load.ensures.crash disk_tells h) serves,
    )

pub returns-clause-by_reads : goal.returns-clause-by_reads
returns-clause-by_reads g c = λ source_tells sink_tells disk_tells h begins.
    let m = c.args.machine.now in
    let d = g.M.Disk.disk m in
    let n = g.M.Disk.disk c.load.new.disk in
    let (pulls, asked, serves) = served g (goal.at.returns-clause-by_reads g c).After-serve source_tells sink_tells disk_tells h begins in (
      pulls,
      asked,
      whole_run (store_of h d) c.serve.result (state_by g.M.Source.source g.M.Sink.sink g.M.Disk.disk m) n (state_by g.M.Source.source g.M.Sink.sink g.M.Disk.disk c.serve.new.machine) pulls
          (g.met.M.Machine.beside_shown m sink_tells disk_tells) (load_keeps (store_of h d) d n (c.load.ensures.kept disk_tells) (c.load.ensures.pages disk_tells)) serves,
    )

pub returns-clause-input_at : goal.returns-clause-input_at
returns-clause-input_at g c = λ source_tells.
    let alone = g.met.M.Machine.disk_alone c.args.machine.now c.load.new.disk c.load.ensures.only in
    inr (c.serve.ensures.ends source_tells _ (pulling_start _ _ c.in-Ok.desk.reader alone.0 c.in-Ok.ensures))

pub returns-clause-complete : goal.returns-clause-complete
returns-clause-complete g c = λ source_tells sink_tells disk_tells archive script few disk source sink.
    let alone = g.met.M.Machine.disk_alone c.args.machine.now c.load.new.disk c.load.ensures.only in
    let may = cause g (goal.at.returns-clause-complete g c).After-serve in
    completes c.serve.result _ _ (c.serve.ensures.ends source_tells _ (pulling_start _ _ c.in-Ok.desk.reader alone.0 c.in-Ok.ensures)) may script few (λ is. disk (may.disk is)) (λ is. source (may.source is)) (λ is. sink (may.sink is))

pub returns-in-Err-load-clause-damaged : goal.returns-in-Err-load-clause-damaged
returns-in-Err-load-clause-damaged g c = λ disk_tells d is. absurd (load_undamaged c.from.result c.in-Err-load.error d c.from.ensures is)

pub returns-clause-damaged : goal.returns-clause-damaged
returns-clause-damaged g c = λ disk_tells d is.
    let m = c.args.machine.now in
    let n = c.load.new.disk in
    let b = g.M.Disk.disk m in
    let found = c.in-Ok-load.ensures.by_reads disk_tells in
    let begins = loads_found b found in
    let alone = g.met.M.Machine.disk_alone m n c.load.ensures.only in
    let in_step = begins_in_step found.0.history b (g.M.Disk.disk n) c.in-Ok-load.archive c.in-Ok-load.ensures.empty (c.load.ensures.unread disk_tells) found begins in
    let spoiled = c.serve.ensures.spoiled disk_tells (store_of found.0.history b) in_step d is in (
      found.0.history,
      begins,
      record {
        before = spoiled.before;
        outcomes = spoiled.outcomes;
        run = spoiled.run;
        item = spoiled.item;
        spoiled = spoiled.spoiled;
        pages_are = spoiled.pages_are;
        pulled = spoiled_start _ (store_of found.0.history b) _ (g.M.Source.source m) (g.M.Source.source n) _ c.in-Ok.desk.reader d alone.0 c.in-Ok.ensures spoiled;
      },
    )

pub returns-clause-loaded : goal.returns-clause-loaded
returns-clause-loaded g c = λ disk_tells. let found = c.in-Ok-load.ensures.by_reads disk_tells in inl (found.0.history, loads_found (g.M.Disk.disk c.args.machine.now) found)

pub returns-in-Err-load-clause-no_packets : goal.returns-in-Err-load-clause-no_packets
returns-in-Err-load-clause-no_packets g c = load_no_packets c.from.result c.in-Err-load.error c.from.ensures

pub returns-clause-no_packets : goal.returns-clause-no_packets
returns-clause-no_packets g c = c.serve.ensures.cause.no_packets
