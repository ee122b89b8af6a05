use Rattle.std.proofs.Common.{[], ◌++◌, Err, refl, inl, ap, sym, ◌∙◌, arith}
use Rattle.machine_model.specs.States.{state_by}
use Rattle.model_archive.specs.Standing.{last_state}
use Rattle.run_script.proofs.PullLemmas.{ends_later, later_joins, later_still, stop_ends, stopped_at, stops_early}
use Rattle.run_script.proofs.ServeLemmas.{closing_done, closing_next, closing_stopped}
use Rattle.run_script.proofs.StintLemmas.{works_by}
use Rattle.run_script.proofs.serve.close.Goals as goal

pub stints-init : goal.stints-init
stints-init g c = record {
  ready = c.requires.ready;
  source = refl;
  asked = g.met.M.Machine.asked_laws.of_disk c.args.machine.now c.args.machine.now (g.met.M.Disk.only_same c.args.machine.now);
  later = record { source = omega arith; sink = omega arith; disk = omega arith };
  closing = λ sink_tells disk_tells s began pulls start. start;
}

pub stints-preserved : goal.stints-preserved
stints-preserved g c =
    let was = c.stints.invariant in
    let now = c.in-Ok.ensures in
    record {
      ready = now.left.ready;
      source = now.source ∙ was.source;
      asked = g.met.M.Machine.asked_laws.join c.args.machine.now c.stints.machine c.do_stint.new.machine [] [] was.asked now.asked;
      later = later_joins _ _ _ was.later (later_still _ _ now.source now.sink_later now.disk_later);
      closing = λ sink_tells disk_tells s began pulls start.
          let so_far = was.closing sink_tells disk_tells s began pulls start in
          closing_next s began _ _ c.stints.archive c.do_stint.new.archive pulls so_far now.source (now.outcome disk_tells sink_tells (last_state s (so_far.by_items ++ so_far.closing)) so_far.in_step);
    }

pub returns-in-Err-clause-source : goal.returns-in-Err-clause-source
returns-in-Err-clause-source g c = c.in-Err.ensures.source ∙ c.stints.invariant.source

pub returns-in-Err-clause-asked : goal.returns-in-Err-clause-asked
returns-in-Err-clause-asked g c = g.met.M.Machine.asked_laws.join c.args.machine.now c.stints.machine c.do_stint.new.machine [] [] c.stints.invariant.asked c.in-Err.ensures.asked

pub returns-in-Err-clause-later : goal.returns-in-Err-clause-later
returns-in-Err-clause-later g c = later_joins _ _ _ c.stints.invariant.later (later_still _ _ c.in-Err.ensures.source c.in-Err.ensures.sink_later c.in-Err.ensures.disk_later)

pub returns-in-Err-clause-cause : goal.returns-in-Err-clause-cause
returns-in-Err-clause-cause g c =
    ends_later c.from.result _ _ _ c.stints.invariant.later
    (stop_ends c.from.result c.in-Err.stop (state_by g.M.Source.source g.M.Sink.sink g.M.Disk.disk c.stints.machine) (state_by g.M.Source.source g.M.Sink.sink g.M.Disk.disk c.do_stint.new.machine) c.from.ensures (λ is. c.in-Err.ensures.disk_fault (ap Err is)) (λ is. c.in-Err.ensures.sink_fault (ap Err is)))

pub returns-in-Err-clause-ends : goal.returns-in-Err-clause-ends
returns-in-Err-clause-ends g c = inl (stops_early c.from.result c.in-Err.stop c.from.ensures)

pub returns-in-Err-clause-undamaged : goal.returns-in-Err-clause-undamaged
returns-in-Err-clause-undamaged g c = λ d is. c.in-Err.ensures.undamaged d (ap Err (stopped_at c.in-Err.stop d (sym c.from.ensures ∙ is)))

pub returns-in-Err-clause-closed : goal.returns-in-Err-clause-closed
returns-in-Err-clause-closed g c = λ sink_tells disk_tells s began pulls start.
    let so_far = c.stints.invariant.closing sink_tells disk_tells s began pulls start in
    let last = last_state s (so_far.by_items ++ so_far.closing) in
    closing_stopped s began _ _ c.stints.archive c.do_stint.new.archive pulls c.from.result c.in-Err.stop so_far c.in-Err.ensures.source c.from.ensures (g.met.M.Machine.beside_shown c.stints.machine sink_tells disk_tells)
    (works_by _ _ _ c.stints.archive last so_far.in_step c.is_at_work.ensures c.stints-test.true) (c.in-Err.ensures.outcome disk_tells sink_tells last so_far.in_step)

pub returns-clause-closed : goal.returns-clause-closed
returns-clause-closed g c = λ sink_tells disk_tells s began pulls start.
    let so_far = c.stints.invariant.closing sink_tells disk_tells s began pulls start in
    let last = last_state s (so_far.by_items ++ so_far.closing) in
    closing_done s began _ c.stints.archive pulls so_far (works_by _ _ _ c.stints.archive last so_far.in_step c.is_at_work.ensures c.stints-test.false)
