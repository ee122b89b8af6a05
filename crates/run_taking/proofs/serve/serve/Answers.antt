use Rattle.std.proofs.Common.{[], ◌++◌, arith}
use Rattle.std.proofs.lemmas.List.{append-nil}
use Rattle.run_taking.proofs.EndLemmas.{later_joins, may_end_later}
use Rattle.run_taking.proofs.serve.serve.Goals as goal

pub packets-init : goal.packets-init
packets-init g c = record {
  later = record { source = omega arith; sink = omega arith; disk = omega arith };
  ready = c.requires.ready;
  serving = λ source_tells sink_tells disk_tells s began start. ([], g.met.M.Machine.asked_laws.of_disk c.args.machine.now c.args.machine.now (g.met.M.Disk.only_same c.args.machine.now), start);
}

pub packets-preserved : goal.packets-preserved
packets-preserved g c =
    let was = c.packets.invariant in
    let now = c.in-Ok.ensures in
    record {
      later = later_joins _ _ _ was.later now.later;
      ready = now.ready;
      serving = λ source_tells sink_tells disk_tells s began start.
          let so_far = was.serving source_tells sink_tells disk_tells s began start in
          let next = now.goes_on source_tells sink_tells disk_tells s began so_far.0 so_far.2 in
          (so_far.0 ++ next.0, g.met.M.Machine.asked_laws.join _ _ _ so_far.0 next.0 so_far.1 next.1, next.2);
    }

pub returns-in-Done-clause-served : goal.returns-in-Done-clause-served
returns-in-Done-clause-served g c = λ source_tells sink_tells disk_tells s began start.
    let so_far = c.packets.invariant.serving source_tells sink_tells disk_tells s began start in
    let next = c.in-Err.ensures.goes_on source_tells sink_tells disk_tells s began so_far.0 so_far.2 in
    let asked = g.met.M.Machine.asked_laws.join _ _ _ so_far.0 next.0 so_far.1 next.1 in (
      so_far.0 ++ next.0,
      rw append-nil at (g.met.M.Machine.asked_laws.join _ _ c.close.new.machine (so_far.0 ++ next.0) [] asked c.close.ensures.asked),
      c.close.ensures.closed sink_tells disk_tells s began _ _ (so_far.0 ++ next.0) (rw c.in-Done.is at next.2),
    )

pub returns-in-Done-clause-later : goal.returns-in-Done-clause-later
returns-in-Done-clause-later g c = later_joins _ _ _ (later_joins _ _ _ c.packets.invariant.later c.in-Err.ensures.later) c.close.ensures.later

pub returns-in-Done-clause-cause : goal.returns-in-Done-clause-cause
returns-in-Done-clause-cause g c = may_end_later _ _ _ _ (later_joins _ _ _ c.packets.invariant.later c.in-Err.ensures.later) c.close.ensures.cause

pub returns-in_default-clause-served : goal.returns-in_default-clause-served
returns-in_default-clause-served g c = λ source_tells sink_tells disk_tells s began start.
    let so_far = c.packets.invariant.serving source_tells sink_tells disk_tells s began start in
    let next = c.in-Err.ensures.goes_on source_tells sink_tells disk_tells s began so_far.0 so_far.2 in
    (so_far.0 ++ next.0, g.met.M.Machine.asked_laws.join _ _ _ so_far.0 next.0 so_far.1 next.1, next.2.serves c.in_default.not-Done)

pub returns-in_default-clause-later : goal.returns-in_default-clause-later
returns-in_default-clause-later g c = later_joins _ _ _ c.packets.invariant.later c.in-Err.ensures.later

pub returns-in_default-clause-cause : goal.returns-in_default-clause-cause
returns-in_default-clause-cause g c = may_end_later _ _ _ _ c.packets.invariant.later c.in-Err.ensures.cause
