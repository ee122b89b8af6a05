use Rattle.std.proofs.Common.{[], ◌++◌, arith, subst}
use Rattle.std.proofs.lemmas.List.{append-nil}
use Rattle.model_archive.specs.Standing.{last_state}
use Rattle.run_script.specs.Headline.{Ends}
use Rattle.run_script.specs.declared.status.Status.{Status}
use Rattle.run_script.proofs.PullLemmas.{ends_closed, ends_later, later_joins, left_joins, none_passed, passed_joins, spoiled_joins}
use Rattle.run_script.proofs.serve.serve.Goals as goal

pub items-init : goal.items-init
items-init g c = record {
  later = record { source = omega arith; sink = omega arith; disk = omega arith };
  left = record { ready = c.requires.ready; cached = λ told stands. stands };
  pulling = λ source_tells began start. start;
  passed = λ disk_tells s start. none_passed _ s _ _ _ _ start;
  serving = λ source_tells sink_tells disk_tells s start. ([], g.met.M.Machine.asked_laws.of_disk c.args.machine.now c.args.machine.now (g.met.M.Disk.only_same c.args.machine.now), start);
}

pub items-preserved : goal.items-preserved
items-preserved g c =
    let was = c.items.invariant in
    let now = c.in-Ok.ensures in
    record {
      later = later_joins _ _ _ was.later now.later;
      left = left_joins _ _ _ _ _ _ _ was.left now.left;
      pulling = λ source_tells began start. now.pulls source_tells _ (was.pulling source_tells began start);
      passed = λ disk_tells s start.
          let so_far = was.passed disk_tells s start in
          passed_joins _ s _ _ _ _ _ _ _ _ _ _ so_far (now.passes disk_tells (last_state s so_far.outcomes) so_far.in_step);
      serving = λ source_tells sink_tells disk_tells s start.
          let so_far = was.serving source_tells sink_tells disk_tells s start in
          let next = now.goes_on source_tells sink_tells disk_tells s _ so_far.0 so_far.2 in
          (so_far.0 ++ next.0, g.met.M.Machine.asked_laws.join _ _ _ so_far.0 next.0 so_far.1 next.1, next.2);
    }

-- the input was gone over, and then stints were done
pub returns-in-Done-clause-ends : goal.returns-in-Done-clause-ends
returns-in-Done-clause-ends g c = λ source_tells began start.
    let at = g.M.Source.source c.step.new.machine in
    rw c.close.ensures.source (ends_closed c.close.result began at c.close.ensures.ends (subst (λ (st : Status). Ends st began at) c.in-Done.is (c.in-Err.ensures.pulls source_tells began (c.items.invariant.pulling source_tells began start))))

pub returns-in-Done-clause-served : goal.returns-in-Done-clause-served
returns-in-Done-clause-served g c = λ source_tells sink_tells disk_tells s start.
    let so_far = c.items.invariant.serving source_tells sink_tells disk_tells s start in
    let next = c.in-Err.ensures.goes_on source_tells sink_tells disk_tells s _ so_far.0 so_far.2 in
    let asked = g.met.M.Machine.asked_laws.join _ _ _ so_far.0 next.0 so_far.1 next.1 in
    (so_far.0 ++ next.0, rw append-nil at (g.met.M.Machine.asked_laws.join _ _ c.close.new.machine (so_far.0 ++ next.0) [] asked c.close.ensures.asked), c.close.ensures.closed sink_tells disk_tells s _ (so_far.0 ++ next.0) (next.2.closing c.in-Done.is))

pub returns-in-Done-clause-later : goal.returns-in-Done-clause-later
returns-in-Done-clause-later g c = later_joins _ _ _ (later_joins _ _ _ c.items.invariant.later c.in-Err.ensures.later) c.close.ensures.later

pub returns-in-Done-clause-cause : goal.returns-in-Done-clause-cause
returns-in-Done-clause-cause g c = ends_later _ _ _ _ (later_joins _ _ _ c.items.invariant.later c.in-Err.ensures.later) c.close.ensures.cause

pub returns-in-Done-clause-spoiled : goal.returns-in-Done-clause-spoiled
returns-in-Done-clause-spoiled g c = λ disk_tells s start d is. absurd (c.close.ensures.undamaged d is)

pub returns-in_default-clause-ends : goal.returns-in_default-clause-ends
returns-in_default-clause-ends g c = λ source_tells began start. c.in-Err.ensures.pulls source_tells _ (c.items.invariant.pulling source_tells began start)

pub returns-in_default-clause-served : goal.returns-in_default-clause-served
returns-in_default-clause-served g c = λ source_tells sink_tells disk_tells s start.
    let so_far = c.items.invariant.serving source_tells sink_tells disk_tells s start in
    let next = c.in-Err.ensures.goes_on source_tells sink_tells disk_tells s _ so_far.0 so_far.2 in
    (so_far.0 ++ next.0, g.met.M.Machine.asked_laws.join _ _ _ so_far.0 next.0 so_far.1 next.1, next.2.serves c.in_default.not-Done)

pub returns-in_default-clause-later : goal.returns-in_default-clause-later
returns-in_default-clause-later g c = later_joins _ _ _ c.items.invariant.later c.in-Err.ensures.later

pub returns-in_default-clause-cause : goal.returns-in_default-clause-cause
returns-in_default-clause-cause g c = ends_later _ _ _ _ c.items.invariant.later c.in-Err.ensures.cause

pub returns-in_default-clause-spoiled : goal.returns-in_default-clause-spoiled
returns-in_default-clause-spoiled g c = λ disk_tells s start d is.
    let so_far = c.items.invariant.passed disk_tells s start in
    spoiled_joins _ s _ _ _ _ _ _ _ _ d so_far (c.in-Err.ensures.passes disk_tells (last_state s so_far.outcomes) so_far.in_step d is)
