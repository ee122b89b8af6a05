use Rattle.std.proofs.Common.{[], ◌∙◌, arith}
use Rattle.run_script.proofs.PullLemmas.{on_left}
use Rattle.run_script.proofs.StintLemmas.{on_ended, on_idle, on_work, passes_ended, passes_idle, passes_stopped, passes_work, stopped_item, works_by}
use Rattle.run_script.proofs.carry_out.carry_on.Goals as goal

-- the run was stopped at the item
pub returns-in-Err-clause-outcome : goal.returns-in-Err-clause-outcome
returns-in-Err-clause-outcome g c = λ disk_tells sink_tells s in_step.
    stopped_item s c.args.item c.in-Err.stop _ _ _ _ c.carry_out.new.archive (g.met.M.Machine.beside_shown c.args.machine.now sink_tells disk_tells) (c.in-Err.ensures.outcome disk_tells sink_tells s in_step)

pub returns-in-Err-clause-passes : goal.returns-in-Err-clause-passes
returns-in-Err-clause-passes g c = λ disk_tells s in_step. passes_stopped s c.args.item c.in-Err.stop _ c.carry_out.new.archive (c.in-Err.ensures.passes disk_tells s in_step)

-- no plan was being written
pub returns-then-not-working-clause-outcome : goal.returns-then-not-working-clause-outcome
returns-then-not-working-clause-outcome g c = λ disk_tells sink_tells s in_step.
    on_idle s c.args.item _ _ _ _ c.carry_out.new.archive (works_by _ _ _ c.args.archive.now s in_step c.is_at_work-working.ensures c.if-not-working.true) (c.in-Ok.ensures.outcome disk_tells sink_tells s in_step)

pub returns-then-not-working-clause-passes : goal.returns-then-not-working-clause-passes
returns-then-not-working-clause-passes g c = λ disk_tells s in_step.
    passes_idle s c.args.item _ c.carry_out.new.archive (works_by _ _ _ c.args.archive.now s in_step c.is_at_work-working.ensures c.if-not-working.true) (c.in-Ok.ensures.passes disk_tells s in_step)

-- one was, and a stint came behind the item
pub returns-then-is_at_work-clause-source : goal.returns-then-is_at_work-clause-source
returns-then-is_at_work-clause-source g c = c.do_stint.ensures.source ∙ c.in-Ok.ensures.source

pub returns-then-is_at_work-clause-asked : goal.returns-then-is_at_work-clause-asked
returns-then-is_at_work-clause-asked g c = g.met.M.Machine.asked_laws.join c.args.machine.now c.carry_out.new.machine c.do_stint.new.machine [] [] c.in-Ok.ensures.asked c.do_stint.ensures.asked

pub returns-then-is_at_work-clause-disk_later : goal.returns-then-is_at_work-clause-disk_later
returns-then-is_at_work-clause-disk_later g c = omega (arith, c.in-Ok.ensures.disk_later, c.do_stint.ensures.disk_later)

pub returns-then-is_at_work-clause-sink_later : goal.returns-then-is_at_work-clause-sink_later
returns-then-is_at_work-clause-sink_later g c = omega (arith, c.in-Ok.ensures.sink_later, c.do_stint.ensures.sink_later)

pub returns-then-is_at_work-clause-disk_fault : goal.returns-then-is_at_work-clause-disk_fault
returns-then-is_at_work-clause-disk_fault g c = λ is. omega (arith, c.in-Ok.ensures.disk_later, c.do_stint.ensures.disk_fault is)

pub returns-then-is_at_work-clause-sink_fault : goal.returns-then-is_at_work-clause-sink_fault
returns-then-is_at_work-clause-sink_fault g c = λ is. omega (arith, c.in-Ok.ensures.sink_later, c.do_stint.ensures.sink_fault is)

pub returns-then-is_at_work-clause-left : goal.returns-then-is_at_work-clause-left
returns-then-is_at_work-clause-left g c = on_left _ c.do_stint.result _ _ _ c.args.archive.now c.carry_out.new.archive c.do_stint.new.archive c.in-Ok.ensures.left c.do_stint.ensures.left

pub returns-then-is_at_work-clause-outcome : goal.returns-then-is_at_work-clause-outcome
returns-then-is_at_work-clause-outcome g c = λ disk_tells sink_tells s in_step.
    let one = c.in-Ok.ensures.outcome disk_tells sink_tells s in_step in
    on_work s c.args.item c.do_stint.result _ _ _ _ _ _ c.carry_out.new.archive c.do_stint.new.archive (works_by _ _ _ c.args.archive.now s in_step c.is_at_work-working.ensures c.if-not-working.false)
    (g.met.M.Machine.beside_shown c.carry_out.new.machine sink_tells disk_tells) one c.do_stint.ensures.fed (c.do_stint.ensures.outcome disk_tells sink_tells one.1.outcome.next one.3)

pub returns-then-is_at_work-clause-passes : goal.returns-then-is_at_work-clause-passes
returns-then-is_at_work-clause-passes g c = λ disk_tells s in_step.
    let one = c.in-Ok.ensures.passes disk_tells s in_step in
    passes_work s c.args.item c.do_stint.result _ _ c.carry_out.new.archive c.do_stint.new.archive (works_by _ _ _ c.args.archive.now s in_step c.is_at_work-working.ensures c.if-not-working.false) one (c.do_stint.ensures.passes disk_tells one.1 one.3)

-- no item ends the work
pub returns-clause-outcome : goal.returns-clause-outcome
returns-clause-outcome g c = λ disk_tells sink_tells s in_step.
    let one = c.in-Ok.ensures.outcome disk_tells sink_tells s in_step in
    on_ended s c.args.item _ _ _ _ c.carry_out.new.archive (works_by _ _ _ c.args.archive.now s in_step c.is_at_work-working.ensures c.if-not-working.false) one
    (works_by _ _ _ c.carry_out.new.archive one.1.outcome.next one.3 c.is_at_work.ensures c.if-is_at_work.false)

pub returns-clause-passes : goal.returns-clause-passes
returns-clause-passes g c = λ disk_tells s in_step.
    let one = c.in-Ok.ensures.passes disk_tells s in_step in
    passes_ended s c.args.item _ c.carry_out.new.archive (works_by _ _ _ c.args.archive.now s in_step c.is_at_work-working.ensures c.if-not-working.false) one
    (works_by _ _ _ c.carry_out.new.archive one.1 one.3 c.is_at_work.ensures c.if-is_at_work.false)
