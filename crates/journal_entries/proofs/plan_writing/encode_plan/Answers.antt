use Rattle.journal_entries.proofs.PlanLemmas.{written}
use Rattle.journal_entries.proofs.plan_writing.encode_plan.Goals as goal

pub returns : goal.returns
returns c =
    let w = written c.args.plan.now c.in_ok-out.out.items c.put_front.new.out.items c.put_segments.new.out.items c.as_slice-cuts.result.now c.as_slice.result.now c.fields_fit.ensures
    c.as_slice-cuts.ensures c.as_slice.ensures c.in_ok-out.ensures.items c.in_ok-put_front.ensures c.in_ok-put_segments.ensures in
    record { in_range = c.fields_fit.ensures; spelled = w.same; len = w.len; at_least = w.at_least; at_most = w.at_most }
