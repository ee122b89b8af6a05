use Rattle.std.proofs.Common.{[], List, fold, ap, sym, subst, ◌∙◌, rules}
use Rattle.std.proofs.lemmas.List.{map-id}
use Rattle.std.proofs.lemmas.List.Sums.{fold_push}
use Rattle.std.proofs.lemmas.Iterator.Adapters.{YieldsList-from_vec}
use Rattle.std.proofs.lemmas.Iterator.Consumers.{YieldsList-end}
use Rattle.model_archive.specs.declared.stored.StoredPlan.{StoredPlan}
use Rattle.model_archive.specs.Plans.{with_plan}
use Rattle.archive_entries.specs.Live.{EachOnce}
use Rattle.archive_entries.proofs.live.live_of.Goals as goal

pub put_live-requires-clause-once : goal.put_live-requires-clause-once
put_live-requires-clause-once c = subst EachOnce (sym c.reserve.ensures.items) c.loop-stored.invariant.once

pub loop-stored-preserved : goal.loop-stored-preserved
loop-stored-preserved c = record {
  live_is = c.put_live.ensures.live ∙ ap (λ (ps : List StoredPlan). with_plan ps c.in-Some.stored) (c.reserve.ensures.items ∙ c.loop-stored.invariant.live_is) ∙ sym (fold_push with_plan [] c.loop-stored.yielded c.in-Some.stored);
  once = c.put_live.ensures.once;
}

pub returns-clause-live : goal.returns-clause-live
returns-clause-live c =
    let begun = c.into_iter-stored-iterator.ensures.into_iter_gives in
    let all = YieldsList-end (YieldsList-from_vec {s = c.into_iter-stored-iterator.result} c.args.plans.items begun.0 (search (rules, begun.1))) c.loop-stored.yielded c.loop-stored.stored-iterator c.loop-stored.yielded_by c.next.result c.next.new.self c.in-None.is c.next.ensures.steps in
    c.loop-stored.invariant.live_is ∙ ap (λ (ps : List StoredPlan). fold with_plan [] ps) (sym (map-id c.loop-stored.yielded) ∙ all.0)
