use Rattle.std.proofs.Common.{◌≡◌, ◌++◌, ◌∷◌, [], List, true, All, suc, take, drop, filter, ap, sym, subst, ◌∙◌}
use Rattle.model_archive.specs.declared.stored.StoredPlan.{StoredPlan}
use Rattle.model_archive.specs.Plans.{is_another}
use Rattle.archive_entries.specs.Live.{EachOnce, IsPlanAt}
use Rattle.archive_entries.proofs.LiveLemmas.{none_replaced, one_replaced, once_with, plan_around}
use Rattle.archive_entries.proofs.live.put_live.Goals.{in-Some, in-None}
use Rattle.archive_entries.proofs.live.put_live.Goals as goal

pub returns-clause-live : goal.returns-clause-live
returns-clause-live c =
    let plans = c.args.live.now.items in
    let word = c.args.stored.plan.word in
    let rest : c.match-position_of.live.items ≡ filter (is_another word) plans = elim c.match-position_of.branch [
      | in-Some w ↦
          let is : IsPlanAt plans word w.in-Some.at = subst (λ (ps : List StoredPlan). IsPlanAt ps word w.in-Some.at) c.deref.ensures.value w.in-Some.ensures in
          rw w.live-is (w.remove.ensures.items ∙ sym (one_replaced plans word w.in-Some.at c.requires.once is))
      | in-None w ↦
          let others = subst (λ (ps : List StoredPlan). All (λ (s : StoredPlan). is_another word s ≡ true) ps) c.deref.ensures.value w.in-None.ensures in
          rw w.live-is (sym (none_replaced plans word others))
    ] in
    c.push_reserved.ensures.items ∙ ap (λ (ps : List StoredPlan). ps ++ c.args.stored ∷ []) rest

pub returns-clause-once : goal.returns-clause-once
returns-clause-once c = subst EachOnce (sym (returns-clause-live c)) (once_with c.args.live.now.items c.args.stored c.requires.once)

pub returns-clause-old : goal.returns-clause-old
returns-clause-old c =
    let plans = c.args.live.now.items in
    let word = c.args.stored.plan.word in
    elim c.match-position_of.branch [
      | in-Some w ↦
          let is : IsPlanAt plans word w.in-Some.at = subst (λ (ps : List StoredPlan). IsPlanAt ps word w.in-Some.at) c.deref.ensures.value w.in-Some.ensures in
          let left = take w.in-Some.at plans in
          let right = drop (suc w.in-Some.at) plans in
          let rest : c.match-position_of.live.items ≡ left ++ right = rw w.live-is w.remove.ensures.items in
          rw w.old-is
          ((left, right, plan_around plans w.in-Some.at w.remove.result is.within w.remove.ensures.value, c.push_reserved.ensures.items ∙ ap (λ (ps : List StoredPlan). ps ++ c.args.stored ∷ []) rest))
      | in-None w ↦
          let rest : c.match-position_of.live.items ≡ plans = ap (λ v. v.items) w.live-is in
          rw w.old-is (c.push_reserved.ensures.items ∙ ap (λ (ps : List StoredPlan). ps ++ c.args.stored ∷ []) rest)
    ]
