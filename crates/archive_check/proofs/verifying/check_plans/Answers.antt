use Rattle.std.proofs.Common.{◌≡◌, ℕ, List, Option, None, map, subst}
use Rattle.std.specs.Prelude.{MatchOption}
use Rattle.std.proofs.lemmas.List.Elements.{All-more}
use Rattle.machine_model.proofs.MomentLemmas.{reads_join}
use Rattle.model_archive.specs.declared.stored.StoredPlan.{StoredPlan}
use Rattle.model_archive.specs.declared.verdict.Verdict.{Verdict}
use Rattle.archive_check.specs.Verdicts.{IsSound}
use Rattle.archive_check.specs.Checking.{IsFaultOf, AreAltered}
use Rattle.archive_check.proofs.DigestLemmas.{altered_more, fault_unsound}
use Rattle.archive_check.proofs.SegmentLemmas.{pages_on}
use Rattle.archive_check.proofs.OrderLemmas.{plan_at, plans_within}
use Rattle.archive_check.proofs.PlanLemmas.{says_fault, segments_more}
use Rattle.archive_check.proofs.verifying.check_plans.Goals as goal

pub returns-in-Some-clause-verdict : goal.returns-in-Some-clause-verdict
returns-in-Some-clause-verdict g c = λ told texts indexes utf8.
    let pages = (g.D.Disk.disk c.args.disk.now).holds.pages in
    let i = c.loop-one.one-index in
    let stored = c.one-item.result.stored.now in
    let plans = map (λ t. t.stored.now) c.args.ranked.now in
    let P : List ℕ → Type 0 = λ l. MatchOption c.in_ok-tested.tested.fault (IsSound texts l stored.plan) (IsFaultOf texts l stored.plan) in
    let O : Option Verdict → Type 0 = λ o. MatchOption o (IsSound texts pages stored.plan) (IsFaultOf texts pages stored.plan) in
    let there = subst P (pages_on (g.D.Disk.disk c.args.disk.now) (g.D.Disk.disk c.loop-one.disk) c.loop-one.invariant.same) (c.in_ok-tested.ensures.fault told texts indexes) in
    says_fault texts pages plans i stored c.in-Some.fault (plans_within _ i c.loop-one-test.true) (plan_at _ i _ c.loop-one-test.true c.one-item.is) utf8 (c.loop-one.invariant.sound told texts indexes) (subst O c.in-Some.is there)

pub returns-in-Some-clause-altered : goal.returns-in-Some-clause-altered
returns-in-Some-clause-altered g c = λ told asked.
    let (texts, indexes) = c.requires.texts in
    let stored = c.one-item.result.stored.now in
    let pages = (g.D.Disk.disk c.loop-one.disk).holds.pages in
    let O : Option Verdict → Type 0 = λ o. MatchOption o (IsSound texts pages stored.plan) (IsFaultOf texts pages stored.plan) in
    ((λ sound. absurd (fault_unsound texts pages stored.plan c.in-Some.fault (subst O c.in-Some.is (c.in_ok-tested.ensures.fault told texts indexes)) sound)), tt)

pub loop-one-preserved : goal.loop-one-preserved
loop-one-preserved g c =
    let pages = (g.D.Disk.disk c.args.disk.now).holds.pages in
    let ranked = c.args.ranked.now in
    let i = c.loop-one.one-index in
    let one = c.one-item.result in
    let stored = one.stored.now in
    let plans = map (λ t. t.stored.now) ranked in
    let within = plans_within ranked i c.loop-one-test.true in
    let at = plan_at ranked i one c.loop-one-test.true c.one-item.is in
    record {
      only = g.met.D.Disk.only_joins _ _ _ c.loop-one.invariant.only c.test_plan.ensures.only;
      same = reads_join (g.D.Disk.disk c.args.disk.now) (g.D.Disk.disk c.loop-one.disk) (g.D.Disk.disk c.test_plan.new.disk) c.loop-one.invariant.same c.test_plan.ensures.same;
      sound = λ told texts indexes.
          let P : List ℕ → Type 0 = λ l. MatchOption c.in_ok-tested.tested.fault (IsSound texts l stored.plan) (IsFaultOf texts l stored.plan) in
          let O : Option Verdict → Type 0 = λ o. MatchOption o (IsSound texts pages stored.plan) (IsFaultOf texts pages stored.plan) in
          let there = subst P (pages_on (g.D.Disk.disk c.args.disk.now) (g.D.Disk.disk c.loop-one.disk) c.loop-one.invariant.same) (c.in_ok-tested.ensures.fault told texts indexes) in
          let S : StoredPlan → Type 0 = λ s. IsSound texts pages s.plan in
          All-more S plans i stored within (c.loop-one.invariant.sound told texts indexes) (subst S at (subst O c.in_default.is there));
      altered = λ told asked.
          let L : List ℕ → Type 0 = λ l. c.in_ok-tested.tested.fault ≡ None → AreAltered l stored.plan.places c.in_ok-tested.tested.altered in
          let here = subst L (pages_on (g.D.Disk.disk c.args.disk.now) (g.D.Disk.disk c.loop-one.disk) c.loop-one.invariant.same) (c.in_ok-tested.ensures.altered told asked) c.in_default.is in
          altered_more pages plans i stored c.loop-one.altered c.in_ok-altered.altered c.in_ok-tested.tested.altered within at (c.loop-one.invariant.altered told asked) here c.in_ok-altered.ensures.first;
      segments_are = segments_more plans i stored c.loop-one.segments c.in_ok-segments.segments within at c.loop-one.invariant.segments_are c.in_ok-segments.ensures.sum;
    }
