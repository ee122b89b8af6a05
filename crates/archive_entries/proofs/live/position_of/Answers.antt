use Rattle.std.proofs.Common.{◌≡◌, true, not, List, All, ap, sym, subst, ◌∙◌}
use Rattle.std.proofs.lemmas.List.{take_all}
use Rattle.std.proofs.lemmas.List.Elements.{All-more}
use Rattle.model_archive.specs.declared.stored.StoredPlan.{StoredPlan}
use Rattle.model_archive.specs.Plans.{is_another}
use Rattle.archive_entries.proofs.live.position_of.Goals as goal

pub loop-at-preserved : goal.loop-at-preserved
loop-at-preserved c =
    All-more (λ (s : StoredPlan). is_another c.args.word.now s ≡ true) c.args.plans.now c.loop-at.at c.index-plans-at.result c.loop-at-test.true c.loop-at.invariant
    (ap not (sym c.eq.ensures ∙ c.if-eq.false))

pub returns : goal.returns
returns c =
    subst (λ (ps : List StoredPlan). All (λ (s : StoredPlan). is_another c.args.word.now s ≡ true) ps) (take_all c.loop-at.at c.args.plans.now c.loop-at-test.false) c.loop-at.invariant
