use Rattle.archive_questions.proofs.PlanLemmas.{plan_certified}
use Rattle.archive_questions.proofs.certifying.certificate_of_plan.Goals as goal

pub returns : goal.returns
returns c = λ h stands.
    plan_certified h c.args.plan.now c.in_ok-list.list.items c.deref-2.result.now c.certified.result stands.loadable (c.requires.live h stands) c.requires.kind (c.in_ok-list.ensures.list h stands) c.deref-2.ensures.value c.certified.ensures
