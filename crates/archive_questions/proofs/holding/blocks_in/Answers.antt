use Rattle.std.proofs.Common.{Some, refl, subst, sym}
use Rattle.archive_questions.specs.Bests.{AreBlocksAt}
use Rattle.archive_questions.proofs.holding.blocks_in.Goals as goal

pub returns-in-Some : goal.returns-in-Some
returns-in-Some c =
    subst (λ o. AreBlocksAt c.args.horizon.seconds o (Some (record { frames = c.in-Some.field-0.frames; page = c.in-Some.field-0.page; span = c.in-Some.field-0.span; horizon = c.args.horizon }))) (sym c.in-Some.is)
    (record { frames = c.in-Some.field-0.frames; page = c.in-Some.field-0.page; span = c.in-Some.field-0.span; horizon = c.args.horizon }, refl, refl, refl, refl, refl)
