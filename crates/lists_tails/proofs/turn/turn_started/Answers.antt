use Rattle.std.proofs.Common.{◌++◌, sym, subst}
use Rattle.lists_postings.specs.Lists.{IsList}
use Rattle.lists_tails.specs.Turns.{IsTurned}
use Rattle.lists_tails.specs.Blocks.{joined}
use Rattle.lists_tails.proofs.turn.turn_started.Goals as goal

pub returns-clause-turned : goal.returns-clause-turned
returns-clause-turned c = λ front p.
    subst (λ z. IsTurned c.args.doc.0 c.args.at.seconds c.args.old c.args.new (front ++ z) (front ++ joined c.turn_later-2.new.later.items)) c.roomy_later-block.ensures.same
    (c.turn_later-2.ensures.turned front (λ l. c.roomy_later-block.ensures.placed (p (subst (λ z. IsList (front ++ z)) c.roomy_later-block.ensures.same l))))

pub returns-then-new-eq0-clause-turned : goal.returns-then-new-eq0-clause-turned
returns-then-new-eq0-clause-turned c = λ front p.
    subst (λ z. IsTurned c.args.doc.0 c.args.at.seconds c.args.old z (front ++ joined c.args.later.now.items) (front ++ joined c.turn_later.new.later.items)) (sym c.if-new-eq0.true) (c.turn_later.ensures.turned front p)
