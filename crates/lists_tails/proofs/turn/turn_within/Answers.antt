use Rattle.std.proofs.Common.{sym, subst}
use Rattle.lists_tails.specs.Blocks.{IsTurnedWithin}
use Rattle.lists_tails.proofs.turn.turn_within.Goals as goal

pub returns-then-old-eq0-clause-turned : goal.returns-then-old-eq0-clause-turned
returns-then-old-eq0-clause-turned c = subst (λ z. IsTurnedWithin c.args.doc.0 c.args.at.seconds z c.args.new c.args.list.now.items c.begin.new.list.items) (sym c.if-old-eq0.true) c.begin.ensures.turned
