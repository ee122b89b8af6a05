use Rattle.std.proofs.Common.{arith, ap}
use Rattle.lists_tails.specs.declared.tail.Tail.TheInside.{Inside}
use Rattle.lists_tails.specs.Turns.{IsTurned}
use Rattle.lists_tails.proofs.Holding.{turned-nothing, held-some, held-none, no-room}
use Rattle.lists_tails.proofs.tail.Tail.turn.Goals as goal
use Rattle.lists_tails.proofs.tail.Tail.turn.Goals.{in-Some, in_default}

pub returns-clause-turned : goal.returns-clause-turned
returns-clause-turned c = elim c.match-self.branch [
  | in-Some w ↦ held-some (IsTurned c.args.doc.0 c.args.at.seconds c.args.old c.args.new) c.self.inside.blocks c.match-self.self-inside.blocks w.in-Some.blocks c.args.self.now w.deref_mut.result.now w.turn.new.self
      c.self.view_is w.in-Some.is w.deref_mut.ensures.value (ap (λ (i : Inside). i.blocks) w.self-inside-is) w.turn.ensures.turned
  | in_default w ↦ held-none (IsTurned c.args.doc.0 c.args.at.seconds c.args.old c.args.new) c.self.inside.blocks c.match-self.self-inside.blocks c.args.self.now c.self.view_is w.in_default.is (ap (λ (i : Inside). i.blocks) w.self-inside-is)
      (turned-nothing c.args.doc.0 c.args.at.seconds c.args.old c.args.new c.args.at.before_now (λ n m. omega (arith, c.requires.room m, no-room c.self.inside.blocks c.args.self.now c.self.view_is w.in_default.is)))
]
