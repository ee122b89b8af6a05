use Rattle.std.proofs.Common.{subst, sym}
use Rattle.journal_gates.specs.Bodies.{BodiesState, AreBehind, AreLeft}
use Rattle.journal_gates.proofs.BodyLemmas.{next_is, others_lie, behind_next, left_next}
use Rattle.journal_gates.proofs.bodies.Bodies.next.Goals as goal

pub invariant_of-self-2 : goal.invariant_of-self-2
invariant_of-self-2 g c =
    others_lie c.self.inside.left.now c.in-Some.behind.now c.self.inside.window.end c.cover.new.self.end c.in-Some.head.now c.in-Some.ensures.cases.0 c.cover.ensures.end c.self.invariant

pub returns-clause-behind : goal.returns-clause-behind
returns-clause-behind g c = λ heads bodies behind.
    let w = c.self.inside.window in
    behind_next heads bodies (record { left = c.self.inside.left.now; window = w }) (record { left = c.in-Some.behind.now; window = c.cover.new.self }) c.in-Some.head.now c.cover.ensures.end
    (next_is c.self.inside.left.now c.in-Some.behind.now w c.cover.new.self c.in-Some.head.now c.in-Some.ensures.cases.0 c.self.invariant c.in_ok-cover.ensures.covers)
    (subst (λ (b : BodiesState). AreBehind heads bodies b) (sym c.self.view_is) behind)

pub returns-clause-left : goal.returns-clause-left
returns-clause-left g c = λ tells bodies left.
    let w = c.self.inside.window in
    let journal = (g.D.Disk.disk c.args.disk.now).holds.journal in
    let was = subst (λ (b : BodiesState). AreLeft journal b bodies) (sym c.self.view_is) left in
    left_next journal bodies (record { left = c.self.inside.left.now; window = w }) (record { left = c.in-Some.behind.now; window = c.cover.new.self }) c.in-Some.head.now
    (next_is c.self.inside.left.now c.in-Some.behind.now w c.cover.new.self c.in-Some.head.now c.in-Some.ensures.cases.0 c.self.invariant c.in_ok-cover.ensures.covers)
    (c.in_ok-cover.ensures.view tells was.view) was.lead
