use Rattle.std.proofs.Common.{◌≡◌, List, length, ap, sym, subst, arith}
use Rattle.journal_bodies.specs.Numbered.{AreIn, NumberedState}
use Rattle.journal_bodies.proofs.NumberLemmas.{lies_at}
use Rattle.journal_bodies.proofs.bodies.NumberedBodies.find.Goals as goal

pub returns-clause-body : goal.returns-clause-body
returns-clause-body g c = λ tells bodies are.
    let journal = (g.D.Disk.disk c.args.disk.now).holds.journal in
    let mine = subst (λ (n : NumberedState). AreIn journal bodies n) (sym c.self.view_is) are in
    let long : c.self.inside.heads.items ≡ c.args.self.now.heads = ap (λ (n : NumberedState). n.heads) c.self.view_is in (
      lies_at journal c.self.inside.heads.items bodies c.args.number c.index-head.result.now mine.spelled mine.heads_are c.requires.some
          (omega (arith, c.requires.within, ap (λ (l : List _). length l) long)) c.index-head.ensures,
      record { spelled = mine.spelled; heads_are = mine.heads_are; view = c.in_ok-cover.ensures.view tells mine.view },
    )
