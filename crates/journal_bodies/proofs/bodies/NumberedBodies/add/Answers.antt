use Rattle.std.proofs.Common.{◌≡◌, ◌-◌, List, All, ap, sym, subst, ◌∙◌, arith}
use Rattle.journal_gates.specs.declared.head.Head.{Head}
use Rattle.journal_gates.specs.Heads.{AreInRow, LiesBefore}
use Rattle.journal_bodies.specs.Numbered.{NumberedState}
use Rattle.journal_bodies.proofs.NumberLemmas.{heads_with, row_more}
use Rattle.journal_bodies.proofs.bodies.NumberedBodies.add.Goals as goal

pub invariant_of-self : goal.invariant_of-self
invariant_of-self c =
    let was : c.self.inside.window.end ≡ c.args.self.now.window.end = ap (λ (n : NumberedState). n.window.end) c.self.view_is in
    let last = c.window.result.end in
    let P : List Head → Type 0 = λ l. AreInRow 16 l last × All (LiesBefore last) l in
    let more = row_more c.self.inside.heads.items c.self.inside.window.end (c.self.inside.end - 1) c.args.bytes last c.self.invariant.2 c.self.invariant.3
    (omega (arith, c.self.invariant.0, c.self.invariant.1))
    (omega (arith, was, c.requires.appended, c.window.ensures.end)) in
    let both = subst P (sym c.put.ensures) more in
    (omega (arith, c.end-last.ensures.end, c.window.ensures.end), omega (arith, was, c.self.invariant.1, c.requires.appended, c.window.ensures.end), both.0, both.1)

pub returns-clause-more : goal.returns-clause-more
returns-clause-more c = λ bodies body long heads_are end_is.
    let was : c.self.inside.window.end ≡ c.args.self.now.window.end = ap (λ (n : NumberedState). n.window.end) c.self.view_is in
    let mine : c.self.inside.heads.items ≡ c.args.self.now.heads = ap (λ (n : NumberedState). n.heads) c.self.view_is in
    c.put.ensures ∙ heads_with c.self.inside.heads.items bodies body c.self.inside.window.end (c.self.inside.end - 1) c.args.bytes (mine ∙ heads_are) long (was ∙ end_is)
    (omega (arith, c.self.invariant.0, c.self.invariant.1))
