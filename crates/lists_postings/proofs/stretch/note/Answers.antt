use Rattle.std.proofs.Common.{[], ◌∷◌, ◌++◌, ap, subst, sym, ◌∙◌}
use Rattle.lists_postings.specs.Laid.{AreLaid, with_row}
use Rattle.lists_postings.proofs.Joining.{pushed, joined}
use Rattle.lists_postings.proofs.stretch.note.Goals as goal

pub returns-then-goes_on : goal.returns-then-goes_on
returns-then-goes_on g c = λ f h b.
    let kind = g.R.Stretch.kind in
    subst (λ x. AreLaid kind (with_row kind f c.args.row) x) (sym c.in_ok-push-2.ensures.items)
    (joined kind f c.args.row b c.pop.new.self.items c.in-Some.last c.joined.result (c.goes_on.ensures.0 c.if-goes_on.true) c.joined.ensures (subst (λ x. AreLaid kind f x) c.in-Some.ensures.items h))

pub returns : goal.returns
returns g c = λ f h b.
    let kind = g.R.Stretch.kind in
    subst (λ x. AreLaid kind (with_row kind f c.args.row) x) (sym (c.in_ok-push-4.ensures.items ∙ ap (λ x. x ++ c.args.row ∷ []) c.in_ok-push-3.ensures.items))
    (pushed kind f c.args.row b c.pop.new.self.items c.in-Some.last (λ k. let yes = c.goes_on.ensures.1 k in let no = c.if-goes_on.false in absurd cc) (subst (λ x. AreLaid kind f x) c.in-Some.ensures.items h))
