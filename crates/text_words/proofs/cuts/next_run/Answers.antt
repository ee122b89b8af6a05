use Rattle.std.proofs.Common.{◌≡◌, ◌∙◌, ◌++◌, [], IsUtf8, sym, ap, arith, rules, chars}
use Rattle.std.proofs.lemmas.Bool.{eqb-true, eqb-false}
use Rattle.std.proofs.lemmas.List.{nil_from_length}
use Rattle.std.proofs.lemmas.Str.{chars-nil}
use Rattle.text_words.specs.Terms.{closed, runs}
use Rattle.text_words.proofs.RunLemmas.{closed-chars}
use Rattle.text_words.proofs.cuts.next_run.Goals as goal

pub returns-then-not-is_empty-clause-some : goal.returns-then-not-is_empty-clause-some
returns-then-not-is_empty-clause-some c =
    let some = eqb-false _ _ (sym c.is_empty-in-loop-rest.ensures ∙ c.if-not-is_empty.true) in
    let text : IsUtf8 c.first_run.result.0.now = search rules in
    c.loop-rest.invariant.1 ∙ c.first_run.ensures.runs ∙ ap (λ l. l ++ runs (chars c.first_run.result.1.now)) (closed-chars _ text (omega (arith, some)))

pub loop-rest-preserved : goal.loop-rest-preserved
loop-rest-preserved c =
    let none : c.first_run.result.0.now ≡ [] = nil_from_length _ (eqb-true _ _ (sym c.is_empty-in-loop-rest.ensures ∙ c.if-not-is_empty.false)) in
    (search rules, c.loop-rest.invariant.1 ∙ c.first_run.ensures.runs ∙ ap (λ l. closed l ++ runs (chars c.first_run.result.1.now)) (ap chars none ∙ chars-nil))

pub returns-clause-none : goal.returns-clause-none
returns-clause-none c =
    let none : c.loop-rest.rest.now ≡ [] = nil_from_length _ (eqb-true _ _ (sym c.is_empty.ensures ∙ c.loop-rest-test.false)) in
    c.loop-rest.invariant.1 ∙ ap runs (ap chars none ∙ chars-nil)
