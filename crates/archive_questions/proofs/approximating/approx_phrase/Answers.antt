use Rattle.std.proofs.Common.{inl, inr, ap, sym, ◌∙◌, ℕ}
use Rattle.text_words.specs.Terms.{one_term}
use Rattle.model_archive.specs.declared.refusal.Refusal.TheVariants as refusals
use Rattle.model_archive.specs.Steps.{Approximated, Refused}
use Rattle.archive_hand.proofs.PhraseLemmas.{one_why, not_both}
use Rattle.archive_questions.proofs.RoughLemmas.{term_tells}
use Rattle.archive_questions.proofs.approximating.approx_phrase.Goals as goal

pub returns-then-not-knows-clause-refused : goal.returns-then-not-knows-clause-refused
returns-then-not-knows-clause-refused c = λ h stands why e.
    term_tells h c.args.word.now c.in-Some.key c.args.tolerance (Refused why) (ap one_term (sym c.as_str.ensures.value) ∙ sym c.in_ok-key.ensures ∙ c.in-Some.is)
    (inl (λ known. not_both c.knows.result c.if-not-knows.true ((c.knows.ensures h stands).1 known), ap Refused (one_why refusals.UnknownWord why e)))

pub returns-clause-approximates : goal.returns-clause-approximates
returns-clause-approximates c = λ h stands.
    let known = (c.knows.ensures h stands).0 c.if-not-knows.false in
    let (whole, is, first, full) = c.in_ok-approximation.ensures h stands in
    let a = c.in_ok-approximation.approximation in
    term_tells h c.args.word.now c.in-Some.key c.args.tolerance (Approximated a.short.items a.full) (ap one_term (sym c.as_str.ensures.value) ∙ sym c.in_ok-key.ensures ∙ c.in-Some.is)
    (inr (known, (whole, a.short.items, is, first, ap (λ (n : ℕ). Approximated a.short.items n) full)))
