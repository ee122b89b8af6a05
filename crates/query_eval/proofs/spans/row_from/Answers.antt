use Rattle.std.proofs.Common.{◌+◌, ap, sym, ◌∙◌, inr, drop}
use Rattle.lists_postings.specs.Events.{end_of}
use Rattle.query_eval.proofs.FactLemmas.{scored-by}
use Rattle.query_eval.proofs.FoundLemmas.{get-any}
use Rattle.query_eval.proofs.spans.row_from.Goals as goal

pub returns-in-Some-2-clause-row : goal.returns-in-Some-2-clause-row
returns-in-Some-2-clause-row c = λ f scored e is.
    let event = c.index-events-i.result in
    let same = is ∙ get-any c.args.events.now c.args.i e event c.requires.there ∙ sym c.index-events-i.is in
    let v = scored-by c.args.query.now c.args.facts.now c.group_of-group.result.now event.doc.0 event.at.seconds f c.in_ok-score.field-0 scored c.group_of-group.ensures c.in_ok-score.ensures.value in (
      ap (λ x. x.doc.0) (sym same),
      c.in-Some.ensures.value.0 ∙ ap (λ x. x.at.seconds) (sym same),
      c.in-Some.ensures.value.1 ∙ c.end_of.ensures event ∙ ap (λ x. end_of x (drop (c.args.i + 1) c.args.events.now) c.args.span.to) (sym (same ∙ c.index-events-i.is)),
      ap (λ x. f x.doc.0 x.at.seconds) same ∙ v ∙ c.in-Some-2.is,
    )

pub returns-in-None-clause-row : goal.returns-in-None-clause-row
returns-in-None-clause-row c = λ f scored e is.
    let event = c.index-events-i.result in
    let same = is ∙ get-any c.args.events.now c.args.i e event c.requires.there ∙ sym c.index-events-i.is in
    inr (ap (λ x. f x.doc.0 x.at.seconds) same ∙ scored-by c.args.query.now c.args.facts.now c.group_of-group.result.now event.doc.0 event.at.seconds f c.in_ok-score.field-0 scored c.group_of-group.ensures c.in_ok-score.ensures.value ∙ c.in-None.is)
