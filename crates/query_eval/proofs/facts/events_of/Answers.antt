use Rattle.std.proofs.Common.{ap, sym, subst, ◌∙◌, ◌++◌, [], ◌∷◌, take, arith}
use Rattle.std.proofs.lemmas.List.{take_more, take_all}
use Rattle.query_eval.specs.Facts.{AreEvents}
use Rattle.query_eval.proofs.Changing.{event-more, events-sorted}
use Rattle.query_eval.proofs.facts.events_of.Goals as goal

pub loop-fact-preserved : goal.loop-fact-preserved
loop-fact-preserved c =
    subst (λ fs. AreEvents fs c.args.span.from c.args.span.to c.note_event-in-loop-fact.new.events.items) (sym (take_more c.args.facts.now c.loop-fact.fact-index c.fact-item.result (omega arith) ∙ ap (λ f. take c.loop-fact.fact-index c.args.facts.now ++ f ∷ []) (sym c.fact-item.is)))
    (event-more (take c.loop-fact.fact-index c.args.facts.now) c.fact-item.result c.args.span.from c.args.span.to c.max.result c.loop-fact.events.items c.note_event.new.events.items c.note_event-in-loop-fact.new.events.items c.max.ensures c.args.span.ordered c.loop-fact.invariant
    (record { kept = c.in_ok-note_event.ensures.kept; only = c.in_ok-note_event.ensures.only; there = c.in_ok-note_event.ensures.there })
    (record { kept = c.in_ok-note_event-2.ensures.kept; only = c.in_ok-note_event-2.ensures.only; there = c.in_ok-note_event-2.ensures.there }))

pub returns-clause-events : goal.returns-clause-events
returns-clause-events c = events-sorted c.args.facts.now c.args.span.from c.args.span.to c.loop-fact.events.items c.sort_events.new.events.items c.sort_events.ensures.same (subst (λ fs. AreEvents fs c.args.span.from c.args.span.to c.loop-fact.events.items) (take_all c.loop-fact.fact-index c.args.facts.now (omega arith)) c.loop-fact.invariant)
