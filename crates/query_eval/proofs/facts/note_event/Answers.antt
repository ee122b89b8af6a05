use Rattle.std.proofs.Common.{Contains, refl, sym, subst}
use Rattle.std.proofs.lemmas.List.Elements.{Contains-push}
use Rattle.lists_postings.specs.declared.event.Event.{Event}
use Rattle.query_eval.proofs.facts.note_event.Goals as goal

pub returns-in_ok-push-clause-there : goal.returns-in_ok-push-clause-there
returns-in_ok-push-clause-there c = λ _ _.
    let event : Event = record { doc = c.args.doc; at = c.in-Some.at } in
    (event, subst (λ l. Contains l event) (sym c.in_ok-push.ensures.items) (Contains-push c.args.events.now.items event), refl, c.in-Some.ensures.value)
