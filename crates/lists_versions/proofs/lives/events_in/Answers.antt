use Rattle.std.proofs.Common.{◌++◌, map, refl, ap, ◌∙◌}
use Rattle.lists_versions.specs.Lives.{start_of, event_of}
use Rattle.lists_versions.proofs.Changing.{events-are}
use Rattle.lists_versions.proofs.lives.events_in.Goals as goal

pub returns-clause-events : goal.returns-clause-events
returns-clause-events c =
    let docs = map (start_of c.args.start) c.args.docs.now in
    events-are c.args.changes.now c.within.result.now c.args.docs.now c.args.span.from c.args.span.to (start_of c.args.start) event_of c.extend_from_slice.new.self.items c.sort_events.new.events.items
    c.args.span.ordered c.within.ensures (λ doc. (refl, c.requires.starts)) (λ d. (refl, refl))
    (c.in_ok-extend_from_slice.ensures.items ∙ ap (λ x. x ++ c.deref.result.now) c.in_ok-events.ensures ∙ ap (λ x. docs ++ x) (c.deref.ensures.value ∙ c.in_ok-later.ensures)) c.sort_events.ensures.same
