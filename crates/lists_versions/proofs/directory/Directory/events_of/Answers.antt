use Rattle.std.proofs.Common.{sym, subst, take, arith}
use Rattle.std.proofs.lemmas.List.{take_more, take_all}
use Rattle.lists_versions.specs.Lives.{AreEventsOf}
use Rattle.lists_versions.proofs.OfDocuments.{no-documents, one-more, sorted-of}
use Rattle.lists_versions.proofs.directory.Directory.events_of.Goals as goal

pub loop-i-init : goal.loop-i-init
loop-i-init c = rw c.new-events.ensures.items (no-documents c.args.self.now.changes c.args.span.from c.args.span.to)

pub loop-i-preserved : goal.loop-i-preserved
loop-i-preserved c =
    let e = c.in_ok-note_events.ensures in
    subst (λ ds. AreEventsOf c.args.self.now.changes ds c.args.span.from c.args.span.to c.note_events.new.events.items) (sym (take_more c.args.docs.now c.loop-i.i _ (omega (arith, c.loop-i-test.true))))
    (one-more c.args.self.now.changes c.args.span.from c.args.span.to (take c.loop-i.i c.args.docs.now) _ c.loop-i.events.items c.note_events.new.events.items c.loop-i.invariant e.kept e.only e.started e.changed)

pub returns-clause-events : goal.returns-clause-events
returns-clause-events c = sorted-of c.args.self.now.changes c.args.span.from c.args.span.to c.args.docs.now c.loop-i.events.items c.sort_events.new.events.items c.sort_events.ensures.same
    (subst (λ ds. AreEventsOf c.args.self.now.changes ds c.args.span.from c.args.span.to c.loop-i.events.items) (take_all c.loop-i.i c.args.docs.now (omega (arith, c.loop-i-test.false))) c.loop-i.invariant)
