use Rattle.std.proofs.Common.{ap, refl, arith, get_or}
use Rattle.lists_postings.specs.declared.event.Event.{Event}
use Rattle.lists_versions.proofs.Noting.{early, noted-more, out}
use Rattle.lists_versions.proofs.lives.note_changes.Goals as goal

pub returns-in_default-clause-changed : goal.returns-in_default-clause-changed
returns-in_default-clause-changed c =
    out c.args.log.now c.args.doc c.args.span.from c.args.span.to c.args.latest c.loop-end.place c.loop-end.end c.args.events.now.items c.loop-end.events.items c.requires.linked.ascending c.loop-end.invariant.noted
    (c.in_default.ensures.reached c.args.doc c.loop-end.invariant.noted.of)

pub returns-then-at-span-clause-changed : goal.returns-then-at-span-clause-changed
returns-then-at-span-clause-changed c =
    let x = c.index-log-found.result in
    let until = c.in-Some.ensures.until in
    early c.args.log.now c.args.doc c.args.span.from c.args.span.to c.args.latest c.loop-end.place c.loop-end.end c.args.events.now.items c.loop-end.events.items c.requires.linked.ascending c.loop-end.invariant.noted
    c.in-Some.found until.0 x (c.in-Some.ensures.reached c.args.doc c.loop-end.invariant.noted.of) (omega (arith, c.if-at-span.true, ap (λ y. y.at.seconds) c.index-log-found.is))

pub loop-end-preserved : goal.loop-end-preserved
loop-end-preserved c =
    let x = c.index-log-found.result in
    let until = c.in-Some.ensures.until in
    let soon = until.1 x in
    let event : Event = record { doc = c.args.doc; at = (get_or c.args.log.now c.in-Some.found x).at } in
    record {
      there = until.0;
      until = omega (arith, soon, c.loop-end.invariant.until);
      noted = noted-more c.args.log.now c.args.doc c.args.span.from c.args.span.to c.args.latest c.loop-end.place c.loop-end.end c.args.events.now.items c.loop-end.events.items c.requires.linked.ascending c.loop-end.invariant.noted
          c.in-Some.found until.0 x (c.in-Some.ensures.reached c.args.doc c.loop-end.invariant.noted.of) c.push.new.self.items event c.in_ok-push.ensures.items refl refl
          (omega (arith, c.if-at-span.false, ap (λ y. y.at.seconds) c.index-log-found.is)) (omega (arith, soon, c.loop-end.invariant.until, c.loop-end-test.true));
    }
