use Rattle.std.proofs.Common.{◌∙◌, arith, ap}
use Rattle.lists_postings.proofs.Laid.{laid-longest}
use Rattle.lists_postings.proofs.Pieces.{begin, finish, put, pass}
use Rattle.query_eval.specs.Spans.{row_kind}
use Rattle.query_eval.proofs.FactLemmas.{if-some, if-none}
use Rattle.query_eval.proofs.Changing.{events-change}
use Rattle.query_eval.proofs.spans.rows_over.Goals as goal
use Rattle.query_eval.proofs.spans.rows_over.Goals.{in-Some+in_ok-note, in_default}

pub loop-i-init : goal.loop-i-init
loop-i-init c = record {
  room = c.requires.room;
  laid = λ f s.
      rw c.new-rows.ensures.items
      (begin f c.args.span.from c.args.span.to row_kind c.in_ok-events.events.items c.in_ok-events.ensures.sorted (events-change c.args.query.now c.args.facts.now c.args.span.from c.args.span.to c.in_ok-events.events.items f s c.in_ok-events.ensures.events));
}

pub loop-i-preserved : goal.loop-i-preserved
loop-i-preserved c = record {
  room = c.row_from.ensures.kept ∙ c.loop-i.invariant.room;
  laid = λ f s.
      let events = c.in_ok-events.events.items in
      let w = events-change c.args.query.now c.args.facts.now c.args.span.from c.args.span.to events f s c.in_ok-events.ensures.events in
      elim c.match-branch-3.branch [
        | in-Some+in_ok-note p ↦ put row_kind f c.args.span.from c.args.span.to events c.deref.result.now c.in_ok-events.ensures.sorted w c.loop-i.i (omega (arith, c.loop-i-test.true, c.len-i-end.ensures)) c.deref.ensures.value
            c.loop-i.rows.items c.match-branch-3.rows.items p.note.new.rows.items p.in-Some.row (ap (λ v. v.items) p.rows-is) (λ e is. if-some _ _ c.in_ok-row.field-0 p.in-Some.row p.in-Some.is (c.in_ok-row.ensures.row f s e is)) p.in_ok-note.ensures (c.loop-i.invariant.laid f s)
        | in_default p ↦ pass row_kind f c.args.span.from c.args.span.to events c.deref.result.now c.in_ok-events.ensures.sorted w c.loop-i.i (omega (arith, c.loop-i-test.true, c.len-i-end.ensures)) c.deref.ensures.value
            c.loop-i.rows.items c.match-branch-3.rows.items (ap (λ v. v.items) p.rows-is) (λ e is. if-none _ _ c.in_ok-row.field-0 p.in_default.is (c.in_ok-row.ensures.row f s e is)) (c.loop-i.invariant.laid f s)
      ];
}

pub returns : goal.returns
returns c = λ f s.
    laid-longest row_kind f c.args.span.from c.args.span.to c.loop-i.rows.items
    (finish f c.args.span.from c.args.span.to row_kind c.in_ok-events.events.items c.loop-i.i c.loop-i.rows.items (omega (arith, c.loop-i-test.false, c.len-i-end.ensures)) (c.loop-i.invariant.laid f s))
