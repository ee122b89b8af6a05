use Rattle.std.proofs.Common.{length, ◌∙◌, sym, arith}
use Rattle.std.proofs.lemmas.Bool.{eqb-false}
use Rattle.pages_codec.specs.Heads.{head_of}
use Rattle.pages_codec.proofs.FrameLemmas.{framed_begins, framed_more, framed_shorter, framed_fails}
use Rattle.pages_codec.proofs.frames.frames_at.Goals as goal

pub loop-rest-init : goal.loop-rest-init
loop-rest-init c = record { inside = omega arith; framed = rw (c.new-heads.ensures.items, c.new-starts.ensures.items) (framed_begins c.args.bytes.now) }

pub returns-in_default-clause-fault : goal.returns-in_default-clause-fault
returns-in_default-clause-fault c =
    let some = eqb-false _ _ (sym c.is_empty.ensures ∙ c.loop-rest-test.true) in
    (length c.loop-rest.rest.now, omega (arith, c.loop-rest.invariant.inside), framed_fails c.args.bytes.now _ _ c.loop-rest.rest.now c.loop-rest.invariant.framed (omega (arith, some)) (sym c.in_default.ensures))

pub loop-rest-smaller : goal.loop-rest-smaller
loop-rest-smaller c = framed_shorter c.loop-rest.rest.now (head_of c.in-Some.head) c.in-Some.behind.now (sym c.in-Some.ensures)

pub loop-rest-preserved : goal.loop-rest-preserved
loop-rest-preserved c =
    let shorter = framed_shorter c.loop-rest.rest.now (head_of c.in-Some.head) c.in-Some.behind.now (sym c.in-Some.ensures) in
    record {
      inside = omega (arith, shorter, c.loop-rest.invariant.inside);
      framed = rw (c.in_ok-push.ensures.items, c.in_ok-push-2.ensures.items)
          (framed_more c.args.bytes.now _ _ c.loop-rest.rest.now c.in-Some.head c.in-Some.behind.now _ c.loop-rest.invariant.framed (omega (arith, c.loop-rest.invariant.inside)) (sym c.in-Some.ensures));
    }
