use Rattle.std.proofs.Common.{arith, ◌∙◌, subst}
use Rattle.std.proofs.lemmas.List.{take_all}
use Rattle.lists_tails.specs.Tails.{HaveRoom}
use Rattle.lists_tails.proofs.Holding.{room-more}
use Rattle.lists_tails.proofs.tails.Tails.reserve_turn.Goals as goal

pub loop-x-preserved : goal.loop-x-preserved
loop-x-preserved c = record {
  room_for = room-more c.args.new.now c.loop-x.x-index c.x-item.result c.loop-x.self c.reserve_word.new.self (omega (arith, c.loop-x-test.true)) c.x-item.is c.reserve_word.ensures.room c.in_ok-reserve_word.ensures.room_for c.loop-x.invariant.room_for;
  same = λ w. c.reserve_word.ensures.same w ∙ c.loop-x.invariant.same w;
  room = λ w. omega (arith, c.reserve_word.ensures.room w, c.loop-x.invariant.room w);
}

pub returns-clause-room_for_new : goal.returns-clause-room_for_new
returns-clause-room_for_new c = subst (λ z. HaveRoom z c.loop-x.self) (take_all c.loop-x.x-index c.args.new.now (omega (arith, c.loop-x-test.false))) c.loop-x.invariant.room_for
