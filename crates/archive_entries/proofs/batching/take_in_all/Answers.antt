use Rattle.std.proofs.Common.{rules, ℕ, List, length, sym, subst, arith}
use Rattle.std.proofs.lemmas.List.{length_push}
use Rattle.std.proofs.lemmas.Iterator.Consumers.{YieldsList-end, YieldsList-turn}
use Rattle.std.proofs.lemmas.Iterator.Adapters.{YieldsList-from_vec}
use Rattle.lists_index.specs.Indexes.{state_of, Indexes, IsPreparedBehind}
use Rattle.archive_entries.proofs.BatchingLemmas.{act_taken_in, all_taken_in}
use Rattle.archive_entries.proofs.batching.take_in_all.Goals as goal

pub loop-next-preserved : goal.loop-next-preserved
loop-next-preserved c = λ h batch loads may ready indexed.
    let turn = YieldsList-turn (YieldsList-from_vec {s = c.into_iter-next-iterator.result} c.args.words.items c.into_iter-next-iterator.ensures.into_iter_gives.0 (search (rules, c.into_iter-next-iterator.ensures.into_iter_gives.1))) c.loop-next.yielded c.loop-next.next-iterator c.loop-next.yielded_by c.next.result c.next.new.self c.in-Some.next c.in-Some.is c.next.ensures.steps in
    let so_far = c.loop-next.invariant h batch loads may ready indexed in
    rw (length_push c.loop-next.yielded c.in-Some.next)
    (act_taken_in (Indexes (state_of c.take_in.new.self)) h batch c.args.words.items (length c.loop-next.yielded) c.in-Some.next turn.0 turn.1 loads may ready
    (λ doc held prepared later.
    c.in_ok-take_in.ensures.taken _ doc held so_far (subst (λ (ws : List (List ℕ)). IsPreparedBehind ws doc held c.in-Some.next.words) (sym so_far.words_are) prepared) later))

pub returns : goal.returns
returns c = record {
  taken = λ h batch loads may ready indexed.
      let all = YieldsList-end (YieldsList-from_vec {s = c.into_iter-next-iterator.result} c.args.words.items c.into_iter-next-iterator.ensures.into_iter_gives.0 (search (rules, c.into_iter-next-iterator.ensures.into_iter_gives.1))) c.loop-next.yielded c.loop-next.next-iterator c.loop-next.yielded_by c.next.result c.next.new.self c.in-None.is c.next.ensures.steps in
      all_taken_in (Indexes (state_of c.loop-next.index)) h batch c.args.words.items (length c.loop-next.yielded) (omega (arith, all.1)) ready (c.loop-next.invariant h batch loads may ready indexed);
}
