use Rattle.std.proofs.Common.{rules, ◌∙◌, ap, length, arith}
use Rattle.std.proofs.lemmas.List.{take_all, length_push}
use Rattle.std.proofs.lemmas.Iterator.Consumers.{YieldsList-end, YieldsList-turn}
use Rattle.std.proofs.lemmas.Iterator.Adapters.{YieldsList-from_vec}
use Rattle.text_words.specs.Words.{with_all}
use Rattle.lists_index.proofs.NumberSteps.{may, more, still}
use Rattle.lists_index.proofs.numbering.number_all.Goals as goal

pub number-requires : goal.number-requires
number-requires c =
    let turn = YieldsList-turn (YieldsList-from_vec {s = c.into_iter-key-iterator.result} c.args.fresh.items c.into_iter-key-iterator.ensures.into_iter_gives.0 (search (rules, c.into_iter-key-iterator.ensures.into_iter_gives.1))) c.loop-key.yielded c.loop-key.key-iterator c.loop-key.yielded_by c.next.result c.next.new.self c.in-Some.key c.in-Some.is c.next.ensures.steps in
    may c.args.vocabulary.now.words c.loop-key.vocabulary.words c.args.fresh.items (length c.loop-key.yielded) c.loop-key.vocabulary.spare c.in-Some.key turn.0 turn.1 c.loop-key.invariant.room

pub loop-key-preserved : goal.loop-key-preserved
loop-key-preserved c =
    let turn = YieldsList-turn (YieldsList-from_vec {s = c.into_iter-key-iterator.result} c.args.fresh.items c.into_iter-key-iterator.ensures.into_iter_gives.0 (search (rules, c.into_iter-key-iterator.ensures.into_iter_gives.1))) c.loop-key.yielded c.loop-key.key-iterator c.loop-key.yielded_by c.next.result c.next.new.self c.in-Some.key c.in-Some.is c.next.ensures.steps in
    record {
      words = rw (c.number.ensures.words, length_push c.loop-key.yielded c.in-Some.key) (more c.args.vocabulary.now.words c.loop-key.vocabulary.words c.args.fresh.items (length c.loop-key.yielded) c.loop-key.vocabulary.spare c.in-Some.key turn.0 turn.1 c.loop-key.invariant.room c.loop-key.invariant.words);
      room = rw (c.number.ensures.words, c.number.ensures.spare, length_push c.loop-key.yielded c.in-Some.key) (still c.args.vocabulary.now.words c.loop-key.vocabulary.words c.args.fresh.items (length c.loop-key.yielded) c.loop-key.vocabulary.spare c.in-Some.key turn.0 turn.1 c.loop-key.invariant.room);
    }

pub returns : goal.returns
returns c =
    let all = YieldsList-end (YieldsList-from_vec {s = c.into_iter-key-iterator.result} c.args.fresh.items c.into_iter-key-iterator.ensures.into_iter_gives.0 (search (rules, c.into_iter-key-iterator.ensures.into_iter_gives.1))) c.loop-key.yielded c.loop-key.key-iterator c.loop-key.yielded_by c.next.result c.next.new.self c.in-None.is c.next.ensures.steps in
    c.loop-key.invariant.words ∙ ap (with_all c.args.vocabulary.now.words) (take_all (length c.loop-key.yielded) c.args.fresh.items (omega (arith, all.1)))
