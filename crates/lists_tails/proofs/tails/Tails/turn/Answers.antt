use Rattle.std.proofs.Common.{refl}
use Rattle.lists_tails.proofs.Words.{room-first}
use Rattle.lists_tails.proofs.ByWord.{pass-word, passed-all, longer-all, shorter-all, none-all}
use Rattle.lists_tails.proofs.tails.Tails.turn.Goals as goal

pub turn_word-requires : goal.turn_word-requires
turn_word-requires c = record {
  room = λ n z. room-first c.words.gained.now c.in-Some.word.number c.words.self (rw c.split_word-after.ensures.weight at z) c.words.invariant.gained_room;
}

pub words-preserved : goal.words-preserved
words-preserved c =
    pass-word c.args.doc.0 c.args.at.seconds c.args.old.now c.args.new.now c.words.lost.now c.words.gained.now c.split_word-before.result.1.now c.split_word-after.result.1.now c.args.self.now c.words.self c.turn_word.new.self
    c.in-Some.word.number c.split_word-before.result.0 c.split_word-after.result.0
    c.split_word-before.ensures.weight c.split_word-after.ensures.weight c.split_word-before.ensures.rest c.split_word-after.ensures.rest c.in-Some.ensures.one c.in-Some.ensures.other
    c.turn_word.ensures.turned c.turn_word.ensures.same c.turn_word.ensures.others c.turn_word.ensures.longer c.turn_word.ensures.shorter c.turn_word.ensures.none c.turn_word.ensures.room c.words.invariant

pub returns-clause-turned : goal.returns-clause-turned
returns-clause-turned c =
    passed-all c.args.doc.0 c.args.at.seconds c.args.old.now c.args.new.now c.words.lost.now c.words.gained.now c.args.self.now c.words.self (c.in_default.ensures.none refl).0 (c.in_default.ensures.none refl).1 c.words.invariant

pub returns-clause-longer : goal.returns-clause-longer
returns-clause-longer c = longer-all c.args.doc.0 c.args.at.seconds c.args.old.now c.args.new.now c.words.lost.now c.words.gained.now c.args.self.now c.words.self c.words.invariant

pub returns-clause-shorter : goal.returns-clause-shorter
returns-clause-shorter c = shorter-all c.args.doc.0 c.args.at.seconds c.args.old.now c.args.new.now c.words.lost.now c.words.gained.now c.args.self.now c.words.self c.words.invariant

pub returns-clause-none : goal.returns-clause-none
returns-clause-none c = none-all c.args.doc.0 c.args.at.seconds c.args.old.now c.args.new.now c.words.lost.now c.words.gained.now c.args.self.now c.words.self c.words.invariant
