use Rattle.std.proofs.Common.{[]}
use Rattle.text_words.proofs.NumberingLemmas.{may_number}
use Rattle.tests_texts.proofs.tests.words.number.Goals as goal

pub number-requires : goal.number-requires
number-requires c =
    rw c.in_ok-reserve.ensures.same
    (may_number c.args.vocabulary.now.words [] c.in-Some.key c.reserve.new.self.spare (rw (c.deref.ensures.value, c.in_ok-keys.ensures) at c.in_ok-reserve.ensures.room))
