use Rattle.std.proofs.Common.{◌∙◌}
use Rattle.text_words.proofs.WordLemmas.{new_place}
use Rattle.text_words.proofs.vocabulary.Vocabulary.add.Goals as goal

pub returns-clause-number : goal.returns-clause-number
returns-clause-number c =
    rw (← c.self.view_is) ((rw c.unwrap-place.ensures at c.insert_full.ensures.index) ∙ new_place c.args.key _ (rw (← c.self.view_is) at c.requires.fresh))
