use Rattle.std.proofs.Common.{◌∙◌, sym, ap, Some}
use Rattle.text_words.specs.Words.{number_of}
use Rattle.text_words.proofs.WordLemmas.{absent-none, entered-none, entered-some, number_of-new}
use Rattle.text_words.proofs.vocabulary.Vocabulary.number.Goals as goal

pub add-requires-clause-fresh : goal.add-requires-clause-fresh
add-requires-clause-fresh c = absent-none c.args.key c.args.self.now.words (sym c.in-None.ensures)

pub returns-in-Some-clause-words : goal.returns-in-Some-clause-words
returns-in-Some-clause-words c = entered-some c.args.key c.args.self.now.words c.in-Some.id.number (sym c.in-Some.ensures)

pub returns-in-None-clause-words : goal.returns-in-None-clause-words
returns-in-None-clause-words c = c.add.ensures.words ∙ entered-none c.args.key c.args.self.now.words (sym c.in-None.ensures)

pub returns-in-None-clause-number : goal.returns-in-None-clause-number
returns-in-None-clause-number c =
    ap (number_of c.args.key) c.add.ensures.words
    ∙ number_of-new c.args.key c.args.self.now.words (absent-none c.args.key c.args.self.now.words (sym c.in-None.ensures))
    ∙ ap Some (sym c.add.ensures.number)
