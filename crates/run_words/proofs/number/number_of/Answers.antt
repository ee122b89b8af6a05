use Rattle.run_words.proofs.NumberLemmas.{not_written}
use Rattle.run_words.proofs.number.number_of.Goals as goal

pub returns-clause-none : goal.returns-clause-none
returns-clause-none c = not_written c.args.text.now c.parse.result c.ok.result c.ok.ensures.value c.parse.ensures.value.0
