use Rattle.std.proofs.Common.{◌∙◌}
use Rattle.lists_index.specs.Indexes.{state_of}
use Rattle.archive_check.proofs.OrderLemmas.{no_place}
use Rattle.archive_check.proofs.ordering.place_of.Goals as goal

pub returns-in-None : goal.returns-in-None
returns-in-None c = c.words.ensures.count ∙ no_place c.args.word.now (state_of c.args.index.now).words c.in-None.ensures
