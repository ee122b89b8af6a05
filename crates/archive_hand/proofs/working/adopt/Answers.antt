use Rattle.std.proofs.Common.{[]}
use Rattle.archive_hand.proofs.working.adopt.Goals as goal

pub returns-clause-pages : goal.returns-clause-pages
returns-clause-pages c = c.put.ensures.taken [] c.requires.taken
