use Rattle.std.proofs.Common.{[]}
use Rattle.tests_pages.proofs.tests.sublists.given.store_between.Goals as goal

pub write-requires-clause-taken : goal.write-requires-clause-taken
write-requires-clause-taken g c = ([], rw c.expect-prepared.ensures at (c.prepare.ensures.taken [] c.no_sublists-sublists.ensures.taken))

pub adopt-requires : goal.adopt-requires
adopt-requires g c = record { taken = ([], rw c.expect-prepared.ensures at (c.prepare.ensures.taken [] c.no_sublists-sublists.ensures.taken)) }

pub forget-requires : goal.forget-requires
forget-requires g c = record { taken = ([], rw c.expect-prepared.ensures at (c.prepare.ensures.taken [] c.no_sublists-sublists.ensures.taken)) }
