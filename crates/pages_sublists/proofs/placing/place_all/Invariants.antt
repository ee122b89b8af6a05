use Rattle.std.specs.Prelude.{take}
use Rattle.pages_sublists.proofs.PlaceLemmas.{ArePlacedSoFar}
use Rattle.pages_sublists.proofs.placing.place_all.Given as goal

abbrev pub invariant-loop-spelling : goal.invariant-loop-spelling
invariant-loop-spelling l = ArePlacedSoFar l.fn.pages l.pages (take l.spelling-index l.spellings) l.places.items
