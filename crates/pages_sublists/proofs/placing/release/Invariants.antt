use Rattle.std.specs.Prelude.{List, ◌++◌, drop}
use Rattle.base_types.specs.declared.extent.Extent.{Extent}
use Rattle.pages_area.specs.Taken.{HasTaken}
use Rattle.pages_sublists.specs.Preparing.{extents}
use Rattle.pages_sublists.proofs.placing.release.Given as goal

abbrev pub invariant-loop-place : goal.invariant-loop-place
invariant-loop-place l = (before after : List Extent) → HasTaken l.fn.pages (before ++ (extents l.places ++ after)) → HasTaken l.pages (before ++ (extents (drop l.place-index l.places) ++ after))
