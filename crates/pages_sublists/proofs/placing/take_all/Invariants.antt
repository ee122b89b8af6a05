use Rattle.std.specs.Prelude.{List, ◌++◌, take}
use Rattle.std.specs.List.{AllZip}
use Rattle.base_types.specs.declared.extent.Extent.{Extent}
use Rattle.pages_area.specs.Taken.{HasTaken}
use Rattle.pages_sublists.specs.Preparing.{IsFor, extents}
use Rattle.pages_sublists.proofs.placing.take_all.Given as goal

abbrev pub invariant-loop-k : goal.invariant-loop-k
invariant-loop-k l = record {
  each : AllZip IsFor (take l.k l.places) (take l.k l.spellings);
  taken : (taken : List Extent) → HasTaken l.fn.pages taken → HasTaken l.pages (extents (take l.k l.places) ++ taken);
}
