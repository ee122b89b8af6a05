use Rattle.std.specs.Prelude.{◌≡◌, drop}
use Rattle.pages_sublists.specs.Preparing.{extents}
use Rattle.pages_sublists.specs.Caching.{without_all}
use Rattle.pages_sublists.proofs.placing.let_go.Given as goal

abbrev pub invariant-loop-place : goal.invariant-loop-place
invariant-loop-place l = without_all (extents (drop l.place-index l.places)) l.cache ≡ without_all (extents l.places) l.fn.cache
