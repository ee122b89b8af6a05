-- What is left is the place among the plans behind.
use Rattle.std.proofs.Common.{◌≡◌, drop, get_or}
use Rattle.archive_plans.specs.Shelves.{gates_all}
use Rattle.archive_plans.proofs.shelf.gate_at.Given as goal

abbrev pub invariant-loop-stored : goal.invariant-loop-stored
invariant-loop-stored l = get_or (gates_all l.plans) l.index 0 ≡ get_or (gates_all (drop l.stored-index l.plans)) l.left 0
