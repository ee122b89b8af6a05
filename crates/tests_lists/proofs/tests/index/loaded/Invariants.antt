use Rattle.std.proofs.Common.{ℕ, List, ◌+◌, ◌*◌, ◌<◌, All}
use Rattle.lists_versions.specs.declared.change.Change.{Change}
use Rattle.lists_index.specs.Loads.{Loads}
use Rattle.tests_lists.proofs.tests.index.loaded.Given as goal

abbrev pub invariant-loop-i : goal.invariant-loop-i
invariant-loop-i g l = (changes : List (Change (List ℕ))) × Loads l.loader changes × All (λ c. c.at.seconds < 10 * l.i + 10) changes
