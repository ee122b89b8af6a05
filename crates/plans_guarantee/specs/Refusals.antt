-- What a refused plan shows.
use Rattle.std.specs.Prelude.{◌≡◌, ℕ, ◌<◌, List, length, ⊤}
use Rattle.plans_partitions.specs.Partitions.{widest}
use Rattle.plans_guarantee.specs.declared.planning.PlanError.{PlanError}
use Rattle.plans_guarantee.specs.declared.planning.PlanError.TheVariants.{TooWide, Memory}

-- There are too many boundaries, and so many; nothing of want of memory.
abbrev pub Explains : List ℕ → PlanError → Type 0
Explains times (TooWide n) = (widest < length times) × (n ≡ length times)
Explains times Memory = ⊤
