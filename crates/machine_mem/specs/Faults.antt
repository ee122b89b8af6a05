-- Which calls are to fail.
use Rattle.std.specs.Prelude.{◌≡◌, ℕ, ◌+◌, ◌-◌, ◌^◌, min, List, All, Contains}
use Rattle.machine_mem.specs.declared.faults.CallKind.{CallKind}
use Rattle.machine_mem.specs.declared.faults.CallKind.TheVariants.{Length, Read, Write, Sync, Pull, Push}
use Rattle.machine_mem.specs.declared.faults.Counts.{Counts}
use Rattle.machine_mem.specs.declared.faults.Fault.{Fault}

-- how many calls of a kind there were
abbrev pub count_of : Counts → CallKind → ℕ
count_of counts Length = counts.lengths
count_of counts Read = counts.reads
count_of counts Write = counts.writes
count_of counts Sync = counts.syncs
count_of counts Pull = counts.pulls
count_of counts Push = counts.pushes

-- a count behind one call more; it stays at its last value
abbrev pub next_count : ℕ → ℕ
next_count n = min (n + 1) (2 ^ 64 - 1)

-- which of its kind the next call is
abbrev pub next_of : Counts → CallKind → ℕ
next_of counts kind = next_count (count_of counts kind)

-- the counts with that of one kind replaced
abbrev pub counts_with : Counts → CallKind → ℕ → Counts
counts_with counts Length n = record counts { lengths = n }
counts_with counts Read n = record counts { reads = n }
counts_with counts Write n = record counts { writes = n }
counts_with counts Sync n = record counts { syncs = n }
counts_with counts Pull n = record counts { pulls = n }
counts_with counts Push n = record counts { pushes = n }

-- the fault names this call
abbrev pub Names : Fault → CallKind → ℕ → Type 0
Names fault kind nth = (fault.call ≡ kind) × (fault.nth ≡ nth)

-- a fault of these names this call, where so many bytes land
abbrev pub IsNamed : List Fault → CallKind → ℕ → ℕ → Type 0
IsNamed faults kind nth landed = Contains faults (record { call = kind; nth = nth; landed = landed })

-- no fault of these names this call
abbrev pub IsSpared : List Fault → CallKind → ℕ → Type 0
IsSpared faults kind nth = All (λ fault. Names fault kind nth → ⊥) faults
