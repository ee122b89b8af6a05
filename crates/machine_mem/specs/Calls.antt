-- What the calls of a machine in memory do, exactly.
use Rattle.std.specs.Prelude.{◌≡◌, ℕ, ◌+◌, ◌-◌, ◌^◌, ◌≤◌, min}
use Rattle.machine_model.specs.Causes.{Rose}
use Rattle.machine_mem.specs.declared.faults.CallKind.{CallKind}
use Rattle.machine_mem.specs.declared.faults.Script.{Script}
use Rattle.machine_mem.specs.declared.machine.MemMachine.{MemMachine}
use Rattle.machine_mem.specs.Faults.{next_of, counts_with, IsNamed}
use Rattle.machine_mem.specs.Machines.{MemoryState}
use Rattle.machine_mem.specs.Meaning.{meaning, after_calls}

-- the faults of a machine, and how many calls of each kind there were
abbrev pub script_of : MemMachine → Script
script_of x = x.script

-- how many calls found no memory
abbrev pub starved_of : MemMachine → ℕ
starved_of x = x.starved.value

-- a fault names the next call of this kind, where so many bytes land
abbrev pub IsDue : MemMachine → CallKind → ℕ → Type 0
IsDue x kind landed = IsNamed (script_of x).faults.items kind (next_of (script_of x).counts kind) landed

-- the script after one call more of a kind
abbrev pub called : CallKind → Script → Script
called kind script = record script { counts = counts_with script.counts kind (next_of script.counts kind) }

-- a call found memory: the machine is what this makes of it
pub record Serves (after : MemoryState → MemoryState) (x y : MemMachine) : Type 0 where
  pub state : meaning y ≡ after (meaning x)
  pub starved : starved_of y ≡ starved_of x

-- a call found no memory: the machine is what this makes of it
pub record Starves (after : MemoryState → MemoryState) (x y : MemMachine) : Type 0 where
  pub state : meaning y ≡ after (meaning x)
  pub starved : Rose (starved_of x) (starved_of y)

-- how many calls there were that may change the disk or show bytes
abbrev pub calls_of : MemMachine → ℕ
calls_of x = x.history.calls

-- one such call more was recorded, and what a stop might have left before is as it was
pub record Recalls (x y : MemMachine) : Type 0 where
  pub one_more : calls_of y ≡ calls_of x + 1
  pub before : (n : ℕ) → n ≤ calls_of x → after_calls y n ≡ after_calls x n

-- one such call more was counted, and what a stop might have left before is as it was
pub record Remembers (x y : MemMachine) : Type 0 where
  pub calls : calls_of y ≡ min (calls_of x + 1) (2 ^ 64 - 2)
  pub before : (n : ℕ) → n ≤ calls_of x → after_calls y n ≡ after_calls x n

-- no such call was counted
pub record Stays (x y : MemMachine) : Type 0 where
  pub calls : calls_of y ≡ calls_of x
  pub before : (n : ℕ) → after_calls y n ≡ after_calls x n
