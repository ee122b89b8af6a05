-- The laws of a source's calls, and of the pulls of a machine.
use Rattle.std.specs.Prelude.{◌≡◌, ◌≤◌, ◌^◌, ◌-◌, ◌++◌, [], ℕ, List, map}
use Rattle.machine_model.specs.States.{SourceState, SinkState}
use Rattle.machine_model.specs.Pulls.{Pull}

-- Of a source in some state, of what calls of the source alone make of it, and of what pulls make of it.
pub record SourceLaws {S : Type 0} (source : S → SourceState) (only : S → S → Type 0)
    (pulled : S → List (List ℕ) → S → Type 0) : Type 0 where
  pub same : (x : S) → only x x
  pub joins : (x y z : S) → only x y → only y z → only x z
  pub unpulled : (x : S) → pulled x [] x
  pub pulls_join : (x y z : S) (a b : List (List ℕ)) → pulled x a y → pulled y b z → pulled x (a ++ b) z
  -- without a pull the source is as it was
  pub still : (x y : S) → pulled x [] y → source y ≡ source x
  pub faults : (x y : S) → only x y → (source x).faults ≤ (source y).faults
  -- the count is that of a real machine's counter
  pub limit : (x : S) → (source x).faults ≤ 2 ^ 64 - 1

-- Of a machine, beside the laws of its source: of the calls of any trait that make of it what they do, these pulls among them.
pub record AskedLaws {M : Type 0} (source : M → SourceState) (sink : M → SinkState) (pulled : M → List (List ℕ) → M → Type 0)
    (sink_only disk_only : M → M → Type 0) (asked : M → List Pull → M → Type 0) : Type 0 where
  -- the pulls of the source, beside what is shown
  pub by : (x y : M) (lefts : List (List ℕ)) → pulled x lefts y
      → asked x (map (λ before. record { left = before; shown = (sink x).shown }) lefts) y
  -- the other traits pull nothing
  pub of_sink : (x y : M) → sink_only x y → asked x [] y
  pub of_disk : (x y : M) → disk_only x y → asked x [] y
  pub join : (x y z : M) (a b : List Pull) → asked x a y → asked y b z → asked x (a ++ b) z
  -- without a pull the source is as it was
  pub still : (x y : M) → asked x [] y → source y ≡ source x
