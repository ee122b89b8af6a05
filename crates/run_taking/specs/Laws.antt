-- What holds of a follower's run whose bytes are those of its leader.
use Rattle.std.specs.Prelude.{◌≡◌, ℕ, ◌≤◌, true, List, [], ◌++◌, length, Option}
use Rattle.machine_model.specs.Pulls.{Pull}
use Rattle.machine_model.specs.States.{SinkState, SourceState}
use Rattle.journal_packets.specs.Packets.{first}
use Rattle.journal_packets.specs.Streams.{IsStreamOf}
use Rattle.journal_packets.specs.declared.first.First.TheVariants.{Bad}
use Rattle.model_archive.specs.Histories.{History}
use Rattle.model_archive.specs.Runs.{state_after}
use Rattle.model_archive.specs.Stands.{bodies_of}
use Rattle.model_follow.specs.Following.{Follows}
use Rattle.model_follow.specs.Laws.{GoesOnFrom}
use Rattle.model_follow.specs.Taking.{CanBeFollowed}
use Rattle.run_taking.specs.Following.{Ran}
use Rattle.run_taking.specs.declared.ended.Ended.{Ended}
use Rattle.run_taking.specs.declared.ended.Ended.TheVariants.{Conflict, Packet}

-- Where the bytes pulled, with others behind them, are a stream of a leader that can be followed and whose history begins with the follower's: each
-- history of the run is one with which the leader's begins; no packet is in conflict; and where one is bad, the end of the input was told inside it.
abbrev pub RunsKeepToTheLeader : Type 0
RunsKeepToTheLeader = (leader history : History) (end : Ended) (input input_now : SourceState) (output output_now : SinkState)
    (pulls : List Pull) → CanBeFollowed leader → GoesOnFrom history leader
    → (ran : Ran Follows (λ h. h) history end input input_now output output_now pulls) → (to_come : List ℕ)
    → IsStreamOf (bodies_of leader) (ran.pulled ++ to_come)
    → ((j : ℕ) → j ≤ length ran.outcomes → GoesOnFrom (state_after history ran.outcomes j) leader)
    × ((number place : ℕ) (kept got : Option ℕ) → end ≡ Conflict number place kept got → ⊥)
    × ((at : ℕ) → end ≡ Packet at → (ran.behind ≡ []) × (ran.ended ≡ true) × (first true ran.rest ≡ Bad))
