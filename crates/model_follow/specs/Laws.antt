-- What holds of archives that follow others.
use Rattle.std.specs.Prelude.{◌≡◌, ℕ, ◌+◌, ◌≤◌, Bool, true, List, ◌++◌, length, All, Option, None}
use Rattle.base_commands.specs.Documents.{HasDocument}
use Rattle.base_commands.specs.declared.command.Item.{Item}
use Rattle.journal_entries.specs.Spelling.{spelling, IsEntry}
use Rattle.journal_entries.specs.declared.entry.Entry.{Entry}
use Rattle.journal_packets.specs.Packets.{Framed, IsFramed, first, most_body}
use Rattle.journal_packets.specs.Streams.{IsPacketOf, IsStreamOf, export, stream}
use Rattle.journal_packets.specs.declared.first.First.TheVariants.{Bad}
use Rattle.model_archive.specs.Histories.{History, entry_refusal}
use Rattle.model_archive.specs.Legal.{IsLegal}
use Rattle.model_archive.specs.Runs.{Outcome, AreStints, IsRun, IsRunWith, state_after}
use Rattle.model_archive.specs.Standing.{last_state}
use Rattle.model_archive.specs.Stands.{bodies_of}
use Rattle.model_archive.specs.Steps.{Reply, Step, Works}
use Rattle.model_archive.specs.Worlds.{World, at_work, world_of}
use Rattle.model_follow.specs.Taking.{CanBeFollowed, KeepsUp}
use Rattle.model_follow.specs.Following.{Note, Follows, BeginWith, CannotBeTaken, DiffersAt, IsBeyond}

-- ---- what can be followed

-- A packet has room for each entry that may come after a history, whatever is asked of plans.
abbrev pub SpellingsHaveRoom : Type 0
SpellingsHaveRoom = (before : History) (entry : Entry) → IsEntry entry → entry_refusal before entry ≡ None
    → length (spelling entry) ≤ most_body

-- A history that can be followed is legal.
abbrev pub FollowedAreLegal : Type 0
FollowedAreLegal = (history : History) → CanBeFollowed history → IsLegal history

-- What is exported of a history that can be followed, from any entry on, is a stream of it.
abbrev pub ExportsCanBeRead : Type 0
ExportsCanBeRead = (history : History) (from : ℕ) → CanBeFollowed history
    → IsStreamOf (bodies_of history) (stream (export from (bodies_of history)))

-- Each step of the abstract archive leads from a state that can be followed to such a one, whatever the item; and each stint of the work
-- on a plan.
abbrev pub StepsCanBeFollowed : Type 0
StepsCanBeFollowed = (old : World) (item : Item) (reply : Reply) (new : World) → KeepsUp old → HasDocument item → Step old item reply new
    → KeepsUp new

abbrev pub StintsCanBeFollowed : Type 0
StintsCanBeFollowed = (old : World) (reply : Reply) (new : World) → KeepsUp old → Works old reply new → KeepsUp new

-- So what a run of it makes of nothing, or of a history that can be followed, can be followed after each of its outcomes: those of items,
-- with stints behind them, and those of the stints at the end.
abbrev pub RunsCanBeFollowed : Type 0
RunsCanBeFollowed = (history : History) (items : List Item) (by_items closing : List (Outcome Reply World)) → CanBeFollowed history
    → All HasDocument items → IsRunWith Step Works at_work (world_of history) items by_items
    → AreStints Works (last_state (world_of history) by_items) closing
    → (j : ℕ) → CanBeFollowed (state_after (world_of history) (by_items ++ closing) j).history

-- The same of a run over items alone, as that of a sample is.
abbrev pub SamplesCanBeFollowed : Type 0
SamplesCanBeFollowed = (history : History) (items : List Item) (outcomes : List (Outcome Reply World)) → CanBeFollowed history
    → All HasDocument items → IsRun Step (world_of history) items outcomes
    → (j : ℕ) → CanBeFollowed (state_after (world_of history) outcomes j).history

-- What an archive has that follows another one can be followed in its turn.
abbrev pub FollowersCanBeFollowed : Type 0
FollowersCanBeFollowed = (old new : History) (p : Framed) (note : Note) → CanBeFollowed old → Follows old p note new → CanBeFollowed new

-- ---- the cases of a packet

-- A packet has one step at most.
abbrev pub StepsAreOne : Type 0
StepsAreOne = (old one other : History) (p : Framed) (note told : Note) → Follows old p note one → Follows old p told other
    → (note ≡ told) × (one ≡ other)

-- One that has a step isn't behind a gap, differs nowhere from what is there, and isn't one that can't be taken.
abbrev pub StepsAreNoEnds : Type 0
StepsAreNoEnds = (old new : History) (p : Framed) (note : Note) → Follows old p note new → (IsBeyond old p → ⊥)
    × ((place : ℕ) (kept got : Option ℕ) → DiffersAt old place kept got p → ⊥) × (CannotBeTaken old p → ⊥)

-- No packet is two of these; and it differs first at one place.
abbrev pub EndsAreApart : Type 0
EndsAreApart = (old : History) (p : Framed) → (IsBeyond old p → CannotBeTaken old p → ⊥)
    × ((place : ℕ) (kept got : Option ℕ) → DiffersAt old place kept got p → (IsBeyond old p → ⊥) × (CannotBeTaken old p → ⊥)
    × ((other : ℕ) (mine its : Option ℕ) → DiffersAt old other mine its p → (place ≡ other) × (kept ≡ mine) × (got ≡ its)))

-- And each packet is one of all these: where it has no step, isn't behind a gap, and differs nowhere, it is one that can't be taken.
abbrev pub PacketsHaveCases : Type 0
PacketsHaveCases = (old : History) (p : Framed) → IsFramed p → ((note : Note) (new : History) → Follows old p note new → ⊥)
    → (IsBeyond old p → ⊥) → ((place : ℕ) (kept got : Option ℕ) → DiffersAt old place kept got p → ⊥) → CannotBeTaken old p

-- ---- the followers of a leader

-- a history begins with another one
abbrev pub GoesOnFrom : History → History → Type 0
GoesOnFrom history leader = (more : History) × (leader ≡ history ++ more)

-- each packet is one of the leader's entries
abbrev pub AreOf : History → List Framed → Type 0
AreOf leader packets = All IsFramed packets × All (IsPacketOf (bodies_of leader)) packets

-- Packets of a leader's entries, which can be followed, lead from a history that the leader's begins with to another such one, after each
-- of them.
abbrev pub FollowersStayPrefixes : Type 0
FollowersStayPrefixes = (leader history : History) (packets : List Framed) (outcomes : List (Outcome Note History)) → CanBeFollowed leader
    → GoesOnFrom history leader → AreOf leader packets → IsRun Follows history packets outcomes
    → (j : ℕ) → j ≤ length outcomes → GoesOnFrom (state_after history outcomes j) leader

-- Bytes that with others behind them are a stream of a leader that can be followed, read as packets and a rest; a run over the first of
-- these packets, from a history that the leader's begins with. Then each history of the run is such a one; the next packet is neither in
-- conflict nor one that can't be taken; and the rest is bad only where the end of the input was told inside a packet.
abbrev pub FollowersOfALeader : Type 0
FollowersOfALeader = (leader history : History) (carried behind : List Framed) (rest to_come : List ℕ)
    (outcomes : List (Outcome Note History)) → CanBeFollowed leader → GoesOnFrom history leader → All IsFramed (carried ++ behind)
    → IsRun Follows history carried outcomes → IsStreamOf (bodies_of leader) ((stream (carried ++ behind) ++ rest) ++ to_come)
    → ((j : ℕ) → j ≤ length outcomes → GoesOnFrom (state_after history outcomes j) leader)
    × ((place : ℕ) (kept got : Option ℕ) → BeginWith behind (DiffersAt (last_state history outcomes) place kept got) → ⊥)
    × (BeginWith behind (CannotBeTaken (last_state history outcomes)) → ⊥)
    × ((ended : Bool) → first ended rest ≡ Bad → ended ≡ true)

-- What a leader exports from an entry on that is at most the one behind a follower's last leads the follower to the leader's history:
-- each packet has an outcome.
abbrev pub ExportsLeadToTheLeader : Type 0
ExportsLeadToTheLeader = (leader history : History) (from : ℕ) → CanBeFollowed leader → GoesOnFrom history leader → 1 ≤ from
    → from ≤ length history + 1
    → (outcomes : List (Outcome Note History)) × IsRun Follows history (export from (bodies_of leader)) outcomes
    × (last_state history outcomes ≡ leader)
