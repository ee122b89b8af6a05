use Rattle.std.proofs.Common.{ℕ, ◌≤◌, ◌^◌, length, take}
use Rattle.lists_postings.specs.ListsOf.{IsListOf}
use Rattle.lists_tails.specs.Acts.{frequency_after}
use Rattle.lists_tails.specs.Gathered.{acts_of}
use Rattle.lists_tails.specs.Tails.{tail_of}
use Rattle.lists_tails.proofs.tails.Tails.gather.Given as goal

abbrev pub invariant-loop-i : goal.invariant-loop-i
invariant-loop-i l = record {
  lists : (w : ℕ) → IsListOf (frequency_after (acts_of (take l.i l.turns.items)) w) 0 (2 ^ 40) (tail_of l.tails w);
  short : (w : ℕ) → length (tail_of l.tails w) ≤ l.i;
}
