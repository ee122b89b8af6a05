use Rattle.std.specs.Prelude.{drop}
use Rattle.lists_postings.specs.Lists.{IsList}
use Rattle.pages_sublists.proofs.JoinLemmas.{JoinOn}
use Rattle.pages_sublists.proofs.joining.join_in_turn.Given as goal

abbrev pub invariant-loop-list : goal.invariant-loop-list
invariant-loop-list l = record {
  ordered : IsList l.union.items;
  on : JoinOn l.lists (drop l.list-index l.lists) l.union.items;
}
