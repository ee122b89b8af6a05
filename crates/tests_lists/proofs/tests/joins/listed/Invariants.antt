use Rattle.lists_postings.specs.Lists.{IsList}
use Rattle.tests_lists.proofs.tests.joins.listed.Given as goal

abbrev pub invariant-loop-from : goal.invariant-loop-from
invariant-loop-from g l = IsList l.list.items
