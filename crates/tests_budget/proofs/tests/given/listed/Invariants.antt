use Rattle.lists_postings.specs.Lists.{IsList}
use Rattle.tests_budget.proofs.tests.given.listed.Given as goal

abbrev pub invariant-loop-doc : goal.invariant-loop-doc
invariant-loop-doc g l = IsList l.list.items
