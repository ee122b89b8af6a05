use Rattle.std.proofs.Common.{◌≡◌, ◌++◌, drop, map}
use Rattle.std.specs.List.{zip}
use Rattle.plans_kinds.specs.Proposals.{bare_node}
use Rattle.plans_kinds.proofs.proposal.nodes_of.Given as goal

abbrev pub invariant-loop-k : goal.invariant-loop-k
invariant-loop-k l = map bare_node l.nodes.items ++ zip (drop l.k l.times) (drop l.k l.numbers) ≡ zip l.times l.numbers
