use Rattle.std.proofs.Common.{arith, ◌≤◌, ◌^◌}
use Rattle.std.proofs.lemmas.List.Elements.{All-from_get_or}
use Rattle.plans_space.proofs.weights.sums_of.Goals as goal

pub returns-clause-small : goal.returns-clause-small
returns-clause-small c = All-from_get_or (λ s. s ≤ 2 ^ 80) c.loop-weight.sums.items 0 (λ k l. omega (arith, c.loop-weight.invariant.small k l, c.loop-weight.invariant.long, c.loop-weight.auto.weight-index-end, c.requires.short))
