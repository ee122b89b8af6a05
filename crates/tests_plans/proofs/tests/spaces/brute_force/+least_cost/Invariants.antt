use Rattle.std.proofs.Common.{length}
use Rattle.tests_plans.proofs.tests.spaces.brute_force.+least_cost.Given as goal

abbrev pub decreases-least_cost : goal.decreases-least_cost
decreases-least_cost l = length l.times.now
