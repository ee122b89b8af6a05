use Rattle.std.proofs.Common.{length}
use Rattle.tests_plans.proofs.tests.guarantees.brute_force.+least_space.Given as goal

abbrev pub decreases-least_space : goal.decreases-least_space
decreases-least_space l = length l.times.now
