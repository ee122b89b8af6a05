use Rattle.plans_guarantee.proofs.Proved.{best_numbers_certify}
use Rattle.plans_guarantee.proofs.checking.best_numbers_certify.Goals as goal

pub returns : goal.returns
returns c = best_numbers_certify
