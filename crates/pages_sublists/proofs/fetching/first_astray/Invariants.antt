use Rattle.std.specs.Prelude.{◌≡◌, true, All, take}
use Rattle.pages_sublists.specs.Fetching.{belongs}
use Rattle.pages_sublists.proofs.fetching.first_astray.Given as goal

abbrev pub invariant-loop-posting : goal.invariant-loop-posting
invariant-loop-posting l = All (λ q. belongs l.bounds.from l.bounds.to l.bounds.horizon q ≡ true) (take l.posting-index l.list)
