use Rattle.lists_versions.proofs.Alive.{alive-has}
use Rattle.lists_versions.proofs.laws.the_alive_hold_something.Goals as goal

pub returns : goal.returns
returns g c = alive-has
