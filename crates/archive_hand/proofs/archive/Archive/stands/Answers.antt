use Rattle.std.proofs.Common.{subst}
use Rattle.archive_hand.specs.States.{IsSound}
use Rattle.archive_hand.proofs.CacheLemmas.{stands_live}
use Rattle.archive_hand.proofs.archive.Archive.stands.Goals as goal

pub returns : goal.returns
returns c =
    let sound : IsSound c.args.self.now = subst IsSound c.self.view_is c.self.invariant.2 in
    (sound.0, stands_live c.args.self.now sound c.requires)
