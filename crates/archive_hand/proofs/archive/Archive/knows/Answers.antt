use Rattle.std.proofs.Common.{sym, subst}
use Rattle.lists_index.specs.Indexes.{IndexState, Indexes}
use Rattle.model_archive.specs.Histories.{changes}
use Rattle.archive_hand.proofs.SealLemmas.{known_is, known_there}
use Rattle.archive_hand.proofs.archive.Archive.knows.Goals as goal

pub returns : goal.returns
returns c = λ h stands.
    let knows = c.knows.ensures (changes h) (subst (λ (i : IndexState). Indexes i (changes h)) (sym c.index.ensures) stands.index_is) in
    (λ told. known_is h c.args.word.now (knows.0 told), λ known. knows.1 (known_there h c.args.word.now known))
