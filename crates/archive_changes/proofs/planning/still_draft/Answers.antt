use Rattle.std.proofs.Common.{◌≡◌}
use Rattle.std.proofs.lemmas.Result.{err_from_is_err_and}
use Rattle.journal_gates.proofs.LoadLemmas.{exit_is}
use Rattle.text_words.specs.Terms.{one_term}
use Rattle.model_archive.specs.Steps.{OfStill, spelled_key}
use Rattle.archive_hand.specs.Jobs.{plain_job}
use Rattle.archive_hand.proofs.PhraseLemmas.{map_phrase}
use Rattle.archive_changes.proofs.planning.still_draft.Goals as goal

pub returns-in_err-draft-clause-refused : goal.returns-in_err-draft-clause-refused
returns-in_err-draft-clause-refused c = λ h stands why e.
    let p = err_from_is_err_and c.from_residual.result c.from_residual.ensures.1 in
    map_phrase c.args.kind h (spelled_key (one_term c.args.word.now)) (λ because. why ≡ because) (λ because. why ≡ because) (λ word list. ⊥) (λ word list. OfStill (plain_job c.args.archive.now.job) word (λ because. why ≡ because) ⊥)
    (λ because is. is) (λ word list none. absurd none)
    (c.draft.ensures.refused h stands why (exit_is c.draft.result c.from_residual.result c.in_err-draft.field-0.0 p.0 _ c.in_err-draft.was p.1 p.2 e))
