use Rattle.std.proofs.Common.{◌≡◌, List, ℕ, Err, Ok, ap, subst, ◌∙◌}
use Rattle.model_archive.specs.Planning.{last_second}
use Rattle.model_archive.specs.Sharing.{OfPhrases}
use Rattle.archive_questions.specs.Sharers.{sharers}
use Rattle.archive_questions.specs.declared.error.ShareError.TheVariants as fails
use Rattle.archive_hand.proofs.ByReadsLemmas.{keeps_nowhere}
use Rattle.archive_questions.proofs.ShareLemmas.{shared_by, shares_refused, shares_told}
use Rattle.archive_questions.proofs.sharing.share.Goals as goal

pub returns-in-Err-clause-refused : goal.returns-in-Err-clause-refused
returns-in-Err-clause-refused c = λ h stands why index is.
    let same : c.in-Err.error ≡ fails.Refused why index = cc in
    shares_refused c.args.archive.now.asked h c.args.words.now c.args.factor.fraction why index
    (subst (λ (l : List (List ℕ)). OfPhrases h 1 l (λ n because. (n ≡ index) × (because ≡ why)) (λ words. ⊥)) c.as_slice.ensures.value (c.sealed_from.ensures.refused h stands why index (c.in-Err.is ∙ ap Err same)))

pub returns-in-Err-clause-by_reads : goal.returns-in-Err-clause-by_reads
returns-in-Err-clause-by_reads c = λ d s in_step.
    shared_by s _ c.args.words.now c.args.factor.fraction (Err c.in-Err.error) d c.args.archive.now (λ reply next same is. (same, is)) in_step (returns-in-Err-clause-refused c s.history in_step.stands) tt

pub returns-in-Ok-shared_of-clause-shares : goal.returns-in-Ok-shared_of-clause-shares
returns-in-Ok-shared_of-clause-shares c = λ h stands.
    let sealed = c.in-Ok.sealed.items in
    let sharing = c.in-Ok-shared_of.sharing in
    let value = c.deref.ensures.value in
    shares_told c.args.archive.now.asked h c.args.words.now c.args.factor.fraction sealed sharing.shares.items sharing.unit sharing.budget sharing.cost
    (subst (λ (l : List (List ℕ)). OfPhrases h 1 l (λ n because. ⊥) (λ words. words ≡ sharers sealed)) c.as_slice.ensures.value (c.in-Ok.ensures.sealed h stands))
    (rw value at (c.in-Ok-shared_of.ensures (last_second h) (rw value (c.in-Ok.ensures.horizon h stands))))

pub returns-in-Ok-shared_of-clause-by_reads : goal.returns-in-Ok-shared_of-clause-by_reads
returns-in-Ok-shared_of-clause-by_reads c = λ d s in_step.
    shared_by s _ c.args.words.now c.args.factor.fraction (Ok c.in-Ok-shared_of.sharing) d c.args.archive.now (λ reply next same is. (same, is)) in_step (λ why index is. absurd cc) (returns-in-Ok-shared_of-clause-shares c s.history in_step.stands)

pub returns-clause-by_reads : goal.returns-clause-by_reads
returns-clause-by_reads c = λ d s in_step. keeps_nowhere d c.args.archive.now s in_step
