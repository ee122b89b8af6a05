-- What is known of a change, or a plan, that was given up.
use Rattle.std.proofs.Common.{◌≡◌, ◌⊎◌, Result, Err, IsOk, ap, inl, inr, refl, subst}
use Rattle.machine_model.specs.States.{DiskState}
use Rattle.model_archive.specs.declared.refusal.Refusal.{Refusal}
use Rattle.archive_hand.specs.States.{ArchiveState, CacheStands}
use Rattle.archive_hand.specs.Adding.{GivesUp}
use Rattle.archive_hand.specs.declared.error.ChangeError.{ChangeError}
use Rattle.archive_hand.specs.declared.error.ChangeError.TheVariants as errors
use Rattle.archive_entries.specs.declared.error.Declined.{Declined}
use Rattle.archive_entries.specs.declared.error.Declined.TheVariants as declines

-- it was not made, and no call of the disk failed
pub given_up_never : {T : Type 0} (Q : Type 0) (why : Declined) (error : ChangeError) (a b : ArchiveState) → GivesUp why error a b → IsOk {T = T} (Err error) ⊎ (◌≡◌ {A = Result T ChangeError} (Err error) (Err errors.Failed)) → Q
given_up_never Q why error a b gives (inl ok) = absurd cc
given_up_never Q (declines.Refused because) error a b gives (inr failed) = let one = gives.0 in absurd cc
given_up_never Q declines.Memory error a b gives (inr failed) = let one = gives.0 in absurd cc

-- what is kept is as it was
pub given_up_cached : (why : Declined) (error : ChangeError) (a b : ArchiveState) (d : DiskState) → GivesUp why error a b → CacheStands d a → CacheStands d b
given_up_cached (declines.Refused because) error a b d gives cached = rw gives.1 cached
given_up_cached declines.Memory error a b d gives cached = rw gives.1 cached

-- nothing more is asked
pub given_up_asked : (why : Declined) (error : ChangeError) (a b : ArchiveState) → GivesUp why error a b → b.asked ≡ a.asked
given_up_asked (declines.Refused because) error a b gives = ap (λ (x : ArchiveState). x.asked) gives.1
given_up_asked declines.Memory error a b gives = ap (λ (x : ArchiveState). x.asked) gives.1

-- and what is being written stays
pub given_up_job : (why : Declined) (error : ChangeError) (a b : ArchiveState) → GivesUp why error a b → b.job ≡ a.job
given_up_job (declines.Refused because) error a b gives = ap (λ (x : ArchiveState). x.job) gives.1
given_up_job declines.Memory error a b gives = ap (λ (x : ArchiveState). x.job) gives.1

-- and a refusal is the one that was handed on, and changes nothing
pub given_up_refused : {T U : Type 0} (P : Refusal → ArchiveState → Type 0) (why : Declined) (error : ChangeError) (a b : ArchiveState) (because : Refusal) → GivesUp why error a b
    → ((other : Refusal) → ◌≡◌ {A = Result T Declined} (Err why) (Err (declines.Refused other)) → P other a) → ◌≡◌ {A = Result U ChangeError} (Err error) (Err (errors.Refused because)) → P because b
given_up_refused P (declines.Refused other) error a b because gives refused is =
    let same : other ≡ because = (let one = gives.0 in cc) in subst (λ (w : Refusal). P w b) same (rw gives.1 (refused other refl))
given_up_refused P declines.Memory error a b because gives refused is = let one = gives.0 in absurd cc
