-- That a write to the journal leaves the pages as they were.
use Rattle.std.proofs.Common.{◌≡◌, ℕ, List, refl, inl, inr, ap, ◌∙◌}
use Rattle.machine_model.specs.Areas.{Bytes}
use Rattle.machine_model.specs.States.{DiskState, moment}
use Rattle.machine_model.specs.Images.{MayLeave}
use Rattle.machine_model.specs.Calls.{WritesThrough}
use Rattle.machine_model.specs.declared.area.Area.TheVariants.{Journal, Pages}
use Rattle.machine_model.proofs.MomentLemmas.{joined, goes_on_joins, goes_on_same, left_now, allowed_left}
use Rattle.journal_gates.specs.Crash.{KeepsPages}

HadPages : DiskState → Bytes → List ℕ → Type 0
HadPages old image beside = (was : Bytes) × MayLeave old.now was × (image.pages ≡ was.pages) × (beside ≡ old.now.beside)

pub pages_same : (d : DiskState) → KeepsPages d d
unfolding HadPages
pages_same d = record { goes_on = goes_on_same d; images = left_now d (HadPages d) (λ image allowed. (image, allowed, refl, refl)) }

pub pages_written : {at n : ℕ} {a b : DiskState} → WritesThrough Journal at n a b → KeepsPages a b
unfolding HadPages
pages_written {at} {n} {a} {b} through = record {
  goes_on = through.goes_on;
  images = λ image beside left.
      let w = through.images image beside left in
      let same : image.pages ≡ w.0.pages = elim w.2 as (λ _. image.pages ≡ w.0.pages) [
        | inl equal ↦ ap (λ (i : Bytes). i.pages) equal
        | inr torn ↦ torn.elsewhere Pages (λ other. cc)
      ] in
      (w.0, w.1, same, w.3);
}

pub pages_join : {a b c : DiskState} → KeepsPages a b → KeepsPages b c → KeepsPages a c
unfolding HadPages
pages_join {a} {b} {c} first second = record {
  goes_on = goes_on_joins first.goes_on second.goes_on;
  images = joined (HadPages a) first.goes_on first.images second.goes_on (λ image beside left.
      let later = second.images image beside left in
      let early = first.images later.0 b.now.beside (allowed_left b (moment a) later.0 later.1) in
      (early.0, early.1, later.2 ∙ early.2, later.3 ∙ early.3));
}
