use Rattle.std.proofs.Common.{ℕ, List, [], ◌∷◌, ◌++◌, length, ap, subst, sym, ◌∙◌}
use Rattle.sha2.specs.Sha256.{sha256}
use Rattle.pages_area.specs.Runs.{IsFreeRun, IsLowestRun, pages_for}
use Rattle.pages_sublists.proofs.PlaceLemmas.{retyped}
use Rattle.pages_sublists.proofs.placing.add_place.Goals as goal

pub returns-in-Err-clause-full : goal.returns-in-Err-clause-full
returns-in-Err-clause-full c = λ taken has full first free.
    let F : List ℕ → Type 0 = λ bytes. IsFreeRun taken (pages_for (length bytes)) first in
    c.in-Err.ensures.full taken has (retyped _ _ full) first (subst F (sym c.bytes-bytes.ensures) free)

pub returns-clause-added : goal.returns-clause-added
returns-clause-added c =
    let pushed = rw c.unwrap.ensures at c.push.ensures.items in
    record {
      place = record { extent = c.in-Ok.extent; digest = c.digest-digest.result };
      is = pushed ∙ ap (λ (l : List _). l ++ record { extent = c.in-Ok.extent; digest = c.digest-digest.result } ∷ []) c.in_ok-reserve.ensures.items;
      size = c.in-Ok.ensures.bytes ∙ ap (λ (l : List ℕ). length l) c.bytes-bytes.ensures;
      digest = c.digest-digest.ensures ∙ ap sha256 c.bytes-bytes.ensures;
      lowest = λ taken has. (let L : List ℕ → Type 0 = λ bytes. IsLowestRun taken (pages_for (length bytes)) c.in-Ok.extent.first in subst L c.bytes-bytes.ensures (c.in-Ok.ensures.lowest taken has));
      taken = λ taken has. c.in-Ok.ensures.taken taken has;
    }
