-- What a write to the journal leaves, and the same once it is synced.
use Rattle.std.proofs.Common.{◌≡◌, ◌⊎◌, ℕ, List, sym, ◌∙◌, subst}
use Rattle.machine_model.specs.Areas.{Bytes, part, replaced}
use Rattle.machine_model.specs.States.{DiskState}
use Rattle.machine_model.specs.Images.{AreBytes, MayLeave, Leaves, Only, TornFrom}
use Rattle.machine_model.specs.Calls.{Writes, Syncs, IsSynced, WritesThrough, Stays, written}
use Rattle.machine_model.specs.declared.area.Area.{Area}
use Rattle.machine_model.proofs.MomentLemmas.{joined, goes_on_joins}
use Rattle.machine_model.proofs.ImageLemmas.{torn_image, only_synced}

WasTorn : Area → ℕ → ℕ → DiskState → Bytes → List ℕ → Type 0
WasTorn area at n old image beside = (was : Bytes) × MayLeave old.now was × ((image ≡ was) ⊎ TornFrom area at n was image) × (beside ≡ old.now.beside)

allowed_was_torn : {area : Area} {at n : ℕ} {a b : DiskState} → Writes area at n a b → ((area : Area) → AreBytes (part a.now.stable area))
    → (image : Bytes) (beside : List ℕ) → Leaves b.now image beside → WasTorn area at n a image beside
unfolding WasTorn
allowed_was_torn {area} {at} {n} {a} {b} writes bytes image beside left =
    let torn = torn_image area at n a b writes bytes image left.0 in
    (torn.0, torn.1, torn.2, left.1 ∙ writes.beside)

-- a write that was tried
pub through_write : {area : Area} {at n : ℕ} {a b : DiskState} → Writes area at n a b → ((area : Area) → AreBytes (part a.now.stable area)) → WritesThrough area at n a b
unfolding WasTorn
through_write writes bytes = record {
  goes_on = writes.goes_on;
  images = λ image beside left. allowed_was_torn writes bytes image beside (writes.during image beside left);
}

-- and then a sync
pub through_sync : {area : Area} {at n : ℕ} {a b c : DiskState} → Writes area at n a b → ((area : Area) → AreBytes (part a.now.stable area)) → Syncs b c → WritesThrough area at n a c
unfolding WasTorn
through_sync {area} {at} {n} {a} {b} {c} writes bytes syncs = record {
  goes_on = goes_on_joins writes.goes_on syncs.goes_on;
  images = joined (WasTorn area at n a) writes.goes_on (λ image beside left. allowed_was_torn writes bytes image beside (writes.during image beside left))
      syncs.goes_on (λ image beside left. allowed_was_torn writes bytes image beside (syncs.during image beside left));
}

-- once it is synced the bytes stay
pub stays_synced : {area : Area} {at : ℕ} {bytes : List ℕ} {a b c : DiskState}
    → b.holds ≡ replaced a.holds area (written at bytes (part a.holds area)) → Syncs b c → IsSynced b c → Stays area at bytes a c
stays_synced {area} {at} {bytes} {a} {b} {c} wrote syncs synced = record {
  holds = syncs.holds ∙ wrote;
  only = let P : Bytes → Type 0 = λ h. Only h c in subst P (sym syncs.holds) (only_synced b c synced);
}
