-- What a machine remembers of the states between its calls.
use Rattle.std.proofs.Common.{◌≡◌, ◌⊎◌, ℕ, ◌+◌, ◌<◌, ◌≤◌, Bool, true, false, cond, List, [], ◌∷◌, ◌++◌, refl, ap, subst, sym, ◌∙◌, arith, append_assoc, nat_le, inl, inr, All}
use Rattle.std.proofs.lemmas.List.{append-nil}
use Rattle.std.proofs.lemmas.List.Elements.{All-head, All-tail, All-push}
use Rattle.std.proofs.lemmas.Bool.{le-leb, leb-true}
use Rattle.machine_model.specs.Areas.{Bytes}
use Rattle.machine_model.specs.States.{Moment}
use Rattle.machine_model.specs.Images.{MayLeave, Leaves}
use Rattle.machine_model.specs.Moments.{SomeLeaves, LeftSince}
use Rattle.machine_mem.specs.declared.difference.Recorded.{Recorded}
use Rattle.machine_mem.specs.declared.machine.MemMachine.{MemMachine}
use Rattle.machine_mem.specs.Moments.{along}
use Rattle.machine_mem.specs.Snapshots.{Snapshot}
use Rattle.machine_mem.specs.Differences.{Holding, first_of, played, played_all, snapshot_at, piece_of, moments_of}
use Rattle.machine_mem.specs.declared.picks.Pick.{Pick}
use Rattle.machine_mem.specs.declared.picks.Picked.{Picked}
use Rattle.machine_mem.specs.Picks.{IsPicked, bytes_of}
use Rattle.machine_mem.specs.Meaning.{snapshot_of, after_calls, disk_state}
use Rattle.machine_mem.specs.Calls.{calls_of}
use Rattle.machine_mem.proofs.GrowthLemmas.{leaves_along, left_early, left_late}

-- one call more

pub played_all-push : (x : Holding) (log : List Recorded) (r : Recorded) → played_all x (log ++ r ∷ []) ≡ played r.difference (played_all x log)
played_all-push x [] r = refl
played_all-push x (s ∷ log) r = played_all-push (played s.difference x) log r

pub moments_of-push : (x : Holding) (log : List Recorded) (r : Recorded)
    → moments_of x (log ++ r ∷ []) ≡ moments_of x log ++ along (played_all x log).snapshot.moment (piece_of r.difference)
moments_of-push x [] r = append-nil (along x.snapshot.moment (piece_of r.difference))
moments_of-push x (s ∷ log) r =
    let first : List Moment = along x.snapshot.moment (piece_of s.difference) in
    let next = played s.difference x in
    let more : List Moment = along (played_all next log).snapshot.moment (piece_of r.difference) in
    ap (λ (l : List Moment). first ++ l) (moments_of-push next log r) ∙ sym (append_assoc first (moments_of next log) more)

pub snapshot_at-push : (n : ℕ) (x : Holding) (log : List Recorded) (r : Recorded) → n ≤ r.until → snapshot_at n x (log ++ r ∷ []) ≡ snapshot_at n x log
snapshot_at-push n x [] r low = ap (λ b. cond b x.snapshot (played r.difference x).snapshot) (le-leb n r.until low)
snapshot_at-push n x (s ∷ log) r low =
    ap (λ (y : Snapshot). cond (nat_le n s.until) x.snapshot y) (snapshot_at-push n (played s.difference x) log r low)

-- behind all calls is what is now
snapshot_at-all : (n : ℕ) (x : Holding) (log : List Recorded) → All (λ (r : Recorded). r.until < n) log → snapshot_at n x log ≡ (played_all x log).snapshot
snapshot_at-all n x [] early = refl
snapshot_at-all n x (s ∷ log) early =
    let next = played s.difference x in
    let rest = snapshot_at-all n next log (All-tail (λ (r : Recorded). r.until < n) s log early) in
    let first = All-head (λ (r : Recorded). r.until < n) s log early in
    let by : (b : Bool) → nat_le n s.until ≡ b → cond b x.snapshot (snapshot_at n next log) ≡ (played_all next log).snapshot =
    λ b. elim b as (λ b. nat_le n s.until ≡ b → cond b x.snapshot (snapshot_at n next log) ≡ (played_all next log).snapshot) [
      | true ↦ λ test. absurd (omega (arith, leb-true n s.until test))
      | false ↦ λ test. rest
    ] in
    by (nat_le n s.until) refl

pub after_calls-now : (x : MemMachine) → after_calls x (calls_of x) ≡ snapshot_of x
after_calls-now x =
    snapshot_at-all x.history.calls (first_of x.history.first) x.history.differences.items x.history.numbered ∙ ap (λ (h : Holding). h.snapshot) x.history.plays

-- what a history keeps up when it records a call more

pub plays_more : (x : Holding) (log more : List Recorded) (r : Recorded) (was now : Holding) → played_all x log ≡ was → more ≡ log ++ r ∷ []
    → now ≡ played r.difference was → played_all x more ≡ now
plays_more x log more r was now plays more_are now_is =
    ap (λ l. played_all x l) more_are ∙ played_all-push x log r ∙ ap (λ (h : Holding). played r.difference h) plays ∙ sym now_is

pub past_more : (x : Holding) (log more : List Recorded) (r : Recorded) (was : Holding) → played_all x log ≡ was → more ≡ log ++ r ∷ []
    → moments_of x more ≡ moments_of x log ++ along was.snapshot.moment (piece_of r.difference)
past_more x log more r was plays more_are =
    ap (λ l. moments_of x l) more_are ∙ moments_of-push x log r
    ∙ ap (λ (h : Holding). moments_of x log ++ along h.snapshot.moment (piece_of r.difference)) plays

pub before_more : (x : Holding) (log more : List Recorded) (r : Recorded) (n : ℕ) → more ≡ log ++ r ∷ [] → n ≤ r.until → snapshot_at n x more ≡ snapshot_at n x log
before_more x log more r n more_are low = ap (λ l. snapshot_at n x l) more_are ∙ snapshot_at-push n x log r low

pub numbered_more : (log more : List Recorded) (r : Recorded) (calls : ℕ) → more ≡ log ++ r ∷ [] → r.until ≡ calls → All (λ (r : Recorded). r.until < calls) log
    → All (λ (r : Recorded). r.until < calls + 1) more
numbered_more log more r calls more_are last early =
    let P : Recorded → Type 0 = λ r. r.until < calls + 1 in
    subst (λ l. All P l) (sym more_are) (All-push P log r (λ k d within. omega (arith, early k d within)) (omega arith))

-- what was allowed after so many calls was left at some moment, beside the bytes shown then
left_after : (n : ℕ) (x : Holding) (log : List Recorded) (image : Bytes) → MayLeave (snapshot_at n x log).moment image
    → Leaves (played_all x log).snapshot.moment image (snapshot_at n x log).moment.beside ⊎ SomeLeaves (moments_of x log) image (snapshot_at n x log).moment.beside
left_after n x [] image may = inl (may, refl)
left_after n x (s ∷ log) image may =
    let next = played s.difference x in
    let here : List Moment = along x.snapshot.moment (piece_of s.difference) in
    let later = moments_of next log in
    let now = (played_all next log).snapshot.moment in
    let Left : Snapshot → Type 0 = λ at. Leaves now image at.moment.beside ⊎ SomeLeaves (here ++ later) image at.moment.beside in
    let at : Bool → Snapshot = λ b. cond b x.snapshot (snapshot_at n next log) in
    let by : (b : Bool) → MayLeave (at b).moment image → Left (at b) =
    λ b. elim b as (λ b. MayLeave (at b).moment image → Left (at b)) [
      | true ↦ λ allowed. inr (left_early here later image x.snapshot.moment.beside
          (leaves_along x.snapshot.moment (piece_of s.difference) image x.snapshot.moment.beside 0 allowed (omega arith) (sym (append-nil x.snapshot.moment.beside))))
      | false ↦ λ allowed. elim (left_after n next log image allowed) [
        | inl is ↦ inl is
        | inr was ↦ inr (left_late here later image (snapshot_at n next log).moment.beside was)
      ]
    ] in
    by (nat_le n s.until) may

-- and so since the beginning
pub left_at : (x : MemMachine) (n : ℕ) (at : Snapshot) (pick : Pick) (picked : Picked) → at ≡ after_calls x n → IsPicked at pick picked
    → LeftSince (disk_state x) 0 (bytes_of picked.image) (after_calls x n).moment.beside
left_at x n at pick picked is by =
    let P : Snapshot → Type 0 = λ s. MayLeave s.moment (bytes_of picked.image) in
    let L : Moment → Type 0 = λ m. Leaves m (bytes_of picked.image) (after_calls x n).moment.beside in
    elim (left_after n (first_of x.history.first) x.history.differences.items (bytes_of picked.image) (subst P is by.allowed)) [
      | inl now ↦ inl (subst L (ap (λ (h : Holding). h.snapshot.moment) x.history.plays) now)
      | inr was ↦ inr was
    ]
