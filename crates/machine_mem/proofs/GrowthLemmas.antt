-- How a disk's past grows by calls, and what was left since.
use Rattle.std.proofs.Common.{◌≡◌, ◌⊎◌, ℕ, zero, suc, ◌≤◌, List, [], ◌∷◌, ◌++◌, length, take, drop, refl, inl, inr, ap, subst, sym, ◌∙◌, arith, append_assoc, length-append}
use Rattle.std.proofs.lemmas.List.{drop-append-le, append-nil, drop_at}
use Rattle.machine_model.specs.Areas.{Bytes}
use Rattle.machine_model.specs.States.{Moment, DiskState, moment}
use Rattle.machine_model.specs.Images.{MayLeave, Leaves}
use Rattle.machine_model.specs.Moments.{SomeLeaves, LeftSince, GoesOn}
use Rattle.machine_mem.specs.Moments.{along}

-- what one of these moments leaves: an image of the first, beside its bytes and a front of the piece
pub record LeavesAlong (m : Moment) (piece : List ℕ) (image : Bytes) (beside : List ℕ) : Type 0 where
  pub may : MayLeave m image
  pub front : (k : ℕ) × (k ≤ length piece) × (beside ≡ m.beside ++ take k piece)

pub left_along : (m : Moment) (piece : List ℕ) (image : Bytes) (beside : List ℕ) → SomeLeaves (along m piece) image beside → LeavesAlong m piece image beside
left_along m [] image beside (inl now) = record { may = now.0; front = (0, omega arith, now.1 ∙ sym (append-nil m.beside)) }
left_along m [] image beside (inr none) = absurd none
left_along m (b ∷ piece) image beside (inl now) = record { may = now.0; front = (0, omega arith, now.1 ∙ sym (append-nil m.beside)) }
left_along m (b ∷ piece) image beside (inr later) =
    let rest = left_along (record m { beside = m.beside ++ b ∷ [] }) piece image beside later in
    record { may = rest.may; front = (suc rest.front.0, omega (arith, rest.front.1), rest.front.2 ∙ append_assoc m.beside (b ∷ []) (take rest.front.0 piece)) }

pub leaves_along : (m : Moment) (piece : List ℕ) (image : Bytes) (beside : List ℕ) (k : ℕ) → MayLeave m image → k ≤ length piece
    → beside ≡ m.beside ++ take k piece → SomeLeaves (along m piece) image beside
leaves_along m [] image beside zero may within is = inl (may, is ∙ append-nil m.beside)
leaves_along m [] image beside (suc k) may within is = absurd (omega arith)
leaves_along m (b ∷ piece) image beside zero may within is = inl (may, is ∙ append-nil m.beside)
leaves_along m (b ∷ piece) image beside (suc k) may within is =
    inr (leaves_along (record m { beside = m.beside ++ b ∷ [] }) piece image beside k may (omega arith) (is ∙ sym (append_assoc m.beside (b ∷ []) (take k piece))))

-- the disk's past was lengthened by these moments
pub record Grows (more : List Moment) (old new : DiskState) : Type 0 where
  pub past : new.past ≡ old.past ++ more
  -- what was allowed before is left by one of them, or still allowed
  pub keeps : (image : Bytes) (beside : List ℕ) → Leaves old.now image beside → Leaves new.now image beside ⊎ SomeLeaves more image beside

some_left : (first more : List Moment) (image : Bytes) (beside : List ℕ) → SomeLeaves (first ++ more) image beside
    → SomeLeaves first image beside ⊎ SomeLeaves more image beside
some_left [] more image beside left = inr left
some_left (m ∷ first) more image beside (inl here) = inl (inl here)
some_left (m ∷ first) more image beside (inr later) =
    elim (some_left first more image beside later) [ inl early ↦ inl (inr early) | inr late ↦ inr late ]

pub left_early : (first more : List Moment) (image : Bytes) (beside : List ℕ) → SomeLeaves first image beside → SomeLeaves (first ++ more) image beside
left_early [] more image beside left = absurd left
left_early (m ∷ first) more image beside (inl here) = inl here
left_early (m ∷ first) more image beside (inr later) = inr (left_early first more image beside later)

pub left_late : (first more : List Moment) (image : Bytes) (beside : List ℕ) → SomeLeaves more image beside → SomeLeaves (first ++ more) image beside
left_late [] more image beside left = left
left_late (m ∷ first) more image beside left = inr (left_late first more image beside left)

-- what was left since the call began is left now, or by one of the new moments
pub left_since : (more : List Moment) (old new : DiskState) → Grows more old new → (image : Bytes) (beside : List ℕ)
    → LeftSince new (moment old) image beside → Leaves new.now image beside ⊎ SomeLeaves more image beside
left_since more old new grows image beside (inl now) = inl now
left_since more old new grows image beside (inr past) =
    let P : List Moment → Type 0 = λ moments. SomeLeaves moments image beside in
    inr (subst P (ap (λ (l : List Moment). drop (moment old) l) grows.past ∙ drop_at old.past more (moment old) refl) past)

pub since_left : (more : List Moment) (old new : DiskState) → Grows more old new → (image : Bytes) (beside : List ℕ)
    → SomeLeaves more image beside → LeftSince new (moment old) image beside
since_left more old new grows image beside left =
    let P : List Moment → Type 0 = λ moments. SomeLeaves moments image beside in
    inr (subst P (sym (ap (λ (l : List Moment). drop (moment old) l) grows.past ∙ drop_at old.past more (moment old) refl)) left)

-- moments compose where the past is lengthened
pub grown : (more : List Moment) (old new : DiskState) → Grows more old new → GoesOn old new
grown more old new grows = record {
  later = let e = ap (λ (l : List Moment). length l) grows.past in omega (arith, length-append old.past more);
  nothing_else = λ since image beside early left. elim left as (λ _. LeftSince old since image beside ⊎ LeftSince new (moment old) image beside) [
    | inl now ↦ inr (inl now)
    | inr past ↦
        let P : List Moment → Type 0 = λ moments. SomeLeaves moments image beside in
        let split : SomeLeaves (drop since old.past ++ more) image beside = subst P (ap (λ (l : List Moment). drop since l) grows.past ∙ drop-append-le since old.past more early) past in
        elim (some_left (drop since old.past) more image beside split) as (λ _. LeftSince old since image beside ⊎ LeftSince new (moment old) image beside) [
          | inl before ↦ inl (inr before)
          | inr during ↦ inr (since_left more old new grows image beside during)
        ]
  ];
  keeps = λ since image beside early left.
      let P : List Moment → Type 0 = λ moments. SomeLeaves moments image beside in
      let whole : drop since new.past ≡ drop since old.past ++ more = ap (λ (l : List Moment). drop since l) grows.past ∙ drop-append-le since old.past more early in
      let late : SomeLeaves more image beside → LeftSince new since image beside = λ left. inr (subst P (sym whole) (left_late (drop since old.past) more image beside left)) in
      elim left as (λ _. LeftSince new since image beside) [
        | inl was ↦ elim was as (λ _. LeftSince new since image beside) [
          | inl now ↦ elim (grows.keeps image beside now) as (λ _. LeftSince new since image beside) [ inl still ↦ inl still | inr during ↦ late during ]
          | inr past ↦ inr (subst P (sym whole) (left_early (drop since old.past) more image beside past))
        ]
        | inr is ↦ elim (left_since more old new grows image beside is) as (λ _. LeftSince new since image beside) [ inl still ↦ inl still | inr during ↦ late during ]
      ];
}
