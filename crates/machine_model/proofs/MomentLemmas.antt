-- How clauses on what was left are joined over calls in a row.
use Rattle.std.proofs.Common.{◌⊎◌, ℕ, ◌≤◌, List, [], ◌∷◌, length, drop, refl, inl, inr, ap, subst, sym, ◌∙◌, arith}
use Rattle.machine_model.specs.Areas.{Bytes}
use Rattle.machine_model.specs.States.{Moment, DiskState, moment}
use Rattle.machine_model.specs.Images.{MayLeave, Leaves}
use Rattle.machine_model.specs.Moments.{SomeLeaves, LeftSince, LeavesOnly, GoesOn}
use Rattle.machine_model.specs.Calls.{OnlyReads}

-- what is left since a first call is left since that call, or since the next one
pub joined : {a b c : DiskState} (P : Bytes → List ℕ → Type 0) → GoesOn a b → LeavesOnly a b P → GoesOn b c → LeavesOnly b c P → LeavesOnly a c P
joined {a} {b} {c} P first early second late = λ image beside left.
    elim (second.nothing_else (moment a) image beside first.later left) [ inl was ↦ early image beside was | inr is ↦ late image beside is ]

-- moments compose over calls in a row
pub goes_on_joins : {a b c : DiskState} → GoesOn a b → GoesOn b c → GoesOn a c
goes_on_joins {a} {b} {c} first second = record {
  later = omega (arith, first.later, second.later);
  nothing_else = λ since image beside early left.
      let late : since ≤ moment b = omega (arith, first.later) in
      elim (second.nothing_else since image beside late left) as (λ _. LeftSince a since image beside ⊎ LeftSince c (moment a) image beside) [
        | inl was ↦ elim (first.nothing_else since image beside early was) as (λ _. LeftSince a since image beside ⊎ LeftSince c (moment a) image beside) [
          | inl begun ↦ inl begun
          | inr during ↦ inr (second.keeps (moment a) image beside first.later (inl during))
        ]
        | inr is ↦ inr (second.keeps (moment a) image beside first.later (inr is))
      ];
  keeps = λ since image beside early left.
      let late : since ≤ moment b = omega (arith, first.later) in
      elim left as (λ _. LeftSince c since image beside) [
        | inl begun ↦ second.keeps since image beside late (inl (first.keeps since image beside early (inl begun)))
        | inr is ↦ elim (second.nothing_else (moment a) image beside first.later is) as (λ _. LeftSince c since image beside) [
          | inl during ↦ second.keeps since image beside late (inl (first.keeps since image beside early (inr during)))
          | inr after ↦ second.keeps since image beside late (inr after)
        ]
      ];
}

none_left : (moments : List Moment) (image : Bytes) (beside : List ℕ) → SomeLeaves (drop (length moments) moments) image beside → ⊥
none_left [] image beside left = left
none_left (m ∷ moments) image beside left = none_left moments image beside left

-- since now there is no image but one that is allowed now
pub since_now : (d : DiskState) (image : Bytes) (beside : List ℕ) → LeftSince d (moment d) image beside → Leaves d.now image beside
since_now d image beside (inl now) = now
since_now d image beside (inr past) = absurd (none_left d.past image beside past)

-- where nothing happened since, what is left is what is allowed now
pub left_now : (d : DiskState) (P : Bytes → List ℕ → Type 0) → ((image : Bytes) → MayLeave d.now image → P image d.now.beside) → LeavesOnly d d P
left_now d P holds = λ image beside left.
    let now = since_now d image beside left in
    let R : List ℕ → Type 0 = λ b. P image b in
    subst R (sym now.1) (holds image now.0)

-- moments compose over no call
pub goes_on_same : (d : DiskState) → GoesOn d d
goes_on_same d = record {
  later = omega arith;
  nothing_else = λ since image beside early left. inl left;
  keeps = λ since image beside early left. elim left as (λ _. LeftSince d since image beside) [
    | inl was ↦ was
    | inr now ↦ inl (since_now d image beside now)
  ];
}

-- what is allowed now was left since any moment up to now
pub allowed_left : (d : DiskState) (since : ℕ) (image : Bytes) → MayLeave d.now image → LeftSince d since image d.now.beside
allowed_left d since image allowed = inl (allowed, refl)

-- calls that change nothing but counts leave what is allowed
pub goes_on_reads : (old new : DiskState) → OnlyReads old new → GoesOn old new
goes_on_reads old new same =
    let P : DiskState → Type 0 = λ d. GoesOn old d in
    subst P (sym same) (let g = goes_on_same old in record { later = g.later; nothing_else = g.nothing_else; keeps = g.keeps })

pub reads_join : (a b c : DiskState) → OnlyReads a b → OnlyReads b c → OnlyReads a c
reads_join a b c first second = second ∙ ap (λ (d : DiskState). record d { faults = c.faults; bytes_read = c.bytes_read }) first
