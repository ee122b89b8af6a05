-- Lists of weights, gone over word by word.
use Rattle.std.specs.Prelude.{◌≡◌, ◌≢◌, ℕ, ◌<◌, ◌≤◌, List, [], ◌∷◌, length, get_or, All, refl}
use Rattle.std.proofs.Common.{arith, ap, sym, ◌∙◌, subst, inl, inr}
use Rattle.std.proofs.lemmas.Bool.{cases_eq}
use Rattle.std.proofs.lemmas.Bool.Decides.{nat_tests}
use Rattle.std.proofs.lemmas.List.Elements.{All-nil, All-cons, All-head, All-tail}
use Rattle.lists_postings.proofs.Order.{next-tail}
use Rattle.lists_tails.specs.declared.weight.Weight.{Weight}
use Rattle.lists_tails.specs.States.{TailState}
use Rattle.lists_tails.specs.Tails.{held_of, room_of, HaveRoom}
use Rattle.lists_tails.specs.Weights.{AreWeights, weight_of}
use Rattle.lists_tails.specs.Passing.{first_of, behind, AreFrom}

abbrev pub Ascend : Weight → Weight → Type 0
Ascend x y = x.word.number < y.word.number

-- what is before the first word is before each
pub all-from : (x : Weight) (weights : List Weight) (w : ℕ) → AreWeights (x ∷ weights) → w ≤ x.word.number → AreFrom w (x ∷ weights)
all-from x [] w a l = All-cons (λ z. w ≤ z.word.number) x [] l (All-nil (λ z. w ≤ z.word.number))
all-from x (y ∷ weights) w a l = All-cons (λ z. w ≤ z.word.number) x (y ∷ weights) l (all-from y weights w (next-tail Ascend x (y ∷ weights) a) (omega (arith, l, a.0)))

pub from-first : (weights : List Weight) (x : Weight) (w : ℕ) → AreWeights weights → 0 < length weights → x ≡ get_or weights 0 x → w ≤ x.word.number → AreFrom w weights
from-first [] x w a n e l = absurd (omega (arith, n))
from-first (y ∷ weights) x w a n e l = all-from y weights w a (omega (arith, l, ap {B = ℕ} (λ (z : Weight). z.word.number) e))

-- no word of the list is w, nor before it
abbrev pub AreBehind : ℕ → List Weight → Type 0
AreBehind w weights = All (λ x. w < x.word.number) weights

all-behind : (x : Weight) (weights : List Weight) (w : ℕ) → AreWeights (x ∷ weights) → w < x.word.number → AreBehind w (x ∷ weights)
all-behind x [] w a l = All-cons (λ z. w < z.word.number) x [] l (All-nil (λ z. w < z.word.number))
all-behind x (y ∷ weights) w a l = All-cons (λ z. w < z.word.number) x (y ∷ weights) l (all-behind y weights w (next-tail Ascend x (y ∷ weights) a) (omega (arith, l, a.0)))

tail-behind : (x : Weight) (weights : List Weight) (w : ℕ) → AreWeights (x ∷ weights) → x.word.number ≡ w → AreBehind w weights
tail-behind x [] w a e = All-nil (λ z. w < z.word.number)
tail-behind x (y ∷ weights) w a e = all-behind y weights w (next-tail Ascend x (y ∷ weights) a) (omega (arith, e, a.0))

weight-none : (weights : List Weight) (w : ℕ) → AreBehind w weights → weight_of w weights ≡ 0
weight-none [] w b = refl
weight-none (x ∷ weights) w b =
    let l : w < x.word.number = All-head (λ z. w < z.word.number) x weights b in
    let r : weight_of w weights ≡ 0 = weight-none weights w (All-tail (λ z. w < z.word.number) x weights b) in
    grind (arith, nat_tests)

-- a list that begins with the word, and one that doesn't
behind-here : (x : Weight) (weights : List Weight) (w : ℕ) → x.word.number ≡ w → behind w (x ∷ weights) ≡ weights
behind-here x weights w e = grind (arith, nat_tests)

behind-away : (x : Weight) (weights : List Weight) (w : ℕ) → x.word.number ≢ w → behind w (x ∷ weights) ≡ x ∷ weights
behind-away x weights w n = grind (arith, nat_tests)

weight-here : (x : Weight) (weights : List Weight) (w : ℕ) → x.word.number ≡ w → weight_of w (x ∷ weights) ≡ x.tf
weight-here x weights w e = grind (arith, nat_tests)

weight-away : (x : Weight) (weights : List Weight) (w : ℕ) → x.word.number ≢ w → weight_of w (x ∷ weights) ≡ weight_of w weights
weight-away x weights w n = grind (arith, nat_tests)

first-here : (x : Weight) (weights : List Weight) (w : ℕ) → x.word.number ≡ w → first_of w (x ∷ weights) ≡ x.tf
first-here x weights w e = grind (arith, nat_tests)

first-away : (x : Weight) (weights : List Weight) (w : ℕ) → x.word.number ≢ w → first_of w (x ∷ weights) ≡ 0
first-away x weights w n = grind (arith, nat_tests)

pub behind-words : (weights : List Weight) (w : ℕ) → AreWeights weights → AreWeights (behind w weights)
behind-words [] w a = a
behind-words (x ∷ weights) w a = elim (cases_eq x.word.number w) [ inl e ↦ subst AreWeights (sym (behind-here x weights w e)) (next-tail Ascend x weights a) | inr n ↦ subst AreWeights (sym (behind-away x weights w n)) a ]

behind-behind : (weights : List Weight) (w : ℕ) → AreWeights weights → AreFrom w weights → AreBehind w (behind w weights)
behind-behind [] w a f = All-nil (λ z. w < z.word.number)
behind-behind (x ∷ weights) w a f = elim (cases_eq x.word.number w) [
  | inl e ↦ subst (AreBehind w) (sym (behind-here x weights w e)) (tail-behind x weights w a e)
  | inr n ↦ subst (AreBehind w) (sym (behind-away x weights w n)) (all-behind x weights w a (omega (arith, n, All-head (λ z. w ≤ z.word.number) x weights f)))
]

pub first-weight : (weights : List Weight) (w : ℕ) → AreWeights weights → AreFrom w weights → first_of w weights ≡ weight_of w weights
first-weight [] w a f = refl
first-weight (x ∷ weights) w a f = elim (cases_eq x.word.number w) [
  | inl e ↦ first-here x weights w e ∙ sym (weight-here x weights w e)
  | inr n ↦ first-away x weights w n ∙ sym (weight-none (x ∷ weights) w (all-behind x weights w a (omega (arith, n, All-head (λ z. w ≤ z.word.number) x weights f))))
]

pub behind-none : (weights : List Weight) (w : ℕ) → AreWeights weights → AreFrom w weights → weight_of w (behind w weights) ≡ 0
behind-none weights w a f = weight-none (behind w weights) w (behind-behind weights w a f)

pub behind-other : (weights : List Weight) (w v : ℕ) → v ≢ w → weight_of v (behind w weights) ≡ weight_of v weights
behind-other [] w v n = refl
behind-other (x ∷ weights) w v n = elim (cases_eq x.word.number w) [
  | inl e ↦ ap (weight_of v) (behind-here x weights w e) ∙ sym (weight-away x weights v (λ u. n (sym u ∙ e)))
  | inr m ↦ ap (weight_of v) (behind-away x weights w m)
]

-- room for the words that are left, where what is held for the others stays
pub room-behind : (weights : List Weight) (w : ℕ) (was now : List TailState) → AreWeights weights → AreFrom w weights → ((v : ℕ) → v ≢ w → held_of now v ≡ held_of was v) → HaveRoom weights was → HaveRoom (behind w weights) now
room-behind weights w was now a f same h = go (behind w weights) (behind-behind weights w a f) (left weights h)
  where
    left : (weights : List Weight) → HaveRoom weights was → HaveRoom (behind w weights) was
    left [] h = h
    left (x ∷ weights) h = elim (cases_eq x.word.number w) [
      | inl e ↦ subst (λ z. HaveRoom z was) (sym (behind-here x weights w e)) (All-tail (λ z. 1 ≤ room_of was z.word.number) x weights h)
      | inr n ↦ subst (λ z. HaveRoom z was) (sym (behind-away x weights w n)) h
    ]

    go : (list : List Weight) → AreBehind w list → HaveRoom list was → HaveRoom list now
    go list b h k d l =
        let e : room_of now (get_or list k d).word.number ≡ room_of was (get_or list k d).word.number = ap {B = ℕ} (λ (z : TailState). z.room) (same (get_or list k d).word.number (λ u. omega (arith, u, b k d l))) in
        omega (arith, e, h k d l)

-- a list that begins with the word has room for it
pub room-first : (weights : List Weight) (w : ℕ) (tails : List TailState) → first_of w weights ≢ 0 → HaveRoom weights tails → 1 ≤ room_of tails w
room-first [] w tails n h = absurd (n refl)
room-first (x ∷ weights) w tails n h = elim (cases_eq x.word.number w) [
  | inl e ↦ subst (λ z. 1 ≤ room_of tails z) e (All-head (λ z. 1 ≤ room_of tails z.word.number) x weights h)
  | inr m ↦ absurd (n (first-away x weights w m))
]
