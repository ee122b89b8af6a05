-- What is held for a word, where it is written.
use Rattle.std.specs.Prelude.{◌≡◌, ◌≢◌, ℕ, ◌^◌, refl, ◌+◌, ◌<◌, ◌≤◌, List, [], ◌∷◌, ◌++◌, length, get_or, set, take, Box, Option, Some, None}
use Rattle.std.specs.Box.{box_value, with_value}
use Rattle.std.specs.declared.alloc.Global.{Global}
use Rattle.std.proofs.Common.{arith, ap, sym, ◌∙◌, subst, inl, inr}
use Rattle.std.proofs.lemmas.Bool.{cases_lt, cases_eq}
use Rattle.std.proofs.lemmas.List.{get_or_read, get_or_past, get_or-set_same, take_more}
use Rattle.std.proofs.lemmas.List.Elements.{All-append, All-cons, All-nil}
use Rattle.base_types.specs.declared.posting.Posting.{Posting}
use Rattle.lists_tails.specs.declared.weight.Weight.{Weight}
use Rattle.lists_tails.specs.States.{TailState}
use Rattle.lists_tails.specs.Blocks.{held_in}
use Rattle.lists_tails.specs.Tails.{tail_of, room_of, HaveRoom}
use Rattle.lists_tails.specs.Turns.{IsTurned}
use Rattle.lists_tails.proofs.Passed.{turned-same, turned-never}

-- what has room is there
pub there : (tails : List TailState) (w : ℕ) → 1 ≤ room_of tails w → w < length tails
there tails w r = elim (cases_lt w (length tails)) [ inl l ↦ l | inr l ↦ absurd (omega (arith, r, ap {B = ℕ} (λ (h : TailState). h.room) (get_or_past tails w (record { list = []; room = 0 }) l))) ]

-- a relation of a word's tails, where what is held for it is written
pub written : (R : List Posting → List Posting → Type 0) (was tails : List TailState) (w : ℕ) (x y : TailState) → tails ≡ was → w < length tails → x ≡ get_or tails w x → R x.list y.list → R (tail_of was w) (tail_of (set tails w y) w)
written R was tails w x y v l e r =
    let none : TailState = record { list = []; room = 0 } in
    subst (λ z. R (tail_of was w) z) (sym (ap {B = List Posting} (λ (h : TailState). h.list) (get_or-set_same tails w y none l)))
    (subst (λ z. R z y.list) (ap {B = List Posting} (λ (h : TailState). h.list) (get_or_read tails w x l e none) ∙ ap (λ z. tail_of z w) v) r)

pub turned-at : (doc at old new : ℕ) (was tails : List TailState) (w : ℕ) (x y : TailState) → tails ≡ was → w < length tails → x ≡ get_or tails w x → IsTurned doc at old new x.list y.list → IsTurned doc at old new (tail_of was w) (tail_of (set tails w y) w)
turned-at doc at old new was tails w x y v l e h = written (IsTurned doc at old new) was tails w x y v l e h

-- room for words stays where there is no less room
pub room-kept : (weights : List Weight) (was now : List TailState) → ((w : ℕ) → room_of was w ≤ room_of now w) → HaveRoom weights was → HaveRoom weights now
room-kept weights was now more h k d l = omega (arith, h k d l, more (get_or weights k d).word.number)

-- room for one more word
pub room-more : (weights : List Weight) (i : ℕ) (x : Weight) (was now : List TailState) → i < length weights → x ≡ get_or weights i x → ((w : ℕ) → room_of was w ≤ room_of now w) → 1 ≤ room_of now x.word.number → HaveRoom (take i weights) was → HaveRoom (take (i + 1) weights) now
room-more weights i x was now l e more one h =
    subst (λ z. HaveRoom z now) (sym (take_more weights i x l ∙ ap (λ z. take i weights ++ z ∷ []) (sym e)))
    (All-append (λ z. 1 ≤ room_of now z.word.number) (take i weights) (x ∷ []) (room-kept (take i weights) was now more h) (All-cons (λ z. 1 ≤ room_of now z.word.number) x [] one (All-nil (λ z. 1 ≤ room_of now z.word.number))))

-- nothing loses no document, and gains none without room
pub turned-nothing : (doc at old new : ℕ) → at < 2 ^ 40 → (old ≢ new → new ≢ 0 → 1 ≤ 0) → IsTurned doc at old new [] []
turned-nothing doc at old new lb r = elim (cases_eq old new) [
  | inl e ↦ subst (λ z. IsTurned doc at old z [] []) e (turned-same doc at old [])
  | inr n ↦ elim (cases_eq new 0) [
    | inl z ↦ turned-never doc at old new [] 0 refl (λ i. record { inside = omega arith; before = All-nil (λ p. p.doc.0 ≤ doc); after = All-nil (λ p. doc < p.doc.0) }) lb (omega (arith, n, z))
    | inr m ↦ absurd (omega (arith, r n m))
  ]
]

-- a relation of what is held in blocks before and after they change
pub held-some : (R : List Posting → List Posting → Type 0) (was now : Option (Box TailState Global)) (b : Box TailState Global) (held x y : TailState) → held_in was ≡ held → was ≡ Some b → x ≡ box_value b → now ≡ Some (with_value b y) → R x.list y.list → R held.list (held_in now).list
held-some R was now b held x y v e f g r =
    let l : x.list ≡ held.list = ap {B = List Posting} (λ (h : TailState). h.list) (f ∙ ap held_in (sym e) ∙ v) in
    let m : y.list ≡ (held_in now).list = ap (λ n. (held_in n).list) (sym g) in
    subst (λ z. R held.list z) m (subst (λ z. R z y.list) l r)

-- and where there are none
pub held-none : (R : List Posting → List Posting → Type 0) (was now : Option (Box TailState Global)) (held : TailState) → held_in was ≡ held → was ≡ None → now ≡ was → R [] [] → R held.list (held_in now).list
held-none R was now held v e g r =
    let l : [] ≡ held.list = ap {B = List Posting} (λ (h : TailState). h.list) (ap held_in (sym e) ∙ v) in
    let m : [] ≡ (held_in now).list = ap (λ n. (held_in n).list) (sym (g ∙ e)) in
    subst (λ z. R held.list z) m (subst (λ z. R z []) l r)

-- blocks that aren't there have no room
pub no-room : (was : Option (Box TailState Global)) (held : TailState) → held_in was ≡ held → was ≡ None → held.room ≡ 0
no-room was held v e = ap {B = ℕ} (λ (h : TailState). h.room) (sym v ∙ ap held_in e)
