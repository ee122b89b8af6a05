-- The turns of a history, sorted by document.
use Rattle.std.specs.Prelude.{◌≡◌, ◌≢◌, ℕ, zero, suc, ◌+◌, ◌-◌, ◌^◌, ◌<◌, ◌≤◌, ◌==◌, Bool, true, false, nat_le, ◌&&◌, cond, List, [], ◌∷◌, ◌++◌, length, get_or, take, drop, map, reverse, filter, All, refl}
use Rattle.std.specs.List.Sorted.{IsNonDecreasingBy}
use Rattle.std.proofs.Common.{arith, ap, sym, ◌∙◌, subst, inl, inr}
use Rattle.std.proofs.lemmas.Bool.{cases_eq}
use Rattle.std.proofs.lemmas.Bool.Decides.{nat_tests}
use Rattle.std.proofs.lemmas.List.{map-append, reverse-append, take_more, take-append-drop, get_or_read}
use Rattle.std.proofs.lemmas.List.Elements.{All-head, All-tail, All-cons, All-filter, filter-append}
use Rattle.base_types.specs.declared.posting.Posting.{Posting}
use Rattle.lists_postings.specs.ListsOf.{IsListOf}
use Rattle.lists_tails.specs.declared.document.Turn.{Turn}
use Rattle.lists_tails.specs.Turns.{turned_one, IsTurned}
use Rattle.lists_tails.specs.Weights.{weight_of}
use Rattle.lists_tails.specs.Acts.{Act, Turns, LetsTurn, frequency_after, open_after, AreInOrder}
use Rattle.lists_tails.specs.Gathered.{act_of, acts_of, is_of}
use Rattle.lists_tails.proofs.Followed.{turned-away, open-here, open-away, steady, list-same}

-- the turns of document d
abbrev pub is_act_of : ℕ → Act → Bool
is_act_of d (Turns doc at new) = doc == d

kept-here : (doc at : ℕ) (new : ℕ → ℕ) (acts : List Act) (d : ℕ) → doc ≡ d → filter (is_act_of d) (Turns doc at new ∷ acts) ≡ Turns doc at new ∷ filter (is_act_of d) acts
kept-here doc at new acts d e = grind (arith, nat_tests)

kept-away : (doc at : ℕ) (new : ℕ → ℕ) (acts : List Act) (d : ℕ) → doc ≢ d → filter (is_act_of d) (Turns doc at new ∷ acts) ≡ filter (is_act_of d) acts
kept-away doc at new acts d n = grind (arith, nat_tests)

-- a document's frequency is told by its own turns
frequency-kept : (acts : List Act) (w d t : ℕ) → frequency_after (filter (is_act_of d) acts) w d t ≡ frequency_after acts w d t
frequency-kept [] w d t = refl
frequency-kept (Turns doc at new ∷ acts) w d t = elim (cases_eq doc d) [
  | inl e ↦ ap (λ z. frequency_after z w d t) (kept-here doc at new acts d e) ∙ ap {B = ℕ} (λ z. cond (d == doc && nat_le at t) (new w) z) (frequency-kept acts w d t)
  | inr n ↦ ap (λ z. frequency_after z w d t) (kept-away doc at new acts d n) ∙ frequency-kept acts w d t ∙ sym (turned-away (frequency_after acts) doc at new w d t (λ u. n (sym u)))
]

-- and so are the weights that it has open
open-kept : (acts : List Act) (w d : ℕ) → open_after (filter (is_act_of d) acts) w d ≡ open_after acts w d
open-kept [] w d = refl
open-kept (Turns doc at new ∷ acts) w d = elim (cases_eq doc d) [
  | inl e ↦ ap (λ z. open_after z w d) (kept-here doc at new acts d e) ∙ open-here doc at new (filter (is_act_of d) acts) w d (sym e) ∙ sym (open-here doc at new acts w d (sym e))
  | inr n ↦ ap (λ z. open_after z w d) (kept-away doc at new acts d n) ∙ open-kept acts w d ∙ sym (open-away doc at new acts w d (λ u. n (sym u)))
]

-- acts are in order exactly where those of each document are
order-kept : (acts : List Act) (d : ℕ) → AreInOrder acts → AreInOrder (filter (is_act_of d) acts)
order-kept [] d o = tt
order-kept (Turns doc at new ∷ acts) d o = elim (cases_eq doc d) [
  | inl e ↦ subst AreInOrder (sym (kept-here doc at new acts d e)) (All-filter (is_act_of d) (LetsTurn doc at) acts o.0, order-kept acts d o.1)
  | inr n ↦ subst AreInOrder (sym (kept-away doc at new acts d n)) (order-kept acts d o.1)
]

lets : (acts : List Act) (doc at : ℕ) → All (LetsTurn doc at) (filter (is_act_of doc) acts) → All (LetsTurn doc at) acts
lets [] doc at a = a
lets (Turns d s new ∷ acts) doc at a = elim (cases_eq d doc) [
  | inl e ↦
      let b : All (LetsTurn doc at) (Turns d s new ∷ filter (is_act_of doc) acts) = subst (All (LetsTurn doc at)) (kept-here d s new acts doc e) a in
      All-cons (LetsTurn doc at) (Turns d s new) acts (All-head (LetsTurn doc at) (Turns d s new) (filter (is_act_of doc) acts) b) (lets acts doc at (All-tail (LetsTurn doc at) (Turns d s new) (filter (is_act_of doc) acts) b))
  | inr n ↦ All-cons (LetsTurn doc at) (Turns d s new) acts (λ u. absurd (n u)) (lets acts doc at (subst (All (LetsTurn doc at)) (kept-away d s new acts doc n) a))
]

order-from : (acts : List Act) → ((d : ℕ) → AreInOrder (filter (is_act_of d) acts)) → AreInOrder acts
order-from [] h = tt
order-from (Turns doc at new ∷ acts) h = (lets acts doc at (subst AreInOrder (kept-here doc at new acts doc refl) (h doc)).0, order-from acts others)
  where
    others : (d : ℕ) → AreInOrder (filter (is_act_of d) acts)
    others d = elim (cases_eq doc d) [
      | inl e ↦ (subst AreInOrder (kept-here doc at new acts d e) (h d)).1
      | inr n ↦ subst AreInOrder (kept-away doc at new acts d n) (h d)
    ]

-- a document's acts are those of its turns
filter-reverse : {X : Type 0} (p : X → Bool) (xs : List X) → filter p (reverse xs) ≡ reverse (filter p xs)
filter-reverse p [] = refl
filter-reverse p (x ∷ xs) = ap (filter p) (reverse-append (x ∷ []) xs) ∙ filter-append p (reverse xs) (x ∷ []) ∙ ap (λ z. z ++ filter p (x ∷ [])) (filter-reverse p xs) ∙ go (p x)
  where
    go : (b : Bool) → reverse (filter p xs) ++ cond b (x ∷ []) [] ≡ reverse (cond b (x ∷ filter p xs) (filter p xs))
    go true = sym (reverse-append (x ∷ []) (filter p xs))
    go false = sym (reverse-append [] (filter p xs))

filter-acts : (turns : List Turn) (d : ℕ) → filter (is_act_of d) (map act_of turns) ≡ map act_of (filter (is_of d) turns)
filter-acts [] d = refl
filter-acts (x ∷ turns) d = ap (λ z. cond (x.doc.0 == d) (act_of x ∷ z) z) (filter-acts turns d) ∙ go (x.doc.0 == d)
  where
    go : (b : Bool) → cond b (act_of x ∷ map act_of (filter (is_of d) turns)) (map act_of (filter (is_of d) turns)) ≡ map act_of (cond b (x ∷ filter (is_of d) turns) (filter (is_of d) turns))
    go true = refl
    go false = refl

acts-kept : (turns : List Turn) (d : ℕ) → filter (is_act_of d) (acts_of turns) ≡ acts_of (filter (is_of d) turns)
acts-kept turns d = filter-reverse (is_act_of d) (map act_of turns) ∙ ap (λ z. reverse z) (filter-acts turns d)

alike : (turns sorted : List Turn) → ((d : ℕ) → filter (is_of d) sorted ≡ filter (is_of d) turns) → (d : ℕ) → filter (is_act_of d) (acts_of sorted) ≡ filter (is_act_of d) (acts_of turns)
alike turns sorted s d = acts-kept sorted d ∙ ap acts_of (s d) ∙ sym (acts-kept turns d)

pub sorted-order : (turns sorted : List Turn) → ((d : ℕ) → filter (is_of d) sorted ≡ filter (is_of d) turns) → AreInOrder (acts_of turns) → AreInOrder (acts_of sorted)
sorted-order turns sorted s o = order-from (acts_of sorted) (λ d. subst AreInOrder (sym (alike turns sorted s d)) (order-kept (acts_of turns) d o))

pub sorted-frequency : (turns sorted : List Turn) → ((d : ℕ) → filter (is_of d) sorted ≡ filter (is_of d) turns) → (w d t : ℕ) → frequency_after (acts_of sorted) w d t ≡ frequency_after (acts_of turns) w d t
sorted-frequency turns sorted s w d t =
    sym (frequency-kept (acts_of sorted) w d t) ∙ ap (λ z. frequency_after z w d t) (alike turns sorted s d) ∙ frequency-kept (acts_of turns) w d t

pub sorted-open : (turns sorted : List Turn) → ((d : ℕ) → filter (is_of d) sorted ≡ filter (is_of d) turns) → (w d : ℕ) → open_after (acts_of sorted) w d ≡ open_after (acts_of turns) w d
sorted-open turns sorted s w d =
    sym (open-kept (acts_of sorted) w d) ∙ ap (λ z. open_after z w d) (alike turns sorted s d) ∙ open-kept (acts_of turns) w d

-- one turn more
acts-more : (turns : List Turn) (k : ℕ) (x : Turn) → k < length turns → acts_of (take (k + 1) turns) ≡ act_of (get_or turns k x) ∷ acts_of (take k turns)
acts-more turns k x l = ap acts_of (take_more turns k x l) ∙ ap (λ z. reverse z) (map-append act_of (take k turns) (get_or turns k x ∷ [])) ∙ reverse-append (map act_of (take k turns)) (act_of (get_or turns k x) ∷ [])

order-rest : (xs ys : List Act) → AreInOrder (xs ++ ys) → AreInOrder ys
order-rest [] ys o = o
order-rest (Turns doc at new ∷ xs) ys o = order-rest xs ys o.1

order-take : (turns : List Turn) (k : ℕ) → AreInOrder (acts_of turns) → AreInOrder (acts_of (take k turns))
order-take turns k o = order-rest (acts_of (drop k turns)) (acts_of (take k turns)) (subst AreInOrder (ap acts_of (sym (take-append-drop k turns)) ∙ ap (λ z. reverse z) (map-append act_of (take k turns) (drop k turns)) ∙ reverse-append (map act_of (take k turns)) (map act_of (drop k turns))) o)

-- what a document has open
open-none : (turns : List Turn) (e : Turn) (k w d : ℕ) → k ≤ length turns → ((i : ℕ) → i < k → (get_or turns i e).doc.0 < d) → open_after (acts_of (take k turns)) w d ≡ 0
open-none turns e zero w d l h = refl
open-none turns e (suc k) w d l h =
    let x = get_or turns k e in
    let n : d ≢ x.doc.0 = λ u. omega (arith, u, h k (omega arith)) in
    let s : suc k ≡ k + 1 = omega arith in
    ap (λ z. open_after (acts_of (take z turns)) w d) s ∙ ap (λ z. open_after z w d) (acts-more turns k e (omega (arith, l)))
    ∙ open-away x.doc.0 x.at.seconds (λ v. weight_of v x.weights.items) (acts_of (take k turns)) w d n
    ∙ open-none turns e k w d (omega (arith, l)) (λ i m. h i (omega (arith, m)))

pub open-other : (turns : List Turn) (i : ℕ) (last next e : Turn) → i ≢ 0 → i < length turns → last ≡ get_or turns (i - 1) last → next ≡ get_or turns i next → last.doc.0 ≢ next.doc.0 → IsNonDecreasingBy (λ x. x.doc.0) turns → (w : ℕ) → 0 ≡ open_after (acts_of (take i turns)) w (get_or turns i e).doc.0
open-other turns i last next e m l a b n s w =
    let c : last.doc.0 ≡ (get_or turns (i - 1) e).doc.0 = ap {B = ℕ} (λ (x : Turn). x.doc.0) (get_or_read turns (i - 1) last (omega (arith, l)) a e) in
    let f : next.doc.0 ≡ (get_or turns i e).doc.0 = ap {B = ℕ} (λ (x : Turn). x.doc.0) (get_or_read turns i next l b e) in
    sym (open-none turns e i w (get_or turns i e).doc.0 (omega (arith, l)) (λ j k. omega (arith, c, f, n, s j (i - 1) e (omega (arith, k)) (omega (arith, l)), s (i - 1) i e (omega arith) l)))

-- the next turn's document passes on
pub gather-more : (turns : List Turn) (i : ℕ) (x : Turn) (w o : ℕ) (was mid now : List Posting) → i < length turns → x ≡ get_or turns i x → AreInOrder (acts_of turns) → o ≡ open_after (acts_of (take i turns)) w x.doc.0 → mid ≡ was
    → IsTurned x.doc.0 x.at.seconds o (weight_of w x.weights.items) mid now → IsListOf (frequency_after (acts_of (take i turns)) w) 0 (2 ^ 40) was → IsListOf (frequency_after (acts_of (take (i + 1) turns)) w) 0 (2 ^ 40) now
gather-more turns i x w o was mid now l e order held m turned list =
    let earlier = acts_of (take i turns) in
    let more : acts_of (take (i + 1) turns) ≡ act_of x ∷ earlier = acts-more turns i x l ∙ ap (λ z. act_of z ∷ earlier) (sym e) in
    let s : AreInOrder (act_of x ∷ earlier) = subst AreInOrder more (order-take turns (i + 1) order) in
    subst (λ z. IsListOf (frequency_after z w) 0 (2 ^ 40) now) (sym more)
    (list-same (turned_one (frequency_after earlier w) x.doc.0 x.at.seconds (weight_of w x.weights.items)) (frequency_after (act_of x ∷ earlier) w) 0 (2 ^ 40) now (λ d t. refl)
    (turned (frequency_after earlier w) 0 (omega arith) (λ t k. steady earlier w x.doc.0 x.at.seconds s.0 t k ∙ sym held) (subst (IsListOf (frequency_after earlier w) 0 (2 ^ 40)) (sym m) list)))
