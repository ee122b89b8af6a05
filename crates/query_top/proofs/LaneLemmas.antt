-- Going on with a lane.
use Rattle.std.specs.Prelude.{◌≡◌, ◌≢◌, ◌⊎◌, ℕ, zero, suc, ◌+◌, ◌*◌, ◌^◌, ◌<◌, ◌≤◌, ◌==◌, ◌&&◌, max, min, true, cond, List, [], ◌∷◌, length, drop, get_or, refl}
use Rattle.std.proofs.Common.{arith, ap, sym, ◌∙◌, subst, inl, inr}
use Rattle.std.proofs.lemmas.Bool.{cases_lt}
use Rattle.std.proofs.lemmas.Bool.Decides.{nat_tests, eqb_tells}
use Rattle.base_types.specs.declared.posting.Posting.{Posting}
use Rattle.lists_postings.specs.Lists.{holds}
use Rattle.pages_codec.specs.declared.head.BlockHead.{BlockHead}
use Rattle.query_top.specs.Firsts.{Each}
use Rattle.query_top.specs.Sheets.{Sheet, IsSheet, joined, often, greatest, covers, most, no_head}
use Rattle.query_top.specs.Lanes.{tally, AreAscending, Keeps, Stands}
use Rattle.query_top.specs.declared.lane.Lane.{Lane}
use Rattle.query_top.proofs.EachLemmas.{each-weaker, drop-at}
use Rattle.query_top.proofs.HeadLemmas.{sheet-order, order-at, list-ascends, freq-joined, freq-greatest, freq-none, freq-append, top-at, each-from}

pub covers-tells : (x : ℕ) (h : BlockHead) → covers x h ≡ true → (h.first.0 ≤ x) × (x ≤ h.last.0)
covers-tells x h e = (grind (arith, nat_tests), grind (arith, nat_tests))

pub covers-yes : (x : ℕ) (h : BlockHead) → h.first.0 ≤ x → x ≤ h.last.0 → covers x h ≡ true
covers-yes x h a b = grind (arith, nat_tests)

-- what a document has is at most what the blocks that cover it and the postings outside allow
often-most : (at : ℕ) (s : Sheet) (x n f t : ℕ) → IsSheet at s → Each (λ p. (f ≤ p.doc.0) × (p.doc.0 < t)) s.flat
    → ((i : ℕ) → i < length s.heads → covers x (get_or s.heads i no_head) ≡ true → (get_or s.heads i no_head).top ≤ n)
    → (f ≤ x → x < t → greatest s.flat ≤ n) → often at x s ≤ n
often-most at s x n f t sheet flats each flat =
    freq-append x at n (joined s.blocks) s.flat
    (freq-joined x at n s.heads s.blocks sheet.heads_are (list-ascends (joined s.blocks) sheet.listed) (each-from (λ h. covers x h ≡ true → h.top ≤ n) no_head s.heads each))
    (elim (cases_lt x f) [
      | inl k ↦ let z = freq-none x at s.flat (each-weaker _ (λ p. p.doc.0 ≢ x) (λ p r. λ e. omega (arith, r.0, e, k)) s.flat flats) in omega (arith, z)
      | inr k ↦ elim (cases_lt x t) [
        | inl l ↦ let g = freq-greatest x at s.flat in let m = flat k l in omega (arith, g, m)
        | inr l ↦ let z = freq-none x at s.flat (each-weaker _ (λ p. p.doc.0 ≢ x) (λ p r. λ e. omega (arith, r.1, e, l)) s.flat flats) in omega (arith, z)
      ]
    ])

-- what is known of the blocks that cover a document
pub record Reaches (heads : List BlockHead) (d cover after top start end : ℕ) : Type 0 where
  pub within : cover ≤ length heads
  pub reached : cover < length heads → d ≤ (get_or heads cover no_head).last.0
  pub behind : cover ≤ after
  pub reaches : after ≤ length heads
  pub begun : (i : ℕ) → cover ≤ i → i < after → (get_or heads i no_head).first.0 ≤ d
  pub later : after < length heads → d < (get_or heads after no_head).first.0
  pub high : (i : ℕ) → cover ≤ i → i < after → (get_or heads i no_head).top ≤ top
  pub low : (top ≡ 0) ⊎ ((i : ℕ) × (cover ≤ i) × (i < after) × (top ≡ (get_or heads i no_head).top))
  pub start_some : after < length heads → start ≡ (get_or heads after no_head).first.0
  pub start_ends : start ≤ 2 ^ 32
  pub end_some : cover < after → end ≡ (get_or heads cover no_head).last.0 + 1

-- blocks that were passed, and those that are now
pub passed-more : (heads : List BlockHead) (d old new : ℕ) → ((i : ℕ) → i < old → i < length heads → (get_or heads i no_head).last.0 < d) → ((i : ℕ) → old ≤ i → i < new → (get_or heads i no_head).last.0 < d)
    → (i : ℕ) → i < new → i < length heads → (get_or heads i no_head).last.0 < d
passed-more heads d old new f g i l m = elim (cases_lt i old) [ inl k ↦ f i k m | inr k ↦ g i k l ]

pub stands-moved : (at : ℕ) (s : Sheet) (d : ℕ) (lane : Lane) (top end flat flat_end : ℕ) → IsSheet at s → Keeps at s d lane
    → Reaches s.heads d lane.cover lane.after top lane.start end
    → flat ≤ lane.flat_top → ((x : ℕ) → d ≤ x → x < flat_end → lane.flat_from ≤ x → x < lane.flat_to → flat ≡ lane.flat_top)
    → lane.top ≡ max top flat → lane.border ≡ min (min lane.start end) flat_end
    → Stands at s d lane
stands-moved at s d lane top end flat flat_end sheet keeps r most_ none is border = record {
  high = λ x a b. often-most at s x lane.top lane.flat_from lane.flat_to sheet keeps.flat_from
      (λ i l c. covered x i a b l (covers-tells x (get_or s.heads i no_head) c))
      (λ f t. let z = none x a (omega (arith, b, border)) f t in let g = keeps.flat_top in omega (arith, z, g, is));
  low = λ x a b. low x a b r.low;
  range = range;
  reaches = r.reaches;
  behind = r.behind;
  opened = opens;
  later = λ i l m. later i l m;
  border = omega (arith, border);
  ends = r.start_ends;
}
  where
    order : (i j : ℕ) → i ≤ j → j < length s.heads → ((get_or s.heads i no_head).first.0 ≤ (get_or s.heads j no_head).first.0) × ((get_or s.heads i no_head).last.0 ≤ (get_or s.heads j no_head).last.0)
    order i j l m = order-at s.heads i j no_head (sheet-order at s sheet) l m

    later : (i : ℕ) → lane.after ≤ i → i < length s.heads → lane.start ≤ (get_or s.heads i no_head).first.0
    later i l m = let o = (order lane.after i l m).0 in let e = r.start_some (omega (arith, l, m)) in omega (arith, o, e)

    range : (x i : ℕ) → d ≤ x → x < lane.border → lane.cover ≤ i → i < lane.after → covers x (get_or s.heads i no_head) ≡ true
    range x i a b l m =
        let f = r.begun i l m in
        let e = r.end_some (omega (arith, l, m)) in
        let q = r.reaches in
        let o = (order lane.cover i l (omega (arith, m, q))).1 in
        covers-yes x (get_or s.heads i no_head) (omega (arith, f, a)) (omega (arith, e, o, b, border))

    covered : (x i : ℕ) → d ≤ x → x < lane.border → i < length s.heads → ((get_or s.heads i no_head).first.0 ≤ x) × (x ≤ (get_or s.heads i no_head).last.0) → (get_or s.heads i no_head).top ≤ lane.top
    covered x i a b l c = elim (cases_lt i lane.cover) [
      | inl k ↦ absurd (let p = keeps.passed i k l in omega (arith, p, a, c.1))
      | inr k ↦ elim (cases_lt i lane.after) [
        | inl m ↦ let h = r.high i k m in omega (arith, h, is)
        | inr m ↦ absurd (let p = later i m l in omega (arith, p, b, border, c.0))
      ]
    ]

    low : (x : ℕ) → d ≤ x → x < lane.border → (top ≡ 0) ⊎ ((i : ℕ) × (lane.cover ≤ i) × (i < lane.after) × (top ≡ (get_or s.heads i no_head).top)) → lane.top ≤ most (covers x) s
    low x a b (inl z) = let g = keeps.flat_top in omega (arith, z, g, is, most_)
    low x a b (inr q) =
        let g = keeps.flat_top in
        let v = r.reaches in
        let t = top-at (covers x) s.heads q.0 no_head (omega (arith, q.2, v)) (range x q.0 a b q.1 q.2) in
        let e = q.3 in
        omega (arith, g, is, most_, t, e)

    opens : lane.opened ≤ lane.after
    opens = elim (cases_lt lane.after lane.opened) [
      | inl k ↦ absurd (let w = keeps.within in let f = keeps.begun lane.after k in let g = r.later (omega (arith, k, w)) in omega (arith, f, g))
      | inr k ↦ k
    ]

-- nothing is found before where the documents go on, and what is passed stays so
pub keeps-on : (at : ℕ) (s : Sheet) (d e : ℕ) (lane : Lane) → d ≤ e → Keeps at s d lane → Keeps at s e lane
keeps-on at s d e lane l k = record {
  passed = λ i a b. let p = k.passed i a b in omega (arith, p, l);
  covering = k.covering;
  begun = λ i a. let p = k.begun i a in omega (arith, p, l);
  within = k.within;
  tells = λ x a. k.tells x (omega (arith, l, a));
  ascending = k.ascending;
  ahead = k.ahead;
  flat_from = k.flat_from;
  flat_top = k.flat_top;
  ends = k.ends;
}

pub stands-on : (at : ℕ) (s : Sheet) (d e : ℕ) (lane : Lane) → d ≤ e → Stands at s d lane → Stands at s e lane
stands-on at s d e lane l k = record {
  high = λ x a b. k.high x (omega (arith, l, a)) b;
  low = λ x a b. k.low x (omega (arith, l, a)) b;
  range = λ x i a b. k.range x i (omega (arith, l, a)) b;
  reaches = k.reaches;
  behind = k.behind;
  opened = k.opened;
  later = k.later;
  border = k.border;
  ends = k.ends;
}

-- ---- adding up

pub tally-cons : (at x : ℕ) (p : Posting) (ps : List Posting) → tally at x (p ∷ ps) ≡ tally at x (p ∷ []) + tally at x ps
tally-cons at x p ps = omega arith

-- of later documents there is nothing before
pub tally-none : (at x : ℕ) (ps : List Posting) → Each (λ p. p.doc.0 ≢ x) ps → tally at x ps ≡ 0
tally-none at x [] e = refl
tally-none at x (p ∷ ps) e = elim (eqb_tells p.doc.0 x) [
  | inl h ↦ absurd (e.0 h.1)
  | inr h ↦ let z : cond (p.doc.0 == x && holds at p) p.tf 0 ≡ 0 = ap {B = ℕ} (λ b. cond (b && holds at p) p.tf 0) h.0 in let r = tally-none at x ps e.1 in omega (arith, z, r)
]

pub tally-other : (at x : ℕ) (p : Posting) → p.doc.0 ≢ x → tally at x (p ∷ []) ≡ 0
tally-other at x p n = tally-none at x (p ∷ []) (n, tt)

pub ascends-from : (n : ℕ) (ps : List Posting) (d : Posting) → n < length ps → AreAscending ps → Each (λ q. (get_or ps n d).doc.0 ≤ q.doc.0) (drop n ps)
ascends-from n [] d l a = absurd (omega arith)
ascends-from zero (p ∷ ps) d l a = (omega arith, a.0)
ascends-from (suc n) (p ∷ ps) d l a = ascends-from n ps d (omega arith) a.1

-- nothing is left of a document before the next hit
pub tally-before : (at x n : ℕ) (ps : List Posting) (p : Posting) → n < length ps → p ≡ get_or ps n p → AreAscending ps → x < p.doc.0 → tally at x (drop n ps) ≡ 0
tally-before at x n ps p l is a b = tally-none at x (drop n ps) (each-weaker _ (λ q. q.doc.0 ≢ x) (λ q k. λ e. omega (arith, k, e, b, ap (λ (y : Posting). y.doc.0) is)) (drop n ps) (ascends-from n ps p l a))

-- no hit is left for the documents before an end
pub add-done : (at from k len cursor w a b : ℕ) (hits : List Posting) (p : Posting) → a + w * tally at (from + k) (drop cursor hits) ≡ b → cursor < length hits → p ≡ get_or hits cursor p → AreAscending hits → from + len ≤ p.doc.0 → k < len → a ≡ b
add-done at from k len cursor w a b hits p e l is asc far m =
    let z : tally at (from + k) (drop cursor hits) ≡ 0 = tally-before at (from + k) cursor hits p l is asc (omega (arith, far, m)) in
    let y : a + w * 0 ≡ b = subst (λ n. a + w * n ≡ b) z e in
    omega (arith, y)

-- one hit more
pub tally-next : (at x cursor : ℕ) (hits : List Posting) (p : Posting) → cursor < length hits → p ≡ get_or hits cursor p → tally at x (drop cursor hits) ≡ tally at x (p ∷ []) + tally at x (drop (cursor + 1) hits)
tally-next at x cursor hits p l is = ap (tally at x) (drop-at cursor hits p l ∙ ap (λ y. y ∷ drop (cursor + 1) hits) (sym is)) ∙ tally-cons at x p (drop (cursor + 1) hits)

pub add-fits : (w a b one rest all : ℕ) → a + w * all ≡ b → b < 2 ^ 64 → all ≡ one + rest → a + w * one < 2 ^ 64
add-fits w a b one rest all e l f =
    let h : a + w * (one + rest) ≡ b = subst (λ n. a + w * n ≡ b) f e in
    omega (arith, h, l)

pub add-more : (w a new b one rest all : ℕ) → a + w * all ≡ b → all ≡ one + rest → new ≡ a + w * one → new + w * rest ≡ b
add-more w a new b one rest all e f g =
    let h : a + w * (one + rest) ≡ b = subst (λ n. a + w * n ≡ b) f e in
    omega (arith, h, g)
