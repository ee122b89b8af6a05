-- What lanes give a document is its score.
use Rattle.std.specs.Prelude.{◌≡◌, ◌≢◌, ℕ, zero, suc, ◌+◌, ◌-◌, ◌*◌, ◌^◌, ◌<◌, ◌≤◌, ◌==◌, ◌&&◌, Bool, true, false, cond, List, [], ◌∷◌, ◌++◌, length, take, drop, get_or, refl}
use Rattle.std.specs.List.{AllZip}
use Rattle.std.proofs.Common.{arith, ap, sym, ◌∙◌, inl, inr}
use Rattle.std.proofs.Math.ListN.{set}
use Rattle.std.proofs.Math.Nat.{mul-le-mul_left}
use Rattle.std.proofs.lemmas.Bool.Decides.{nat_tests, eqb_tells}
use Rattle.std.proofs.lemmas.List.{take_all}
use Rattle.base_types.specs.declared.posting.Posting.{Posting}
use Rattle.lists_postings.specs.Lists.{ComesBefore, IsList, frequency, holds}
use Rattle.query_top.specs.Firsts.{Each}
use Rattle.query_top.specs.Sheets.{Sheet, IsSheet, joined, often, total, score, no_head}
use Rattle.query_top.specs.Lanes.{tally, given, weighted, weights_of, AreFit, Lies}
use Rattle.query_top.specs.declared.lane.Lane.{Lane}
use Rattle.query_top.proofs.EachLemmas.{each-weaker}
use Rattle.query_top.proofs.HeadLemmas.{all-behind, list-tail}
use Rattle.query_top.proofs.LaneLemmas.{tally-none}
use Rattle.query_top.proofs.OpenLemmas.{block-is, tally-block, zip-length}

-- ---- sums over lanes

pub total-under : (R : Sheet → Lane → Type 0) (f : Sheet → ℕ) (g : Lane → ℕ) → ((s : Sheet) (l : Lane) → R s l → f s ≤ g l) → (ss : List Sheet) (ls : List Lane) → AllZip R ss ls → total f (weights_of ls) ss ≤ weighted g ls
total-under R f g h [] [] z = omega arith
total-under R f g h [] (l ∷ ls) z = absurd z
total-under R f g h (s ∷ ss) [] z = absurd z
total-under R f g h (s ∷ ss) (l ∷ ls) z = omega (arith, mul-le-mul_left l.weight (h s l z.0), total-under R f g h ss ls z.1)

pub total-above : (R : Sheet → Lane → Type 0) (f : Sheet → ℕ) (g : Lane → ℕ) → ((s : Sheet) (l : Lane) → R s l → g l ≤ f s) → (ss : List Sheet) (ls : List Lane) → AllZip R ss ls → weighted g ls ≤ total f (weights_of ls) ss
total-above R f g h [] [] z = omega arith
total-above R f g h [] (l ∷ ls) z = absurd z
total-above R f g h (s ∷ ss) [] z = absurd z
total-above R f g h (s ∷ ss) (l ∷ ls) z = omega (arith, mul-le-mul_left l.weight (h s l z.0), total-above R f g h ss ls z.1)

pub given-is : (at x : ℕ) (ls : List Lane) → given at x ls ≡ weighted (λ l. tally at x (drop l.cursor l.hits.items)) ls
given-is at x [] = refl
given-is at x (l ∷ ls) = ap (λ n. l.weight * tally at x (drop l.cursor l.hits.items) + n) (given-is at x ls)

pub weighted-push : (g : Lane → ℕ) (a : List Lane) (l : Lane) → weighted g (a ++ l ∷ []) ≡ weighted g a + l.weight * g l
weighted-push g [] l = omega arith
weighted-push g (k ∷ a) l = let e = weighted-push g a l in omega (arith, e)

pub weights-push : (a : List Lane) (l : Lane) → weights_of (a ++ l ∷ []) ≡ weights_of a ++ l.weight ∷ []
weights-push [] l = refl
weights-push (k ∷ a) l = ap (λ ws. k.weight ∷ ws) (weights-push a l)

pub weights-set : (lanes : List Lane) (i : ℕ) (v d : Lane) → i < length lanes → v.weight ≡ (get_or lanes i d).weight → weights_of (set lanes i v) ≡ weights_of lanes
weights-set [] i v d l h = absurd (omega (arith, l))
weights-set (k ∷ lanes) zero v d l h = ap (λ n. n ∷ weights_of lanes) h
weights-set (k ∷ lanes) (suc i) v d l h = ap (λ ws. k.weight ∷ ws) (weights-set lanes i v d (omega (arith, l)) h)

-- the same weights, one beside the other
pub weights-same : (R : Lane → Lane → Type 0) → ((a b : Lane) → R a b → b.weight ≡ a.weight) → (old new : List Lane) → AllZip R old new → weights_of new ≡ weights_of old
weights-same R f [] [] z = refl
weights-same R f [] (n ∷ new) z = absurd z
weights-same R f (k ∷ old) [] z = absurd z
weights-same R f (k ∷ old) (n ∷ new) z = ap (λ w. w ∷ weights_of new) (f k n z.0) ∙ ap (λ ws. k.weight ∷ ws) (weights-same R f old new z.1)

-- ---- a list has at most one posting of a document that holds a time

span-over : (at : ℕ) (p q : Posting) → ComesBefore p q → p.doc.0 ≡ q.doc.0 → holds at p ≡ true → holds at q ≡ true → ⊥
span-over at p q b e h k = grind (arith, nat_tests)

tally-rest : (at x : ℕ) (p : Posting) → p.doc.0 ≡ x → holds at p ≡ true → (ps : List Posting) → Each (λ q. ComesBefore p q) ps → tally at x ps ≡ 0
tally-rest at x p e h [] c = refl
tally-rest at x p e h (q ∷ ps) c = one (q.doc.0 == x && holds at q) refl (tally-rest at x p e h ps c.1)
  where
    one : (b : Bool) → (q.doc.0 == x && holds at q) ≡ b → tally at x ps ≡ 0 → cond b q.tf 0 + tally at x ps ≡ 0
    one false f z = omega (arith, z)
    one true f z = absurd (both (q.doc.0 == x) (holds at q) refl refl f)
      where
        both : (a b : Bool) → q.doc.0 == x ≡ a → holds at q ≡ b → (a && b) ≡ true → ⊥
        both true true m n t = elim (eqb_tells q.doc.0 x) [
          | inl k ↦ span-over at p q c.0 (e ∙ sym k.1) h n
          | inr k ↦ (let z = k.0 in cc)
        ]
        both true false m n t = (cc)
        both false b m n t = (cc)

pub freq-tally : (at x : ℕ) (ps : List Posting) → IsList ps → tally at x ps ≡ frequency x at ps
freq-tally at x [] l = refl
freq-tally at x (p ∷ ps) l = one (p.doc.0 == x) (holds at p) refl refl (freq-tally at x ps (list-tail p ps l))
  where
    rest : p.doc.0 == x ≡ true → holds at p ≡ true → tally at x ps ≡ 0
    rest m n = elim (eqb_tells p.doc.0 x) [
      | inl k ↦ tally-rest at x p k.1 n ps (all-behind p ps l)
      | inr k ↦ absurd (let z = k.0 in cc)
    ]

    one : (a b : Bool) → p.doc.0 == x ≡ a → holds at p ≡ b → tally at x ps ≡ frequency x at ps → cond (a && b) p.tf 0 + tally at x ps ≡ cond (a && b) p.tf (frequency x at ps)
    one true true m n i = let z = rest m n in omega (arith, z)
    one true false m n i = omega (arith, i)
    one false b m n i = omega (arith, i)

append-none : (ps : List Posting) → ps ++ [] ≡ ps
append-none [] = refl
append-none (p ∷ ps) = ap (λ qs. p ∷ qs) (append-none ps)

-- what a word has of a document, by all its postings
pub often-tally : (at x : ℕ) (s : Sheet) → IsSheet at s → tally at x (joined s.blocks) + tally at x s.flat ≡ often at x s
often-tally at x s sheet = elim sheet.one_kind [
  | inl e ↦
      let j : joined s.blocks ≡ [] = ap joined e in
      let a : tally at x (joined s.blocks) ≡ 0 = ap (tally at x) j in
      let b : often at x s ≡ frequency x at s.flat = ap (λ ps. frequency x at (ps ++ s.flat)) j in
      let c = freq-tally at x s.flat sheet.flat_listed in
      omega (arith, a, b, c)
  | inr e ↦
      let a : tally at x s.flat ≡ 0 = ap (tally at x) e in
      let b : often at x s ≡ frequency x at (joined s.blocks) = ap (λ ps. frequency x at (joined s.blocks ++ ps)) e ∙ ap (frequency x at) (append-none (joined s.blocks)) in
      let c = freq-tally at x (joined s.blocks) sheet.listed in
      omega (arith, a, b, c)
]

-- blocks that begin behind a document have nothing of it
ahead-many : (at x from n : ℕ) (s : Sheet) → IsSheet at s → from + n ≤ length s.heads → ((i : ℕ) → from ≤ i → i < length s.heads → x < (get_or s.heads i no_head).first.0)
    → tally at x (joined (take (from + n) s.blocks)) ≡ tally at x (joined (take from s.blocks))
ahead-many at x from zero s sheet l f = let e : from + 0 ≡ from = omega arith in ap (λ m. tally at x (joined (take m s.blocks))) e
ahead-many at x from (suc n) s sheet l f =
    let e : from + suc n ≡ (from + n) + 1 = omega arith in
    let b = block-is at s (from + n) sheet (omega (arith, l)) in
    let h = f (from + n) (omega arith) (omega (arith, l)) in
    let z = tally-none at x (get_or s.blocks (from + n) []) (each-weaker _ (λ q. q.doc.0 ≢ x) (λ q k. λ y. omega (arith, k.0, h, y)) (get_or s.blocks (from + n) []) b.range) in
    let m = zip-length s.heads s.blocks sheet.heads_are in
    let t = tally-block at x (from + n) s.blocks (omega (arith, l, m)) in
    let i = ahead-many at x from n s sheet (omega (arith, l)) f in
    let y : tally at x (joined (take (from + suc n) s.blocks)) ≡ tally at x (joined (take ((from + n) + 1) s.blocks)) = ap (λ m. tally at x (joined (take m s.blocks))) e in
    omega (arith, y, t, z, i)

pub ahead-none : (at x from : ℕ) (s : Sheet) → IsSheet at s → from ≤ length s.heads → ((i : ℕ) → from ≤ i → i < length s.heads → x < (get_or s.heads i no_head).first.0)
    → tally at x (joined (take from s.blocks)) ≡ tally at x (joined s.blocks)
ahead-none at x from s sheet l f =
    let e : from + (length s.heads - from) ≡ length s.heads = omega (arith, l) in
    let n = zip-length s.heads s.blocks sheet.heads_are in
    let a = ahead-many at x from (length s.heads - from) s sheet (omega (arith, e)) f in
    let b : take (length s.heads) s.blocks ≡ s.blocks = take_all (length s.heads) s.blocks (omega (arith, n)) in
    sym a ∙ ap (λ m. tally at x (joined (take m s.blocks))) e ∙ ap (λ (bs : List (List Posting)). tally at x (joined bs)) b

-- a lane whose blocks are opened up to where the next one begins
pub record IsOpen (at d end : ℕ) (s : Sheet) (l : Lane) : Type 0 where
  pub sheet : IsSheet at s
  pub lies : Lies at s d l
  pub near : d < l.border
  pub opened : l.after ≤ l.opened
  pub start : end ≤ l.start

pub open-tally : (at d end x : ℕ) (s : Sheet) (l : Lane) → IsOpen at d end s l → d ≤ x → x < end → tally at x (drop l.cursor l.hits.items) ≡ often at x s
open-tally at d end x s l o a b =
    let k = o.lies.keeps in
    let st = o.lies.stands o.near in
    let t = k.tells x a in
    let after = o.opened in
    let start = o.start in
    let n = ahead-none at x l.opened s o.sheet k.within (λ i m q. let r = st.later i (omega (arith, m, after)) q in omega (arith, r, b, start)) in
    let w = often-tally at x s o.sheet in
    omega (arith, t, n, w)

pub given-score : (at d end x : ℕ) (ss : List Sheet) (ls : List Lane) → AllZip (IsOpen at d end) ss ls → d ≤ x → x < end → score at (weights_of ls) ss x ≡ given at x ls
given-score at d end x ss ls z a b =
    let g = given-is at x ls in
    let u = total-under (IsOpen at d end) (often at x) (λ l. tally at x (drop l.cursor l.hits.items)) (λ s l o. let e = open-tally at d end x s l o a b in omega (arith, e)) ss ls z in
    let v = total-above (IsOpen at d end) (often at x) (λ l. tally at x (drop l.cursor l.hits.items)) (λ s l o. let e = open-tally at d end x s l o a b in omega (arith, e)) ss ls z in
    omega (arith, g, u, v)

-- ---- bounds

pub freq-light : (x at : ℕ) (ps : List Posting) → frequency x at ps < 2 ^ 32
freq-light x at [] = omega arith
freq-light x at (p ∷ ps) = one (p.doc.0 == x && holds at p) (freq-light x at ps)
  where
    one : (b : Bool) → frequency x at ps < 2 ^ 32 → cond b p.tf (frequency x at ps) < 2 ^ 32
    one true h = p.bounded
    one false h = h

pub freq-far : (x at : ℕ) (ps : List Posting) → 2 ^ 32 ≤ x → frequency x at ps ≡ 0
freq-far x at [] l = refl
freq-far x at (p ∷ ps) l = elim (eqb_tells p.doc.0 x) [
  | inl h ↦ absurd (let n = p.numbered in omega (arith, h.1, l, n))
  | inr h ↦ ap {B = ℕ} (λ b. cond (b && holds at p) p.tf (frequency x at ps)) h.0 ∙ freq-far x at ps l
]

total-light : (f : Sheet → ℕ) → ((s : Sheet) → f s < 2 ^ 32) → (ss : List Sheet) (ls : List Lane) → AreFit ss ls → total f (weights_of ls) ss ≤ length ls * 4294967296000
total-light f h [] [] z = omega arith
total-light f h [] (l ∷ ls) z = absurd z
total-light f h (s ∷ ss) [] z = absurd z
total-light f h (s ∷ ss) (l ∷ ls) z =
    let m : l.weight * f s ≤ l.weight * 4294967296 = mul-le-mul_left l.weight (let k = h s in omega (arith, k)) in
    let w = z.0.light in
    let r = total-light f h ss ls z.1 in
    omega (arith, m, w, r)

pub score-light : (at x : ℕ) (ss : List Sheet) (ls : List Lane) → AreFit ss ls → length ls ≤ 4096 → score at (weights_of ls) ss x < 2 ^ 64
score-light at x ss ls z l =
    let t = total-light (often at x) (λ s. freq-light x at (joined s.blocks ++ s.flat)) ss ls z in
    omega (arith, t, l)

pub total-none : (f : Sheet → ℕ) → ((s : Sheet) → f s ≡ 0) → (ws : List ℕ) (ss : List Sheet) → total f ws ss ≡ 0
total-none f h [] ss = refl
total-none f h (w ∷ ws) [] = refl
total-none f h (w ∷ ws) (s ∷ ss) =
    let a : w * f s ≡ w * 0 = ap (λ n. w * n) (h s) in
    let r = total-none f h ws ss in
    omega (arith, a, r)

-- no document is numbered so high
pub score-far : (at x : ℕ) (ws : List ℕ) (ss : List Sheet) → 2 ^ 32 ≤ x → score at ws ss x ≡ 0
score-far at x ws ss l = total-none (often at x) (λ s. freq-far x at (joined s.blocks ++ s.flat) l) ws ss
