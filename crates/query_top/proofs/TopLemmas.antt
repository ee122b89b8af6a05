-- Scores, tops and bounds; and that what may stand among the first rows is not needless.
use Rattle.std.specs.Prelude.{◌≡◌, ◌≢◌, ◌⊎◌, ℕ, ◌+◌, ◌<◌, ◌≤◌, ◌==◌, ◌||◌, Bool, true, false, cond, List, [], ◌∷◌, ◌++◌, length, refl}
use Rattle.std.proofs.Common.{arith, ap, sym, ◌∙◌, subst, inl, inr}
use Rattle.std.proofs.Math.Nat.{mul-le-mul_left}
use Rattle.std.proofs.lemmas.Bool.Decides.{nat_tests, eqb_tells}
use Rattle.pages_codec.specs.declared.head.BlockHead.{BlockHead}
use Rattle.query_top.specs.Firsts.{Each, Beats, shows, AreFirst, below, IsAscending, AreEnough}
use Rattle.query_top.specs.Sheets.{Sheet, IsSheet, covers, meets, most, total, score, bound}
use Rattle.query_top.specs.declared.ranking.Row.{Row}
use Rattle.query_top.proofs.EachLemmas.{each-right, each-weaker}
use Rattle.query_top.proofs.RankLemmas.{below-yes}
use Rattle.query_top.proofs.HeadLemmas.{top-wider}

-- ---- sums over words

pub total-le : (P : Sheet → Type 0) (f g : Sheet → ℕ) → ((s : Sheet) → P s → f s ≤ g s) → (ws : List ℕ) (ss : List Sheet) → Each P ss → total f ws ss ≤ total g ws ss
total-le P f g h [] ss e = omega arith
total-le P f g h (w ∷ ws) [] e = omega arith
total-le P f g h (w ∷ ws) (s ∷ ss) e = omega (arith, mul-le-mul_left w (h s e.0), total-le P f g h ws ss e.1)

-- blocks that cover one document meet
meets-both : (d : ℕ) (h g : BlockHead) → covers d h ≡ true → covers d g ≡ true → meets h g ≡ true
meets-both d h g a b = grind (arith, nat_tests)

pub covers-meets : (d : ℕ) (h : BlockHead) (s : Sheet) → covers d h ≡ true → most (covers d) s ≤ most (meets h) s
covers-meets d h s e = let t = top-wider (covers d) (meets h) (λ g k. meets-both d h g e k) s.heads in omega (arith, t)

-- the tops of the blocks that cover a document don't pass the bound of any of them
pub tops-bound : (at : ℕ) (ws : List ℕ) (ss : List Sheet) (d : ℕ) (h : BlockHead) → Each (IsSheet at) ss → covers d h ≡ true → total (most (covers d)) ws ss ≤ bound ws ss h
tops-bound at ws ss d h e c = total-le (IsSheet at) (most (covers d)) (most (meets h)) (λ s i. covers-meets d h s c) ws ss e

-- ---- so many documents have so many rows

-- rows without the first one of a document
abbrev pub without : ℕ → List Row → List Row
without d [] = []
without d (r ∷ rs) = cond (r.doc.0 == d) rs (r ∷ without d rs)

without-length : (d : ℕ) (rows : List Row) → shows rows d ≡ true → length (without d rows) + 1 ≡ length rows
without-length d [] h = absurd (cc)
without-length d (r ∷ rs) h = go (r.doc.0 == d) h (without-length d rs)
  where
    go : (b : Bool) → (b || shows rs d) ≡ true → (shows rs d ≡ true → length (without d rs) + 1 ≡ length rs) → length (cond b rs (r ∷ without d rs)) + 1 ≡ length (r ∷ rs)
    go true h f = omega arith
    go false h f = let e = f h in omega (arith, e)

without-shows : (d x : ℕ) (rows : List Row) → d ≢ x → shows rows x ≡ true → shows (without d rows) x ≡ true
without-shows d x [] n h = absurd (cc)
without-shows d x (r ∷ rs) n h = elim (eqb_tells r.doc.0 d) [
  | inl e ↦ subst (λ (b : Bool). shows (cond b rs (r ∷ without d rs)) x ≡ true) (sym e.0) (behind e.1 (eqb_tells r.doc.0 x))
  | inr e ↦ subst (λ (b : Bool). shows (cond b rs (r ∷ without d rs)) x ≡ true) (sym e.0) (here (r.doc.0 == x) h (without-shows d x rs n))
]
  where
    behind : r.doc.0 ≡ d → (((r.doc.0 == x) ≡ true) × (r.doc.0 ≡ x)) ⊎ (((r.doc.0 == x) ≡ false) × (r.doc.0 ≢ x)) → shows rs x ≡ true
    behind e (inl k) = absurd (n (omega (arith, e, k.1)))
    behind e (inr k) = sym (ap (λ (b : Bool). b || shows rs x) k.0) ∙ h

    here : (b : Bool) → (b || shows rs x) ≡ true → (shows rs x ≡ true → shows (without d rs) x ≡ true) → (b || shows (without d rs) x) ≡ true
    here true a f = refl
    here false a f = f a

pub pigeon : (docs : List ℕ) (rows : List Row) → IsAscending docs → Each (λ d. shows rows d ≡ true) docs → length docs ≤ length rows
pigeon [] rows a e = omega arith
pigeon (d ∷ docs) rows a e =
    let l = without-length d rows e.0 in
    let r = pigeon docs (without d rows) a.1 (each-two docs a.0 e.1) in
    omega (arith, l, r)
  where
    each-two : (xs : List ℕ) → Each (λ y. d < y) xs → Each (λ y. shows rows y ≡ true) xs → Each (λ y. shows (without d rows) y ≡ true) xs
    each-two [] u v = tt
    each-two (y ∷ xs) u v = (without-shows d y rows (λ q. let m = u.0 in omega (arith, m, q)) v.0, each-two xs u.1 v.1)

-- ---- no needless block is opened

shown-or : (b : Bool) → (b ≡ false → ⊥) → b ≡ true
shown-or true f = refl
shown-or false f = absurd (f refl)

-- where there is room, a score above 0 is enough
pub wanted-room : (of : ℕ → ℕ) (count d first bound : ℕ) (rows : List Row) → AreFirst (below d of) count rows → length rows < count → first ≤ d → 0 < bound → AreEnough of count first bound → ⊥
wanted-room of count d first bound rows is room l some enough =
    let p = pigeon enough.docs rows enough.ascending (each-weaker _ (λ x. shows rows x ≡ true) (λ x k. shown-or (shows rows x) (λ n. absurd (never x k n))) enough.docs enough.each) in
    let e = enough.enough in
    omega (arith, p, e, room)
  where
    never : (x : ℕ) → (x < first) × (bound ≤ of x) → shows rows x ≡ false → ⊥
    never x k n =
        let y = below-yes d of x (omega (arith, k.0, l)) in
        let r = is.rest x (omega (arith, y, k.1, some)) n in
        omega (arith, r.0, room)

-- and where there is none, one above the last row's
pub wanted-more : (of : ℕ → ℕ) (count d first bound : ℕ) (front : List Row) (last : Row) → AreFirst (below d of) count (front ++ last ∷ []) → length front + 1 ≡ count → last.score < bound → first ≤ d → AreEnough of count first bound → ⊥
wanted-more of count d first bound front last is full less l enough =
    let p = pigeon enough.docs front enough.ascending (each-weaker _ (λ x. shows front x ≡ true) (λ x k. shown-or (shows front x) (λ n. never x k n)) enough.docs enough.each) in
    let e = enough.enough in
    omega (arith, p, e, full)
  where
    beaten : (x : ℕ) → bound ≤ below d of x → Beats last x (below d of x) → ⊥
    beaten x k (inl b) = omega (arith, b, k, less)
    beaten x k (inr b) = omega (arith, b.0, k, less)

    two : (x : ℕ) → shows front x ≡ false → (last.doc.0 ≡ x → ⊥) → shows (front ++ last ∷ []) x ≡ false
    two x a n = joinf front a
      where
        joinf : (rs : List Row) → shows rs x ≡ false → shows (rs ++ last ∷ []) x ≡ false
        joinf [] h = elim (eqb_tells last.doc.0 x) [ inl e ↦ absurd (n e.1) | inr e ↦ ap (λ (b : Bool). b || false) e.0 ]
        joinf (r ∷ rs) h = go (r.doc.0 == x) h (joinf rs)
          where
            go : (b : Bool) → (b || shows rs x) ≡ false → (shows rs x ≡ false → shows (rs ++ last ∷ []) x ≡ false) → (b || shows (rs ++ last ∷ []) x) ≡ false
            go true q f = absurd (cc)
            go false q f = f q

    never : (x : ℕ) → (x < first) × (bound ≤ of x) → shows front x ≡ false → ⊥
    never x k n =
        let y = below-yes d of x (omega (arith, k.0, l)) in
        let sc = (each-right (λ r. (r.score ≡ below d of r.doc.0) × (0 < r.score)) front (last ∷ []) is.scored).0 in
        let r = is.rest x (omega (arith, y, k.1, less)) (two x n (λ e. let z : last.score ≡ below d of x = sc.0 ∙ ap (below d of) e in omega (arith, z, y, k.1, less))) in
        beaten x (omega (arith, y, k.1)) (each-right (λ r. Beats r x (below d of x)) front (last ∷ []) r.1).0
