-- Rows in order, and one more.
use Rattle.std.specs.Prelude.{◌≡◌, ◌⊎◌, ℕ, ◌+◌, ◌-◌, ◌<◌, ◌≤◌, ◌==◌, ◌||◌, Bool, true, false, List, [], ◌∷◌, ◌++◌, length, take, drop, get_or, refl}
use Rattle.std.proofs.Common.{arith, ap, sym, ◌∙◌, subst, inl, inr, length-append}
use Rattle.std.proofs.lemmas.Bool.Decides.{nat_tests, eqb_tells}
use Rattle.std.proofs.lemmas.Bool.{cases_lt}
use Rattle.std.proofs.lemmas.List.{take_all}
use Rattle.query_top.specs.Firsts.{Each, Beats, AreRanked, shows, AreFirst, below, Goes, MakesRoom}
use Rattle.query_top.specs.declared.ranking.Row.{Row}
use Rattle.query_top.proofs.EachLemmas.{each-append, each-left, each-right, each-weaker, each-both, drop-at, take-at, split-at}

pub below-yes : (n : ℕ) (f : ℕ → ℕ) (d : ℕ) → d < n → below n f d ≡ f d
below-yes n f d l = grind (arith, nat_tests)

pub below-no : (n : ℕ) (f : ℕ → ℕ) (d : ℕ) → n ≤ d → below n f d ≡ 0
below-no n f d l = grind (arith, nat_tests)

pub below-some : (n : ℕ) (f : ℕ → ℕ) (d : ℕ) → 0 < below n f d → d < n
below-some n f d s = elim (cases_lt d n) [ inl h ↦ h | inr h ↦ absurd (let z = below-no n f d h in omega arith) ]

pub shows-append : (a b : List Row) (d : ℕ) → shows (a ++ b) d ≡ false → (shows a d ≡ false) × (shows b d ≡ false)
shows-append [] b d h = (refl, h)
shows-append (r ∷ rs) b d h = go (r.doc.0 == d) refl (shows-append rs b d)
  where
    go : (x : Bool) → r.doc.0 == d ≡ x → (shows (rs ++ b) d ≡ false → (shows rs d ≡ false) × (shows b d ≡ false)) → (shows (r ∷ rs) d ≡ false) × (shows b d ≡ false)
    go true e f = absurd (let t : shows ((r ∷ rs) ++ b) d ≡ true = ap (λ (y : Bool). y || shows (rs ++ b) d) e in cc)
    go false e f =
        let k : shows (rs ++ b) d ≡ false = sym (ap (λ (y : Bool). y || shows (rs ++ b) d) e) ∙ h in
        let i = f k in
        (ap (λ (y : Bool). y || shows rs d) e ∙ i.0, i.1)

pub shows-join : (a b : List Row) (d : ℕ) → shows a d ≡ false → shows b d ≡ false → shows (a ++ b) d ≡ false
shows-join [] b d h k = k
shows-join (r ∷ rs) b d h k = go (r.doc.0 == d) refl (shows-join rs b d)
  where
    go : (x : Bool) → r.doc.0 == d ≡ x → (shows rs d ≡ false → shows b d ≡ false → shows (rs ++ b) d ≡ false) → shows ((r ∷ rs) ++ b) d ≡ false
    go true e f = absurd (let t : shows (r ∷ rs) d ≡ true = ap (λ (y : Bool). y || shows rs d) e in cc)
    go false e f =
        let i : shows rs d ≡ false = sym (ap (λ (y : Bool). y || shows rs d) e) ∙ h in
        ap (λ (y : Bool). y || shows (rs ++ b) d) e ∙ f i k

-- the row isn't the document's
pub shows-other : (r : Row) (rs : List Row) (d : ℕ) → shows (r ∷ rs) d ≡ false → (r.doc.0 ≡ d → ⊥) × (shows rs d ≡ false)
shows-other r rs d h = elim (eqb_tells r.doc.0 d) [
  | inl e ↦ absurd (let t : shows (r ∷ rs) d ≡ true = ap (λ (y : Bool). y || shows rs d) e.0 in cc)
  | inr e ↦ (e.1, sym (ap (λ (y : Bool). y || shows rs d) e.0) ∙ h)
]

-- a row of the document
pub shows-row : (rs : List Row) (d : ℕ) → shows rs d ≡ true → (r : Row) × (r.doc.0 ≡ d) × ((P : Row → Type 0) → Each P rs → P r)
shows-row [] d h = absurd (cc)
shows-row (r ∷ rs) d h = elim (eqb_tells r.doc.0 d) [
  | inl e ↦ (r, e.1, λ P a. a.0)
  | inr e ↦ let i = shows-row rs d (sym (ap (λ (y : Bool). y || shows rs d) e.0) ∙ h) in (i.0, i.1, λ P a. i.2 P a.1)
]

abbrev pub Behind : List Row → Row → Type 0
Behind b x = Each (λ q. Beats x q.doc.0 q.score) b

pub ranked-left : (a b : List Row) → AreRanked (a ++ b) → AreRanked a
ranked-left [] b h = tt
ranked-left (x ∷ a) b h = (each-left (λ q. Beats x q.doc.0 q.score) a b h.0, ranked-left a b h.1)

pub ranked-right : (a b : List Row) → AreRanked (a ++ b) → AreRanked b
ranked-right [] b h = h
ranked-right (x ∷ a) b h = ranked-right a b h.1

pub ranked-across : (a b : List Row) → AreRanked (a ++ b) → Each (Behind b) a
ranked-across [] b h = tt
ranked-across (x ∷ a) b h = (each-right (λ q. Beats x q.doc.0 q.score) a b h.0, ranked-across a b h.1)

pub ranked-join : (a b : List Row) → AreRanked a → AreRanked b → Each (Behind b) a → AreRanked (a ++ b)
ranked-join [] b h k c = k
ranked-join (x ∷ a) b h k c = (each-append (λ q. Beats x q.doc.0 q.score) a b h.0 c.0, ranked-join a b h.1 k c.1)

-- the scores fall
pub ranked-falls : (a b : List Row) (x : Row) (s : ℕ) → AreRanked (a ++ x ∷ b) → s ≤ x.score → Each (λ r. s ≤ r.score) (a ++ x ∷ [])
ranked-falls a b x s h l =
    each-append (λ r. s ≤ r.score) a (x ∷ [])
    (each-weaker (Behind (x ∷ b)) (λ r. s ≤ r.score) (λ r k. go r k.0) a (ranked-across a (x ∷ b) h))
    (l, tt)
  where
    go : (r : Row) → Beats r x.doc.0 x.score → s ≤ r.score
    go r (inl k) = omega (arith, k, l)
    go r (inr k) = omega (arith, k.0, l)

-- one more row between two parts of what is kept
pub put-ranked : (a b : List Row) (r : Row) → AreRanked (a ++ b) → Each (λ q. (q.doc.0 < r.doc.0) × (r.score ≤ q.score)) a → Each (λ q. q.score < r.score) b → AreRanked (a ++ r ∷ b)
put-ranked a b r h k l =
    ranked-join a (r ∷ b) (ranked-left a b h) (each-weaker (λ q. q.score < r.score) (λ q. Beats r q.doc.0 q.score) (λ q m. inl m) b l, ranked-right a b h) (go a (ranked-across a b h) k)
  where
    one : (q : Row) → q.doc.0 < r.doc.0 → r.score ≤ q.score → Beats q r.doc.0 r.score
    one q m n = elim (cases_lt r.score q.score) [ inl e ↦ inl e | inr e ↦ inr (omega (arith, n, e), m) ]

    go : (a : List Row) → Each (Behind b) a → Each (λ q. (q.doc.0 < r.doc.0) × (r.score ≤ q.score)) a → Each (Behind (r ∷ b)) a
    go [] x y = tt
    go (q ∷ a) x y = ((one q y.0.0 y.0.1, x.0), go a x.1 y.1)

append-cons : (a b : List Row) (r : Row) → length (a ++ r ∷ b) ≡ length (a ++ b) + 1
append-cons a b r = omega (arith, length-append a (r ∷ b), length-append a b)

empty : (gone : List Row) → length gone ≡ 0 → gone ≡ []
empty [] e = refl
empty (x ∷ xs) e = absurd (omega (arith, e))

pick-less : (g : List Row) (d s top : ℕ) → length g ≡ 1 → Each (λ q. q.score < top) g → Each (λ q. Beats q d s) g → s < top
pick-less [] d s top z x y = absurd (omega (arith, z))
pick-less (q ∷ g) d s top z x y = beat x.0 y.0
  where
    beat : q.score < top → Beats q d s → s < top
    beat u (inl k) = omega (arith, u, k)
    beat u (inr k) = omega (arith, u, k.0)

-- what has to be said of a document that isn't shown
abbrev pub Says : (ℕ → ℕ) → ℕ → List Row → ℕ → Type 0
Says of count rows d = (length rows ≡ count) × Each (λ q. Beats q d (of d)) rows

-- a document that isn't among those kept
put-rest : (f g : ℕ → ℕ) (count : ℕ) (r : Row) (a b gone : List Row) (d : ℕ)
    → Goes count r.score (a ++ b) gone → AreFirst f count ((a ++ b) ++ gone) → f d ≡ g d → 0 < g d → shows (a ++ b) d ≡ false
    → Says g count (a ++ r ∷ b) d
put-rest f g count r a b gone d goes first e p h = by (shows gone d) refl
  where
    give : length (a ++ b) + 1 ≡ count → Each (λ q. Beats q d (g d)) (a ++ b) → g d < r.score → Says g count (a ++ r ∷ b) d
    give n each top = (append-cons a b r ∙ n, each-append (λ q. Beats q d (g d)) a (r ∷ b) (each-left _ a b each) (inl top, each-right _ a b each))

    by : (x : Bool) → shows gone d ≡ x → Says g count (a ++ r ∷ b) d
    by true m =
        let row = shows-row gone d m in
        let sc = row.2 (λ q. (q.score ≡ f q.doc.0) × (0 < q.score)) (each-right _ (a ++ b) gone first.scored) in
        let ls = row.2 (λ q. q.score < r.score) goes.less in
        let here : row.0.score ≡ g d = sc.0 ∙ ap f row.1 ∙ e in
        elim goes.full [
          | inl z ↦ absurd (let t : shows [] d ≡ true = subst (λ g. shows g d ≡ true) (empty gone z) m in cc)
          | inr n ↦ give n (each-weaker (Behind gone) (λ q. Beats q d (g d)) (λ q k. let one : Beats q row.0.doc.0 row.0.score = row.2 (λ y. Beats q y.doc.0 y.score) k in subst (λ s. Beats q d s) here (subst (λ y. Beats q y row.0.score) row.1 one)) (a ++ b) (ranked-across (a ++ b) gone first.ranked)) (omega (arith, here, ls))
        ]
    by false m =
        let all = first.rest d (omega (arith, e, p)) (shows-join (a ++ b) gone d h m) in
        let each = subst (λ s. Each (λ q. Beats q d s) ((a ++ b) ++ gone)) e all.1 in
        elim goes.full [
          | inl z ↦ absurd (omega (arith, all.0, length-append (a ++ b) gone, z, goes.room))
          | inr n ↦ give n (each-left _ (a ++ b) gone each) (pick-less gone d (g d) r.score (omega (arith, all.0, length-append (a ++ b) gone, n)) goes.less (each-right _ (a ++ b) gone each))
        ]

abbrev pub IsScored : (ℕ → ℕ) → Row → Type 0
IsScored of q = (q.score ≡ of q.doc.0) × (0 < q.score)

scored-early : (of : ℕ → ℕ) (m : ℕ) (q : Row) → IsScored (below m of) q → q.doc.0 < m
scored-early of m q k = below-some m of q.doc.0 (omega (arith, k.0, k.1))

scored-still : (of : ℕ → ℕ) (m n : ℕ) (q : Row) → m ≤ n → IsScored (below m of) q → IsScored (below n of) q
scored-still of m n q l k =
    let h : q.doc.0 < m = scored-early of m q k in
    (k.0 ∙ below-yes m of q.doc.0 h ∙ sym (below-yes n of q.doc.0 (omega (arith, h, l))), k.1)

-- the rows with one more are the first of one document more
pub put-first : (of : ℕ → ℕ) (count doc : ℕ) (r : Row) (a b gone : List Row) → r.doc.0 ≡ doc → of doc ≡ r.score → 0 < r.score
    → Goes count r.score (a ++ b) gone → AreFirst (below doc of) count ((a ++ b) ++ gone)
    → Each (λ q. r.score ≤ q.score) a → Each (λ q. q.score < r.score) b
    → AreFirst (below (doc + 1) of) count (a ++ r ∷ b)
put-first of count doc r a b gone isdoc iscore some goes first high low =
    let kept = each-left (IsScored (below doc of)) (a ++ b) gone first.scored in
    record {
      ranked = put-ranked a b r (ranked-left (a ++ b) gone first.ranked) (each-weaker (λ q. IsScored (below doc of) q × (r.score ≤ q.score)) (λ q. (q.doc.0 < r.doc.0) × (r.score ≤ q.score)) (λ q k. (omega (arith, scored-early of doc q k.0, isdoc), k.1)) a (each-both (IsScored (below doc of)) (λ q. r.score ≤ q.score) a (each-left _ a b kept) high)) low;
      few = omega (arith, append-cons a b r, goes.room);
      scored = each-append (IsScored (below (doc + 1) of)) a (r ∷ b)
          (each-weaker _ _ (λ q k. scored-still of doc (doc + 1) q (omega arith) k) a (each-left _ a b kept))
          ((sym iscore ∙ ap of (sym isdoc) ∙ sym (below-yes (doc + 1) of r.doc.0 (omega (arith, isdoc))), some), each-weaker _ _ (λ q k. scored-still of doc (doc + 1) q (omega arith) k) b (each-right _ a b kept));
      rest = λ d p h.
          let sa = (shows-append a (r ∷ b) d h).0 in
          let sb = shows-other r b d (shows-append a (r ∷ b) d h).1 in
          let l : d < doc + 1 = below-some (doc + 1) of d p in
          let m : d < doc = before d l sb.0 in
          put-rest (below doc of) (below (doc + 1) of) count r a b gone d goes first (below-yes doc of d m ∙ sym (below-yes (doc + 1) of d l)) p (shows-join a b d sa sb.1);
    }
  where
    before : (d : ℕ) → d < doc + 1 → (r.doc.0 ≡ d → ⊥) → d < doc
    before d l n = elim (cases_lt d doc) [ inl h ↦ h | inr h ↦ absurd (n (omega (arith, l, h, isdoc))) ]

-- A document that has no score, or none that stands before the last row, changes nothing.
pub pass-first : (of : ℕ → ℕ) (count m n : ℕ) (rows : List Row) → m ≤ n → AreFirst (below m of) count rows
    → ((d : ℕ) → m ≤ d → d < n → 0 < of d → (length rows ≡ count) × Each (λ r. of d ≤ r.score) rows)
    → AreFirst (below n of) count rows
pass-first of count m n rows l first none = record {
  ranked = first.ranked;
  few = first.few;
  scored = each-weaker _ _ (λ q k. scored-still of m n q l k) rows first.scored;
  rest = λ d p h. go d p h (cases_lt d m);
}
  where
    beat : (d : ℕ) → m ≤ d → (r : Row) → of d ≤ r.score → IsScored (below m of) r → Beats r d (of d)
    beat d a r x y =
        let h : r.doc.0 < m = scored-early of m r y in
        elim (cases_lt (of d) r.score) [ inl z ↦ inl z | inr z ↦ inr (omega (arith, x, z), omega (arith, h, a)) ]

    go : (d : ℕ) → 0 < below n of d → shows rows d ≡ false → (d < m) ⊎ (m ≤ d) → Says (below n of) count rows d
    go d p h (inl a) =
        let e : below n of d ≡ below m of d = below-yes n of d (omega (arith, a, l)) ∙ sym (below-yes m of d a) in
        subst (λ s. (length rows ≡ count) × Each (λ r. Beats r d s) rows) (sym e) (first.rest d (omega (arith, e, p)) h)
    go d p h (inr a) =
        let b = below-some n of d p in
        let e : below n of d ≡ of d = below-yes n of d b in
        let k = none d a b (omega (arith, e, p)) in
        (k.0, subst (λ s. Each (λ r. Beats r d s) rows) (sym e) (each-weaker _ (λ r. Beats r d (of d)) (λ r x. beat d a r x.0 x.1) rows (each-both _ _ rows k.1 first.scored)))

-- rows up to one of at least this score have at least it
pub ranked-high : (rows : List Row) (n m s : ℕ) (z : Row) → n + 1 ≡ m → n < length rows → s ≤ (get_or rows n z).score → AreRanked rows → Each (λ r. s ≤ r.score) (take m rows)
ranked-high rows n m s z e l h k =
    let t : take m rows ≡ take n rows ++ get_or rows n z ∷ [] = ap (λ i. take i rows) (sym e) ∙ take-at n rows z l in
    let all : rows ≡ take n rows ++ get_or rows n z ∷ drop (n + 1) rows = split-at n rows ∙ ap (λ y. take n rows ++ y) (drop-at n rows z l) in
    subst (Each (λ r. s ≤ r.score)) (sym t) (ranked-falls (take n rows) (drop (n + 1) rows) (get_or rows n z) s (subst AreRanked all k) h)

-- rows up to the last
pub ranked-all : (rows : List Row) (n s : ℕ) (x : Row) → 1 ≤ n → length rows ≡ n → x ≡ get_or rows (n - 1) x → s ≤ x.score → AreRanked rows → Each (λ r. s ≤ r.score) rows
ranked-all rows n s x o e is h k = subst (Each (λ r. s ≤ r.score)) (take_all n rows (omega (arith, e))) (ranked-high rows (n - 1) n s x (omega (arith, o)) (omega (arith, o, e)) (subst (λ (y : Row). s ≤ y.score) is h) k)

pub low-more : (rows : List Row) (n m s : ℕ) (z : Row) → n + 1 ≡ m → m ≤ length rows → (get_or rows n z).score < s → Each (λ r. r.score < s) (drop m rows) → Each (λ r. r.score < s) (drop n rows)
low-more rows n m s z e l h k =
    subst (Each (λ r. r.score < s)) (sym (drop-at n rows z (omega (arith, e, l)))) (h, subst (λ i. Each (λ r. r.score < s) (drop i rows)) (sym e) k)

-- nothing comes of a document without a score
pub offer-zero : (of : ℕ → ℕ) (count doc : ℕ) (rows : List Row) → of doc ≡ 0 → AreFirst (below doc of) count rows → AreFirst (below (doc + 1) of) count rows
offer-zero of count doc rows z first = pass-first of count doc (doc + 1) rows (omega arith) first (λ d a b p. absurd (let e : d ≡ doc = omega arith in let y : of d ≡ 0 = ap of e ∙ z in omega (arith, y, p)))

-- and none of one that has no room
pub offer-full : (of : ℕ → ℕ) (count doc s : ℕ) (rows : List Row) → of doc ≡ s → length rows ≡ count → (AreRanked rows → Each (λ r. s ≤ r.score) rows) → AreFirst (below doc of) count rows → AreFirst (below (doc + 1) of) count rows
offer-full of count doc s rows z n h first = pass-first of count doc (doc + 1) rows (omega arith) first (λ d a b p. (n, let e : d ≡ doc = omega arith in subst (λ y. Each (λ r. y ≤ r.score) rows) (sym (ap of e ∙ z)) (h first.ranked)))

pub offer-put : (of : ℕ → ℕ) (count doc s place : ℕ) (old new rows : List Row) (r : Row) → r.doc.0 ≡ doc → r.score ≡ s → of doc ≡ s → 0 < s → MakesRoom count s old new
    → Each (λ q. q.score < s) (drop place new) → (AreRanked new → Each (λ q. s ≤ q.score) (take place new)) → rows ≡ take place new ++ r ∷ drop place new
    → AreFirst (below doc of) count old → AreFirst (below (doc + 1) of) count rows
offer-put of count doc s place old new rows r isdoc isscore z p room low high e first =
    let f : AreFirst (below doc of) count (new ++ room.gone) = subst (AreFirst (below doc of) count) room.split first in
    let sp = split-at place new in
    subst (AreFirst (below (doc + 1) of) count) (sym e)
    (put-first of count doc r (take place new) (drop place new) room.gone isdoc (z ∙ sym isscore) (omega (arith, isscore, p))
    (subst (λ s. Goes count s (take place new ++ drop place new) room.gone) (sym isscore) (subst (λ n. Goes count s n room.gone) sp room.goes))
    (subst (λ n. AreFirst (below doc of) count (n ++ room.gone)) sp f)
    (subst (λ s. Each (λ q. s ≤ q.score) (take place new)) (sym isscore) (high (ranked-left new room.gone f.ranked)))
    (subst (λ s. Each (λ q. q.score < s) (drop place new)) (sym isscore) low))

-- no row gives way to this score, where there are enough
pub ranked-full : (rows : List Row) (count most : ℕ) (z : Row) → 1 ≤ count → count ≤ length rows → most ≤ (get_or rows (count - 1) z).score → length rows ≤ count → AreRanked rows
    → (length rows ≡ count) × Each (λ r. most ≤ r.score) rows
ranked-full rows count most z o l m f k =
    (omega (arith, l, f), subst (Each (λ r. most ≤ r.score)) (take_all count rows f) (ranked-high rows (count - 1) count most z (omega (arith, o)) (omega (arith, o, l)) m k))

-- ---- whose rows there are

pub shows-left : (a b : List Row) (d : ℕ) → shows a d ≡ true → shows (a ++ b) d ≡ true
shows-left [] b d h = absurd (cc)
shows-left (r ∷ a) b d h = go (r.doc.0 == d) h (shows-left a b d)
  where
    go : (x : Bool) → (x || shows a d) ≡ true → (shows a d ≡ true → shows (a ++ b) d ≡ true) → (x || shows (a ++ b) d) ≡ true
    go true e f = refl
    go false e f = f e

-- a row that is put in is one document more
pub put-shown : (place doc x : ℕ) (mid gone rows : List Row) (r : Row) → r.doc.0 ≡ doc → rows ≡ take place mid ++ r ∷ drop place mid → shows rows x ≡ true → (shows (mid ++ gone) x ≡ true) ⊎ (x ≡ doc)
put-shown place doc x mid gone rows r is e h = go (shows mid x) refl
  where
    go : (b : Bool) → shows mid x ≡ b → (shows (mid ++ gone) x ≡ true) ⊎ (x ≡ doc)
    go true s = inl (shows-left mid gone x s)
    go false s = elim (eqb_tells r.doc.0 x) [
      | inl k ↦ inr (omega (arith, k.1, is))
      | inr k ↦
          let parts = shows-append (take place mid) (drop place mid) x (subst (λ y. shows y x ≡ false) (split-at place mid) s) in
          let none : shows (r ∷ drop place mid) x ≡ false = ap (λ (b : Bool). b || shows (drop place mid) x) k.0 ∙ parts.1 in
          let all : shows rows x ≡ false = ap (λ (y : List Row). shows y x) e ∙ shows-join (take place mid) (r ∷ drop place mid) x parts.0 none in
          absurd (cc)
    ]
