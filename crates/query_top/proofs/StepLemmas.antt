-- How the search goes on from document to document.
use Rattle.std.specs.Prelude.{◌≡◌, ◌≢◌, ◌⊎◌, ℕ, zero, suc, ◌+◌, ◌-◌, ◌^◌, ◌<◌, ◌≤◌, max, min, ◌==◌, ◌||◌, Bool, true, false, List, [], ◌∷◌, ◌++◌, length, take, get_or, Contains, ⊤, refl}
use Rattle.std.specs.List.{AllZip}
use Rattle.std.proofs.Common.{arith, ap, sym, ◌∙◌, subst, inl, inr, length-take}
use Rattle.std.proofs.lemmas.Bool.{cases_lt}
use Rattle.std.proofs.lemmas.Bool.Decides.{eqb_tells}
use Rattle.std.proofs.lemmas.List.{take_all}
use Rattle.std.proofs.lemmas.List.Elements.{Contains-append_left, Contains-append_right}
use Rattle.base_types.specs.declared.ids.DocId.{DocId}
use Rattle.base_types.specs.declared.posting.Posting.{Posting}
use Rattle.query_top.specs.Firsts.{Each, AreFirst, AreEnough, below, shows, no_row}
use Rattle.query_top.specs.Sheets.{Sheet, IsSheet, often, covers, most, total, score, bound, sheet_at, head_at, no_sheet}
use Rattle.query_top.specs.Lanes.{weighted, weights_of, opened_at, IsFit, Keeps, Stands, Lie, Lies, IsOpened, IsPassed}
use Rattle.query_top.specs.Opening.{Opened, Opens, Call, HasOpened}
use Rattle.query_top.specs.Steps.{runs, AreThrough}
use Rattle.query_top.specs.declared.lane.Lane.{Lane}
use Rattle.query_top.specs.declared.ranking.Row.{Row}
use Rattle.query_top.proofs.EachLemmas.{each-append, each-weaker, each-at, take-at}
use Rattle.query_top.proofs.RankLemmas.{below-yes, below-no, below-some, pass-first}
use Rattle.query_top.proofs.LaneLemmas.{covers-tells, keeps-on, stands-on}
use Rattle.query_top.proofs.OpenLemmas.{block-is, zip-length}
use Rattle.query_top.proofs.TakeLemmas.{stands-same}
use Rattle.query_top.proofs.TopLemmas.{tops-bound, wanted-room, wanted-more}
use Rattle.query_top.proofs.ZipLemmas.{zip-at, zip-long, zip-and, zip-with, zip-through, get-past}
use Rattle.query_top.proofs.RunLemmas.{runs-each, runs-has, runs-distinct, distinct-append, lane-at, opened-is, opened-inside, opened-after, opened-more, opened-same, opened-none}
use Rattle.query_top.proofs.ScoreLemmas.{total-under, total-above, score-far}

-- ---- lanes that go on

pub lies-on : (at : ℕ) (s : Sheet) (d e : ℕ) (lane : Lane) → d ≤ e → e ≤ lane.border → Lies at s d lane → Lies at s e lane
lies-on at s d e lane l b k = record {
  keeps = keeps-on at s d e lane l k.keeps;
  stands = λ h. stands-on at s d e lane l (k.stands (omega (arith, h, l)));
}

lies-passed : (at : ℕ) (s : Sheet) (d e : ℕ) (old new : Lane) → d ≤ e → d < old.border → Lies at s d old → IsPassed at e old new → Lies at s e new
lies-passed at s d e old new l b k p =
    let on = keeps-on at s d e old l k.keeps in
    let keeps : Keeps at s e (record old { cursor = new.cursor }) = record {
      passed = on.passed;
      covering = on.covering;
      begun = on.begun;
      within = on.within;
      tells = λ x a. p.left on.ascending x a ∙ on.tells x a;
      ascending = on.ascending;
      ahead = on.ahead;
      flat_from = on.flat_from;
      flat_top = on.flat_top;
      ends = on.ends;
    } in
    let st = k.stands b in
    let stands : Stands at s e (record old { cursor = new.cursor }) = stands-same at s e old old.opened new.cursor old.hits st.opened (stands-on at s d e old l st) in
    subst (λ (x : Lane). Lies at s e x) (sym p.same) (record { keeps = keeps; stands = λ _. stands })

pub fit-opened : (n : ℕ) (old new : Lane) → IsFit n old → IsOpened old new → IsFit n new
fit-opened n old new f o = subst (IsFit n) (sym o.same) (record {
  covering = f.covering;
  reaches = f.reaches;
  cursor = o.cursor;
  light = f.light;
  ends = f.ends;
  border = f.border;
  starts = f.starts;
})

pub fit-passed : (n at end : ℕ) (old new : Lane) → IsFit n old → IsPassed at end old new → IsFit n new
fit-passed n at end old new f p = subst (IsFit n) (sym p.same) (record {
  covering = f.covering;
  reaches = f.reaches;
  cursor = p.cursor;
  light = f.light;
  ends = f.ends;
  border = f.border;
  starts = f.starts;
})

-- ---- what is passed over

pub through-surveyed : (at : ℕ) (ws : List ℕ) (ss : List Sheet) (count d : ℕ) (old new : List Lane) (rows : List Row) (os : List Opened)
    → Lie at d ss new → ((word : ℕ) → opened_at new word ≡ opened_at old word) → AreThrough at ws ss count d old rows os → AreThrough at ws ss count d new rows os
through-surveyed at ws ss count d old new rows os lies same t = record {
  lies = lies;
  first = t.first;
  distinct = t.distinct;
  inside = each-weaker (λ o. o.block < opened_at old o.word) (λ o. o.block < opened_at new o.word) (λ o k. let e = same o.word in omega (arith, e, k)) os t.inside;
  wanted = t.wanted;
  passed = λ word i l. t.passed word i (let e = same word in omega (arith, e, l));
  shown = t.shown;
}

-- what holds of lanes whose document lies before the borders
high-at : (at : ℕ) (s : Sheet) (d x : ℕ) (l : Lane) → Lies at s d l → d ≤ x → x < l.border → often at x s ≤ l.top
high-at at s d x l k a b = (k.stands (omega (arith, a, b))).high x a b

pub through-passed : (at : ℕ) (ws : List ℕ) (ss : List Sheet) (count d e top : ℕ) (lanes : List Lane) (rows : List Row) (os : List Opened)
    → d ≤ e → Each (λ l. e ≤ l.border) lanes → ws ≡ weights_of lanes → top ≡ weighted (λ l. l.top) lanes
    → (top ≡ 0) ⊎ ((length rows ≡ count) × Each (λ r. top ≤ r.score) rows)
    → AreThrough at ws ss count d lanes rows os → AreThrough at ws ss count e lanes rows os
through-passed at ws ss count d e top lanes rows os l border weights is which t = record {
  lies = zip-with (λ _. ⊤) (λ s k. Lies at s d k × (e ≤ k.border)) (λ s k. Lies at s e k) (λ s k _ z. lies-on at s d e k l z.1 z.0) ss lanes (all-true ss) both;
  first = pass-first (score at ws ss) count d e rows l t.first (λ x a b p. none x a b p which);
  distinct = t.distinct;
  inside = t.inside;
  wanted = t.wanted;
  passed = λ word i k. elim (t.passed word i k) [ inl c ↦ inl c | inr c ↦ inr (omega (arith, c, l)) ];
  shown = t.shown;
}
  where
    all-true : (ss : List Sheet) → Each (λ _. ⊤) ss
    all-true [] = tt
    all-true (s ∷ ss) = (tt, all-true ss)

    both : AllZip (λ s k. Lies at s d k × (e ≤ k.border)) ss lanes
    both = zip-and (λ s k. Lies at s d k) (λ k. e ≤ k.border) ss lanes t.lies border

    low : (x : ℕ) → d ≤ x → x < e → score at ws ss x ≤ top
    low x a b =
        let u = total-under (λ s k. Lies at s d k × (e ≤ k.border)) (often at x) (λ k. k.top) (λ s k z. high-at at s d x k z.0 a (let n = z.1 in omega (arith, b, n))) ss lanes both in
        let w : total (often at x) ws ss ≡ total (often at x) (weights_of lanes) ss = ap (λ (v : List ℕ). total (often at x) v ss) weights in
        omega (arith, u, w, is)

    none : (x : ℕ) → d ≤ x → x < e → 0 < score at ws ss x → (top ≡ 0) ⊎ ((length rows ≡ count) × Each (λ r. top ≤ r.score) rows) → (length rows ≡ count) × Each (λ r. score at ws ss x ≤ r.score) rows
    none x a b p (inl z) = absurd (let n = low x a b in omega (arith, n, p, z))
    none x a b p (inr k) = (k.0, let n = low x a b in each-weaker (λ r. top ≤ r.score) (λ r. score at ws ss x ≤ r.score) (λ r y. omega (arith, n, y)) rows k.1)

-- ---- what is opened

abbrev pub IsWanted : ℕ → List ℕ → List Sheet → ℕ → Opened → Type 0
IsWanted at ws ss count o = AreEnough (score at ws ss) count (head_at ss o.word o.block).first.0 (bound ws ss (head_at ss o.word o.block)) → ⊥

wanted-any : (of : ℕ → ℕ) (count d first bound : ℕ) (rows : List Row) → 1 ≤ count → AreFirst (below d of) count rows → (length rows < count) ⊎ ((get_or rows (count - 1) no_row).score < bound) → first ≤ d → 0 < bound → AreEnough of count first bound → ⊥
wanted-any of count d first bound rows some is (inl room) l p enough = wanted-room of count d first bound rows is room l p enough
wanted-any of count d first bound rows some is (inr less) l p enough = elim (cases_lt (length rows) count) [
  | inl room ↦ wanted-room of count d first bound rows is room l p enough
  | inr full ↦
      let few = is.few in
      let n : (count - 1) + 1 ≡ count = omega (arith, some) in
      let k : length (take (count - 1) rows) ≡ min (count - 1) (length rows) = length-take (count - 1) rows in
      let e : rows ≡ take (count - 1) rows ++ get_or rows (count - 1) no_row ∷ [] = sym (take_all count rows few) ∙ ap (λ m. take m rows) (sym n) ∙ take-at (count - 1) rows no_row (omega (arith, full, some)) in
      wanted-more of count d first bound (take (count - 1) rows) (get_or rows (count - 1) no_row) (subst (AreFirst (below d of) count) e is) (omega (arith, k, full, few, some)) less l enough
]

pub through-opened : (at : ℕ) (ws : List ℕ) (ss : List Sheet) (count d top : ℕ) (old new : List Lane) (rows : List Row) (os : List Opened)
    → 1 ≤ count → Each (IsSheet at) ss → ws ≡ weights_of old → top ≡ weighted (λ l. l.top) old → Each (λ l. d < l.border) old
    → 0 < top → (length rows < count) ⊎ ((get_or rows (count - 1) no_row).score < top)
    → AllZip IsOpened old new → Lie at d ss new
    → AreThrough at ws ss count d old rows os → AreThrough at ws ss count d new rows (os ++ runs 0 old)
through-opened at ws ss count d top old new rows os some sheets weights is border up which zip lies t = record {
  lies = lies;
  first = t.first;
  distinct = distinct-append os (runs 0 old) t.distinct (runs-distinct 0 old)
      (each-weaker (λ o. o.block < opened_at old o.word) (λ o. Each (λ q. o ≢ q) (runs 0 old)) (λ o k. runs-each (λ q. o ≢ q) 0 old (λ j i l c e a b. λ z. other o j i l k c e a z)) os t.inside);
  inside = each-append (λ o. o.block < opened_at new o.word) os (runs 0 old)
      (each-weaker (λ o. o.block < opened_at old o.word) (λ o. o.block < opened_at new o.word) (λ o k. let m = opened-more old new o.word zip in omega (arith, m, k)) os t.inside)
      (runs-each (λ o. o.block < opened_at new o.word) 0 old (λ j i l c e a b. subst (λ w. i < opened_at new w) (plus j) (let m = opened-after old new j l zip c e in omega (arith, m, a, b))));
  wanted = each-append (IsWanted at ws ss count) os (runs 0 old) t.wanted
      (runs-each (IsWanted at ws ss count) 0 old (λ j i l c e a b. subst (λ w. IsWanted at ws ss count (record { word = w; block = i })) (plus j) (need j i l c e a b)));
  passed = λ word i h. let c : word < length old = omega (arith, opened-inside new word i h, zip-long IsOpened old new zip) in let l = lane-at old word c in by word i c l.0 l.1 (let m = opened-after old new word l.0 zip c l.1 in omega (arith, m, h));
  shown = λ o p c h s. Contains-append_left os (runs 0 old) o (t.shown o p c h s);
}
  where
    plus : (j : ℕ) → j ≡ 0 + j
    plus j = omega arith

    other : (o : Opened) (j i : ℕ) (l : Lane) → o.block < opened_at old o.word → j < length old → l ≡ get_or old j l → max l.opened l.cover ≤ i → o ≡ record { word = 0 + j; block = i } → ⊥
    other o j i l k c e a z =
        let w : o.word ≡ 0 + j = ap (λ (q : Opened). q.word) z in
        let v : o.word ≡ j = omega (arith, w) in
        let b : o.block ≡ i = ap (λ (q : Opened). q.block) z in
        let s : opened_at old o.word ≡ l.opened = ap (opened_at old) v ∙ opened-is old j l c e in
        omega (arith, k, b, s, a)

    both : AllZip (λ s l. Lies at s d l × (d < l.border)) ss old
    both = zip-and (λ s l. Lies at s d l) (λ l. d < l.border) ss old t.lies border

    at-lane : (j : ℕ) (l : Lane) → j < length old → l ≡ get_or old j l → Lies at (sheet_at ss j) d l × (d < l.border)
    at-lane j l c e = subst (λ (x : Lane). Lies at (sheet_at ss j) d x × (d < x.border)) (sym e) (zip-at (λ s l. Lies at s d l × (d < l.border)) ss old j no_sheet l both c)

    tops : top ≤ total (most (covers d)) ws ss
    tops =
        let u = total-above (λ s l. Lies at s d l × (d < l.border)) (most (covers d)) (λ l. l.top) (λ s l z. (z.0.stands z.1).low d (omega arith) z.1) ss old both in
        let w : total (most (covers d)) ws ss ≡ total (most (covers d)) (weights_of old) ss = ap (λ (v : List ℕ). total (most (covers d)) v ss) weights in
        omega (arith, u, w, is)

    need : (j i : ℕ) (l : Lane) → j < length old → l ≡ get_or old j l → max l.opened l.cover ≤ i → i < l.after → IsWanted at ws ss count (record { word = j; block = i })
    need j i l c e a b =
        let k = at-lane j l c e in
        let cover : covers d (head_at ss j i) ≡ true = (k.0.stands k.1).range d i (omega arith) k.1 (omega (arith, a)) b in
        let bnd = tops-bound at ws ss d (head_at ss j i) sheets cover in
        let up2 : top ≤ bound ws ss (head_at ss j i) = omega (arith, tops, bnd) in
        wanted-any (score at ws ss) count d (head_at ss j i).first.0 (bound ws ss (head_at ss j i)) rows some t.first (wider (bound ws ss (head_at ss j i)) up2 which) (covers-tells d (head_at ss j i) cover).0 (omega (arith, up, up2))
      where
        wider : (n : ℕ) → top ≤ n → (length rows < count) ⊎ ((get_or rows (count - 1) no_row).score < top) → (length rows < count) ⊎ ((get_or rows (count - 1) no_row).score < n)
        wider n u (inl r) = inl r
        wider n u (inr r) = inr (omega (arith, u, r))

    by : (word i : ℕ) → word < length old → (l : Lane) → l ≡ get_or old word l → i < max (max l.opened l.cover) l.after → Contains (os ++ runs 0 old) (record { word = word; block = i }) ⊎ ((head_at ss word i).last.0 < d)
    by word i c l e h = elim (cases_lt i l.opened) [
      | inl m ↦ elim (t.passed word i (let o = opened-is old word l c e in omega (arith, o, m))) [
        | inl q ↦ inl (Contains-append_left os (runs 0 old) (record { word = word; block = i }) q)
        | inr q ↦ inr q
      ]
      | inr m ↦ elim (cases_lt i l.cover) [
        | inl n ↦ let k = (at-lane word l c e).0.keeps in let v = k.covering in inr (k.passed i n (omega (arith, n, v)))
        | inr n ↦ inl (Contains-append_right os (runs 0 old) (record { word = word; block = i })
            (subst (λ w. Contains (runs 0 old) (record { word = w; block = i })) (sym (plus word)) (runs-has 0 old word i l c e (omega (arith, m, n)) (omega (arith, m, n, h)))))
      ]
    ]

-- ---- what is scored

pub none-in : (p : Posting) → Contains [] p → ⊥
none-in p c = let l = c.1 in omega (arith, l)

pub each-in : {X : Type 0} (P : X → Type 0) (xs : List X) (x : X) → Contains xs x → Each P xs → P x
each-in P xs x c e = subst P c.2 (each-at P c.0 xs x c.1 e)

pub through-scored : (at : ℕ) (ws : List ℕ) (ss : List Sheet) (count d end : ℕ) (old new : List Lane) (rows more : List Row) (os : List Opened)
    → Each (IsSheet at) ss → d ≤ end → Each (λ l. d < l.border) old → Each (λ l. (l.after ≤ l.opened) × (end ≤ l.start)) old
    → AllZip (IsPassed at end) old new → AreFirst (below end (score at ws ss)) count more
    → ((x : ℕ) → shows more x ≡ true → (shows rows x ≡ true) ⊎ ((d ≤ x) × (x < end)))
    → AreThrough at ws ss count d old rows os → AreThrough at ws ss count end new more os
through-scored at ws ss count d end old new rows more os sheets l border ready zip first seen t = record {
  lies = zip-through (λ s k. Lies at s d k × (d < k.border)) (IsPassed at end) (λ s k. Lies at s end k) (λ s k n z p. lies-passed at s d end k n l z.1 z.0 p) ss old new both zip;
  first = first;
  distinct = t.distinct;
  inside = each-weaker (λ o. o.block < opened_at old o.word) (λ o. o.block < opened_at new o.word) (λ o k. let e = opened-same at end old new o.word zip in omega (arith, e, k)) os t.inside;
  wanted = t.wanted;
  passed = λ word i k. elim (t.passed word i (let e = opened-same at end old new word zip in omega (arith, e, k))) [ inl c ↦ inl c | inr c ↦ inr (omega (arith, c, l)) ];
  shown = λ o p c h s. elim (seen p.doc.0 s) [ inl k ↦ t.shown o p c h k | inr k ↦ fresh o p c k.0 k.1 ];
}
  where
    both : AllZip (λ s k. Lies at s d k × (d < k.border)) ss old
    both = zip-and (λ s k. Lies at s d k) (λ k. d < k.border) ss old t.lies border

    fresh : (o : Opened) (p : Posting) → Contains (get_or (sheet_at ss o.word).blocks o.block []) p → d ≤ p.doc.0 → p.doc.0 < end → Contains os o
    fresh o p c a b = elim (cases_lt o.word (length ss)) [
      | inr far ↦ absurd (let e : get_or (sheet_at ss o.word).blocks o.block [] ≡ [] = ap (λ (s : Sheet). get_or s.blocks o.block []) (get-past ss o.word no_sheet far) in none-in p (subst (λ ps. Contains ps p) e c))
      | inl near ↦ elim (cases_lt o.block (length (sheet_at ss o.word).heads)) [
        | inr far ↦ absurd (
            let n = zip-length (sheet_at ss o.word).heads (sheet_at ss o.word).blocks (each-at (IsSheet at) o.word ss no_sheet near sheets).heads_are in
            none-in p (subst (λ ps. Contains ps p) (get-past (sheet_at ss o.word).blocks o.block [] (omega (arith, far, n))) c))
        | inl inside ↦
            let w : o.word < length old = omega (arith, near, zip-long (λ s k. Lies at s d k) ss old t.lies) in
            let k = lane-at old o.word w in
            let lies = subst (λ (x : Lane). Lies at (sheet_at ss o.word) d x × (d < x.border)) (sym k.1) (zip-at (λ s k. Lies at s d k × (d < k.border)) ss old o.word no_sheet k.0 both w) in
            let op = subst (λ (x : Lane). (x.after ≤ x.opened) × (end ≤ x.start)) (sym k.1) (each-at (λ k. (k.after ≤ k.opened) × (end ≤ k.start)) o.word old k.0 w ready) in
            let st = lies.0.stands lies.1 in
            let range = each-in (λ q. ((head_at ss o.word o.block).first.0 ≤ q.doc.0) × (q.doc.0 ≤ (head_at ss o.word o.block).last.0)) (get_or (sheet_at ss o.word).blocks o.block []) p c (block-is at (sheet_at ss o.word) o.block (each-at (IsSheet at) o.word ss no_sheet near sheets) inside).range in
            elim (cases_lt o.block k.0.after) [
              | inr late ↦ absurd (let later = st.later o.block late inside in let start = op.1 in omega (arith, later, start, range.0, b))
              | inl early ↦ elim (t.passed o.word o.block (let is = opened-is old o.word k.0 w k.1 in let after = op.0 in omega (arith, is, after, early))) [
                | inl q ↦ q
                | inr q ↦ absurd (omega (arith, q, range.1, a))
              ]
            ]
      ]
    ]

-- ---- the beginning and the end

pub through-none : (at : ℕ) (ws : List ℕ) (ss : List Sheet) (count : ℕ) (lanes : List Lane) → Each (λ l. l.opened ≡ 0) lanes → Lie at 0 ss lanes → AreThrough at ws ss count 0 lanes [] []
through-none at ws ss count lanes opened lies = record {
  lies = lies;
  first = record {
    ranked = tt;
    few = omega arith;
    scored = tt;
    rest = λ d p h. absurd (let l = below-some 0 (score at ws ss) d p in omega (arith, l));
  };
  distinct = tt;
  inside = tt;
  wanted = tt;
  passed = λ word i l. absurd (let e = opened-none lanes word opened in omega (arith, e, l));
  shown = λ o p c h s. absurd (cc);
}

first-same : (f g : ℕ → ℕ) (count : ℕ) (rows : List Row) → ((d : ℕ) → f d ≡ g d) → AreFirst f count rows → AreFirst g count rows
first-same f g count rows e is = record {
  ranked = is.ranked;
  few = is.few;
  scored = each-weaker (λ r. (r.score ≡ f r.doc.0) × (0 < r.score)) (λ r. (r.score ≡ g r.doc.0) × (0 < r.score)) (λ r k. (k.0 ∙ e r.doc.0, k.1)) rows is.scored;
  rest = λ d p h. let k = is.rest d (let q = e d in omega (arith, p, q)) h in (k.0, subst (λ n. Each (λ r. ((n < r.score) ⊎ ((r.score ≡ n) × (r.doc.0 < d)))) rows) (e d) k.1);
}

pub through-first : (at : ℕ) (ws : List ℕ) (ss : List Sheet) (count : ℕ) (lanes : List Lane) (rows : List Row) (os : List Opened) → AreThrough at ws ss count (2 ^ 32) lanes rows os → AreFirst (score at ws ss) count rows
through-first at ws ss count lanes rows os t = first-same (below (2 ^ 32) (score at ws ss)) (score at ws ss) count rows same t.first
  where
    same : (d : ℕ) → below (2 ^ 32) (score at ws ss) d ≡ score at ws ss d
    same d = elim (cases_lt d (2 ^ 32)) [
      | inl l ↦ below-yes (2 ^ 32) (score at ws ss) d l
      | inr l ↦ below-no (2 ^ 32) (score at ws ss) d l ∙ sym (score-far at d ws ss l)
    ]

or-right : (a b : Bool) → b ≡ true → (a || b) ≡ true
or-right true b e = refl
or-right false b e = e

shows-in : (rows : List Row) (r : Row) (k : ℕ) → k < length rows → get_or rows k r ≡ r → shows rows r.doc.0 ≡ true
shows-in [] r k l e = absurd (omega (arith, l))
shows-in (q ∷ rows) r zero l e = here (eqb_tells q.doc.0 r.doc.0)
  where
    here : (((q.doc.0 == r.doc.0) ≡ true) × (q.doc.0 ≡ r.doc.0)) ⊎ (((q.doc.0 == r.doc.0) ≡ false) × (q.doc.0 ≢ r.doc.0)) → shows (q ∷ rows) r.doc.0 ≡ true
    here (inl k) = ap (λ b. b || shows rows r.doc.0) k.0
    here (inr k) = absurd (k.1 (ap (λ (x : Row). x.doc.0) e))
shows-in (q ∷ rows) r (suc k) l e = or-right (q.doc.0 == r.doc.0) (shows rows r.doc.0) (shows-in rows r k (omega (arith, l)) e)

pub through-opens : {S E : Type 0} (call : Call S E) (at : ℕ) (ws : List ℕ) (ss : List Sheet) (count : ℕ) (lanes : List Lane) (rows : List Row) (os : List Opened) (old new : S)
    → Opens call old os new → AreThrough at ws ss count (2 ^ 32) lanes rows os → HasOpened call at ws ss count rows old new
through-opens call at ws ss count lanes rows os old new opens t = record {
  os = os;
  opens = opens;
  distinct = t.distinct;
  wanted = t.wanted;
  shown = λ o s. t.shown o s.posting s.there s.held (let c = s.shown in let e = shows-in rows s.row c.0 c.1 c.2 in subst (λ (n : ℕ). shows rows n ≡ true) (sym (ap (λ (x : DocId). x.0) s.doc)) e);
}
