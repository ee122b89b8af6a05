-- That a block which has a posting of a document shown isn't needless; and so there are blocks that may be opened for first rows.
use Rattle.std.specs.Prelude.{◌≡◌, ◌≢◌, ◌⊎◌, ℕ, zero, suc, ◌+◌, ◌<◌, ◌≤◌, ◌==◌, ◌&&◌, ◌||◌, Bool, true, false, cond, List, [], ◌∷◌, ◌++◌, length, get_or, filter, Contains, refl}
use Rattle.std.specs.List.{list_any}
use Rattle.std.proofs.Common.{arith, ap, sym, ◌∙◌, subst, inl, inr}
use Rattle.std.proofs.lemmas.Bool.{cases_lt}
use Rattle.std.proofs.lemmas.Bool.Decides.{eqb_tells}
use Rattle.std.proofs.lemmas.List.{length-append}
use Rattle.std.proofs.lemmas.List.Elements.{Contains-append_left, Contains-append_right}
use Rattle.base_types.specs.declared.posting.Posting.{Posting}
use Rattle.lists_postings.specs.Lists.{holds}
use Rattle.lists_postings.proofs.Elements.{filter-in, here-or-later}
use Rattle.query_top.specs.Firsts.{Each, Beats, AreFirst, AreEnough, IsAscending, shows}
use Rattle.query_top.specs.Sheets.{Sheet, IsSheet, often, covers, most, total, score, bound, sheet_at, head_at, no_sheet, no_head}
use Rattle.query_top.specs.Opening.{Opened, AreDistinct, HasShown, run_of}
use Rattle.query_top.specs.declared.ranking.Row.{Row}
use Rattle.query_top.proofs.EachLemmas.{each-append, each-weaker, each-at}
use Rattle.query_top.proofs.HeadLemmas.{each-from, freq-append, freq-greatest, freq-joined, list-ascends, top-at}
use Rattle.query_top.proofs.LaneLemmas.{covers-yes}
use Rattle.query_top.proofs.OpenLemmas.{block-is, zip-length}
use Rattle.query_top.proofs.RunLemmas.{distinct-append, run-distinct, run-each, run-has}
use Rattle.query_top.proofs.StepLemmas.{each-in, none-in}
use Rattle.query_top.proofs.TopLemmas.{pigeon, tops-bound, total-le}
use Rattle.query_top.proofs.ZipLemmas.{get-past}

-- ---- a score is at most the tops of the blocks that cover the document

often-tops : (at d : ℕ) (s : Sheet) → IsSheet at s → often at d s ≤ most (covers d) s
often-tops at d s is =
    freq-append d at (most (covers d) s) _ s.flat
    (freq-joined d at (most (covers d) s) s.heads s.blocks is.heads_are (list-ascends _ is.listed)
    (each-from (λ h. covers d h ≡ true → h.top ≤ most (covers d) s) no_head s.heads (λ i l c. omega (arith, top-at (covers d) s.heads i no_head l c))))
    (omega (arith, freq-greatest d at s.flat))

score-tops : (at : ℕ) (ws : List ℕ) (ss : List Sheet) (d : ℕ) → Each (IsSheet at) ss → score at ws ss d ≤ total (most (covers d)) ws ss
score-tops at ws ss d e = total-le (IsSheet at) (often at d) (most (covers d)) (often-tops at d) ws ss e

-- ---- such a block isn't needless

-- a number behind ascending ones
ascends-push : (xs : List ℕ) (y : ℕ) → IsAscending xs → Each (λ x. x < y) xs → IsAscending (xs ++ y ∷ [])
ascends-push [] y a e = (tt, tt)
ascends-push (x ∷ xs) y a e = (each-append (λ z. x < z) xs (y ∷ []) a.0 (e.0, tt), ascends-push xs y a.1 e.1)

pub shows-row : (rows : List Row) (r : Row) → Contains rows r → shows rows r.doc.0 ≡ true
shows-row [] r (k, l, e) = absurd (omega (arith, l))
shows-row (q ∷ rows) r c = go (here-or-later q r rows c) (shows-row rows r)
  where
    there : (b : Bool) → shows rows r.doc.0 ≡ true → (b || shows rows r.doc.0) ≡ true
    there true e = refl
    there false e = e

    go : (q ≡ r) ⊎ Contains rows r → (Contains rows r → shows rows r.doc.0 ≡ true) → ((q.doc.0 == r.doc.0) || shows rows r.doc.0) ≡ true
    go (inl e) rest = elim (eqb_tells q.doc.0 r.doc.0) [
      | inl y ↦ ap (λ (b : Bool). b || shows rows r.doc.0) y.0
      | inr n ↦ absurd (n.1 (ap (λ (x : Row). x.doc.0) e))
    ]
    go (inr k) rest = there (q.doc.0 == r.doc.0) (rest k)

either : (b : Bool) → (b ≡ false → ⊥) → b ≡ true
either true f = refl
either false f = absurd (f refl)

-- rows have no room for as many documents in front of one that is shown, none with a lower score
crowded : (of : ℕ → ℕ) (count first bound : ℕ) (rows : List Row) (r : Row) → AreFirst of count rows → Contains rows r → first ≤ r.doc.0 → of r.doc.0 ≤ bound → AreEnough of count first bound → ⊥
crowded of count first bound rows r is among behind least enough =
    let scored = each-in (λ (q : Row). (q.score ≡ of q.doc.0) × (0 < q.score)) rows r among is.scored in
    let all = each-append (λ d. shows rows d ≡ true) enough.docs (r.doc.0 ∷ [])
    (each-weaker (λ d. (d < first) × (bound ≤ of d)) (λ d. shows rows d ≡ true) (λ d k. either (shows rows d) (λ hidden. never scored.0 scored.1 d k hidden)) enough.docs enough.each)
    (shows-row rows r among, tt) in
    let p = pigeon (enough.docs ++ r.doc.0 ∷ []) rows
    (ascends-push enough.docs r.doc.0 enough.ascending (each-weaker (λ d. (d < first) × (bound ≤ of d)) (λ d. d < r.doc.0) (λ d k. omega (arith, k.0, behind)) enough.docs enough.each)) all in
    omega (arith, p, length-append enough.docs (r.doc.0 ∷ []), enough.enough, is.few)
  where
    beaten : (d : ℕ) → r.score ≡ of r.doc.0 → (d < first) × (bound ≤ of d) → Beats r d (of d) → ⊥
    beaten d e k (inl less) = omega (arith, less, e, k.1, least)
    beaten d e k (inr same) = omega (arith, same.1, k.0, behind)

    never : r.score ≡ of r.doc.0 → 0 < r.score → (d : ℕ) → (d < first) × (bound ≤ of d) → shows rows d ≡ false → ⊥
    never e some d k hidden =
        let rest = is.rest d (omega (arith, k.1, least, e, some)) hidden in beaten d e k (each-in (λ (q : Row). Beats q d (of d)) rows r among rest.1)

-- the block is of one of the words, and has a header
record IsThere (ss : List Sheet) (o : Opened) : Type 0 where
  pub word : o.word < length ss
  pub block : o.block < length (sheet_at ss o.word).heads

-- a block that has a posting is there
shown-there : (at : ℕ) (ss : List Sheet) (rows : List Row) (o : Opened) → Each (IsSheet at) ss → HasShown at ss rows o → IsThere ss o
shown-there at ss rows o sheets h = elim (cases_lt o.word (length ss)) [
  | inr far ↦ absurd (let e : get_or (sheet_at ss o.word).blocks o.block [] ≡ [] = ap (λ (s : Sheet). get_or s.blocks o.block []) (get-past ss o.word no_sheet far) in none-in h.posting (subst (λ ps. Contains ps h.posting) e h.there))
  | inl near ↦
      let s = sheet_at ss o.word in
      let is : IsSheet at s = each-at (IsSheet at) o.word ss no_sheet near sheets in
      let n = zip-length s.heads s.blocks is.heads_are in elim (cases_lt o.block (length s.heads)) [
        | inl m ↦ record { word = near; block = m }
        | inr far ↦ absurd (none-in h.posting (subst (λ ps. Contains ps h.posting) (get-past s.blocks o.block [] (omega (arith, far, n))) h.there))
      ]
]

-- a block that has a posting of a document shown isn't needless
pub shown-wanted : (at : ℕ) (ws : List ℕ) (ss : List Sheet) (count : ℕ) (rows : List Row) (o : Opened) → Each (IsSheet at) ss → AreFirst (score at ws ss) count rows → HasShown at ss rows o
    → AreEnough (score at ws ss) count (head_at ss o.word o.block).first.0 (bound ws ss (head_at ss o.word o.block)) → ⊥
shown-wanted at ws ss count rows o sheets is h enough =
    let there = shown-there at ss rows o sheets h in
    let s = sheet_at ss o.word in
    let head = head_at ss o.word o.block in
    let one : IsSheet at s = each-at (IsSheet at) o.word ss no_sheet there.word sheets in
    let b = block-is at s o.block one there.block in
    let range = each-in (λ (q : Posting). (head.first.0 ≤ q.doc.0) × (q.doc.0 ≤ head.last.0)) (get_or s.blocks o.block []) h.posting h.there b.range in
    let doc : h.posting.doc.0 ≡ h.row.doc.0 = ap (λ d. d.0) h.doc in
    let c = covers-yes h.row.doc.0 head (omega (arith, range.0, doc)) (omega (arith, range.1, doc)) in
    let low = score-tops at ws ss h.row.doc.0 sheets in
    let high = tops-bound at ws ss h.row.doc.0 head sheets c in
    crowded (score at ws ss) count head.first.0 (bound ws ss head) rows h.row is h.shown (omega (arith, range.0, doc)) (omega (arith, low, high)) enough

-- ---- there are such blocks

-- all blocks of the words from this one on
abbrev all_blocks : ℕ → List Sheet → List Opened
all_blocks base [] = []
all_blocks base (s ∷ ss) = run_of base 0 (length s.heads) ++ all_blocks (base + 1) ss

all-each : (P : Opened → Type 0) (base : ℕ) (ss : List Sheet) → ((j i : ℕ) → j < length ss → i < length (sheet_at ss j).heads → P (record { word = base + j; block = i })) → Each P (all_blocks base ss)
all-each P base [] f = tt
all-each P base (s ∷ ss) f =
    let z : base + 0 ≡ base = omega arith in
    each-append P (run_of base 0 (length s.heads)) (all_blocks (base + 1) ss)
    (run-each P base 0 (length s.heads) (λ i a b. subst (λ w. P (record { word = w; block = i })) z (f 0 i (omega arith) (omega (arith, b)))))
    (all-each P (base + 1) ss (λ j i c b. let y : base + suc j ≡ (base + 1) + j = omega arith in subst (λ w. P (record { word = w; block = i })) y (f (suc j) i (omega (arith, c)) b)))

all-has : (base : ℕ) (ss : List Sheet) (j i : ℕ) → j < length ss → i < length (sheet_at ss j).heads → Contains (all_blocks base ss) (record { word = base + j; block = i })
all-has base [] j i c b = absurd (omega (arith, c))
all-has base (s ∷ ss) zero i c b =
    let z : base ≡ base + 0 = omega arith in
    subst (λ w. Contains (all_blocks base (s ∷ ss)) (record { word = w; block = i })) z
    (Contains-append_left (run_of base 0 (length s.heads)) (all_blocks (base + 1) ss) (record { word = base; block = i }) (run-has base 0 (length s.heads) i (omega arith) (omega (arith, b))))
all-has base (s ∷ ss) (suc j) i c b =
    let y : (base + 1) + j ≡ base + suc j = omega arith in
    subst (λ w. Contains (all_blocks base (s ∷ ss)) (record { word = w; block = i })) y
    (Contains-append_right (run_of base 0 (length s.heads)) (all_blocks (base + 1) ss) (record { word = (base + 1) + j; block = i }) (all-has (base + 1) ss j i (omega (arith, c)) b))

all-distinct : (base : ℕ) (ss : List Sheet) → AreDistinct (all_blocks base ss)
all-distinct base [] = tt
all-distinct base (s ∷ ss) =
    distinct-append (run_of base 0 (length s.heads)) (all_blocks (base + 1) ss) (run-distinct base 0 (length s.heads)) (all-distinct (base + 1) ss)
    (run-each (λ o. Each (λ q. o ≢ q) (all_blocks (base + 1) ss)) base 0 (length s.heads)
    (λ i a b. all-each (λ q. record { word = base; block = i } ≢ q) (base + 1) ss (λ j k c d. λ z. let w : base ≡ (base + 1) + j = ap (λ (o : Opened). o.word) z in omega (arith, w))))

each-filter : (P : Opened → Type 0) (p : Opened → Bool) (xs : List Opened) → Each P xs → Each P (filter p xs)
each-filter P p [] e = tt
each-filter P p (x ∷ xs) e = go (p x) (each-filter P p xs e.1)
  where
    go : (b : Bool) → Each P (filter p xs) → Each P (cond b (x ∷ filter p xs) (filter p xs))
    go true rest = (e.0, rest)
    go false rest = rest

distinct-filter : (p : Opened → Bool) (xs : List Opened) → AreDistinct xs → AreDistinct (filter p xs)
distinct-filter p [] d = tt
distinct-filter p (x ∷ xs) d = go (p x) (distinct-filter p xs d.1)
  where
    go : (b : Bool) → AreDistinct (filter p xs) → AreDistinct (cond b (x ∷ filter p xs) (filter p xs))
    go true rest = (each-filter (λ q. x ≢ q) p xs d.0, rest)
    go false rest = rest

-- a posting of a document shown, at the time
abbrev is_shown : ℕ → List Row → Posting → Bool
is_shown at rows p = holds at p && shows rows p.doc.0

abbrev has_shown : ℕ → List Sheet → List Row → Opened → Bool
has_shown at ss rows o = list_any (is_shown at rows) (get_or (sheet_at ss o.word).blocks o.block [])

any-from : (p : Posting → Bool) (ps : List Posting) → list_any p ps ≡ true → (q : Posting) × Contains ps q × (p q ≡ true)
any-from p [] h = absurd cc
any-from p (x ∷ ps) h = go (p x) refl h (any-from p ps)
  where
    go : (b : Bool) → p x ≡ b → (b || list_any p ps) ≡ true → (list_any p ps ≡ true → (q : Posting) × Contains ps q × (p q ≡ true)) → (q : Posting) × Contains (x ∷ ps) q × (p q ≡ true)
    go true e h rest = (x, (0, omega arith, refl), e)
    go false e h rest = let (q, (k, l, i), t) = rest h in (q, (suc k, omega (arith, l), i), t)

any-has : (p : Posting → Bool) (ps : List Posting) (q : Posting) → Contains ps q → p q ≡ true → list_any p ps ≡ true
any-has p [] q c t = absurd (none-in q c)
any-has p (x ∷ ps) q c t = go (here-or-later x q ps c) (λ k. any-has p ps q k t)
  where
    there : (b : Bool) → list_any p ps ≡ true → (b || list_any p ps) ≡ true
    there true e = refl
    there false e = e

    go : (x ≡ q) ⊎ Contains ps q → (Contains ps q → list_any p ps ≡ true) → (p x || list_any p ps) ≡ true
    go (inl i) rest = ap (λ (b : Bool). b || list_any p ps) (ap p i ∙ t)
    go (inr k) rest = there (p x) (rest k)

row-shown : (rows : List Row) (d : ℕ) → shows rows d ≡ true → (r : Row) × Contains rows r × (r.doc.0 ≡ d)
row-shown [] d h = absurd cc
row-shown (r ∷ rows) d h = elim (eqb_tells r.doc.0 d) [
  | inl y ↦ (r, (0, omega arith, refl), y.1)
  | inr n ↦
      let (q, (k, l, i), e) = row-shown rows d (sym (ap (λ (b : Bool). b || shows rows d) n.0) ∙ h) in (q, (suc k, omega (arith, l), i), e)
]

both-true : (a b : Bool) → (a && b) ≡ true → (a ≡ true) × (b ≡ true)
both-true true b h = (refl, h)
both-true false b h = absurd cc

shown-from : (at : ℕ) (ss : List Sheet) (rows : List Row) (o : Opened) → has_shown at ss rows o ≡ true → HasShown at ss rows o
shown-from at ss rows o h =
    let (p, there, t) = any-from (is_shown at rows) (get_or (sheet_at ss o.word).blocks o.block []) h in
    let both = both-true (holds at p) (shows rows p.doc.0) t in
    let (r, among, e) = row-shown rows p.doc.0 both.1 in
    record { row = r; shown = among; posting = p; there = there; doc = λ i. record { 0 = sym e i }; held = both.0 }

shown-has : (at : ℕ) (ss : List Sheet) (rows : List Row) (o : Opened) → HasShown at ss rows o → has_shown at ss rows o ≡ true
shown-has at ss rows o h =
    let s : shows rows h.posting.doc.0 ≡ true = ap (λ d. shows rows d.0) h.doc ∙ shows-row rows h.row h.shown in
    any-has (is_shown at rows) (get_or (sheet_at ss o.word).blocks o.block []) h.posting h.there (ap (λ (b : Bool). b && shows rows h.posting.doc.0) h.held ∙ s)

-- blocks that may be opened for these rows
pub record MayOpen (at : ℕ) (ws : List ℕ) (ss : List Sheet) (count : ℕ) (rows : List Row) : Type 0 where
  pub os : List Opened
  pub inside : Each (λ o. o.block < length (sheet_at ss o.word).heads) os
  pub distinct : AreDistinct os
  pub wanted : Each (λ o. AreEnough (score at ws ss) count (head_at ss o.word o.block).first.0 (bound ws ss (head_at ss o.word o.block)) → ⊥) os
  pub shown : (o : Opened) → HasShown at ss rows o → Contains os o

each-test : (P : Opened → Type 0) (p : Opened → Bool) (xs : List Opened) → ((o : Opened) → p o ≡ true → P o) → Each P (filter p xs)
each-test P p [] f = tt
each-test P p (x ∷ xs) f = go (p x) refl (each-test P p xs f)
  where
    go : (b : Bool) → p x ≡ b → Each P (filter p xs) → Each P (cond b (x ∷ filter p xs) (filter p xs))
    go true e rest = (f x e, rest)
    go false e rest = rest

-- those that have a posting of a document shown
pub may_open : (at : ℕ) (ws : List ℕ) (ss : List Sheet) (count : ℕ) (rows : List Row) → Each (IsSheet at) ss → AreFirst (score at ws ss) count rows → MayOpen at ws ss count rows
may_open at ws ss count rows sheets is =
    let p = has_shown at ss rows in
    let all = all_blocks 0 ss in
    record {
      os = filter p all;
      inside = each-filter (λ o. o.block < length (sheet_at ss o.word).heads) p all (all-each (λ o. o.block < length (sheet_at ss o.word).heads) 0 ss (λ j i c b. let z : 0 + j ≡ j = omega arith in subst (λ w. i < length (sheet_at ss w).heads) (sym z) b));
      distinct = distinct-filter p all (all-distinct 0 ss);
      wanted = each-test _ p all (λ o h. shown-wanted at ws ss count rows o sheets is (shown-from at ss rows o h));
      shown = λ o h.
          let there = shown-there at ss rows o sheets h in
          let z : 0 + o.word ≡ o.word = omega arith in
          let c = subst (λ w. Contains all (record { word = w; block = o.block })) z (all-has 0 ss o.word o.block there.word there.block) in
          filter-in p o all c (shown-has at ss rows o h);
    }
