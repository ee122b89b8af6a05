-- A lane whose blocks are opened.
use Rattle.std.specs.Prelude.{◌≡◌, ◌⊎◌, ℕ, zero, suc, ◌+◌, ◌<◌, ◌≤◌, max, List, [], ◌∷◌, ◌++◌, length, take, drop, get_or, refl}
use Rattle.std.specs.declared.alloc.Global.{Global}
use Rattle.std.specs.declared.vec.Vec.{Vec}
use Rattle.std.proofs.Common.{arith, ap, sym, ◌∙◌, subst, inl, inr}
use Rattle.std.proofs.lemmas.Bool.{cases_lt}
use Rattle.base_types.specs.declared.posting.Posting.{Posting}
use Rattle.pages_codec.specs.declared.head.BlockHead.{BlockHead}
use Rattle.query_top.specs.Firsts.{Each}
use Rattle.query_top.specs.Sheets.{Sheet, IsSheet, joined, no_head}
use Rattle.query_top.specs.Lanes.{tally, AreAscending, Keeps, Stands}
use Rattle.query_top.specs.declared.lane.Lane.{Lane}
use Rattle.query_top.proofs.EachLemmas.{each-append, each-weaker}
use Rattle.query_top.proofs.HeadLemmas.{AreInOrder, sheet-order}
use Rattle.query_top.proofs.OpenLemmas.{IsBlock, block-is, over, tally-block, tally-append, ascends-join, zip-length}

-- ---- what changes of a lane

pub lane-same : (old new : Lane) (n : ℕ) → new ≡ record old { opened = n } → new ≡ record old { opened = new.opened; hits = new.hits; cursor = new.cursor }
lane-same old new n e = subst (λ (x : Lane). x ≡ record old { opened = x.opened; hits = x.hits; cursor = x.cursor }) (sym e) refl

pub lane-joined : (old mid new : Lane) → mid ≡ record old { opened = mid.opened; hits = mid.hits; cursor = mid.cursor } → new ≡ record mid { opened = mid.opened + 1; hits = new.hits; cursor = new.cursor }
    → new ≡ record old { opened = new.opened; hits = new.hits; cursor = new.cursor }
lane-joined old mid new h e =
    let f : new ≡ record old { opened = mid.opened + 1; hits = new.hits; cursor = new.cursor } = e ∙ ap (λ (x : Lane). record x { opened = mid.opened + 1; hits = new.hits; cursor = new.cursor }) h in
    let n : new.opened ≡ mid.opened + 1 = ap (λ (x : Lane). x.opened) e in
    f ∙ ap (λ (k : ℕ). record old { opened = k; hits = new.hits; cursor = new.cursor }) (sym n)

first-last : (hs : List BlockHead) (i : ℕ) (d : BlockHead) → AreInOrder hs → i < length hs → (get_or hs i d).first.0 ≤ (get_or hs i d).last.0
first-last [] i d o l = absurd (omega (arith, l))
first-last (h ∷ hs) zero d o l = o.0
first-last (h ∷ hs) (suc i) d o l = first-last hs i d o.2 (omega (arith, l))

-- ---- passing over blocks that end before the document

pub keeps-over : (at : ℕ) (s : Sheet) (d : ℕ) (old : Lane) → IsSheet at s → Keeps at s d old → Keeps at s d (record old { opened = max old.opened old.cover })
keeps-over at s d old sheet k = record {
  passed = k.passed;
  covering = k.covering;
  begun = λ i l. elim (cases_lt i old.opened) [
    | inl m ↦ k.begun i m
    | inr m ↦ let c = k.covering in let p = k.passed i (omega (arith, l, m)) (omega (arith, l, m, c)) in let o = first-last s.heads i no_head (sheet-order at s sheet) (omega (arith, l, m, c)) in omega (arith, p, o)
  ];
  within = let c = k.covering in let w = k.within in omega (arith, c, w);
  tells = λ x a. k.tells x a ∙ ap (λ n. n + tally at x s.flat) (sym (same x a));
  ascending = k.ascending;
  ahead = λ i l. k.ahead i (omega (arith, l));
  flat_from = k.flat_from;
  flat_top = k.flat_top;
  ends = k.ends;
}
  where
    same : (x : ℕ) → d ≤ x → tally at x (joined (take (max old.opened old.cover) s.blocks)) ≡ tally at x (joined (take old.opened s.blocks))
    same x a = elim (cases_lt old.opened old.cover) [
      | inl m ↦ let c = k.covering in ap (λ n. tally at x (joined (take n s.blocks))) (omega (arith, m)) ∙ over at s d old.opened old.cover x sheet (omega (arith, m)) c (λ i l. k.passed i l (omega (arith, l, c))) a
      | inr m ↦ ap (λ n. tally at x (joined (take n s.blocks))) (omega (arith, m))
    ]

-- ---- one block more

drop-front : (n : ℕ) (a b : List Posting) → n ≤ length a → drop n (a ++ b) ≡ drop n a ++ b
drop-front zero a b l = refl
drop-front (suc n) [] b l = absurd (omega (arith, l))
drop-front (suc n) (p ∷ a) b l = drop-front n a b (omega (arith, l))

drop-all : (n : ℕ) (a : List Posting) → n ≡ length a → drop n a ≡ []
drop-all zero [] e = refl
drop-all (suc n) [] e = absurd (omega (arith, e))
drop-all zero (p ∷ a) e = absurd (omega (arith, e))
drop-all (suc n) (p ∷ a) e = drop-all n a (omega (arith, e))

pub keeps-take : (at : ℕ) (s : Sheet) (d : ℕ) (old : Lane) (hits : Vec Posting Global) (cursor : ℕ) (b : List Posting) → IsSheet at s → Keeps at s d old
    → old.opened < length s.heads → (get_or s.heads old.opened no_head).first.0 ≤ d → b ≡ get_or s.blocks old.opened [] → old.cursor ≤ length old.hits.items
    → ((hits.items ≡ b) × (cursor ≡ 0) × (old.cursor ≡ length old.hits.items)) ⊎ ((hits.items ≡ old.hits.items ++ b) × (cursor ≡ old.cursor))
    → Keeps at s d (record old { opened = old.opened + 1; hits = hits; cursor = cursor })
keeps-take at s d old hits cursor b sheet k inside start is fits taken = record {
  passed = k.passed;
  covering = k.covering;
  begun = λ i l. elim (cases_lt i old.opened) [ inl m ↦ k.begun i m | inr m ↦ let e : i ≡ old.opened = omega (arith, l, m) in subst (λ j. (get_or s.heads j no_head).first.0 ≤ d) (sym e) start ];
  within = omega (arith, inside);
  tells = λ x a. left x taken ∙ ap (λ n. n + tally at x b) (k.tells x a) ∙ more x;
  ascending = ascends taken;
  ahead = λ i l m. behind i l m taken;
  flat_from = k.flat_from;
  flat_top = k.flat_top;
  ends = k.ends;
}
  where
    block : IsBlock s old.opened b
    block = subst (IsBlock s old.opened) (sym is) (block-is at s old.opened sheet inside)

    left : (x : ℕ) → ((hits.items ≡ b) × (cursor ≡ 0) × (old.cursor ≡ length old.hits.items)) ⊎ ((hits.items ≡ old.hits.items ++ b) × (cursor ≡ old.cursor)) → tally at x (drop cursor hits.items) ≡ tally at x (drop old.cursor old.hits.items) + tally at x b
    left x (inl t) =
        let z : tally at x (drop old.cursor old.hits.items) ≡ 0 = ap (tally at x) (drop-all old.cursor old.hits.items t.2) in
        let y : tally at x (drop cursor hits.items) ≡ tally at x b = ap (λ n. tally at x (drop n hits.items)) t.1 ∙ ap (tally at x) t.0 in
        omega (arith, z, y)
    left x (inr t) = ap (λ n. tally at x (drop n hits.items)) t.1 ∙ ap (λ ps. tally at x (drop old.cursor ps)) t.0 ∙ ap (tally at x) (drop-front old.cursor old.hits.items b fits) ∙ tally-append at x (drop old.cursor old.hits.items) b

    more : (x : ℕ) → (tally at x (joined (take old.opened s.blocks)) + tally at x s.flat) + tally at x b ≡ tally at x (joined (take (old.opened + 1) s.blocks)) + tally at x s.flat
    more x =
        let n = zip-length s.heads s.blocks sheet.heads_are in
        let t = tally-block at x old.opened s.blocks (omega (arith, inside, n)) in
        let u : tally at x b ≡ tally at x (get_or s.blocks old.opened []) = ap (tally at x) is in
        omega (arith, t, u)

    ascends : ((hits.items ≡ b) × (cursor ≡ 0) × (old.cursor ≡ length old.hits.items)) ⊎ ((hits.items ≡ old.hits.items ++ b) × (cursor ≡ old.cursor)) → AreAscending hits.items
    ascends (inl t) = subst AreAscending (sym t.0) block.ascends
    ascends (inr t) = subst AreAscending (sym t.0) (ascends-join old.hits.items b k.ascending block.ascends
        (each-weaker _ (λ p. Each (λ q. p.doc.0 ≤ q.doc.0) b) (λ p l. each-weaker _ (λ q. p.doc.0 ≤ q.doc.0) (λ q r. omega (arith, l, r.0)) b block.range) old.hits.items (k.ahead old.opened (omega arith) inside)))

    behind : (i : ℕ) → old.opened + 1 ≤ i → i < length s.heads → ((hits.items ≡ b) × (cursor ≡ 0) × (old.cursor ≡ length old.hits.items)) ⊎ ((hits.items ≡ old.hits.items ++ b) × (cursor ≡ old.cursor)) → Each (λ p. p.doc.0 ≤ (get_or s.heads i no_head).first.0) hits.items
    behind i l m (inl t) = subst (Each (λ p. p.doc.0 ≤ (get_or s.heads i no_head).first.0)) (sym t.0) (block.behind i (omega (arith, l)) m)
    behind i l m (inr t) = subst (Each (λ p. p.doc.0 ≤ (get_or s.heads i no_head).first.0)) (sym t.0) (each-append _ old.hits.items b (k.ahead i (omega (arith, l)) m) (block.behind i (omega (arith, l)) m))

-- what stands up to the border goes on where only hits and the opened blocks change
pub stands-same : (at : ℕ) (s : Sheet) (d : ℕ) (old : Lane) (n cursor : ℕ) (hits : Vec Posting Global) → n ≤ old.after → Stands at s d old → Stands at s d (record old { opened = n; hits = hits; cursor = cursor })
stands-same at s d old n cursor hits l k = record {
  high = k.high;
  low = k.low;
  range = k.range;
  reaches = k.reaches;
  behind = k.behind;
  opened = l;
  later = k.later;
  border = k.border;
  ends = k.ends;
}
