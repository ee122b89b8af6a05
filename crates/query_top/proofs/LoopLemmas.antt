-- Loops over lanes.
use Rattle.std.specs.Prelude.{◌≡◌, ℕ, zero, suc, ◌+◌, ◌*◌, ◌<◌, ◌≤◌, List, [], ◌∷◌, ◌++◌, max, length, take, drop, get_or, refl}
use Rattle.std.specs.List.{AllZip}
use Rattle.std.proofs.Common.{arith, ap, sym, ◌∙◌, subst, add-one}
use Rattle.std.proofs.Math.ListN.{set}
use Rattle.base_types.specs.declared.posting.Posting.{Posting}
use Rattle.query_top.specs.Firsts.{Each}
use Rattle.query_top.specs.Sheets.{Sheet, greatest, no_sheet}
use Rattle.query_top.specs.Lanes.{tally, given, weighted, AreFit, IsFit}
use Rattle.query_top.specs.declared.lane.Lane.{Lane}
use Rattle.query_top.proofs.EachLemmas.{drop-at, take-at, each-append, each-weaker}
use Rattle.query_top.proofs.ScoreLemmas.{weighted-push}
use Rattle.query_top.proofs.ZipLemmas.{zip-at, zip-more, take-set}

drop-set-suc : {X : Type 0} (i : ℕ) (xs : List X) (v : X) → drop (suc i) (set xs i v) ≡ drop (suc i) xs
drop-set-suc i [] v = refl
drop-set-suc zero (x ∷ xs) v = refl
drop-set-suc (suc i) (x ∷ xs) v = drop-set-suc i xs v

-- what is left of a list whose element was changed is what was left of it
pub left-set : {X : Type 0} (i : ℕ) (xs ys : List X) (v d : X) → i < length xs → i < length ys → drop i xs ≡ drop i ys → drop (i + 1) (set xs i v) ≡ drop (i + 1) ys
left-set i xs ys v d l m e =
    let s : drop (i + 1) (set xs i v) ≡ drop (i + 1) xs = rw add-one (drop-set-suc i xs v) in
    let f : get_or xs i d ∷ drop (i + 1) xs ≡ get_or ys i d ∷ drop (i + 1) ys = sym (drop-at i xs d l) ∙ e ∙ drop-at i ys d m in
    let g : drop (i + 1) xs ≡ drop (i + 1) ys = cc in
    s ∙ g

-- the element is the one that it was
pub left-at : {X : Type 0} (i : ℕ) (xs ys : List X) (x : X) → i < length xs → i < length ys → drop i xs ≡ drop i ys → x ≡ get_or xs i x → x ≡ get_or ys i x
left-at i xs ys x l m e is =
    let f : get_or xs i x ∷ drop (i + 1) xs ≡ get_or ys i x ∷ drop (i + 1) ys = sym (drop-at i xs x l) ∙ e ∙ drop-at i ys x m in
    let g : get_or xs i x ≡ get_or ys i x = cc in
    is ∙ g

given-push : (at x : ℕ) (a : List Lane) (l : Lane) → given at x (a ++ l ∷ []) ≡ given at x a + l.weight * tally at x (drop l.cursor l.hits.items)
given-push at x [] l = omega arith
given-push at x (k ∷ a) l = let e = given-push at x a l in omega (arith, e)

-- one lane more
pub given-more : (at x i : ℕ) (lanes : List Lane) (l : Lane) → i < length lanes → l ≡ get_or lanes i l → given at x (take (i + 1) lanes) ≡ given at x (take i lanes) + l.weight * tally at x (drop l.cursor l.hits.items)
given-more at x i lanes l m is = ap (given at x) (take-at i lanes l m ∙ ap (λ y. take i lanes ++ y ∷ []) (sym is)) ∙ given-push at x (take i lanes) l

-- the lanes so far, one beside what it was
pub zip-turn : (R : Lane → Lane → Type 0) (i : ℕ) (lanes was : List Lane) (x v : Lane) → i < length lanes → i < length was → drop i lanes ≡ drop i was → x ≡ get_or lanes i x → R (get_or lanes i x) v
    → AllZip R (take i was) (take i lanes) → AllZip R (take (i + 1) was) (take (i + 1) (set lanes i v))
zip-turn R i lanes was x v l m todo is r z =
    let one : R x v = subst (λ y. R y v) (sym is) r in
    let a : take (i + 1) was ≡ take i was ++ x ∷ [] = take-at i was x m ∙ ap (λ y. take i was ++ y ∷ []) (sym (left-at i lanes was x l m todo is)) in
    subst (λ ys. AllZip R (take (i + 1) was) ys) (sym (take-set i lanes v l)) (subst (λ ys. AllZip R ys (take i lanes ++ v ∷ [])) (sym a) (zip-more R (take i was) (take i lanes) x v z one))

-- what holds of the lanes so far, and of one more
pub each-turn : (P : Lane → Type 0) (i : ℕ) (lanes : List Lane) (v : Lane) → i < length lanes → Each P (take i lanes) → P v → Each P (take (i + 1) (set lanes i v))
each-turn P i lanes v l e p = subst (Each P) (sym (take-set i lanes v l)) (each-append P (take i lanes) (v ∷ []) e (p, tt))

pub weighted-turn : (g : Lane → ℕ) (i : ℕ) (lanes : List Lane) (v : Lane) → i < length lanes → weighted g (take (i + 1) (set lanes i v)) ≡ weighted g (take i lanes) + v.weight * g v
weighted-turn g i lanes v l = ap (weighted g) (take-set i lanes v l) ∙ weighted-push g (take i lanes) v

-- a lane that is still as it was
pub fit-left : (ss : List Sheet) (i : ℕ) (lanes was : List Lane) (x : Lane) → i < length lanes → i < length was → drop i lanes ≡ drop i was → x ≡ get_or lanes i x → AreFit ss was
    → IsFit (length (get_or ss i no_sheet).heads) (get_or lanes i x)
fit-left ss i lanes was x l m todo is fit =
    let e : get_or was i x ≡ get_or lanes i x = sym (left-at i lanes was x l m todo is) ∙ is in
    subst (λ (y : Lane). IsFit (length (get_or ss i no_sheet).heads) y) e (zip-at (λ s k. IsFit (length s.heads) k) ss was i no_sheet x fit m)

-- ---- the range of postings

greatest-push : (a : List Posting) (p : Posting) → greatest (a ++ p ∷ []) ≡ max (greatest a) p.tf
greatest-push [] p = omega arith
greatest-push (q ∷ a) p = let e = greatest-push a p in omega (arith, e)

pub greatest-more : (i : ℕ) (list : List Posting) (p : Posting) → i < length list → p ≡ get_or list i p → greatest (take (i + 1) list) ≡ max (greatest (take i list)) p.tf
greatest-more i list p l is = ap greatest (take-at i list p l ∙ ap (λ y. take i list ++ y ∷ []) (sym is)) ∙ greatest-push (take i list) p

pub range-more : (i from to f t : ℕ) (list : List Posting) (p : Posting) → i < length list → p ≡ get_or list i p → Each (λ q. (from ≤ q.doc.0) × (q.doc.0 < to)) (take i list)
    → f ≤ from → to ≤ t → f ≤ p.doc.0 → p.doc.0 < t → Each (λ q. (f ≤ q.doc.0) × (q.doc.0 < t)) (take (i + 1) list)
range-more i from to f t list p l is e a b c d =
    subst (Each (λ q. (f ≤ q.doc.0) × (q.doc.0 < t))) (sym (take-at i list p l ∙ ap (λ y. take i list ++ y ∷ []) (sym is)))
    (each-append (λ q. (f ≤ q.doc.0) × (q.doc.0 < t)) (take i list) (p ∷ []) (each-weaker (λ q. (from ≤ q.doc.0) × (q.doc.0 < to)) (λ q. (f ≤ q.doc.0) × (q.doc.0 < t)) (λ q k. (omega (arith, k.0, a), omega (arith, k.1, b))) (take i list) e) ((c, d), tt))
