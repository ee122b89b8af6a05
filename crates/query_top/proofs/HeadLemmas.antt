-- Headers that are true of the blocks of a list.
use Rattle.std.specs.Prelude.{◌≡◌, ◌≢◌, ℕ, zero, suc, ◌<◌, ◌≤◌, ◌==◌, ◌&&◌, max, Bool, true, false, cond, List, [], ◌∷◌, ◌++◌, length, get_or, ⊤, refl}
use Rattle.std.specs.List.{AllZip}
use Rattle.std.proofs.Common.{arith, ap, sym, ◌∙◌, subst, inl, inr}
use Rattle.std.proofs.lemmas.Bool.{cases_lt}
use Rattle.std.proofs.lemmas.Bool.Decides.{nat_tests, eqb_tells}
use Rattle.base_types.specs.declared.posting.Posting.{Posting}
use Rattle.lists_postings.specs.Lists.{ComesBefore, IsList, frequency, holds}
use Rattle.pages_codec.specs.declared.head.BlockHead.{BlockHead}
use Rattle.query_top.specs.Firsts.{Each}
use Rattle.query_top.specs.Sheets.{Sheet, IsSheet, IsHead, joined, greatest, last_doc, covers, top_where}
use Rattle.query_top.specs.Lanes.{AreAscending}
use Rattle.query_top.proofs.EachLemmas.{each-left, each-right, each-weaker, each-both, each-at}

-- ---- lists

pub list-tail : (p : Posting) (ps : List Posting) → IsList (p ∷ ps) → IsList ps
list-tail p [] h = tt
list-tail p (q ∷ ps) h = h.1

trans : (p q r : Posting) → ComesBefore p q → ComesBefore q r → ComesBefore p r
trans p q r a b = let h : q.span.from < q.span.to = q.span.ordered in grind arith

-- each posting comes before all behind it
pub all-behind : (p : Posting) (ps : List Posting) → IsList (p ∷ ps) → Each (λ q. ComesBefore p q) ps
all-behind p [] h = tt
all-behind p (q ∷ ps) h = (h.0, each-weaker (λ r. ComesBefore q r) (λ r. ComesBefore p r) (λ r k. trans p q r h.0 k) ps (all-behind q ps h.1))

before-doc : (p q : Posting) → ComesBefore p q → p.doc.0 ≤ q.doc.0
before-doc p q (inl h) = omega (arith, h)
before-doc p q (inr h) = omega (arith, h.0)

pub list-ascends : (ps : List Posting) → IsList ps → AreAscending ps
list-ascends [] h = tt
list-ascends (p ∷ ps) h = (each-weaker (λ q. ComesBefore p q) (λ q. p.doc.0 ≤ q.doc.0) (λ q k. before-doc p q k) ps (all-behind p ps h), list-ascends ps (list-tail p ps h))

pub ascends-left : (a b : List Posting) → AreAscending (a ++ b) → AreAscending a
ascends-left [] b h = tt
ascends-left (p ∷ a) b h = (each-left (λ q. p.doc.0 ≤ q.doc.0) a b h.0, ascends-left a b h.1)

pub ascends-right : (a b : List Posting) → AreAscending (a ++ b) → AreAscending b
ascends-right [] b h = h
ascends-right (p ∷ a) b h = ascends-right a b h.1

-- what is behind is of the last document or later ones
pub ascends-last : (d : ℕ) (ps b : List Posting) → Each (λ q. d ≤ q.doc.0) (ps ++ b) → AreAscending (ps ++ b) → Each (λ q. last_doc d ps ≤ q.doc.0) b
ascends-last d [] b e h = e
ascends-last d (p ∷ ps) b e h = ascends-last p.doc.0 ps b h.0 h.1

last-above : (d : ℕ) (ps : List Posting) → Each (λ q. d ≤ q.doc.0) ps → AreAscending ps → d ≤ last_doc d ps
last-above d [] e h = omega arith
last-above d (p ∷ ps) e h = let k = last-above p.doc.0 ps h.0 h.1 in let l = e.0 in omega (arith, k, l)

-- no document is behind the last
up-to-last : (d : ℕ) (ps : List Posting) → Each (λ q. d ≤ q.doc.0) ps → AreAscending ps → Each (λ q. q.doc.0 ≤ last_doc d ps) ps
up-to-last d [] e h = tt
up-to-last d (p ∷ ps) e h = (last-above p.doc.0 ps h.0 h.1, up-to-last p.doc.0 ps h.0 h.1)

-- the postings of a block lie in the range of its header
pub head-range : (h : BlockHead) (b : List Posting) → IsHead h b → AreAscending b → Each (λ q. (h.first.0 ≤ q.doc.0) × (q.doc.0 ≤ h.last.0)) b
head-range h [] i a = absurd i
head-range h (p ∷ ps) i a = each-weaker _ (λ q. (h.first.0 ≤ q.doc.0) × (q.doc.0 ≤ h.last.0)) (λ q k. (omega (arith, k.0, i.0), omega (arith, k.1, i.1)))
    (p ∷ ps) (each-both (λ q. p.doc.0 ≤ q.doc.0) (λ q. q.doc.0 ≤ last_doc p.doc.0 ps) (p ∷ ps) (omega arith, a.0) (last-above p.doc.0 ps a.0 a.1, up-to-last p.doc.0 ps a.0 a.1))

pub head-order : (h : BlockHead) (b : List Posting) → IsHead h b → AreAscending b → h.first.0 ≤ h.last.0
head-order h [] i a = absurd i
head-order h (p ∷ ps) i a = let k = last-above p.doc.0 ps a.0 a.1 in omega (arith, k, i.0, i.1)

-- the blocks behind begin from a document on
firsts-from : (n : ℕ) (hs : List BlockHead) (bs : List (List Posting)) → AllZip IsHead hs bs → Each (λ q. n ≤ q.doc.0) (joined bs) → Each (λ h. n ≤ h.first.0) hs
firsts-from n [] [] z e = tt
firsts-from n [] (b ∷ bs) z e = absurd z
firsts-from n (h ∷ hs) [] z e = absurd z
firsts-from n (h ∷ hs) ([] ∷ bs) z e = absurd z.0
firsts-from n (h ∷ hs) ((p ∷ ps) ∷ bs) z e = (let l = e.0 in omega (arith, l, z.0.0), firsts-from n hs bs z.1 (each-right (λ q. n ≤ q.doc.0) ps (joined bs) e.1))

-- headers in the order of their blocks
abbrev pub AreInOrder : List BlockHead → Type 0
AreInOrder [] = ⊤
AreInOrder (h ∷ hs) = (h.first.0 ≤ h.last.0) × Each (λ g. h.last.0 ≤ g.first.0) hs × AreInOrder hs

pub in-order : (hs : List BlockHead) (bs : List (List Posting)) → AllZip IsHead hs bs → AreAscending (joined bs) → AreInOrder hs
in-order [] [] z a = tt
in-order [] (b ∷ bs) z a = absurd z
in-order (h ∷ hs) [] z a = absurd z
in-order (h ∷ hs) ([] ∷ bs) z a = absurd z.0
in-order (h ∷ hs) ((p ∷ ps) ∷ bs) z a = (
  head-order h (p ∷ ps) z.0 (ascends-left (p ∷ ps) (joined bs) a),
  each-weaker (λ g. last_doc p.doc.0 ps ≤ g.first.0) (λ g. h.last.0 ≤ g.first.0) (λ g k. omega (arith, k, z.0.1)) hs (firsts-from (last_doc p.doc.0 ps) hs bs z.1 (ascends-last p.doc.0 ps (joined bs) a.0 a.1)),
  in-order hs bs z.1 (ascends-right (p ∷ ps) (joined bs) a),
)

pub order-at : (hs : List BlockHead) (i j : ℕ) (d : BlockHead) → AreInOrder hs → i ≤ j → j < length hs → ((get_or hs i d).first.0 ≤ (get_or hs j d).first.0) × ((get_or hs i d).last.0 ≤ (get_or hs j d).last.0)
order-at [] i j d o l m = absurd (omega arith)
order-at (h ∷ hs) zero zero d o l m = (omega arith, omega arith)
order-at (h ∷ hs) zero (suc j) d o l m =
    let k : h.last.0 ≤ (get_or hs j d).first.0 = each-at (λ g. h.last.0 ≤ g.first.0) j hs d (omega arith) o.1 in
    let n : (get_or hs j d).first.0 ≤ (get_or hs j d).last.0 = range-at hs j d o.2 (omega arith) in
    let f = o.0 in
    (omega (arith, k, f), omega (arith, k, n))
  where
    range-at : (hs : List BlockHead) (j : ℕ) (d : BlockHead) → AreInOrder hs → j < length hs → (get_or hs j d).first.0 ≤ (get_or hs j d).last.0
    range-at [] j d o l = absurd (omega arith)
    range-at (h ∷ hs) zero d o l = o.0
    range-at (h ∷ hs) (suc j) d o l = range-at hs j d o.2 (omega arith)
order-at (h ∷ hs) (suc i) zero d o l m = absurd (omega arith)
order-at (h ∷ hs) (suc i) (suc j) d o l m = order-at hs i j d o.2 (omega arith) (omega arith)

pub sheet-order : (at : ℕ) (s : Sheet) → IsSheet at s → AreInOrder s.heads
sheet-order at s i = in-order s.heads s.blocks i.heads_are (list-ascends (joined s.blocks) i.listed)

-- ---- frequencies

pub freq-greatest : (d t : ℕ) (ps : List Posting) → frequency d t ps ≤ greatest ps
freq-greatest d t [] = omega arith
freq-greatest d t (p ∷ ps) = go (p.doc.0 == d && holds t p) (freq-greatest d t ps)
  where
    go : (b : Bool) → frequency d t ps ≤ greatest ps → cond b p.tf (frequency d t ps) ≤ max p.tf (greatest ps)
    go true h = omega arith
    go false h = omega (arith, h)

pub freq-none : (d t : ℕ) (ps : List Posting) → Each (λ p. p.doc.0 ≢ d) ps → frequency d t ps ≡ 0
freq-none d t [] e = refl
freq-none d t (p ∷ ps) e = elim (eqb_tells p.doc.0 d) [
  | inl h ↦ absurd (e.0 h.1)
  | inr h ↦ ap {B = ℕ} (λ b. cond (b && holds t p) p.tf (frequency d t ps)) h.0 ∙ freq-none d t ps e.1
]

pub freq-append : (d t n : ℕ) (a b : List Posting) → frequency d t a ≤ n → frequency d t b ≤ n → frequency d t (a ++ b) ≤ n
freq-append d t n [] b x y = y
freq-append d t n (p ∷ a) b x y = go (p.doc.0 == d && holds t p) x (λ k. freq-append d t n a b k y)
  where
    go : (c : Bool) → cond c p.tf (frequency d t a) ≤ n → (frequency d t a ≤ n → frequency d t (a ++ b) ≤ n) → cond c p.tf (frequency d t (a ++ b)) ≤ n
    go true k f = k
    go false k f = f k

freq-block : (d t n : ℕ) (h : BlockHead) (b : List Posting) → IsHead h b → AreAscending b → (covers d h ≡ true → h.top ≤ n) → frequency d t b ≤ n
freq-block d t n h [] i a c = absurd i
freq-block d t n h (p ∷ ps) i a c = elim (cases_lt d h.first.0) [
  | inl k ↦ let z = freq-none d t (p ∷ ps) (each-weaker _ (λ q. q.doc.0 ≢ d) (λ q r. λ e. omega (arith, r.0, e, k)) (p ∷ ps) (head-range h (p ∷ ps) i a)) in omega (arith, z)
  | inr k ↦ elim (cases_lt h.last.0 d) [
    | inl l ↦ let z = freq-none d t (p ∷ ps) (each-weaker _ (λ q. q.doc.0 ≢ d) (λ q r. λ e. omega (arith, r.1, e, l)) (p ∷ ps) (head-range h (p ∷ ps) i a)) in omega (arith, z)
    | inr l ↦ let g = freq-greatest d t (p ∷ ps) in let m = c (covers-yes d h k l) in omega (arith, g, m, i.2)
  ]
]
  where
    covers-yes : (d : ℕ) (h : BlockHead) → h.first.0 ≤ d → d ≤ h.last.0 → covers d h ≡ true
    covers-yes d h k l = grind (arith, nat_tests)

-- what the blocks have of a document is at most what those whose range has it allow
pub freq-joined : (d t n : ℕ) (hs : List BlockHead) (bs : List (List Posting)) → AllZip IsHead hs bs → AreAscending (joined bs) → Each (λ h. covers d h ≡ true → h.top ≤ n) hs → frequency d t (joined bs) ≤ n
freq-joined d t n [] [] z a e = omega arith
freq-joined d t n [] (b ∷ bs) z a e = absurd z
freq-joined d t n (h ∷ hs) [] z a e = absurd z
freq-joined d t n (h ∷ hs) (b ∷ bs) z a e = freq-append d t n b (joined bs) (freq-block d t n h b z.0 (ascends-left b (joined bs) a) e.0) (freq-joined d t n hs bs z.1 (ascends-right b (joined bs) a) e.1)

-- ---- tops

pub top-at : (p : BlockHead → Bool) (hs : List BlockHead) (i : ℕ) (d : BlockHead) → i < length hs → p (get_or hs i d) ≡ true → (get_or hs i d).top ≤ top_where p hs
top-at p [] i d l e = absurd (omega arith)
top-at p (h ∷ hs) zero d l e = subst (λ b. h.top ≤ cond b (max h.top (top_where p hs)) (top_where p hs)) (sym e) (omega arith)
top-at p (h ∷ hs) (suc i) d l e = go (p h) (top-at p hs i d (omega arith) e)
  where
    go : (b : Bool) → (get_or hs i d).top ≤ top_where p hs → (get_or hs i d).top ≤ cond b (max h.top (top_where p hs)) (top_where p hs)
    go true k = omega (arith, k)
    go false k = k

pub top-wider : (p q : BlockHead → Bool) → ((h : BlockHead) → p h ≡ true → q h ≡ true) → (hs : List BlockHead) → top_where p hs ≤ top_where q hs
top-wider p q w [] = omega arith
top-wider p q w (h ∷ hs) = go (p h) (q h) (w h) (top-wider p q w hs)
  where
    go : (x y : Bool) → (x ≡ true → y ≡ true) → top_where p hs ≤ top_where q hs → cond x (max h.top (top_where p hs)) (top_where p hs) ≤ cond y (max h.top (top_where q hs)) (top_where q hs)
    go true true i k = omega (arith, k)
    go true false i k = absurd (let z = i refl in cc)
    go false true i k = omega (arith, k)
    go false false i k = k

-- each element has what each place has
pub each-from : {X : Type 0} (P : X → Type 0) (d : X) (xs : List X) → ((i : ℕ) → i < length xs → P (get_or xs i d)) → Each P xs
each-from P d [] f = tt
each-from P d (x ∷ xs) f = (f 0 (omega arith), each-from P d xs (λ i l. f (suc i) (omega arith)))
