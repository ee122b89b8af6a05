-- A list whose end for one document is exchanged.
use Rattle.std.specs.Prelude.{◌≡◌, ◌≢◌, ◌⊎◌, ℕ, zero, suc, ◌<◌, ◌≤◌, ◌==◌, ◌&&◌, nat_le, Bool, true, false, cond, List, [], ◌∷◌, ◌++◌, All, Contains, refl}
use Rattle.std.proofs.Common.{arith, ap, sym, ◌∙◌, subst, inl, inr}
use Rattle.std.proofs.lemmas.Bool.{cases_lt}
use Rattle.std.proofs.lemmas.Bool.Decides.{nat_tests}
use Rattle.std.proofs.lemmas.List.Elements.{Contains-append_right, All-append, All-tail, All-head, All-cons, All-nil}
use Rattle.base_types.specs.declared.posting.Posting.{Posting}
use Rattle.lists_postings.specs.Lists.{EachNext, frequency}
use Rattle.lists_postings.specs.ListsOf.{IsListOf}
use Rattle.lists_postings.proofs.Order.{Heads, IsApart, apart, list-apart, coalesced-apart, next-tail, next-cons, next-later}
use Rattle.lists_postings.proofs.Frequencies.{is_row, row-tells, row-is, frequency-here, frequency-skip, found}
use Rattle.lists_postings.proofs.Clipping.{IsInside}
use Rattle.lists_postings.proofs.Merged.{append-none}
use Rattle.lists_tails.specs.Turns.{turned_one}

-- the parts of a list whose neighbours are related
pub next-front : {X : Type 0} (R : X → X → Type 0) (xs ys : List X) → EachNext R (xs ++ ys) → EachNext R xs
next-front R [] ys h = tt
next-front R (x ∷ []) ys h = tt
next-front R (x ∷ y ∷ xs) ys h = (h.0, next-front R (y ∷ xs) ys h.1)

pub next-back : {X : Type 0} (R : X → X → Type 0) (xs ys : List X) → EachNext R (xs ++ ys) → EachNext R ys
next-back R [] ys h = h
next-back R (x ∷ xs) ys h = next-back R xs ys (next-tail R x (xs ++ ys) h)

pub next-join : {X : Type 0} (R : X → X → Type 0) (xs ys : List X) → EachNext R xs → EachNext R ys → ((x : X) → Contains xs x → Heads R x ys) → EachNext R (xs ++ ys)
next-join R [] ys a b h = b
next-join R (x ∷ []) ys a b h = next-cons R x ys (h x (zero, omega arith, refl)) b
next-join R (x ∷ y ∷ xs) ys a b h = (a.0, next-join R (y ∷ xs) ys a.1 b (λ z c. h z (suc c.0, omega (arith, c.1), c.2)))

-- what stands in front is related to what stands behind
pub next-across : {X : Type 0} (R : X → X → Type 0) → ((x y z : X) → R x y → R y z → R x z) → (xs : List X) (x y : X) (ys : List X) → EachNext R (xs ++ y ∷ ys) → Contains xs x → R x y
next-across R t [] x y ys h c = absurd (omega (arith, c.1))
next-across R t (z ∷ xs) x y ys h (zero, l, e) = subst (λ w. R w y) e (next-later R t z y (xs ++ y ∷ ys) h (Contains-append_right xs (y ∷ ys) y (zero, omega arith, refl)))
next-across R t (z ∷ xs) x y ys h (suc k, l, e) = next-across R t xs x y ys (next-tail R z (xs ++ y ∷ ys) h) (k, omega (arith, l), e)

pub all-front : {X : Type 0} (P : X → Type 0) (xs ys : List X) → All P (xs ++ ys) → All P xs
all-front P [] ys h = All-nil P
all-front P (x ∷ xs) ys h = All-cons P x xs (All-head P x (xs ++ ys) h) (all-front P xs ys (All-tail P x (xs ++ ys) h))

pub all-back : {X : Type 0} (P : X → Type 0) (xs ys : List X) → All P (xs ++ ys) → All P ys
all-back P [] ys h = h
all-back P (x ∷ xs) ys h = all-back P xs ys (All-tail P x (xs ++ ys) h)

-- the posting is of no later document, and of this one only what is over at the time, with the frequency o where it ends then
pub record IsClear (doc at o : ℕ) (r : Posting) : Type 0 where
  pub order : r.doc.0 ≤ doc
  pub over : r.doc.0 ≡ doc → r.span.to ≤ at
  pub same : r.doc.0 ≡ doc → r.span.to ≡ at → r.tf ≡ o

-- each posting is of a later document
abbrev pub AreLater : ℕ → List Posting → Type 0
AreLater doc list = (r : Posting) → Contains list r → doc < r.doc.0

pub later-none : (doc t : ℕ) (list : List Posting) → AreLater doc list → frequency doc t list ≡ 0
later-none doc t list h = elim (cases_lt 0 (frequency doc t list)) [
  | inl k ↦ let (r, c, d, x, y, e) = found doc t list k in absurd (omega (arith, h r c, d))
  | inr k ↦ omega (arith, k)
]

pub clear-none : (doc at o t : ℕ) (list : List Posting) → ((r : Posting) → Contains list r → IsClear doc at o r) → at ≤ t → frequency doc t list ≡ 0
clear-none doc at o t list h l = elim (cases_lt 0 (frequency doc t list)) [
  | inl k ↦ let (r, c, d, x, y, e) = found doc t list k in absurd (omega (arith, (h r c).over d, y, l))
  | inr k ↦ omega (arith, k)
]

append-same : (d t : ℕ) (front a b : List Posting) → frequency d t a ≡ frequency d t b → frequency d t (front ++ a) ≡ frequency d t (front ++ b)
append-same d t [] a b e = e
append-same d t (p ∷ front) a b e = ap {B = ℕ} (λ n. cond (is_row d t p) p.tf n) (append-same d t front a b e)

-- the document at the time is turned, or it is another one or sooner
pub split : (d doc at t : ℕ) → ((d == doc && nat_le at t ≡ true) × (d ≡ doc) × (at ≤ t)) ⊎ ((d == doc && nat_le at t ≡ false) × ((d ≢ doc) ⊎ (t < at)))
split d doc at t = grind (arith, nat_tests)

-- behind a clear front another end is the list of the frequency turned
pub exchange : (g : ℕ → ℕ → ℕ) (a b doc at o n : ℕ) (front was now : List Posting) → a ≤ at → IsListOf g a b (front ++ was)
    → ((r : Posting) → Contains front r → IsClear doc at o r) → ((r : Posting) → Contains front r → Heads IsApart r now) → EachNext IsApart now → All (IsInside a b) now
    → ((d t : ℕ) → (d ≢ doc) ⊎ (t < at) → frequency d t now ≡ frequency d t was) → ((t : ℕ) → at ≤ t → t < b → frequency doc t now ≡ n)
    → IsListOf (turned_one g doc at n) a b (front ++ now)
exchange g a b doc at o n front was now la h clear heads next inside others mine = record {
  ordered = list-apart (front ++ now) whole;
  coalesced = coalesced-apart (front ++ now) whole;
  inside = All-append (IsInside a b) front now (all-front (IsInside a b) front was h.inside) inside;
  same = λ d t x y. go d t x y (split d doc at t);
}
  where
    whole : EachNext IsApart (front ++ now)
    whole = next-join IsApart front now (next-front IsApart front was (apart (front ++ was) h.ordered h.coalesced)) next heads

    go : (d t : ℕ) → a ≤ t → t < b → ((d == doc && nat_le at t ≡ true) × (d ≡ doc) × (at ≤ t)) ⊎ ((d == doc && nat_le at t ≡ false) × ((d ≢ doc) ⊎ (t < at))) → frequency d t (front ++ now) ≡ turned_one g doc at n d t
    go d t x y (inl s) =
        let m : frequency doc t (front ++ now) ≡ n = append-none doc t front now (clear-none doc at o t front clear s.2) ∙ mine t s.2 y in
        subst (λ e. frequency e t (front ++ now) ≡ n) (sym s.1) m ∙ sym (ap {B = ℕ} (λ c. cond c n (g d t)) s.0)
    go d t x y (inr s) =
        append-same d t front now was (others d t s.1) ∙ h.same d t x y ∙ sym (ap {B = ℕ} (λ c. cond c n (g d t)) s.0)

-- a posting before another one's start is before what begins then, with another frequency
pub clear-apart : (doc at o n : ℕ) (r q : Posting) → IsClear doc at o r → q.doc.0 ≡ doc → q.span.from ≡ at → q.tf ≡ n → o ≢ n → IsApart r q
clear-apart doc at o n r q c d f e differ = elim (cases_lt r.doc.0 doc) [
  | inl k ↦ (inl (omega (arith, k, d)), λ x. omega (arith, x.doc, k, d))
  | inr k ↦ let same : r.doc.0 ≡ doc = omega (arith, c.order, k) in (inr (same ∙ sym d, omega (arith, c.over same, f)), λ x. differ (sym (c.same same (x.at ∙ f)) ∙ x.tf ∙ e))
]

pub later-apart : (doc : ℕ) (r : Posting) (list : List Posting) → r.doc.0 ≤ doc → AreLater doc list → Heads IsApart r list
later-apart doc r [] l h = tt
later-apart doc r (q ∷ list) l h = let k : doc < q.doc.0 = h q (zero, omega arith, refl) in (inl (omega (arith, l, k)), λ x. omega (arith, x.doc, l, k))

-- postings with one frequency that hold the same times of the document
pub row-swap : (d t : ℕ) (p q : Posting) (a b : List Posting) → p.tf ≡ q.tf → p.doc.0 ≡ q.doc.0 → ((p.doc.0 ≡ d → p.span.from ≤ t → t < p.span.to → (q.span.from ≤ t) × (t < q.span.to))) → ((q.doc.0 ≡ d → q.span.from ≤ t → t < q.span.to → (p.span.from ≤ t) × (t < p.span.to))) → frequency d t a ≡ frequency d t b → frequency d t (p ∷ a) ≡ frequency d t (q ∷ b)
row-swap d t p q a b n e to back r = go (is_row d t p) refl
  where
    go : (z : Bool) → is_row d t p ≡ z → frequency d t (p ∷ a) ≡ frequency d t (q ∷ b)
    go true i =
        let h = row-tells d t p i in
        let k = to h.0 h.1 h.2 in
        frequency-here d t p a h.0 h.1 h.2 ∙ n ∙ sym (frequency-here d t q b (sym e ∙ h.0) k.0 k.1)
    go false i =
        frequency-skip d t p a (λ u v w. let m : is_row d t p ≡ true = row-is d t p u v w in cc)
        ∙ r
        ∙ sym (frequency-skip d t q b (λ u v w. let k = back u v w in let m : is_row d t p ≡ true = row-is d t p (e ∙ u) k.0 k.1 in cc))
