-- The order of postings, and relations between neighbours.
use Rattle.std.specs.Prelude.{◌≡◌, ◌⊎◌, zero, suc, ◌<◌, Bool, true, false, cond, List, [], ◌∷◌, filter, Contains, ⊤}
use Rattle.std.specs.List.{AllZip}
use Rattle.std.proofs.Common.{arith, sym, ◌∙◌, subst, inl, inr}
use Rattle.base_types.specs.declared.posting.Posting.{Posting}
use Rattle.lists_postings.specs.Lists.{EachNext, ComesBefore, IsList, IsCoalesced, Continues}

-- a posting before one that is before a third is before that
pub before-trans : (p q r : Posting) → ComesBefore p q → ComesBefore q r → ComesBefore p r
before-trans p q r a b = let h : q.span.from < q.span.to = q.span.ordered in grind arith

-- p stands before q, and q doesn't go on where p ends
abbrev pub IsApart : Posting → Posting → Type 0
IsApart p q = ComesBefore p q × ¬ (Continues p q)

pub apart-trans : (p q r : Posting) → IsApart p q → IsApart q r → IsApart p r
apart-trans p q r a b = (before-trans p q r a.0 b.0, λ c. never c a.0 b.0)
  where
    never : Continues p r → ComesBefore p q → ComesBefore q r → ⊥
    never c x y = let h : q.span.from < q.span.to = q.span.ordered in let d = c.doc in let e = c.at in grind arith

-- the first element is related to the head of what follows
abbrev pub Heads : {X : Type 0} → (X → X → Type 0) → X → List X → Type 0
Heads R x [] = ⊤
Heads R x (y ∷ ys) = R x y

pub next-tail : {X : Type 0} (R : X → X → Type 0) (x : X) (xs : List X) → EachNext R (x ∷ xs) → EachNext R xs
next-tail R x [] h = tt
next-tail R x (y ∷ ys) h = h.1

pub next-head : {X : Type 0} (R : X → X → Type 0) (x : X) (xs : List X) → EachNext R (x ∷ xs) → Heads R x xs
next-head R x [] h = tt
next-head R x (y ∷ ys) h = h.0

pub next-cons : {X : Type 0} (R : X → X → Type 0) (x : X) (xs : List X) → Heads R x xs → EachNext R xs → EachNext R (x ∷ xs)
next-cons R x [] a h = tt
next-cons R x (y ∷ ys) a h = (a, h)

-- neighbours that are related in two ways
pub next-both : {X : Type 0} (R S : X → X → Type 0) (xs : List X) → EachNext R xs → EachNext S xs → EachNext (λ x y. R x y × S x y) xs
next-both R S [] a b = tt
next-both R S (x ∷ []) a b = tt
next-both R S (x ∷ y ∷ ys) a b = ((a.0, b.0), next-both R S (y ∷ ys) a.1 b.1)

pub next-weaker : {X : Type 0} (R S : X → X → Type 0) → ((x y : X) → R x y → S x y) → (xs : List X) → EachNext R xs → EachNext S xs
next-weaker R S w [] a = tt
next-weaker R S w (x ∷ []) a = tt
next-weaker R S w (x ∷ y ∷ ys) a = (w x y a.0, next-weaker R S w (y ∷ ys) a.1)

pub next-skip : {X : Type 0} (R : X → X → Type 0) → ((x y z : X) → R x y → R y z → R x z) → (x y : X) (ys : List X) → EachNext R (x ∷ y ∷ ys) → EachNext R (x ∷ ys)
next-skip R t x y [] h = tt
next-skip R t x y (z ∷ zs) h = (t x y z h.0 h.1.0, h.1.1)

-- what a test keeps stays related
heads-filter : {X : Type 0} (R : X → X → Type 0) (p : X → Bool) → ((x y z : X) → R x y → R y z → R x z) → (x : X) (xs : List X) → EachNext R (x ∷ xs) → Heads R x (filter p xs)
heads-filter R p t x [] h = tt
heads-filter R p t x (y ∷ ys) h = go (p y) (heads-filter R p t x ys (next-skip R t x y ys h))
  where
    go : (b : Bool) → Heads R x (filter p ys) → Heads R x (cond b (y ∷ filter p ys) (filter p ys))
    go true rest = h.0
    go false rest = rest

pub next-filter : {X : Type 0} (R : X → X → Type 0) (p : X → Bool) → ((x y z : X) → R x y → R y z → R x z) → (xs : List X) → EachNext R xs → EachNext R (filter p xs)
next-filter R p t [] h = tt
next-filter R p t (x ∷ xs) h = go (p x) (next-filter R p t xs (next-tail R x xs h))
  where
    go : (b : Bool) → EachNext R (filter p xs) → EachNext R (cond b (x ∷ filter p xs) (filter p xs))
    go true rest = next-cons R x (filter p xs) (heads-filter R p t x xs h) rest
    go false rest = rest

-- lists place by place, where a relation of neighbours carries over
pub next-zip : {X : Type 0} (R S Q : X → X → Type 0) → ((x y v w : X) → Q x v → Q y w → R x y → S v w) → (xs vs : List X) → AllZip Q xs vs → EachNext R xs → EachNext S vs
next-zip R S Q c [] [] z h = tt
next-zip R S Q c [] (v ∷ vs) z h = absurd z
next-zip R S Q c (x ∷ xs) [] z h = absurd z
next-zip R S Q c (x ∷ []) (v ∷ []) z h = tt
next-zip R S Q c (x ∷ []) (v ∷ w ∷ vs) z h = absurd z.1
next-zip R S Q c (x ∷ y ∷ ys) (v ∷ []) z h = absurd z.1
next-zip R S Q c (x ∷ y ∷ ys) (v ∷ w ∷ vs) z h = (c x y v w z.0 z.1.0 h.0, next-zip R S Q c (y ∷ ys) (w ∷ vs) z.1 h.1)

-- an element of the rest is related to the first
pub next-later : {X : Type 0} (R : X → X → Type 0) → ((x y z : X) → R x y → R y z → R x z) → (x y : X) (xs : List X) → EachNext R (x ∷ xs) → Contains xs y → R x y
next-later R t x y [] h (k, l, e) = absurd (omega (arith, l))
next-later R t x y (z ∷ zs) h (zero, l, e) = subst (λ w. R x w) e h.0
next-later R t x y (z ∷ zs) h (suc k, l, e) = next-later R t x y zs (next-skip R t x z zs h) (k, omega (arith, l), e)

-- of two elements one is the other, or they are related
pub next-pairs : {X : Type 0} (R : X → X → Type 0) → ((x y z : X) → R x y → R y z → R x z) → (x y : X) (xs : List X) → EachNext R xs → Contains xs x → Contains xs y → (x ≡ y) ⊎ (R x y ⊎ R y x)
next-pairs R t x y [] h (k, l, e) c = absurd (omega (arith, l))
next-pairs R t x y (z ∷ zs) h (zero, l, e) (zero, m, f) = inl (sym e ∙ f)
next-pairs R t x y (z ∷ zs) h (zero, l, e) (suc j, m, f) = inr (inl (subst (λ w. R w y) e (next-later R t z y zs h (j, omega (arith, m), f))))
next-pairs R t x y (z ∷ zs) h (suc k, l, e) (zero, m, f) = inr (inr (subst (λ w. R w x) f (next-later R t z x zs h (k, omega (arith, l), e))))
next-pairs R t x y (z ∷ zs) h (suc k, l, e) (suc j, m, f) = next-pairs R t x y zs (next-tail R z zs h) (k, omega (arith, l), e) (j, omega (arith, m), f)

-- a list that is coalesced has its postings apart
pub apart : (list : List Posting) → IsList list → IsCoalesced list → EachNext IsApart list
apart list l c = next-both ComesBefore (λ p q. ¬ (Continues p q)) list l c

pub list-apart : (list : List Posting) → EachNext IsApart list → IsList list
list-apart list a = next-weaker IsApart ComesBefore (λ p q h. h.0) list a

pub coalesced-apart : (list : List Posting) → EachNext IsApart list → IsCoalesced list
coalesced-apart list a = next-weaker IsApart (λ p q. ¬ (Continues p q)) (λ p q h. h.1) list a
