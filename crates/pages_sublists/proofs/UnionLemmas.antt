-- Two lists have one union, or a clash.
use Rattle.std.proofs.Common.{◌≡◌, ◌⊎◌, zero, suc, ◌<◌, List, [], ◌∷◌, Contains, inl, inr, refl, ap, sym, subst, ◌∙◌, arith}
use Rattle.base_types.specs.declared.posting.Posting.{Posting}
use Rattle.lists_postings.specs.Lists.{ComesBefore, IsList}
use Rattle.lists_postings.specs.Unions.{IsUnion, IsClash}
use Rattle.lists_postings.proofs.Order.{before-trans, next-tail, next-later, next-pairs}

-- a posting comes before no other one that comes before it
pub one_way : (p q : Posting) → ComesBefore p q → ComesBefore q p → ⊥
one_way p q (inl a) (inl b) = omega (arith, a, b)
one_way p q (inl a) (inr b) = omega (arith, a, b.0)
one_way p q (inr a) (inl b) = omega (arith, a.0, b)
one_way p q (inr a) (inr b) = omega (arith, a.1, b.1, p.span.ordered, q.span.ordered)

pub here : (x : Posting) (xs : List Posting) → Contains (x ∷ xs) x
here x xs = (zero, omega arith, refl)

pub behind : (x y : Posting) (xs : List Posting) → Contains xs y → Contains (x ∷ xs) y
behind x y xs (k, l, e) = (suc k, omega (arith, l), e)

pub cases : (x y : Posting) (xs : List Posting) → Contains (x ∷ xs) y → (x ≡ y) ⊎ Contains xs y
cases x y xs (zero, l, e) = inl e
cases x y xs (suc k, l, e) = inr (k, omega (arith, l), e)

abbrev pub SamePostings : List Posting → List Posting → Type 0
SamePostings a b = (p : Posting) → (Contains a p → Contains b p) × (Contains b p → Contains a p)

same_head : (x y : Posting) (xs ys : List Posting) → IsList (x ∷ xs) → IsList (y ∷ ys) → SamePostings (x ∷ xs) (y ∷ ys) → x ≡ y
same_head x y xs ys a b same = elim (cases y x ys ((same x).0 (here x xs))) [
  | inl e ↦ sym e
  | inr later ↦ elim (cases x y xs ((same y).1 (here y ys))) [
    | inl e ↦ e
    | inr more ↦ absurd (one_way y x (next-later ComesBefore before-trans y x ys b later) (next-later ComesBefore before-trans x y xs a more))
  ]
]

pub rest_in : (x : Posting) (xs ys : List Posting) → IsList (x ∷ xs) → (p : Posting) → (Contains (x ∷ xs) p → Contains (x ∷ ys) p) → Contains xs p → Contains ys p
rest_in x xs ys a p into is = elim (cases x p ys (into (behind x p xs is))) [
  | inl e ↦ absurd (let q : ComesBefore p p = subst (λ (z : Posting). ComesBefore z p) e (next-later ComesBefore before-trans x p xs a is) in one_way p p q q)
  | inr more ↦ more
]

-- lists with the same postings are one
pub one_list : (a b : List Posting) → IsList a → IsList b → SamePostings a b → a ≡ b
one_list [] [] la lb same = refl
one_list [] (y ∷ ys) la lb same = let (k, l, e) = (same y).1 (here y ys) in absurd (omega (arith, l))
one_list (x ∷ xs) [] la lb same = let (k, l, e) = (same x).0 (here x xs) in absurd (omega (arith, l))
one_list (x ∷ xs) (y ∷ ys) la lb same =
    let head : x ≡ y = same_head x y xs ys la lb same in
    let B : Posting → Type 0 = λ z. IsList (z ∷ ys) in
    let S : Posting → Type 0 = λ z. SamePostings (x ∷ xs) (z ∷ ys) in
    let lx : IsList (x ∷ ys) = subst B (sym head) lb in
    let sx : SamePostings (x ∷ xs) (x ∷ ys) = subst S (sym head) same in
    let rest : SamePostings xs ys = λ p. (rest_in x xs ys la p (sx p).0, rest_in x ys xs lx p (sx p).1) in
    ap (λ (z : Posting). z ∷ xs) head ∙ ap (λ (l : List Posting). y ∷ l) (one_list xs ys (next-tail ComesBefore x xs la) (next-tail ComesBefore y ys lb) rest)

pub one_union : (one other a b : List Posting) → IsUnion one other a → IsUnion one other b → a ≡ b
one_union one other a b first second =
    one_list a b first.ordered second.ordered (λ p. ((λ is. (second.each p).1 ((first.each p).0 is)), (λ is. (first.each p).1 ((second.each p).0 is))))

pub union_or_clash : (one other both : List Posting) (p q : Posting) → IsUnion one other both → IsClash one other p q → ⊥
union_or_clash one other both p q union clash =
    elim (next-pairs ComesBefore before-trans p q both union.ordered ((union.each p).1 (inl clash.left)) ((union.each q).1 (inr clash.right))) [
      | inl e ↦ clash.clash.differ e
      | inr (inl before) ↦ apart p q before clash.clash.doc clash.clash.unended
      | inr (inr after) ↦ apart q p after (sym clash.clash.doc) clash.clash.begun
    ]
  where
    apart : (x y : Posting) → ComesBefore x y → x.doc.0 ≡ y.doc.0 → y.span.from < x.span.to → ⊥
    apart x y (inl less) doc over = omega (arith, less, doc)
    apart x y (inr behind) doc over = omega (arith, behind.1, over)
