-- Coalesced lists with the same rows are one list, and none is shorter.
use Rattle.std.specs.Prelude.{◌≡◌, ◌⊎◌, ℕ, ◌<◌, ◌≤◌, List, [], ◌∷◌, length, refl}
use Rattle.std.proofs.Common.{arith, ap, sym, ◌∙◌, subst, inl, inr}
use Rattle.std.proofs.lemmas.Bool.{cases_eq, cases_lt, cases_order}
use Rattle.std.proofs.lemmas.Bool.Decides.{nat_tests}
use Rattle.base_types.specs.declared.posting.Posting.{Posting}
use Rattle.base_types.proofs.Equal.{same_posting}
use Rattle.lists_postings.specs.Lists.{ComesBefore, IsList, IsCoalesced, Continues, frequency, SameRows}
use Rattle.lists_postings.specs.Joins.{IsJoined}
use Rattle.lists_postings.proofs.Order.{Heads, next-tail, next-head, next-cons}
use Rattle.lists_postings.proofs.Frequencies.{IsEarly, IsBelow, frequency-here, frequency-skip, early, quiet, rows-cons, rows-tail}

-- the first posting of a list doesn't begin before a list with the same rows does
not-sooner : (p q : Posting) (a b : List Posting) → IsList (q ∷ b) → SameRows (p ∷ a) (q ∷ b) → IsEarly p.doc.0 p.span.from q → ⊥
not-sooner p q a b lb s h = omega (arith, s p.doc.0 p.span.from, frequency-here p.doc.0 p.span.from p a refl (omega arith) p.span.ordered, early p.doc.0 p.span.from q b lb h, p.counted)

-- where a coalesced list's first posting ends, what follows has another frequency
ends-there : (p : Posting) (a : List Posting) → IsList (p ∷ a) → IsCoalesced (p ∷ a) → frequency p.doc.0 p.span.to a ≡ p.tf → ⊥
ends-there p [] l c e = omega (arith, e, p.counted)
ends-there p (q ∷ a) l c e = go l.0
  where
    go : ComesBefore p q → ⊥
    go (inl h) = omega (arith, e, p.counted, early p.doc.0 p.span.to q a l.1 (inl h))
    go (inr h) = elim (cases_lt p.span.to q.span.from) [
      | inl k ↦ omega (arith, e, p.counted, early p.doc.0 p.span.to q a l.1 (inr (h.0, k)))
      | inr k ↦ c.0 (record {
        doc = h.0;
        tf = sym e ∙ frequency-here p.doc.0 p.span.to q a (sym h.0) k (let o : q.span.from < q.span.to = q.span.ordered in omega (arith, h.1));
        at = omega (arith, h.1, k);
      })
    ]

not-shorter : (p q : Posting) (a b : List Posting) → IsList (p ∷ a) → IsCoalesced (p ∷ a) → SameRows (p ∷ a) (q ∷ b) → p.doc.0 ≡ q.doc.0 → p.span.from ≡ q.span.from → p.tf ≡ q.tf → p.span.to < q.span.to → ⊥
not-shorter p q a b l c s d f n h =
    ends-there p a l c (sym (frequency-skip p.doc.0 p.span.to p a (λ x y z. omega (arith, z))) ∙ s p.doc.0 p.span.to ∙ frequency-here p.doc.0 p.span.to q b (sym d) (let o : p.span.from < p.span.to = p.span.ordered in omega (arith, f)) h ∙ sym n)

equal : (a b : ℕ) → (a < b → ⊥) → (b < a → ⊥) → a ≡ b
equal a b x y = elim (cases_order a b) [ inl e ↦ e | inr o ↦ elim o [ inl l ↦ absurd (x l) | inr l ↦ absurd (y l) ] ]

-- the first postings of coalesced lists with the same rows
first : (p q : Posting) (a b : List Posting) → IsList (p ∷ a) → IsCoalesced (p ∷ a) → IsList (q ∷ b) → IsCoalesced (q ∷ b) → SameRows (p ∷ a) (q ∷ b) → p ≡ q
first p q a b la ca lb cb s =
    let s' : SameRows (q ∷ b) (p ∷ a) = λ d t. sym (s d t) in
    let d : p.doc.0 ≡ q.doc.0 = equal p.doc.0 q.doc.0 (λ h. not-sooner p q a b lb s (inl h)) (λ h. not-sooner q p b a la s' (inl h)) in
    let f : p.span.from ≡ q.span.from = equal p.span.from q.span.from (λ h. not-sooner p q a b lb s (inr (d, h))) (λ h. not-sooner q p b a la s' (inr (sym d, h))) in
    let n : p.tf ≡ q.tf = sym (frequency-here p.doc.0 p.span.from p a refl (omega arith) p.span.ordered) ∙ s p.doc.0 p.span.from ∙ frequency-here p.doc.0 p.span.from q b (sym d) (omega (arith, f)) (let o : q.span.from < q.span.to = q.span.ordered in omega (arith, f)) in
    let e : p.span.to ≡ q.span.to = equal p.span.to q.span.to (not-shorter p q a b la ca s d f n) (not-shorter q p b a lb cb s' (sym d) (sym f) (sym n)) in
    same_posting p q d f e n

-- coalesced lists with the same rows are one
pub one_coalesced : (a b : List Posting) → IsList a → IsCoalesced a → IsList b → IsCoalesced b → SameRows a b → a ≡ b
one_coalesced [] [] la ca lb cb s = refl
one_coalesced [] (q ∷ b) la ca lb cb s = absurd (omega (arith, s q.doc.0 q.span.from, frequency-here q.doc.0 q.span.from q b refl (omega arith) q.span.ordered, q.counted))
one_coalesced (p ∷ a) [] la ca lb cb s = absurd (omega (arith, s p.doc.0 p.span.from, frequency-here p.doc.0 p.span.from p a refl (omega arith) p.span.ordered, p.counted))
one_coalesced (p ∷ a) (q ∷ b) la ca lb cb s =
    let e : p ≡ q = first p q a b la ca lb cb s in
    let lb' : IsList (p ∷ b) = subst (λ x. IsList (x ∷ b)) (sym e) lb in
    let s' : SameRows (p ∷ a) (p ∷ b) = subst (λ x. SameRows (p ∷ a) (x ∷ b)) (sym e) s in
    let r : a ≡ b = one_coalesced a b (next-tail ComesBefore p a la) (next-tail (λ x y. ¬ (Continues x y)) p a ca) (next-tail ComesBefore q b lb) (next-tail (λ x y. ¬ (Continues x y)) q b cb) (rows-tail p a b la lb' s') in
    cc

-- one posting in place of two gives the same
pub rows-joined : (p q j : Posting) (list : List Posting) → Continues p q → IsJoined p q j → SameRows (j ∷ list) (p ∷ q ∷ list)
rows-joined p q j list c i d t =
    let a : p.span.from < p.span.to = p.span.ordered in
    let b : q.span.from < q.span.to = q.span.ordered in
    let e1 = c.doc in let e2 = c.tf in let e3 = c.at in
    let f1 = i.doc in let f2 = i.tf in let f3 = i.from in let f4 = i.to in
    grind (arith, nat_tests)

pub before-joined : (p q j r : Posting) → Continues p q → IsJoined p q j → ComesBefore q r → ComesBefore j r
before-joined p q j r c i (inl h) = inl (omega (arith, h, c.doc, i.doc))
before-joined p q j r c i (inr h) = inr (i.doc ∙ c.doc ∙ h.0, omega (arith, h.1, i.to))

-- postings either go on or don't
pub decide : (p q : Posting) → Continues p q ⊎ ¬ (Continues p q)
decide p q = elim (cases_eq p.doc.0 q.doc.0) [
  | inr n ↦ inr (λ c. n c.doc)
  | inl d ↦ elim (cases_eq p.tf q.tf) [
    | inr n ↦ inr (λ c. n c.tf)
    | inl e ↦ elim (cases_eq p.span.to q.span.from) [
      | inr n ↦ inr (λ c. n c.at)
      | inl f ↦ inl (record { doc = d; tf = e; at = f })
    ]
  ]
]

-- p and q in one
pub join : (p q : Posting) → ComesBefore p q → Continues p q → (j : Posting) × IsJoined p q j
join p q b c = (
  record {
    doc = p.doc;
    tf = p.tf;
    span = record { from = p.span.from; to = q.span.to; ordered = let x : p.span.from < p.span.to = p.span.ordered in let y : q.span.from < q.span.to = q.span.ordered in omega (arith, c.at); in_time = q.span.in_time };
    numbered = p.numbered;
    counted = p.counted;
    bounded = p.bounded;
  },
  record { doc = refl; tf = refl; from = refl; to = refl },
)

-- a coalesced list with the rows of a list, and no longer
pub record IsShort (list short : List Posting) : Type 0 where
  pub ordered : IsList short
  pub coalesced : IsCoalesced short
  pub same : SameRows short list
  pub long : length short ≤ length list

-- a list before whose first posting p stands keeps that when its rows are told otherwise
still-before : (p q : Posting) (list short : List Posting) → IsList (p ∷ list) → SameRows (q ∷ short) list → ComesBefore p q
still-before p q list short l s = elim (cases_order p.doc.0 q.doc.0) [
  | inl e ↦ elim (cases_lt q.span.from p.span.to) [
    | inl k ↦ absurd (never (inr (sym e, k)))
    | inr k ↦ inr (e, k)
  ]
  | inr o ↦ elim o [ inl k ↦ inl k | inr k ↦ absurd (never (inl k)) ]
]
  where
    never : IsBelow q.doc.0 q.span.from p → ⊥
    never h = omega (arith, s q.doc.0 q.span.from, frequency-here q.doc.0 q.span.from q short refl (omega arith) q.span.ordered, quiet q.doc.0 q.span.from p list l h, q.counted)

more : (p : Posting) (list short : List Posting) → IsList (p ∷ list) → IsShort list short → (s : List Posting) × IsShort (p ∷ list) s
more p list [] l h = (p ∷ [], record { ordered = tt; coalesced = tt; same = rows-cons p [] list h.same; long = omega arith })
more p list (q ∷ short) l h = go (decide p q)
  where
    b : ComesBefore p q
    b = still-before p q list short l h.same

    go : Continues p q ⊎ ¬ (Continues p q) → (s : List Posting) × IsShort (p ∷ list) s
    go (inr n) = (p ∷ q ∷ short, record { ordered = (b, h.ordered); coalesced = (n, h.coalesced); same = rows-cons p (q ∷ short) list h.same; long = omega (arith, h.long) })
    go (inl c) = let (j, i) = join p q b c in (
      j ∷ short,
      record {
        ordered = next-cons ComesBefore j short (ahead j i short (next-head ComesBefore q short h.ordered)) (next-tail ComesBefore q short h.ordered);
        coalesced = next-cons (λ x y. ¬ (Continues x y)) j short (apart j i short (next-head (λ x y. ¬ (Continues x y)) q short h.coalesced)) (next-tail (λ x y. ¬ (Continues x y)) q short h.coalesced);
        same = λ d t. rows-joined p q j short c i d t ∙ rows-cons p (q ∷ short) list h.same d t;
        long = omega (arith, h.long);
      },
    )
      where
        ahead : (j : Posting) → IsJoined p q j → (rest : List Posting) → Heads ComesBefore q rest → Heads ComesBefore j rest
        ahead j i [] x = tt
        ahead j i (r ∷ rest) x = before-joined p q j r c i x

        apart : (j : Posting) → IsJoined p q j → (rest : List Posting) → Heads (λ x y. ¬ (Continues x y)) q rest → Heads (λ x y. ¬ (Continues x y)) j rest
        apart j i [] x = tt
        apart j i (r ∷ rest) x = λ k. x (record { doc = sym c.doc ∙ sym i.doc ∙ k.doc; tf = sym c.tf ∙ sym i.tf ∙ k.tf; at = sym i.to ∙ k.at })

pub shorten : (list : List Posting) → IsList list → (s : List Posting) × IsShort list s
shorten [] l = ([], record { ordered = tt; coalesced = tt; same = λ d t. refl; long = omega arith })
shorten (p ∷ list) l = let (s, h) = shorten list (next-tail ComesBefore p list l) in more p list s l h

-- no list with the same rows is shorter than a coalesced one
pub coalesced_shortest : (list other : List Posting) → IsList list → IsCoalesced list → IsList other → SameRows other list → length list ≤ length other
coalesced_shortest list other l c lo s =
    let (short, h) = shorten other lo in
    let e : list ≡ short = one_coalesced list short l c h.ordered h.coalesced (λ d t. sym (h.same d t ∙ s d t)) in
    omega (arith, h.long, ap length e)
