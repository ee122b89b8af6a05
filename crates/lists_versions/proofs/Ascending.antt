-- Ascending lists of documents with the same documents are equal.
use Rattle.std.specs.Prelude.{◌≡◌, ℕ, suc, ◌+◌, ◌<◌, ◌≤◌, ◌==◌, Bool, true, false, cond, List, [], ◌∷◌, length, get_or, filter, sum_by, IsPermutation, refl}
use Rattle.std.specs.List.Sorted.{IsNonDecreasingBy}
use Rattle.std.proofs.Common.{arith, ap, sym, ◌∙◌, inl, inr, zero-add}
use Rattle.std.proofs.lemmas.Bool.{eq-eqb}
use Rattle.std.proofs.lemmas.Bool.Decides.{nat_tests}
use Rattle.std.proofs.lemmas.List.Sums.{sum_by-cons}
use Rattle.std.proofs.lemmas.List.Sorted.{sum_by-IsPermutation}
use Rattle.base_types.specs.declared.ids.DocId.{DocId}
use Rattle.lists_versions.specs.Index.{times}
use Rattle.lists_versions.proofs.Known.{IsAbove, order_of}

-- the documents don't fall, and none is below n
abbrev pub IsFrom : ℕ → List DocId → Type 0
IsFrom n [] = Unit {0}
IsFrom n (d ∷ ds) = (n ≤ d.0) × IsFrom d.0 ds

-- documents that rise don't fall
pub from_above : (n m : ℕ) (ds : List DocId) → m ≤ n → IsAbove n ds → IsFrom m ds
from_above n m [] h a = tt
from_above n m (d ∷ ds) h a = (omega arith, from_above (d.0 + 1) d.0 ds (omega arith) a.1)

-- some that rise still rise
pub above-filter : (p : DocId → Bool) (n m : ℕ) (ds : List DocId) → m ≤ n → IsAbove n ds → IsAbove m (filter p ds)
above-filter p n m [] h a = tt
above-filter p n m (d ∷ ds) h a = go (p d) (above-filter p (d.0 + 1) (d.0 + 1) ds (omega arith) a.1) (above-filter p (d.0 + 1) m ds (omega arith) a.1)
  where
    go : (b : Bool) → IsAbove (d.0 + 1) (filter p ds) → IsAbove m (filter p ds) → IsAbove m (cond b (d ∷ filter p ds) (filter p ds))
    go true x y = (omega arith, x)
    go false x y = y

-- a list that is sorted by the documents' numbers
pub from_sorted : (n : ℕ) (ds : List DocId) → ((x : DocId) → 0 < length ds → n ≤ (get_or ds 0 x).0) → IsNonDecreasingBy (λ d. d.0) ds → IsFrom n ds
from_sorted n [] h up = tt
from_sorted n (d ∷ ds) h up = (h d (omega arith), from_sorted d.0 ds (λ x m. up 0 1 x (omega arith) (omega arith)) (λ i j x l m. up (suc i) (suc j) x (omega arith) (omega arith)))

-- a document below all others isn't among them
times-below : (n : ℕ) (q : DocId) (ds : List DocId) → q.0 < n → IsFrom n ds → times q ds ≡ 0
times-below n q [] h a = refl
times-below n q (d ∷ ds) h a =
    let apart : q.0 == d.0 ≡ false = grind (arith, nat_tests) in
    omega (arith, sum_by-cons (λ x. cond (q.0 == x.0) 1 0) d ds, ap {B = ℕ} (λ b. cond b 1 0) apart, times-below d.0 q ds (omega arith) a.1)

-- a document at the head is there
times-head : (q : DocId) (ds : List DocId) → times q (q ∷ ds) ≡ 1 + times q ds
times-head q ds = omega (arith, sum_by-cons (λ x. cond (q.0 == x.0) 1 0) q ds, ap {B = ℕ} (λ b. cond b 1 0) (eq-eqb q.0 q.0 refl))

-- lists that don't fall, with each document as often, are equal
pub same_documents : (n : ℕ) (ds es : List DocId) → IsFrom n ds → IsFrom n es → ((q : DocId) → times q ds ≡ times q es) → ds ≡ es
same_documents n [] [] a b h = refl
same_documents n [] (e ∷ es) a b h = absurd (omega (arith, h e, times-head e es))
same_documents n (d ∷ ds) [] a b h = absurd (omega (arith, h d, times-head d ds))
same_documents n (d ∷ ds) (e ∷ es) a b h = elim (order_of d e) [
  | inl o ↦ absurd (omega (arith, h d, times-head d ds, times-below e.0 d (e ∷ es) o.1 (omega arith, b.1)))
  | inr o ↦ elim o [
    | inl o ↦
        let is : d ≡ e = ap (λ (k : ℕ). let x : DocId = record { 0 = k } in x) o.2 in
        let rest : IsFrom d.0 es = rw o.2 b.1 in
        cc (is, same_documents d.0 ds es a.1 rest (λ q. omega (arith, h q, sum_by-cons (λ x. cond (q.0 == x.0) 1 0) d ds, sum_by-cons (λ x. cond (q.0 == x.0) 1 0) e es, ap {B = ℕ} (λ (x : DocId). cond (q.0 == x.0) 1 0) is)))
    | inr o ↦ absurd (omega (arith, h e, times-head e es, times-below d.0 e (d ∷ ds) o.2 (omega arith, a.1)))
  ]
]

-- what passes a test, of lists with the same documents
pub times-filter : (p : DocId → Bool) (ds es : List DocId) → IsPermutation ds es → (q : DocId) → times q (filter p ds) ≡ times q (filter p es)
times-filter p ds es h q = of_all ds ∙ sym (sum_by-IsPermutation (λ d. cond (p d) (cond (q.0 == d.0) 1 0) 0) ds es h) ∙ sym (of_all es)
  where
    of_all : (ds : List DocId) → times q (filter p ds) ≡ sum_by (λ d. cond (p d) (cond (q.0 == d.0) 1 0) 0) ds
    of_all [] = refl
    of_all (d ∷ ds) = rw (sum_by-cons (λ x. cond (p x) (cond (q.0 == x.0) 1 0) 0) d ds, ← of_all ds) (go (p d))
      where
        go : (b : Bool) → times q (cond b (d ∷ filter p ds) (filter p ds)) ≡ cond b (cond (q.0 == d.0) 1 0) 0 + times q (filter p ds)
        go true = sum_by-cons (λ x. cond (q.0 == x.0) 1 0) d (filter p ds)
        go false = sym (zero-add (times q (filter p ds)))
