-- A turn within one block of a list.
use Rattle.std.specs.Prelude.{◌≡◌, ◌≢◌, ◌⊎◌, ℕ, ◌+◌, ◌-◌, ◌^◌, ◌<◌, ◌≤◌, true, List, [], ◌∷◌, ◌++◌, length, get_or, set, take, drop, All, refl}
use Rattle.std.specs.List.{insert, remove}
use Rattle.std.proofs.Common.{arith, ap, sym, ◌∙◌, subst, inl, inr}
use Rattle.std.proofs.lemmas.Bool.Decides.{nat_tests}
use Rattle.std.proofs.lemmas.List.{take-append-le, drop-append-le, length-append, get_or-append_right, get_or_append_left, set-append_left, set-append_right}
use Rattle.std.proofs.lemmas.List.Edits.{insert-append_left, insert-append_right, remove-append_left, remove-append_right}
use Rattle.std.proofs.lemmas.List.Elements.{All-append, All-head}
use lib.Seq.{take-append-add, drop-append-add}
use Rattle.base_types.specs.declared.posting.Posting.{Posting}
use Rattle.lists_postings.specs.Lists.{ComesBefore, IsList}
use Rattle.lists_postings.specs.ListsOf.{IsListOf}
use Rattle.lists_tails.specs.Turns.{turned_one}
use Rattle.lists_tails.specs.Steps.{IsOpened, IsClosed, IsPlace}
use Rattle.lists_tails.specs.Blocks.{starts_up_to, IsSetIn, IsTurnedWithin}
use Rattle.lists_tails.proofs.Turned.{next-front, next-back}
use Rattle.lists_tails.proofs.Passed.{turned-begin, turned-close, turned-both, turned-again, turned-leave, turned-never}

-- the place in a block is a place in the list
place-within : (doc : ℕ) (front block back : List Posting) (k : ℕ) → IsSetIn doc front block back → IsPlace doc block k → IsPlace doc (front ++ (block ++ back)) (length front + k)
place-within doc front block back k s p = record {
  inside = omega (arith, p.inside, length-append front (block ++ back), length-append block back);
  before = subst (λ w. All (λ r. r.doc.0 ≤ doc) w) (sym (take-append-add front (block ++ back) k ∙ ap (λ w. front ++ w) (take-append-le k block back p.inside))) (All-append (λ r. r.doc.0 ≤ doc) front (take k block) s.before p.before);
  after = subst (λ w. All (λ r. doc < r.doc.0) w) (sym (drop-append-add front (block ++ back) k ∙ drop-append-le k block back p.inside)) (All-append (λ r. doc < r.doc.0) (drop k block) back p.after s.after);
}

placed-within : (doc : ℕ) (front block back : List Posting) (k : ℕ) → (IsList (front ++ (block ++ back)) → IsSetIn doc front block back) → (IsList block → IsPlace doc block k) → IsList (front ++ (block ++ back)) → IsPlace doc (front ++ (block ++ back)) (length front + k)
placed-within doc front block back k s p l = place-within doc front block back k (s l) (p (next-front ComesBefore block back (next-back ComesBefore front (block ++ back) l)))

read-within : (front block back : List Posting) (j : ℕ) (x : Posting) → j < length block → x ≡ get_or block j x → x ≡ get_or (front ++ (block ++ back)) (length front + j) x
read-within front block back j x l e =
    e ∙ sym (get_or-append_right front (block ++ back) (length front) (length front + j) x refl (omega arith)
    ∙ ap (λ n. get_or (block ++ back) n x) (let n : length front + j - length front ≡ j = omega arith in n) ∙ get_or_append_left block back x j l)

set-within : (front block back : List Posting) (j : ℕ) (y : Posting) → j < length block → front ++ (set block j y ++ back) ≡ set (front ++ (block ++ back)) (length front + j) y
set-within front block back j y l =
    sym (set-append_right front (block ++ back) (length front) (length front + j) y refl (omega arith)
    ∙ ap (λ n. front ++ set (block ++ back) n y) (let n : length front + j - length front ≡ j = omega arith in n) ∙ ap (λ w. front ++ w) (set-append_left block back j y l))

insert-within : (front block back : List Posting) (k : ℕ) (q : Posting) → k ≤ length block → front ++ (insert block k q ++ back) ≡ insert (front ++ (block ++ back)) (length front + k) q
insert-within front block back k q l =
    sym (insert-append_right front (block ++ back) (length front) (length front + k) q refl (omega arith)
    ∙ ap (λ n. front ++ insert (block ++ back) n q) (let n : length front + k - length front ≡ k = omega arith in n) ∙ ap (λ w. front ++ w) (insert-append_left block back k q l))

remove-within : (front block back : List Posting) (j : ℕ) → j < length block → front ++ (remove block j ++ back) ≡ remove (front ++ (block ++ back)) (length front + j)
remove-within front block back j l =
    sym (remove-append_right front (block ++ back) (length front) (length front + j) refl (omega arith)
    ∙ ap (λ n. front ++ remove (block ++ back) n) (let n : length front + j - length front ≡ j = omega arith in n) ∙ ap (λ w. front ++ w) (remove-append_left block back j l))

inside-within : (front block back : List Posting) (j : ℕ) → j < length block → length front + j < length (front ++ (block ++ back))
inside-within front block back j l = omega (arith, l, length-append front (block ++ back), length-append block back)

pub close-within : (doc at o : ℕ) (block now : List Posting) (j k : ℕ) (x y : Posting) → k ≡ j + 1 → j < length block → x ≡ get_or block j x → (IsList block → IsPlace doc block k) → at < 2 ^ 40 → 0 < o → IsClosed at x y → now ≡ set block j y → IsTurnedWithin doc at o 0 block now
close-within doc at o block now j k x y v l e p lb n c w front back s =
    turned-close doc at o (front ++ (block ++ back)) (front ++ (now ++ back)) (length front + j) (length front + k) x y (omega (arith, v)) (inside-within front block back j l) (read-within front block back j x l e)
    (placed-within doc front block back k s p) lb n c (ap (λ z. front ++ (z ++ back)) w ∙ set-within front block back j y l)

pub both-within : (doc at o n : ℕ) (block now : List Posting) (j k : ℕ) (x y q : Posting) → k ≡ j + 1 → j < length block → x ≡ get_or block j x → (IsList block → IsPlace doc block k) → at < 2 ^ 40 → 0 < o → o ≢ n → IsClosed at x y → IsOpened doc at n q
    → (now ≡ set (insert block k q) j y) → j < length (insert block k q) → IsTurnedWithin doc at o n block now
both-within doc at o n block now j k x y q v l e p lb m differ c i w h front back s =
    turned-both doc at o n (front ++ (block ++ back)) (front ++ (now ++ back)) (length front + j) (length front + k) x y q (omega (arith, v)) (inside-within front block back j l) (read-within front block back j x l e)
    (placed-within doc front block back k s p) lb m differ c i
    (ap (λ z. front ++ (z ++ back)) w ∙ set-within front (insert block k q) back j y h ∙ ap (λ z. set z (length front + j) y) (insert-within front block back k q (omega (arith, v, l))))

pub again-within : (doc at o n : ℕ) (block now : List Posting) (j k : ℕ) (x q : Posting) → k ≡ j + 1 → j < length block → x ≡ get_or block j x → (IsList block → IsPlace doc block k) → at < 2 ^ 40 → 0 < o → o ≢ n → at ≤ x.span.from → IsOpened doc at n q → now ≡ set block j q → IsTurnedWithin doc at o n block now
again-within doc at o n block now j k x q v l e p lb m differ f i w front back s =
    turned-again doc at o n (front ++ (block ++ back)) (front ++ (now ++ back)) (length front + j) (length front + k) x q (omega (arith, v)) (inside-within front block back j l) (read-within front block back j x l e)
    (placed-within doc front block back k s p) lb m differ f i (ap (λ z. front ++ (z ++ back)) w ∙ set-within front block back j q l)

pub leave-within : (doc at o : ℕ) (block now : List Posting) (j k : ℕ) (x : Posting) → k ≡ j + 1 → j < length block → x ≡ get_or block j x → (IsList block → IsPlace doc block k) → at < 2 ^ 40 → 0 < o → at ≤ x.span.from → now ≡ remove block j → IsTurnedWithin doc at o 0 block now
leave-within doc at o block now j k x v l e p lb m f w front back s =
    turned-leave doc at o (front ++ (block ++ back)) (front ++ (now ++ back)) (length front + j) (length front + k) x (omega (arith, v)) (inside-within front block back j l) (read-within front block back j x l e)
    (placed-within doc front block back k s p) lb m f (ap (λ z. front ++ (z ++ back)) w ∙ remove-within front block back j l)

pub begin-within : (doc at n : ℕ) (block now : List Posting) (k : ℕ) (q : Posting) → k ≤ length block → (IsList block → IsPlace doc block k) → at < 2 ^ 40 → IsOpened doc at n q → now ≡ insert block k q → IsTurnedWithin doc at 0 n block now
begin-within doc at n block now k q l p lb i w front back s =
    turned-begin doc at n (front ++ (block ++ back)) (front ++ (now ++ back)) (length front + k) q (placed-within doc front block back k s p) lb i (ap (λ z. front ++ (z ++ back)) w ∙ insert-within front block back k q l)

not-first : (doc : ℕ) (block : List Posting) → 0 < length block → starts_up_to doc block ≡ true → All (λ r. doc < r.doc.0) block → ⊥
not-first doc [] l e a = omega (arith, l)
not-first doc (p ∷ block) l e a = let m : doc < p.doc.0 = All-head (λ r. doc < r.doc.0) p block a in grind (arith, nat_tests)

-- a block that has no posting of a document up to this one is the first block, and this one has none
pub never-within : (doc at o n : ℕ) (block : List Posting) (k : ℕ) → k ≡ 0 → (IsList block → IsPlace doc block k) → at < 2 ^ 40 → 0 < o → IsTurnedWithin doc at o n block block
never-within doc at o n block k e p lb m front back s g a la t h = go (s h.ordered).begins
  where
    placed : IsPlace doc block 0
    placed = subst (λ z. IsPlace doc block z) e (p (next-front ComesBefore block back (next-back ComesBefore front (block ++ back) h.ordered)))

    go : (front ≡ []) ⊎ ((0 < length block) × (starts_up_to doc block ≡ true)) → IsListOf (turned_one g doc at n) a (2 ^ 40) (front ++ (block ++ back))
    go (inl f) = turned-never doc at o n (front ++ (block ++ back)) (length front + k) (omega (arith, e, ap length f)) (placed-within doc front block back k s p) lb m g a la t h
    go (inr f) = absurd (not-first doc block f.0 f.1 placed.after)
