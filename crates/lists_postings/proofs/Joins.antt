-- How a list becomes coalesced.
use Rattle.std.specs.Prelude.{◌≡◌, ℕ, ◌+◌, ◌<◌, ◌≤◌, cond, List, [], ◌∷◌, ◌++◌, length, get_or, drop}
use Rattle.std.proofs.Common.{arith, ap, sym, ◌∙◌, subst, inl, inr, append_assoc}
use Rattle.std.proofs.lemmas.List.{drop_more, drop_all}
use Rattle.base_types.specs.declared.posting.Posting.{Posting}
use Rattle.lists_postings.specs.Lists.{EachNext, ComesBefore, IsList, Continues, SameRows}
use Rattle.lists_postings.specs.Joins.{IsJoined}
use Rattle.lists_postings.proofs.Order.{Heads, next-tail, next-head, next-cons}
use Rattle.lists_postings.proofs.Frequencies.{is_row}
use Rattle.lists_postings.proofs.Coalesced.{rows-joined, before-joined, coalesced_shortest}
use Rattle.lists_postings.specs.Coalescing.{IsUnderWay}

-- what stands in front keeps rows equal
rows-append : (done a b : List Posting) → SameRows a b → SameRows (done ++ a) (done ++ b)
rows-append [] a b s d t = s d t
rows-append (p ∷ done) a b s d t = ap {B = ℕ} (λ n. cond (is_row d t p) p.tf n) (rows-append done a b s d t)

-- an element in the middle is replaced by one that stands alike to its neighbours
replace : (R : Posting → Posting → Type 0) (done : List Posting) (q j : Posting) (left right : List Posting) → ((r : Posting) → R r q → R r j) → (EachNext R (q ∷ left) → EachNext R (j ∷ right)) → EachNext R (done ++ q ∷ left) → EachNext R (done ++ j ∷ right)
replace R [] q j left right before after h = after h
replace R (r ∷ []) q j left right before after h = (before r h.0, after h.1)
replace R (r ∷ s ∷ done) q j left right before after h = (h.0, replace R (s ∷ done) q j left right before after h.1)

before-start : (p q j r : Posting) → IsJoined p q j → ComesBefore r p → ComesBefore r j
before-start p q j r i (inl h) = inl (omega (arith, h, i.doc))
before-start p q j r i (inr h) = inr (h.0 ∙ sym i.doc, omega (arith, h.1, i.from))

-- the open posting and the one that goes on where it ends become one
pub step-join : (list done : List Posting) (p q j : Posting) (left : List Posting) → Continues p q → IsJoined p q j → IsUnderWay list done p (q ∷ left) → IsUnderWay list done j left
step-join list done p q j left c i h = record {
  ordered = replace ComesBefore done p j (q ∷ left) left (λ r b. before-start p q j r i b) (λ n. next-cons ComesBefore j left (ahead left (next-head ComesBefore q left n.1)) (next-tail ComesBefore q left n.1)) h.ordered;
  coalesced = replace (λ x y. ¬ (Continues x y)) done p j [] [] (λ r n k. n (record { doc = k.doc ∙ i.doc; tf = k.tf ∙ i.tf; at = k.at ∙ i.from })) (λ n. tt) h.coalesced;
  same = λ d t. rows-append done (j ∷ left) (p ∷ q ∷ left) (rows-joined p q j left c i) d t ∙ h.same d t;
}
  where
    ahead : (rest : List Posting) → Heads ComesBefore q rest → Heads ComesBefore j rest
    ahead [] x = tt
    ahead (r ∷ rest) x = before-joined p q j r c i x

-- the open posting is done
pub step-push : (list done new : List Posting) (p q : Posting) (left : List Posting) → ¬ (Continues p q) → new ≡ done ++ p ∷ [] → IsUnderWay list done p (q ∷ left) → IsUnderWay list new q left
step-push list done new p q left n e h = rw e (record {
  ordered = rw append_assoc h.ordered;
  coalesced = rw append_assoc (replace (λ x y. ¬ (Continues x y)) done p p [] (q ∷ []) (λ r x. x) (λ x. (n, tt)) h.coalesced);
  same = rw append_assoc h.same;
})

-- what is left begins with the next posting
pub next-left : (list done others : List Posting) (current p : Posting) (i : ℕ) → i < length others → p ≡ get_or others i p → IsUnderWay list done current (drop i others) → IsUnderWay list done current (p ∷ drop (i + 1) others)
next-left list done others current p i l e h =
    let s : drop i others ≡ p ∷ drop (i + 1) others = drop_more others i p l ∙ ap (λ x. x ∷ drop (i + 1) others) (sym e) in
    subst (λ x. IsUnderWay list done current x) s h

-- nothing is left, and the last posting is done
pub finish-shortest : (list done new others : List Posting) (p : Posting) (i : ℕ) → length others ≤ i → new ≡ done ++ p ∷ [] → IsUnderWay list done p (drop i others) → (other : List Posting) → IsList other → SameRows other list → length new ≤ length other
finish-shortest list done new others p i l e h other lo s =
    let k : IsUnderWay list done p [] = subst (λ x. IsUnderWay list done p x) (drop_all i others l) h in
    rw e (coalesced_shortest (done ++ p ∷ []) other k.ordered k.coalesced lo (λ d t. s d t ∙ sym (k.same d t)))
