-- A turn in one block of a list, by the block in which the document turns.
use Rattle.std.specs.Prelude.{◌≡◌, ℕ, zero, suc, ◌+◌, ◌<◌, ◌≤◌, Bool, true, false, List, [], ◌∷◌, ◌++◌, length, get_or, set, take, drop, All, filter, refl}
use Rattle.std.specs.List.{remove}
use Rattle.std.proofs.Common.{arith, ap, sym, ◌∙◌, subst, inl, inr, append_assoc}
use Rattle.std.proofs.lemmas.Bool.Decides.{nat_tests}
use Rattle.std.proofs.lemmas.List.{append-nil, take-append-drop, take_more, length-drop, get_or-drop, length-append}
use Rattle.std.proofs.lemmas.List.Elements.{Contains-get_or, All-nil, filter-append}
use Rattle.base_types.specs.declared.posting.Posting.{Posting}
use Rattle.lists_postings.specs.Lists.{ComesBefore, IsList}
use Rattle.lists_postings.proofs.Order.{before-trans, next-later}
use Rattle.lists_tails.specs.Turns.{IsTurned}
use Rattle.lists_tails.specs.Blocks.{joined, AreFilled, starts_up_to, IsBlockOf, IsSetIn, IsTurnedWithin}
use Rattle.lists_tails.proofs.Turned.{next-back}
use Rattle.lists_tails.proofs.Blocked.{Block, across, joined-at, joined-set, joined-append}

-- what begins behind a document is behind it
all-late : (doc : ℕ) (list : List Posting) → IsList list → starts_up_to doc list ≡ false → All (λ p. doc < p.doc.0) list
all-late doc [] l e = All-nil (λ p. doc < p.doc.0)
all-late doc (p ∷ list) l e = λ i d m. go i d m
  where
    first : doc < p.doc.0
    first = grind (arith, nat_tests)

    late : (q : Posting) → ComesBefore p q → doc < q.doc.0
    late q (inl k) = omega (arith, k, first)
    late q (inr k) = omega (arith, k.0, first)

    go : (i : ℕ) (d : Posting) → i < length (p ∷ list) → doc < (get_or (p ∷ list) i d).doc.0
    go zero d m = first
    go (suc i) d m = late (get_or list i d) (next-later ComesBefore before-trans p (get_or list i d) list l (Contains-get_or list i d (omega (arith, m))))

starts-join : (doc : ℕ) (b : Bool) (x y : List Posting) → 0 < length x → starts_up_to doc x ≡ b → starts_up_to doc (x ++ y) ≡ b
starts-join doc b [] y l e = absurd (omega (arith, l))
starts-join doc b (p ∷ x) y l e = e

-- blocks of which the first begins behind a document
all-behind : (doc : ℕ) (blocks : List Block) → AreFilled blocks → IsList (joined blocks) → ((d : Block) → 0 < length blocks → starts_up_to doc (get_or blocks 0 d).items ≡ false) → All (λ p. doc < p.doc.0) (joined blocks)
all-behind doc [] f l e = All-nil (λ p. doc < p.doc.0)
all-behind doc (b ∷ blocks) f l e = all-late doc (joined (b ∷ blocks)) l (starts-join doc false b.items (joined blocks) (f 0 b (omega arith)) (e b (omega arith)))

-- what stands in front of what begins with a document up to this one
all-front : (doc : ℕ) (front back : List Posting) → IsList (front ++ back) → 0 < length back → starts_up_to doc back ≡ true → All (λ p. p.doc.0 ≤ doc) front
all-front doc front [] l n e = absurd (omega (arith, n))
all-front doc front (q ∷ back) l n e = λ i d m.
    let a : (get_or front i d).doc.0 ≤ q.doc.0 = across front (q ∷ back) (get_or front i d) q l (Contains-get_or front i d m) (zero, omega arith, refl) in
    let b : q.doc.0 ≤ doc = grind (arith, nat_tests) in
    omega (arith, a, b)

filled-drop : (blocks : List Block) (k : ℕ) → AreFilled blocks → AreFilled (drop k blocks)
filled-drop blocks k a i d m = subst (λ w. 0 < length w.items) (sym (get_or-drop k blocks i d)) (a (k + i) d (omega (arith, m, length-drop k blocks)))

-- the first block
pub set-first : (doc : ℕ) (block : List Posting) (later : List Block) → AreFilled later → (IsList (block ++ joined later) → IsBlockOf doc later 0) → IsList (block ++ joined later) → IsSetIn doc [] block (joined later)
set-first doc block later f p l = record {
  before = All-nil (λ p. p.doc.0 ≤ doc);
  after = all-behind doc later f (next-back ComesBefore block (joined later) l) (λ d m. (p l).after 0 d (omega arith) m);
  begins = inl refl;
}

pub turned-first : (doc at o n : ℕ) (was now : List Posting) (later : List Block) → IsTurnedWithin doc at o n was now → AreFilled later → (IsList (was ++ joined later) → IsBlockOf doc later 0) → IsTurned doc at o n (was ++ joined later) (now ++ joined later)
turned-first doc at o n was now later w f p = w [] (joined later) (set-first doc was later f p)

-- a later block
pub set-later : (doc : ℕ) (front : List Posting) (later : List Block) (k : ℕ) (x : Block) → k < length later → x ≡ get_or later k x → AreFilled later → IsBlockOf doc later (k + 1)
    → IsList ((front ++ joined (take k later)) ++ (x.items ++ joined (drop (k + 1) later))) → IsSetIn doc (front ++ joined (take k later)) x.items (joined (drop (k + 1) later))
set-later doc front later k x l e f p h =
    let n : 0 < length x.items = subst (λ w. 0 < length w.items) (sym e) (f k x l) in
    let s : starts_up_to doc x.items ≡ true = ap (λ (w : Block). starts_up_to doc w.items) e ∙ p.before k x (omega arith) in
    record {
      before = all-front doc (front ++ joined (take k later)) (x.items ++ joined (drop (k + 1) later)) h (omega (arith, n, length-append x.items (joined (drop (k + 1) later)))) (starts-join doc true x.items (joined (drop (k + 1) later)) n s);
      after = all-behind doc (drop (k + 1) later) (filled-drop later (k + 1) f) (next-back ComesBefore x.items (joined (drop (k + 1) later)) (next-back ComesBefore (front ++ joined (take k later)) (x.items ++ joined (drop (k + 1) later)) h))
          (λ d m. ap (λ (w : Block). starts_up_to doc w.items) (get_or-drop (k + 1) later 0 d) ∙ p.after (k + 1 + 0) d (omega arith) (omega (arith, m, length-drop (k + 1) later)));
      begins = inr (n, s);
    }

pub turned-later : (doc at o n : ℕ) (front : List Posting) (later : List Block) (k : ℕ) (x y : Block) → k < length later → x ≡ get_or later k x → IsTurnedWithin doc at o n x.items y.items → AreFilled later
    → (IsList (front ++ joined later) → IsBlockOf doc later (k + 1)) → IsTurned doc at o n (front ++ joined later) (front ++ joined (set later k y))
turned-later doc at o n front later k x y l e w f p =
    let a : front ++ joined later ≡ (front ++ joined (take k later)) ++ (x.items ++ joined (drop (k + 1) later)) = ap (λ z. front ++ z) (joined-at later k x l e) ∙ sym (append_assoc front (joined (take k later)) (x.items ++ joined (drop (k + 1) later))) in
    let b : front ++ joined (set later k y) ≡ (front ++ joined (take k later)) ++ (y.items ++ joined (drop (k + 1) later)) = ap (λ z. front ++ z) (joined-set later k y l) ∙ sym (append_assoc front (joined (take k later)) (y.items ++ joined (drop (k + 1) later))) in
    subst (λ z. IsTurned doc at o n z (front ++ joined (set later k y))) (sym a)
    (subst (λ z. IsTurned doc at o n ((front ++ joined (take k later)) ++ (x.items ++ joined (drop (k + 1) later))) z) (sym b)
    (w (front ++ joined (take k later)) (joined (drop (k + 1) later)) (λ h. set-later doc front later k x l e f (p (subst IsList (sym a) h)) h)))

pub longer-later : (later : List Block) (k : ℕ) (x y : Block) → k < length later → x ≡ get_or later k x → (m : ℕ) → length y.items ≤ length x.items + m → length (joined (set later k y)) ≤ length (joined later) + m
longer-later later k x y l e n m =
    let a = ap length (joined-at later k x l e) ∙ length-append (joined (take k later)) (x.items ++ joined (drop (k + 1) later)) in
    let b = ap length (joined-set later k y l) ∙ length-append (joined (take k later)) (y.items ++ joined (drop (k + 1) later)) in
    omega (arith, a, b, m, length-append x.items (joined (drop (k + 1) later)), length-append y.items (joined (drop (k + 1) later)))

-- an empty block is removed
pub joined-removed : (later : List Block) (k : ℕ) (x : Block) → k < length later → x ≡ get_or later k x → length x.items ≡ 0 → joined (remove later k) ≡ joined later
joined-removed later k x l e n =
    let z : suc k ≡ k + 1 = omega arith in
    ap (λ w. joined (take k later ++ drop w later)) z ∙ joined-append (take k later) (drop (k + 1) later) ∙ sym (joined-at later k x l e ∙ ap (λ w. joined (take k later) ++ (w ++ joined (drop (k + 1) later))) (none x.items n))
  where
    none : (w : List Posting) → length w ≡ 0 → w ≡ []
    none [] h = refl
    none (p ∷ w) h = absurd (omega (arith, h))

-- one block more
pub joined-more : (blocks : List Block) (i : ℕ) (x : Block) → i < length blocks → x ≡ get_or blocks i x → joined (take (i + 1) blocks) ≡ joined (take i blocks) ++ x.items
joined-more blocks i x l e =
    ap joined (take_more blocks i x l) ∙ joined-append (take i blocks) (get_or blocks i x ∷ []) ∙ ap (λ w. joined (take i blocks) ++ (w.items ++ [])) (sym e) ∙ ap (λ w. joined (take i blocks) ++ w) (append-nil x.items)

-- what a test keeps of the blocks
pub kept-more : (p : Posting → Bool) (front : List Posting) (blocks : List Block) (i : ℕ) (x : Block) (rows more : List Posting) → i < length blocks → x ≡ get_or blocks i x
    → rows ≡ filter p (front ++ joined (take i blocks)) → more ≡ rows ++ filter p x.items → more ≡ filter p (front ++ joined (take (i + 1) blocks))
kept-more p front blocks i x rows more l e a b =
    b ∙ ap (λ w. w ++ filter p x.items) a ∙ sym (filter-append p (front ++ joined (take i blocks)) x.items)
    ∙ ap (filter p) (append_assoc front (joined (take i blocks)) x.items ∙ ap (λ w. front ++ w) (sym (joined-more blocks i x l e)))

pub gathered-more : (front : List Posting) (blocks : List Block) (i : ℕ) (x : Block) (list more : List Posting) → i < length blocks → x ≡ get_or blocks i x
    → list ≡ front ++ joined (take i blocks) → more ≡ list ++ x.items → more ≡ front ++ joined (take (i + 1) blocks)
gathered-more front blocks i x list more l e a b =
    b ∙ ap (λ w. w ++ x.items) a ∙ append_assoc front (joined (take i blocks)) x.items ∙ ap (λ w. front ++ w) (sym (joined-more blocks i x l e))

pub length-more : (blocks : List Block) (i : ℕ) (x : Block) → i < length blocks → x ≡ get_or blocks i x → length (joined (take (i + 1) blocks)) ≡ length (joined (take i blocks)) + length x.items
length-more blocks i x l e = ap length (joined-more blocks i x l e) ∙ length-append (joined (take i blocks)) x.items

pub length-part : (blocks : List Block) (i : ℕ) → length (joined (take i blocks)) ≤ length (joined blocks)
length-part blocks i =
    let e = ap length (ap joined (sym (take-append-drop i blocks)) ∙ joined-append (take i blocks) (drop i blocks)) ∙ length-append (joined (take i blocks)) (joined (drop i blocks)) in
    omega (arith, e)
