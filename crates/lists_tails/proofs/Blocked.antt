-- Lists in blocks: where a document's block is found, and what stands in front of it and behind.
use Rattle.std.specs.Prelude.{◌≡◌, ◌≢◌, ◌⊎◌, ℕ, zero, suc, ◌+◌, ◌-◌, ◌<◌, ◌≤◌, Bool, true, false, List, [], ◌∷◌, ◌++◌, length, get_or, set, take, drop, All, Contains, Vec, refl}
use Rattle.std.specs.List.{insert}
use Rattle.std.specs.List.Sorted.{IsPartitionedBy, IsPartitionPoint}
use Rattle.std.specs.declared.alloc.Global.{Global}
use Rattle.std.proofs.Common.{arith, ap, sym, ◌∙◌, subst, inl, inr, append_assoc}
use Rattle.std.proofs.lemmas.Bool.{cases_lt, cases_eq}
use Rattle.std.proofs.lemmas.Bool.Decides.{nat_tests}
use Rattle.std.proofs.lemmas.List.{take-append-drop, drop_more, take_more_set, drop-set-lt, length-take-le, length-drop, get_or-take, get_or-drop, length-append, length-set, get_or_append_left, get_or-append_right, get_or_read, get_or-set_same, get_or-set_other}
use Rattle.std.proofs.lemmas.List.Elements.{Contains-get_or, Contains-append_left, Contains-append_right, All-append, All-cons}
use Rattle.base_types.specs.declared.posting.Posting.{Posting}
use Rattle.lists_postings.specs.Lists.{ComesBefore, IsList}
use Rattle.lists_postings.proofs.Order.{before-trans, next-later}
use Rattle.lists_tails.specs.Blocks.{joined, AreFilled, starts_up_to, IsBlockOf, IsDivided}
use Rattle.lists_tails.proofs.Turned.{next-back}

abbrev pub Block : Type 0
Block = Vec Posting Global

pub joined-append : (a b : List Block) → joined (a ++ b) ≡ joined a ++ joined b
joined-append [] b = refl
joined-append (x ∷ a) b = ap (λ w. x.items ++ w) (joined-append a b) ∙ sym (append_assoc x.items (joined a) (joined b))

-- the list at the place of an element
pub parted : {X : Type 0} (list : List X) (j : ℕ) (x : X) → j < length list → x ≡ get_or list j x → take j list ++ x ∷ drop (j + 1) list ≡ list
parted list j x l e = ap (λ w. take j list ++ w ∷ drop (j + 1) list) e ∙ ap (λ w. take j list ++ w) (sym (drop_more list j x l)) ∙ take-append-drop j list

pub set-parted : {X : Type 0} (list : List X) (j : ℕ) (y : X) → j < length list → set list j y ≡ take j list ++ y ∷ drop (j + 1) list
set-parted list j y l =
    sym (take-append-drop (j + 1) (set list j y))
    ∙ ap (λ w. w ++ drop (j + 1) (set list j y)) (take_more_set list j y l)
    ∙ ap (λ w. (take j list ++ y ∷ []) ++ w) (drop-set-lt (j + 1) list j y (omega arith))
    ∙ append_assoc (take j list) (y ∷ []) (drop (j + 1) list)

pub insert-behind : {X : Type 0} (list : List X) (j : ℕ) (x y : X) → j < length list → insert (set list j x) (j + 1) y ≡ take j list ++ x ∷ y ∷ drop (j + 1) list
insert-behind list j x y l =
    ap (λ w. w ++ y ∷ drop (j + 1) (set list j x)) (take_more_set list j x l)
    ∙ ap (λ w. (take j list ++ x ∷ []) ++ y ∷ w) (drop-set-lt (j + 1) list j x (omega arith))
    ∙ append_assoc (take j list) (x ∷ []) (y ∷ drop (j + 1) list)

pub joined-at : (blocks : List Block) (k : ℕ) (x : Block) → k < length blocks → x ≡ get_or blocks k x → joined blocks ≡ joined (take k blocks) ++ (x.items ++ joined (drop (k + 1) blocks))
joined-at blocks k x l e = ap joined (sym (parted blocks k x l e)) ∙ joined-append (take k blocks) (x ∷ drop (k + 1) blocks)

pub joined-set : (blocks : List Block) (k : ℕ) (x : Block) → k < length blocks → joined (set blocks k x) ≡ joined (take k blocks) ++ (x.items ++ joined (drop (k + 1) blocks))
joined-set blocks k x l = ap joined (set-parted blocks k x l) ∙ joined-append (take k blocks) (x ∷ drop (k + 1) blocks)

-- two parts of a list stand in order
pub across : (xs ys : List Posting) (p q : Posting) → IsList (xs ++ ys) → Contains xs p → Contains ys q → p.doc.0 ≤ q.doc.0
across [] ys p q l c d = absurd (omega (arith, c.1))
across (x ∷ xs) ys p q l (zero, m, e) d = go (subst (λ w. ComesBefore w q) e (next-later ComesBefore before-trans x q (xs ++ ys) l (Contains-append_right xs ys q d)))
  where
    go : ComesBefore p q → p.doc.0 ≤ q.doc.0
    go (inl k) = omega (arith, k)
    go (inr k) = omega (arith, k.0)
across (x ∷ xs) ys p q l (suc k, m, e) d = across xs ys p q (next-back ComesBefore (x ∷ []) (xs ++ ys) l) (k, omega (arith, m), e) d

joined-has : (blocks : List Block) (b : Block) (p : Posting) → Contains blocks b → Contains b.items p → Contains (joined blocks) p
joined-has [] b p c m = absurd (omega (arith, c.1))
joined-has (x ∷ blocks) b p (zero, l, e) m = Contains-append_left x.items (joined blocks) p (subst (λ w. Contains w.items p) (sym e) m)
joined-has (x ∷ blocks) b p (suc k, l, e) m = Contains-append_right x.items (joined blocks) p (joined-has blocks b p (k, omega (arith, l), e) m)

front-has : (blocks : List Block) (i j : ℕ) (d : Block) → i < j → j ≤ length blocks → Contains (take j blocks) (get_or blocks i d)
front-has blocks i j d k m = subst (λ w. Contains (take j blocks) w) (get_or-take j blocks i d k) (Contains-get_or (take j blocks) i d (omega (arith, length-take-le j blocks m, k)))

back-has : (blocks : List Block) (j : ℕ) (d : Block) → j < length blocks → Contains (drop j blocks) (get_or blocks j d)
back-has blocks j d m = subst (λ w. Contains (drop j blocks) w) (drop-head (drop j blocks) blocks d refl) (Contains-get_or (drop j blocks) 0 d (omega (arith, length-drop j blocks, m)))
  where
    drop-head : (z was : List Block) (d : Block) → z ≡ drop j blocks → get_or (drop j blocks) 0 d ≡ get_or blocks j d
    drop-head z was d e = get_or-drop j blocks 0 d ∙ ap (λ n. get_or blocks n d) (let n : j + 0 ≡ j = omega arith in n)

-- of two lists in order the one in front begins no later
starts-before : (doc : ℕ) (front back x y : List Posting) → 0 < length x → 0 < length y → ((p : Posting) → Contains x p → Contains front p) → ((p : Posting) → Contains y p → Contains back p) → IsList (front ++ back)
    → starts_up_to doc y ≡ true → starts_up_to doc x ≡ true
starts-before doc front back [] y a b f g l e = absurd (omega (arith, a))
starts-before doc front back (p ∷ x) [] a b f g l e = absurd (omega (arith, b))
starts-before doc front back (p ∷ x) (q ∷ y) a b f g l e =
    let m : p.doc.0 ≤ q.doc.0 = across front back p q l (f p (zero, omega arith, refl)) (g q (zero, omega arith, refl)) in
    grind (arith, nat_tests)

split-list : (blocks : List Block) (j : ℕ) → IsList (joined blocks) → IsList (joined (take j blocks) ++ joined (drop j blocks))
split-list blocks j l = subst IsList (ap joined (sym (take-append-drop j blocks)) ∙ joined-append (take j blocks) (drop j blocks)) l

-- the blocks begin in order
pub blocks-rise : (doc : ℕ) (blocks : List Block) → AreFilled blocks → IsList (joined blocks) → IsPartitionedBy (λ b. starts_up_to doc b.items) blocks
blocks-rise doc blocks f l i j d h m e = elim (cases_lt i j) [
  | inl k ↦ starts-before doc (joined (take j blocks)) (joined (drop j blocks)) (get_or blocks i d).items (get_or blocks j d).items (f i d (omega (arith, k, m))) (f j d m)
      (λ p c. joined-has (take j blocks) (get_or blocks i d) p (front-has blocks i j d k (omega (arith, m))) c)
      (λ p c. joined-has (drop j blocks) (get_or blocks j d) p (back-has blocks j d m) c)
      (split-list blocks j l) e
  | inr k ↦ let same : i ≡ j = omega (arith, h, k) in subst (λ z. starts_up_to doc (get_or blocks z d).items ≡ true) (sym same) e
]

pub block-found : (doc : ℕ) (blocks : List Block) (k : ℕ) → k ≤ length blocks → IsPartitionPoint (λ b. starts_up_to doc b.items ≡ true) (λ b. starts_up_to doc b.items ≡ false) blocks k → IsBlockOf doc blocks k
block-found doc blocks k l h = record {
  inside = l;
  before = λ i d m. h.0 i d (omega arith) m;
  after = λ i d m n. h.1 i d m n;
}

-- a block that is replaced by one with the same postings
pub joined-same : (blocks : List Block) (k : ℕ) (x y : Block) → k < length blocks → x ≡ get_or blocks k x → y.items ≡ x.items → joined (set blocks k y) ≡ joined blocks
joined-same blocks k x y l e s = joined-set blocks k y l ∙ ap (λ w. joined (take k blocks) ++ (w ++ joined (drop (k + 1) blocks))) s ∙ sym (joined-at blocks k x l e)

same-items : (blocks : List Block) (k : ℕ) (x y : Block) → k < length blocks → x ≡ get_or blocks k x → y.items ≡ x.items → (i : ℕ) (d : Block) → (get_or (set blocks k y) i d).items ≡ (get_or blocks i d).items
same-items blocks k x y l e s i d = elim (cases_eq i k) [
  | inl f ↦ ap (λ z. (get_or (set blocks k y) z d).items) f ∙ ap (λ (w : Block). w.items) (get_or-set_same blocks k y d l) ∙ s ∙ ap (λ (w : Block). w.items) (get_or_read blocks k x l e d) ∙ ap (λ z. (get_or blocks z d).items) (sym f)
  | inr n ↦ ap (λ (w : Block). w.items) (get_or-set_other blocks k i y d n)
]

pub placed-same : (doc : ℕ) (blocks : List Block) (k m : ℕ) (x y : Block) → k < length blocks → x ≡ get_or blocks k x → y.items ≡ x.items → IsBlockOf doc blocks m → IsBlockOf doc (set blocks k y) m
placed-same doc blocks k m x y l e s p = record {
  inside = omega (arith, length-set blocks k y, p.inside);
  before = λ i d n. ap (starts_up_to doc) (same-items blocks k x y l e s i d) ∙ p.before i d n;
  after = λ i d n o. ap (starts_up_to doc) (same-items blocks k x y l e s i d) ∙ p.after i d n (omega (arith, length-set blocks k y, o));
}

-- a block that is divided
pub joined-divided : (was now : List Block) (k : ℕ) (x : Block) → k < length was → x ≡ get_or was k x → IsDivided was now k → joined now ≡ joined was
joined-divided was now k x l e v =
    ap joined v.parts ∙ joined-append (take k was) (v.one ∷ v.two ∷ drop (k + 1) was)
    ∙ ap (λ w. joined (take k was) ++ w) (sym (append_assoc v.one.items v.two.items (joined (drop (k + 1) was))))
    ∙ ap (λ w. joined (take k was) ++ (w ++ joined (drop (k + 1) was))) (v.same x ∙ ap (λ (w : Block). w.items) (sym e))
    ∙ sym (joined-at was k x l e)

all-take : (P : Block → Type 0) (blocks : List Block) (k : ℕ) → k ≤ length blocks → All P blocks → All P (take k blocks)
all-take P blocks k l a i d m =
    let n : i < k = omega (arith, m, length-take-le k blocks l) in
    subst P (sym (get_or-take k blocks i d n)) (a i d (omega (arith, n, l)))

all-drop : (P : Block → Type 0) (blocks : List Block) (k : ℕ) → All P blocks → All P (drop k blocks)
all-drop P blocks k a i d m = subst P (sym (get_or-drop k blocks i d)) (a (k + i) d (omega (arith, m, length-drop k blocks)))

pub filled-divided : (was now : List Block) (k : ℕ) → k < length was → IsDivided was now k → AreFilled was → AreFilled now
filled-divided was now k l v f =
    let P : Block → Type 0 = λ b. 0 < length b.items in
    subst AreFilled (sym v.parts) (All-append P (take k was) (v.one ∷ v.two ∷ drop (k + 1) was) (all-take P was k (omega (arith, l)) f)
    (All-cons P v.one (v.two ∷ drop (k + 1) was) v.one_roomy.filled (All-cons P v.two (drop (k + 1) was) v.two_roomy.filled (all-drop P was (k + 1) f))))

starts-front : (doc : ℕ) (a b : List Posting) → 0 < length a → starts_up_to doc a ≡ starts_up_to doc (a ++ b)
starts-front doc [] b l = absurd (omega (arith, l))
starts-front doc (p ∷ a) b l = refl

get-third : (x y : Block) (zs : List Block) (i j : ℕ) (d : Block) → i ≡ j + 2 → get_or (x ∷ y ∷ zs) i d ≡ get_or zs j d
get-third x y zs i j d e = ap (λ n. get_or (x ∷ y ∷ zs) n d) (let f : i ≡ suc (suc j) = omega (arith, e) in f)

pub placed-divided : (doc : ℕ) (was now : List Block) (k m : ℕ) (s : Bool) → k < length was → (v : IsDivided was now k) → starts_up_to doc v.two.items ≡ s → ((s ≡ true) × (m ≡ k + 2)) ⊎ ((s ≡ false) × (m ≡ k + 1)) → IsBlockOf doc was (k + 1) → IsBlockOf doc now m
placed-divided doc was now k m s l v b c p = record {
  inside = omega (arith, long, c, l);
  before = λ i d n. early i d n;
  after = λ i d n o. late i d n o;
}
  where
    n : length (take k was) ≡ k
    n = length-take-le k was (omega (arith, l))

    ends : List Block
    ends = v.one ∷ v.two ∷ drop (k + 1) was

    long : length now ≡ length was + 1
    long = ap length v.parts ∙ length-append (take k was) ends ∙ (let e : length (take k was) + length ends ≡ length was + 1 = omega (arith, n, length-drop (k + 1) was, l) in e)

    first-starts : starts_up_to doc v.one.items ≡ true
    first-starts = starts-front doc v.one.items v.two.items v.one_roomy.filled ∙ ap (starts_up_to doc) (v.same v.one) ∙ p.before k v.one (omega arith)

    in-front : (i : ℕ) (d : Block) → i < k → get_or now i d ≡ get_or was i d
    in-front i d h = ap (λ w. get_or w i d) v.parts ∙ get_or_append_left (take k was) ends d i (omega (arith, n, h)) ∙ get_or-take k was i d h

    from : (i : ℕ) (d : Block) → k ≤ i → get_or now i d ≡ get_or ends (i - k) d
    from i d h = ap (λ w. get_or w i d) v.parts ∙ get_or-append_right (take k was) ends k i d n h

    behind : (i : ℕ) (d : Block) → k + 2 ≤ i → get_or now i d ≡ get_or was (i - 1) d
    behind i d h =
        from i d (omega (arith, h)) ∙ get-third v.one v.two (drop (k + 1) was) (i - k) (i - (k + 2)) d (omega (arith, h)) ∙ get_or-drop (k + 1) was (i - (k + 2)) d
        ∙ ap (λ z. get_or was z d) (let e : k + 1 + (i - (k + 2)) ≡ i - 1 = omega (arith, h) in e)

    here : (i : ℕ) (d : Block) → i ≡ k → get_or now i d ≡ v.one
    here i d h = from i d (omega (arith, h)) ∙ ap (λ z. get_or ends z d) (let e : i - k ≡ 0 = omega (arith, h) in e)

    next : (i : ℕ) (d : Block) → i ≡ k + 1 → get_or now i d ≡ v.two
    next i d h = from i d (omega (arith, h)) ∙ ap (λ z. get_or ends z d) (let e : i - k ≡ 1 = omega (arith, h) in e)

    early : (i : ℕ) (d : Block) → i < m → starts_up_to doc (get_or now i d).items ≡ true
    early i d h = elim (cases_lt i k) [
      | inl a ↦ ap (λ (w : Block). starts_up_to doc w.items) (in-front i d a) ∙ p.before i d (omega (arith, a))
      | inr a ↦ elim (cases_eq i k) [
        | inl e ↦ ap (λ (w : Block). starts_up_to doc w.items) (here i d e) ∙ first-starts
        | inr e ↦ second i d h a e c
      ]
    ]
      where
        second : (i : ℕ) (d : Block) → i < m → k ≤ i → i ≢ k → ((s ≡ true) × (m ≡ k + 2)) ⊎ ((s ≡ false) × (m ≡ k + 1)) → starts_up_to doc (get_or now i d).items ≡ true
        second i d h a e (inl (f, g)) = ap (λ (w : Block). starts_up_to doc w.items) (next i d (omega (arith, h, a, e, g))) ∙ b ∙ f
        second i d h a e (inr (f, g)) = absurd (omega (arith, h, a, e, g))

    late : (i : ℕ) (d : Block) → m ≤ i → i < length now → starts_up_to doc (get_or now i d).items ≡ false
    late i d h o = elim (cases_lt i (k + 2)) [
      | inl a ↦ second i d h a c
      | inr a ↦ ap (λ (w : Block). starts_up_to doc w.items) (behind i d a) ∙ p.after (i - 1) d (omega (arith, a)) (omega (arith, o, long, a))
    ]
      where
        second : (i : ℕ) (d : Block) → m ≤ i → i < k + 2 → ((s ≡ true) × (m ≡ k + 2)) ⊎ ((s ≡ false) × (m ≡ k + 1)) → starts_up_to doc (get_or now i d).items ≡ false
        second i d h a (inl (f, g)) = absurd (omega (arith, h, a, g))
        second i d h a (inr (f, g)) = ap (λ (w : Block). starts_up_to doc w.items) (next i d (omega (arith, h, a, g))) ∙ b ∙ f

pub divided-two : (was now : List Block) (k : ℕ) (y : Block) → k < length was → (v : IsDivided was now k) → y ≡ get_or now (k + 1) y → v.two ≡ y
divided-two was now k y l v e =
    let n : length (take k was) ≡ k = length-take-le k was (omega (arith, l)) in
    sym (e ∙ ap (λ w. get_or w (k + 1) y) v.parts ∙ get_or-append_right (take k was) (v.one ∷ v.two ∷ drop (k + 1) was) k (k + 1) y n (omega arith) ∙ ap (λ z. get_or (v.one ∷ v.two ∷ drop (k + 1) was) z y) (let f : k + 1 - k ≡ 1 = omega arith in f))
