-- What a turn leaves of a list, by the place of the document's last posting.
use Rattle.std.specs.Prelude.{◌≡◌, ◌≢◌, ◌⊎◌, ℕ, zero, suc, ◌+◌, ◌^◌, ◌<◌, ◌≤◌, ◌==◌, ◌&&◌, nat_le, Bool, true, false, cond, List, [], ◌∷◌, ◌++◌, length, get_or, set, take, drop, All, refl}
use Rattle.std.specs.List.{insert, remove}
use Rattle.std.specs.List.Sorted.{IsPartitionedBy, IsPartitionPoint}
use Rattle.std.proofs.Common.{arith, ap, sym, ◌∙◌, subst, inl, inr, append_assoc}
use Rattle.std.proofs.lemmas.Bool.Decides.{nat_tests}
use Rattle.std.proofs.Math.Seq.{set-append_seam}
use Rattle.std.proofs.lemmas.List.{take-append-drop, drop_more, take_more, length-take-le, length-drop, get_or-take, get_or-drop}
use Rattle.std.proofs.lemmas.List.Elements.{Contains-get_or, All-contains, All-cons, All-head, All-tail}
use Rattle.base_types.specs.declared.posting.Posting.{Posting}
use Rattle.lists_postings.specs.Lists.{ComesBefore, IsList, frequency}
use Rattle.lists_postings.specs.ListsOf.{IsListOf}
use Rattle.lists_postings.proofs.Order.{IsApart, before-trans, next-later, next-tail, next-cons}
use Rattle.lists_postings.proofs.Frequencies.{frequency-here, frequency-skip}
use Rattle.lists_postings.proofs.Clipping.{IsInside}
use Rattle.lists_tails.specs.Turns.{turned_one, IsTurned}
use Rattle.lists_tails.specs.Steps.{IsOpened, IsClosed, IsPlace}
use Rattle.lists_tails.proofs.Turned.{all-front, all-back, later-none, exchange, clear-apart, later-apart, row-swap, split}
use Rattle.lists_tails.proofs.Open.{IsSteady, IsSet, IsLive, live, before, clear, rest, lies, apart-closed, turned-insert}

-- a turn that changes nothing
pub turned-same : (doc at o : ℕ) (list : List Posting) → IsTurned doc at o o list list
turned-same doc at o list g a la s h = record {
  ordered = h.ordered;
  coalesced = h.coalesced;
  inside = h.inside;
  same = λ d t x y. h.same d t x y ∙ go d t (split d doc at t);
}
  where
    go : (d t : ℕ) → ((d == doc && nat_le at t ≡ true) × (d ≡ doc) × (at ≤ t)) ⊎ ((d == doc && nat_le at t ≡ false) × ((d ≢ doc) ⊎ (t < at))) → g d t ≡ turned_one g doc at o d t
    go d t (inl e) = ap (λ w. g w t) e.1 ∙ s t (omega (arith, e.2)) ∙ sym (ap {B = ℕ} (λ c. cond c o (g d t)) e.0)
    go d t (inr e) = sym (ap {B = ℕ} (λ c. cond c o (g d t)) e.0)

-- the closed posting lies in the interval
closed-inside : (g : ℕ → ℕ → ℕ) (a doc at o : ℕ) (front : List Posting) (x : Posting) (back : List Posting) (y : Posting) → IsSet g a doc at o front x back → IsClosed at x y → IsInside a (2 ^ 40) y
closed-inside g a doc at o front x back y s c =
    let i : IsInside a (2 ^ 40) x = All-head (IsInside a (2 ^ 40)) x back (lies g a doc at o front x back s) in
    (omega (arith, i.0, c.from), omega (arith, c.to, s.soon))

rest-inside : (g : ℕ → ℕ → ℕ) (a doc at o : ℕ) (front : List Posting) (x : Posting) (back : List Posting) → IsSet g a doc at o front x back → All (IsInside a (2 ^ 40)) back
rest-inside g a doc at o front x back s = All-tail (IsInside a (2 ^ 40)) x back (lies g a doc at o front x back s)

-- before the turn, and for other documents, a closed posting gives what the open one gave
closed-same : (g : ℕ → ℕ → ℕ) (a doc at o : ℕ) (front : List Posting) (x : Posting) (back : List Posting) (y : Posting) (now : List Posting) → IsSet g a doc at o front x back → IsClosed at x y
    → (d t : ℕ) → (d ≢ doc) ⊎ (t < at) → frequency d t now ≡ frequency d t back → frequency d t (y ∷ now) ≡ frequency d t (x ∷ back)
closed-same g a doc at o front x back y now s c d t away e =
    row-swap d t y x now back c.tf c.doc (λ u v w. (omega (arith, c.from, v), omega (arith, c.to, w, i.to, s.soon))) (λ u v w. back-in u v away) e
  where
    i : IsLive doc at o x
    i = live g a doc at o front x back s

    back-in : x.doc.0 ≡ d → x.span.from ≤ t → (d ≢ doc) ⊎ (t < at) → (y.span.from ≤ t) × (t < y.span.to)
    back-in u v (inl k) = absurd (k (sym u ∙ i.of))
    back-in u v (inr k) = (omega (arith, c.from, v), omega (arith, c.to, k))

opened-same : (doc at n : ℕ) (q : Posting) (back : List Posting) → IsOpened doc at n q → (d t : ℕ) → (d ≢ doc) ⊎ (t < at) → frequency d t (q ∷ back) ≡ frequency d t back
opened-same doc at n q back o d t (inl k) = frequency-skip d t q back (λ u v w. k (sym u ∙ o.of))
opened-same doc at n q back o d t (inr k) = frequency-skip d t q back (λ u v w. omega (arith, k, v, o.from))

-- a posting that begins at the turn gave nothing before it
late-same : (doc at o : ℕ) (x : Posting) (back : List Posting) → IsLive doc at o x → at ≤ x.span.from → (d t : ℕ) → (d ≢ doc) ⊎ (t < at) → frequency d t (x ∷ back) ≡ frequency d t back
late-same doc at o x back i l d t (inl k) = frequency-skip d t x back (λ u v w. k (sym u ∙ i.of))
late-same doc at o x back i l d t (inr k) = frequency-skip d t x back (λ u v w. omega (arith, k, v, l))

close : (g : ℕ → ℕ → ℕ) (a doc at o : ℕ) (front : List Posting) (x : Posting) (back : List Posting) (y : Posting) → IsSet g a doc at o front x back → IsClosed at x y → IsListOf (turned_one g doc at 0) a (2 ^ 40) (front ++ y ∷ back)
close g a doc at o front x back y s c =
    exchange g a (2 ^ 40) doc at o 0 front (x ∷ back) (y ∷ back) s.early s.list (clear g a doc at o front x back s) (λ r m. apart-closed at r x y c (before g a doc at o front x back s r m))
    (next-cons IsApart y back (later-apart doc y back (omega (arith, c.doc, s.here)) s.later) (rest g a doc at o front x back s))
    (All-cons (IsInside a (2 ^ 40)) y back (closed-inside g a doc at o front x back y s c) (rest-inside g a doc at o front x back s))
    (λ d t w. closed-same g a doc at o front x back y back s c d t w refl)
    (λ t m n. frequency-skip doc t y back (λ u v w. omega (arith, w, c.to, m)) ∙ later-none doc t back s.later)

close-open : (g : ℕ → ℕ → ℕ) (a doc at o n : ℕ) (front : List Posting) (x : Posting) (back : List Posting) (y q : Posting) → IsSet g a doc at o front x back → IsClosed at x y → IsOpened doc at n q → o ≢ n → IsListOf (turned_one g doc at n) a (2 ^ 40) (front ++ y ∷ q ∷ back)
close-open g a doc at o n front x back y q s c p differ =
    let i : IsLive doc at o x = live g a doc at o front x back s in
    let e : y.doc.0 ≡ q.doc.0 = c.doc ∙ i.of ∙ sym p.of in
    exchange g a (2 ^ 40) doc at o n front (x ∷ back) (y ∷ q ∷ back) s.early s.list (clear g a doc at o front x back s) (λ r m. apart-closed at r x y c (before g a doc at o front x back s r m))
    ((inr (e, omega (arith, c.to, p.from)), λ k. differ (sym i.tf ∙ sym c.tf ∙ k.tf ∙ p.tf)), next-cons IsApart q back (later-apart doc q back (omega (arith, p.of)) s.later) (rest g a doc at o front x back s))
    (All-cons (IsInside a (2 ^ 40)) y (q ∷ back) (closed-inside g a doc at o front x back y s c) (All-cons (IsInside a (2 ^ 40)) q back (omega (arith, p.from, s.early), omega (arith, p.to)) (rest-inside g a doc at o front x back s)))
    (λ d t w. closed-same g a doc at o front x back y (q ∷ back) s c d t w (opened-same doc at n q back p d t w))
    (λ t m k. frequency-skip doc t y (q ∷ back) (λ u v w. omega (arith, w, c.to, m)) ∙ frequency-here doc t q back p.of (omega (arith, p.from, m)) (omega (arith, p.to, k)) ∙ p.tf)

reopen : (g : ℕ → ℕ → ℕ) (a doc at o n : ℕ) (front : List Posting) (x : Posting) (back : List Posting) (q : Posting) → IsSet g a doc at o front x back → at ≤ x.span.from → IsOpened doc at n q → o ≢ n → IsListOf (turned_one g doc at n) a (2 ^ 40) (front ++ q ∷ back)
reopen g a doc at o n front x back q s l p differ =
    let i : IsLive doc at o x = live g a doc at o front x back s in
    exchange g a (2 ^ 40) doc at o n front (x ∷ back) (q ∷ back) s.early s.list (clear g a doc at o front x back s) (λ r m. clear-apart doc at o n r q (clear g a doc at o front x back s r m) p.of p.from p.tf differ)
    (next-cons IsApart q back (later-apart doc q back (omega (arith, p.of)) s.later) (rest g a doc at o front x back s))
    (All-cons (IsInside a (2 ^ 40)) q back (omega (arith, p.from, s.early), omega (arith, p.to)) (rest-inside g a doc at o front x back s))
    (λ d t w. opened-same doc at n q back p d t w ∙ sym (late-same doc at o x back i l d t w))
    (λ t m k. frequency-here doc t q back p.of (omega (arith, p.from, m)) (omega (arith, p.to, k)) ∙ p.tf)

leave : (g : ℕ → ℕ → ℕ) (a doc at o : ℕ) (front : List Posting) (x : Posting) (back : List Posting) → IsSet g a doc at o front x back → at ≤ x.span.from → IsListOf (turned_one g doc at 0) a (2 ^ 40) (front ++ back)
leave g a doc at o front x back s l =
    let i : IsLive doc at o x = live g a doc at o front x back s in
    exchange g a (2 ^ 40) doc at o 0 front (x ∷ back) back s.early s.list (clear g a doc at o front x back s) (λ r m. later-apart doc r back (s.order r m) s.later)
    (rest g a doc at o front x back s) (rest-inside g a doc at o front x back s)
    (λ d t w. sym (late-same doc at o x back i l d t w))
    (λ t m k. later-none doc t back s.later)

-- the list at the place of a posting
parted : (list : List Posting) (j : ℕ) (x : Posting) → j < length list → x ≡ get_or list j x → take j list ++ x ∷ drop (j + 1) list ≡ list
parted list j x l e = ap (λ w. take j list ++ w ∷ drop (j + 1) list) e ∙ ap (λ w. take j list ++ w) (sym (drop_more list j x l)) ∙ take-append-drop j list

taken : (list : List Posting) (j : ℕ) (x : Posting) → j < length list → x ≡ get_or list j x → take (j + 1) list ≡ take j list ++ x ∷ []
taken list j x l e = take_more list j x l ∙ ap (λ w. take j list ++ w ∷ []) (sym e)

setting : (g : ℕ → ℕ → ℕ) (a doc at o : ℕ) (list : List Posting) (j : ℕ) (x : Posting) → j < length list → x ≡ get_or list j x → IsPlace doc list (j + 1) → a ≤ at → at < 2 ^ 40 → IsSteady g doc at o → 0 < o → IsListOf g a (2 ^ 40) list → IsSet g a doc at o (take j list) x (drop (j + 1) list)
setting g a doc at o list j x l e p la lb s n h =
    let b : All (λ r. r.doc.0 ≤ doc) (take j list ++ x ∷ []) = subst (λ w. All (λ r. r.doc.0 ≤ doc) w) (taken list j x l e) p.before in
    record {
      list = subst (λ w. IsListOf g a (2 ^ 40) w) (sym (parted list j x l e)) h;
      early = la;
      soon = lb;
      steady = s;
      some = n;
      order = λ r c. All-contains (λ r. r.doc.0 ≤ doc) (take j list) r (all-front (λ r. r.doc.0 ≤ doc) (take j list) (x ∷ []) b) c;
      here = All-head (λ r. r.doc.0 ≤ doc) x [] (all-back (λ r. r.doc.0 ≤ doc) (take j list) (x ∷ []) b);
      later = λ r c. All-contains (λ r. doc < r.doc.0) (drop (j + 1) list) r p.after c;
    }

seam : (front : List Posting) (x y : Posting) (back : List Posting) (j : ℕ) → length front ≡ j → set (front ++ x ∷ back) j y ≡ front ++ y ∷ back
seam front x y back j e = ap (λ i. set (front ++ x ∷ back) i y) (sym e) ∙ set-append_seam front x back y

set-is : (list : List Posting) (j : ℕ) (x y : Posting) → j < length list → x ≡ get_or list j x → set list j y ≡ take j list ++ y ∷ drop (j + 1) list
set-is list j x y l e = ap (λ w. set w j y) (sym (parted list j x l e)) ∙ seam (take j list) x y (drop (j + 1) list) j (length-take-le j list (omega (arith, l)))

set-insert-is : (list : List Posting) (j : ℕ) (x y q : Posting) → j < length list → x ≡ get_or list j x → set (insert list (j + 1) q) j y ≡ take j list ++ y ∷ q ∷ drop (j + 1) list
set-insert-is list j x y q l e =
    let i : insert list (j + 1) q ≡ take j list ++ x ∷ q ∷ drop (j + 1) list = ap (λ w. w ++ q ∷ drop (j + 1) list) (taken list j x l e) ∙ append_assoc (take j list) (x ∷ []) (q ∷ drop (j + 1) list) in
    ap (λ w. set w j y) i ∙ seam (take j list) x y (q ∷ drop (j + 1) list) j (length-take-le j list (omega (arith, l)))

-- the turns, by what is written: k is the place behind the document's last posting, x, which stands at j
pub turned-close : (doc at o : ℕ) (list now : List Posting) (j k : ℕ) (x y : Posting) → k ≡ j + 1 → j < length list → x ≡ get_or list j x → (IsList list → IsPlace doc list k) → at < 2 ^ 40 → 0 < o → IsClosed at x y → now ≡ set list j y → IsTurned doc at o 0 list now
turned-close doc at o list now j k x y v l e p lb n c w g a la s h =
    rw (w, set-is list j x y l e) (close g a doc at o (take j list) x (drop (j + 1) list) y (setting g a doc at o list j x l e (subst (λ z. IsPlace doc list z) v (p h.ordered)) la lb s n h) c)

pub turned-both : (doc at o n : ℕ) (list now : List Posting) (j k : ℕ) (x y q : Posting) → k ≡ j + 1 → j < length list → x ≡ get_or list j x → (IsList list → IsPlace doc list k) → at < 2 ^ 40 → 0 < o → o ≢ n → IsClosed at x y → IsOpened doc at n q → now ≡ set (insert list k q) j y → IsTurned doc at o n list now
turned-both doc at o n list now j k x y q v l e p lb m differ c i w g a la s h =
    rw (w, ap (λ z. set (insert list z q) j y) v ∙ set-insert-is list j x y q l e) (close-open g a doc at o n (take j list) x (drop (j + 1) list) y q (setting g a doc at o list j x l e (subst (λ z. IsPlace doc list z) v (p h.ordered)) la lb s m h) c i differ)

pub turned-again : (doc at o n : ℕ) (list now : List Posting) (j k : ℕ) (x q : Posting) → k ≡ j + 1 → j < length list → x ≡ get_or list j x → (IsList list → IsPlace doc list k) → at < 2 ^ 40 → 0 < o → o ≢ n → at ≤ x.span.from → IsOpened doc at n q → now ≡ set list j q → IsTurned doc at o n list now
turned-again doc at o n list now j k x q v l e p lb m differ f i w g a la s h =
    rw (w, set-is list j x q l e) (reopen g a doc at o n (take j list) x (drop (j + 1) list) q (setting g a doc at o list j x l e (subst (λ z. IsPlace doc list z) v (p h.ordered)) la lb s m h) f i differ)

pub turned-leave : (doc at o : ℕ) (list now : List Posting) (j k : ℕ) (x : Posting) → k ≡ j + 1 → j < length list → x ≡ get_or list j x → (IsList list → IsPlace doc list k) → at < 2 ^ 40 → 0 < o → at ≤ x.span.from → now ≡ remove list j → IsTurned doc at o 0 list now
turned-leave doc at o list now j k x v l e p lb m f w g a la s h =
    let z : suc j ≡ j + 1 = omega arith in
    let i : remove list j ≡ take j list ++ drop (j + 1) list = ap (λ z. take j list ++ drop z list) z in
    rw (w, i) (leave g a doc at o (take j list) x (drop (j + 1) list) (setting g a doc at o list j x l e (subst (λ z. IsPlace doc list z) v (p h.ordered)) la lb s m h) f)

pub turned-begin : (doc at n : ℕ) (list now : List Posting) (k : ℕ) (q : Posting) → (IsList list → IsPlace doc list k) → at < 2 ^ 40 → IsOpened doc at n q → now ≡ insert list k q → IsTurned doc at 0 n list now
turned-begin doc at n list now k q place lb i e g a la s h =
    let p : IsPlace doc list k = place h.ordered in
    rw e (turned-insert g a doc at n (take k list) (drop k list) q la lb s (subst (λ w. IsListOf g a (2 ^ 40) w) (sym (take-append-drop k list)) h)
    (λ r c. All-contains (λ r. r.doc.0 ≤ doc) (take k list) r p.before c) (λ r c. All-contains (λ r. doc < r.doc.0) (drop k list) r p.after c) i)

-- without a posting of a document up to this one, this one has none
pub turned-never : (doc at o n : ℕ) (list : List Posting) (k : ℕ) → k ≡ 0 → (IsList list → IsPlace doc list k) → at < 2 ^ 40 → 0 < o → IsTurned doc at o n list list
turned-never doc at o n list k e place lb m g a la s h =
    let p : IsPlace doc list 0 = subst (λ z. IsPlace doc list z) e (place h.ordered) in
    absurd (omega (arith, m, h.same doc at la lb ∙ s at (omega arith), later-none doc at list (λ r c. All-contains (λ r. doc < r.doc.0) list r p.after c)))

-- documents don't fall along a list
docs-rise : (list : List Posting) → IsList list → (i j : ℕ) (d : Posting) → i ≤ j → j < length list → (get_or list i d).doc.0 ≤ (get_or list j d).doc.0
docs-rise [] l i j d h m = absurd (omega (arith, m))
docs-rise (p ∷ list) l zero zero d h m = omega arith
docs-rise (p ∷ list) l zero (suc j) d h m = go (next-later ComesBefore before-trans p (get_or list j d) list l (Contains-get_or list j d (omega (arith, m))))
  where
    go : ComesBefore p (get_or list j d) → p.doc.0 ≤ (get_or list j d).doc.0
    go (inl k) = omega (arith, k)
    go (inr k) = omega (arith, k.0)
docs-rise (p ∷ list) l (suc i) zero d h m = absurd (omega (arith, h))
docs-rise (p ∷ list) l (suc i) (suc j) d h m = docs-rise list (next-tail ComesBefore p list l) i j d (omega (arith, h)) (omega (arith, m))

-- the place that a search by document gives
abbrev pub is_up_to : ℕ → Posting → Bool
is_up_to doc p = nat_le p.doc.0 doc

pub partitioned : (doc : ℕ) (list : List Posting) → IsList list → IsPartitionedBy (is_up_to doc) list
partitioned doc list l i j d h m e = leb-from doc (get_or list i d) (get_or list j d) (docs-rise list l i j d h m) e
  where
    leb-from : (doc : ℕ) (p q : Posting) → p.doc.0 ≤ q.doc.0 → nat_le q.doc.0 doc ≡ true → nat_le p.doc.0 doc ≡ true
    leb-from doc p q h e = grind (arith, nat_tests)

up-to : (doc : ℕ) (p : Posting) → nat_le p.doc.0 doc ≡ true → p.doc.0 ≤ doc
up-to doc p e = grind (arith, nat_tests)

past : (doc : ℕ) (p : Posting) → nat_le p.doc.0 doc ≡ false → doc < p.doc.0
past doc p e = grind (arith, nat_tests)

pub placed : (doc : ℕ) (list : List Posting) (k : ℕ) → k ≤ length list → IsPartitionPoint (λ p. is_up_to doc p ≡ true) (λ p. is_up_to doc p ≡ false) list k → IsPlace doc list k
placed doc list k l h = record {
  inside = l;
  before = λ i d m.
      let n : i < k = omega (arith, m, length-take-le k list l) in
      rw (get_or-take k list i d n) (up-to doc (get_or list i d) (h.0 i d (omega arith) n));
  after = λ i d m.
      rw (get_or-drop k list i d) (past doc (get_or list (k + i) d) (h.1 (k + i) d (omega arith) (omega (arith, m, length-drop k list))));
}
