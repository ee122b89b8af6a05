-- The blocks that are opened word by word.
use Rattle.std.specs.Prelude.{◌≡◌, ◌≢◌, ℕ, zero, suc, ◌+◌, ◌-◌, ◌<◌, ◌≤◌, max, min, List, [], ◌∷◌, ◌++◌, length, take, get_or, Contains, refl}
use Rattle.std.specs.List.{AllZip}
use Rattle.std.proofs.Common.{arith, ap, sym, ◌∙◌, subst, inl, inr, append_assoc, length-take}
use Rattle.std.proofs.Math.ListN.{set}
use Rattle.std.proofs.lemmas.Bool.{cases_lt}
use Rattle.std.proofs.lemmas.List.Elements.{Contains-append_left, Contains-append_right}
use Rattle.query_top.specs.Firsts.{Each}
use Rattle.query_top.specs.Lanes.{opened_at, IsOpened, IsPassed}
use Rattle.query_top.specs.Opening.{Call, Opened, Opens, OpensToFault, run_of, AreDistinct}
use Rattle.query_top.specs.Steps.{runs}
use Rattle.query_top.specs.declared.lane.Lane.{Lane}
use Rattle.query_top.proofs.EachLemmas.{each-append, take-at}

-- ---- calls

pub opens-join : {S E : Type 0} (call : Call S E) (x y z : S) (a b : List Opened) → Opens call x a y → Opens call y b z → Opens call x (a ++ b) z
opens-join call x y z [] b h k = subst (λ s. Opens call s b z) h k
opens-join call x y z (o ∷ a) b h k = (h.0, h.1, h.2, opens-join call h.1 y z a b h.3 k)

pub fault-join : {S E : Type 0} (call : Call S E) (x y z : S) (e : E) (a : List Opened) → Opens call x a y → OpensToFault call y e z → OpensToFault call x e z
fault-join call x y z e a h k = record {
  done = a ++ k.done;
  mid = k.mid;
  opens = opens-join call x y k.mid a k.done h k.opens;
  word = k.word;
  block = k.block;
  last = k.last;
}

-- ---- runs

pub append-empty : (a : List Opened) → a ++ [] ≡ a
append-empty [] = refl
append-empty (o ∷ a) = ap (λ os. o ∷ os) (append-empty a)

pub runs-push : (base : ℕ) (a : List Lane) (l : Lane) → runs base (a ++ l ∷ []) ≡ runs base a ++ run_of (base + length a) (max l.opened l.cover) (l.after - max l.opened l.cover)
runs-push base [] l =
    let e : base ≡ base + 0 = omega arith in
    append-empty (run_of base (max l.opened l.cover) (l.after - max l.opened l.cover)) ∙ ap (λ w. run_of w (max l.opened l.cover) (l.after - max l.opened l.cover)) e
runs-push base (k ∷ a) l =
    let e : (base + 1) + length a ≡ base + length (k ∷ a) = omega arith in
    ap (λ os. run_of base (max k.opened k.cover) (k.after - max k.opened k.cover) ++ os) (runs-push (base + 1) a l ∙ ap (λ w. runs (base + 1) a ++ run_of w (max l.opened l.cover) (l.after - max l.opened l.cover)) e)
    ∙ sym (append_assoc (run_of base (max k.opened k.cover) (k.after - max k.opened k.cover)) (runs (base + 1) a) (run_of (base + length (k ∷ a)) (max l.opened l.cover) (l.after - max l.opened l.cover)))

-- one lane more
pub runs-more : (i word : ℕ) (was : List Lane) (x k : Lane) → i < length was → word ≡ i → k ≡ get_or was i x → runs 0 (take (i + 1) was) ≡ runs 0 (take i was) ++ run_of word (max k.opened k.cover) (k.after - max k.opened k.cover)
runs-more i word was x k l e is =
    let n : length (take i was) ≡ min i (length was) = length-take i was in
    let at : 0 + length (take i was) ≡ word = omega (arith, n, l, e) in
    let t : take (i + 1) was ≡ take i was ++ k ∷ [] = take-at i was x l ∙ ap (λ y. take i was ++ y ∷ []) (sym is) in
    ap (runs 0) t ∙ runs-push 0 (take i was) k ∙ ap (λ w. runs 0 (take i was) ++ run_of w (max k.opened k.cover) (k.after - max k.opened k.cover)) at

pub run-each : (P : Opened → Type 0) (word from n : ℕ) → ((i : ℕ) → from ≤ i → i < from + n → P (record { word = word; block = i })) → Each P (run_of word from n)
run-each P word from zero f = tt
run-each P word from (suc n) f = (f from (omega arith) (omega arith), run-each P word (from + 1) n (λ i a b. f i (omega (arith, a)) (omega (arith, b))))

pub runs-each : (P : Opened → Type 0) (base : ℕ) (lanes : List Lane)
    → ((j i : ℕ) (l : Lane) → j < length lanes → l ≡ get_or lanes j l → max l.opened l.cover ≤ i → i < l.after → P (record { word = base + j; block = i })) → Each P (runs base lanes)
runs-each P base [] f = tt
runs-each P base (l ∷ lanes) f =
    let z : base + 0 ≡ base = omega arith in
    each-append P (run_of base (max l.opened l.cover) (l.after - max l.opened l.cover)) (runs (base + 1) lanes)
    (run-each P base (max l.opened l.cover) (l.after - max l.opened l.cover) (λ i a b. subst (λ w. P (record { word = w; block = i })) z (f 0 i l (omega arith) refl a (omega (arith, a, b)))))
    (runs-each P (base + 1) lanes (λ j i k c e a b. let y : base + suc j ≡ (base + 1) + j = omega arith in subst (λ w. P (record { word = w; block = i })) y (f (suc j) i k (omega (arith, c)) e a b)))

pub run-has : (word from n i : ℕ) → from ≤ i → i < from + n → Contains (run_of word from n) (record { word = word; block = i })
run-has word from zero i a b = absurd (omega (arith, a, b))
run-has word from (suc n) i a b = elim (cases_lt from i) [
  | inl l ↦ Contains-append_right (record { word = word; block = from } ∷ []) (run_of word (from + 1) n) (record { word = word; block = i }) (run-has word (from + 1) n i (omega (arith, l)) (omega (arith, b)))
  | inr l ↦ let e : from ≡ i = omega (arith, a, l) in (0, omega arith, ap (λ k. record { word = word; block = k }) e)
]

pub runs-has : (base : ℕ) (lanes : List Lane) (j i : ℕ) (l : Lane) → j < length lanes → l ≡ get_or lanes j l → max l.opened l.cover ≤ i → i < l.after → Contains (runs base lanes) (record { word = base + j; block = i })
runs-has base [] j i l c e a b = absurd (omega (arith, c))
runs-has base (k ∷ lanes) zero i l c e a b =
    let m : max k.opened k.cover ≤ i = subst (λ (x : Lane). max x.opened x.cover ≤ i) e a in
    let n : i < k.after = subst (λ (x : Lane). i < x.after) e b in
    let z : base ≡ base + 0 = omega arith in
    subst (λ w. Contains (runs base (k ∷ lanes)) (record { word = w; block = i })) z
    (Contains-append_left (run_of base (max k.opened k.cover) (k.after - max k.opened k.cover)) (runs (base + 1) lanes) (record { word = base; block = i })
    (run-has base (max k.opened k.cover) (k.after - max k.opened k.cover) i m (omega (arith, m, n))))
runs-has base (k ∷ lanes) (suc j) i l c e a b =
    let y : (base + 1) + j ≡ base + suc j = omega arith in
    subst (λ w. Contains (runs base (k ∷ lanes)) (record { word = w; block = i })) y
    (Contains-append_right (run_of base (max k.opened k.cover) (k.after - max k.opened k.cover)) (runs (base + 1) lanes) (record { word = (base + 1) + j; block = i })
    (runs-has (base + 1) lanes j i l (omega (arith, c)) e a b))

-- ---- none twice

pub distinct-append : (a b : List Opened) → AreDistinct a → AreDistinct b → Each (λ o. Each (λ q. o ≢ q) b) a → AreDistinct (a ++ b)
distinct-append [] b x y z = y
distinct-append (o ∷ a) b x y z = (each-append (λ q. o ≢ q) a b x.0 z.0, distinct-append a b x.1 y z.1)

pub run-distinct : (word from n : ℕ) → AreDistinct (run_of word from n)
run-distinct word from zero = tt
run-distinct word from (suc n) = (
  run-each (λ q. record { word = word; block = from } ≢ q) word (from + 1) n (λ i a b. λ e. let k : from ≡ i = ap (λ (o : Opened). o.block) e in omega (arith, k, a)),
  run-distinct word (from + 1) n,
)

pub runs-distinct : (base : ℕ) (lanes : List Lane) → AreDistinct (runs base lanes)
runs-distinct base [] = tt
runs-distinct base (l ∷ lanes) =
    distinct-append (run_of base (max l.opened l.cover) (l.after - max l.opened l.cover)) (runs (base + 1) lanes)
    (run-distinct base (max l.opened l.cover) (l.after - max l.opened l.cover)) (runs-distinct (base + 1) lanes)
    (run-each (λ o. Each (λ q. o ≢ q) (runs (base + 1) lanes)) base (max l.opened l.cover) (l.after - max l.opened l.cover)
    (λ i a b. runs-each (λ q. record { word = base; block = i } ≢ q) (base + 1) lanes (λ j k m c e f g. λ z. let w : base ≡ (base + 1) + j = ap (λ (o : Opened). o.word) z in omega (arith, w))))

-- ---- what is opened of each word

pub lane-at : (lanes : List Lane) (word : ℕ) → word < length lanes → (l : Lane) × (l ≡ get_or lanes word l)
lane-at [] word l = absurd (omega (arith, l))
lane-at (k ∷ lanes) zero l = (k, refl)
lane-at (k ∷ lanes) (suc word) l = lane-at lanes word (omega (arith, l))

pub opened-is : (lanes : List Lane) (word : ℕ) (l : Lane) → word < length lanes → l ≡ get_or lanes word l → opened_at lanes word ≡ l.opened
opened-is [] word l c e = absurd (omega (arith, c))
opened-is (k ∷ lanes) zero l c e = ap (λ (x : Lane). x.opened) (sym e)
opened-is (k ∷ lanes) (suc word) l c e = opened-is lanes word l (omega (arith, c)) e

pub opened-inside : (lanes : List Lane) (word i : ℕ) → i < opened_at lanes word → word < length lanes
opened-inside [] word i h = absurd (omega (arith, h))
opened-inside (k ∷ lanes) zero i h = omega arith
opened-inside (k ∷ lanes) (suc word) i h = let n = opened-inside lanes word i h in omega (arith, n)

pub opened-none : (lanes : List Lane) (word : ℕ) → Each (λ l. l.opened ≡ 0) lanes → opened_at lanes word ≡ 0
opened-none [] word e = refl
opened-none (k ∷ lanes) zero e = e.0
opened-none (k ∷ lanes) (suc word) e = opened-none lanes word e.1

pub opened-set : (lanes : List Lane) (i : ℕ) (v d : Lane) (word : ℕ) → i < length lanes → v.opened ≡ (get_or lanes i d).opened → opened_at (set lanes i v) word ≡ opened_at lanes word
opened-set [] i v d word l h = absurd (omega (arith, l))
opened-set (k ∷ lanes) zero v d zero l h = h
opened-set (k ∷ lanes) zero v d (suc word) l h = refl
opened-set (k ∷ lanes) (suc i) v d zero l h = refl
opened-set (k ∷ lanes) (suc i) v d (suc word) l h = opened-set lanes i v d word (omega (arith, l)) h

-- where the blocks that cover a document are opened
pub opened-after : (old new : List Lane) (word : ℕ) (l : Lane) → AllZip IsOpened old new → word < length old → l ≡ get_or old word l → opened_at new word ≡ max (max l.opened l.cover) l.after
opened-after [] new word l z c e = absurd (omega (arith, c))
opened-after (k ∷ old) [] word l z c e = absurd z
opened-after (k ∷ old) (n ∷ new) zero l z c e =
    let o : n.opened ≡ max (max k.opened k.cover) k.after = ap (λ (x : Lane). x.opened) z.0.same in
    o ∙ ap (λ (x : Lane). max (max x.opened x.cover) x.after) (sym e)
opened-after (k ∷ old) (n ∷ new) (suc word) l z c e = opened-after old new word l z.1 (omega (arith, c)) e

pub opened-more : (old new : List Lane) (word : ℕ) → AllZip IsOpened old new → opened_at old word ≤ opened_at new word
opened-more [] [] word z = omega arith
opened-more [] (n ∷ new) word z = absurd z
opened-more (k ∷ old) [] word z = absurd z
opened-more (k ∷ old) (n ∷ new) zero z = let o : n.opened ≡ max (max k.opened k.cover) k.after = ap (λ (x : Lane). x.opened) z.0.same in omega (arith, o)
opened-more (k ∷ old) (n ∷ new) (suc word) z = opened-more old new word z.1

-- where hits are passed
pub opened-same : (at end : ℕ) (old new : List Lane) (word : ℕ) → AllZip (IsPassed at end) old new → opened_at new word ≡ opened_at old word
opened-same at end [] [] word z = refl
opened-same at end [] (n ∷ new) word z = absurd z
opened-same at end (k ∷ old) [] word z = absurd z
opened-same at end (k ∷ old) (n ∷ new) zero z = ap (λ (x : Lane). x.opened) z.0.same
opened-same at end (k ∷ old) (n ∷ new) (suc word) z = opened-same at end old new word z.1
