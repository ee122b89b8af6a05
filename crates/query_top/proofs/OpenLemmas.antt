-- Opening blocks.
use Rattle.std.specs.Prelude.{◌≡◌, ◌≢◌, ℕ, zero, suc, ◌+◌, ◌-◌, ◌<◌, ◌≤◌, List, [], ◌∷◌, ◌++◌, length, take, get_or, Ok, refl}
use Rattle.std.specs.List.{AllZip}
use Rattle.std.specs.declared.alloc.Global.{Global}
use Rattle.std.specs.declared.vec.Vec.{Vec}
use Rattle.std.proofs.Common.{arith, ap, sym, ◌∙◌, subst, add-one, append_assoc}
use Rattle.base_types.specs.declared.posting.Posting.{Posting}
use Rattle.pages_codec.specs.declared.head.BlockHead.{BlockHead}
use Rattle.query_top.specs.Firsts.{Each}
use Rattle.query_top.specs.Sheets.{Sheet, IsSheet, IsHead, joined, no_head}
use Rattle.query_top.specs.Lanes.{tally, AreAscending}
use Rattle.query_top.specs.Opening.{Call, Opened, Opens, run_of}
use Rattle.query_top.proofs.EachLemmas.{each-append, each-weaker, each-at}
use Rattle.query_top.proofs.HeadLemmas.{AreInOrder, sheet-order, head-range, list-ascends, ascends-left, ascends-right}
use Rattle.query_top.proofs.LaneLemmas.{tally-none}

-- one call more
pub opens-more : {S E : Type 0} (call : Call S E) (x y z : S) (os : List Opened) (word block : ℕ) (v : Vec Posting Global) → Opens call x os y → call y word block (Ok v) z → Opens call x (os ++ record { word = word; block = block } ∷ []) z
opens-more call x y z [] word block v h c = (v, z, subst (λ s. call s word block (Ok v) z) h c, refl)
opens-more call x y z (o ∷ os) word block v h c = (h.0, h.1, h.2, opens-more call h.1 y z os word block v h.3 c)

run-suc : (word from n : ℕ) → run_of word from (suc n) ≡ run_of word from n ++ record { word = word; block = from + n } ∷ []
run-suc word from zero = ap (λ b. record { word = word; block = b } ∷ []) (omega arith)
run-suc word from (suc n) = ap (λ os. record { word = word; block = from } ∷ os) (run-suc word (from + 1) n ∙ ap (λ b. run_of word (from + 1) n ++ record { word = word; block = b } ∷ []) (omega arith))

pub run-more : (word from n block : ℕ) → from + n ≡ block → run_of word from (n + 1) ≡ run_of word from n ++ record { word = word; block = block } ∷ []
run-more word from n block e = ap (run_of word from) (add-one n) ∙ run-suc word from n ∙ ap (λ b. run_of word from n ++ record { word = word; block = b } ∷ []) e

-- ---- blocks by their places

zip-at : (hs : List BlockHead) (bs : List (List Posting)) (i : ℕ) (d : BlockHead) → AllZip IsHead hs bs → i < length hs → IsHead (get_or hs i d) (get_or bs i [])
zip-at [] bs i d z l = absurd (omega (arith, l))
zip-at (h ∷ hs) [] i d z l = absurd z
zip-at (h ∷ hs) (b ∷ bs) zero d z l = z.0
zip-at (h ∷ hs) (b ∷ bs) (suc i) d z l = zip-at hs bs i d z.1 (omega (arith, l))

pub zip-length : (hs : List BlockHead) (bs : List (List Posting)) → AllZip IsHead hs bs → length hs ≡ length bs
zip-length [] [] z = refl
zip-length [] (b ∷ bs) z = absurd z
zip-length (h ∷ hs) [] z = absurd z
zip-length (h ∷ hs) (b ∷ bs) z = let e = zip-length hs bs z.1 in omega (arith, e)

block-ascends : (bs : List (List Posting)) (i : ℕ) → i < length bs → AreAscending (joined bs) → AreAscending (get_or bs i [])
block-ascends [] i l a = absurd (omega (arith, l))
block-ascends (b ∷ bs) zero l a = ascends-left b (joined bs) a
block-ascends (b ∷ bs) (suc i) l a = block-ascends bs i (omega (arith, l)) (ascends-right b (joined bs) a)

pub order-next : (hs : List BlockHead) (i j : ℕ) (d : BlockHead) → AreInOrder hs → i < j → j < length hs → (get_or hs i d).last.0 ≤ (get_or hs j d).first.0
order-next [] i j d o l m = absurd (omega (arith, m))
order-next (h ∷ hs) i zero d o l m = absurd (omega (arith, l))
order-next (h ∷ hs) zero (suc j) d o l m = each-at (λ g. h.last.0 ≤ g.first.0) j hs d (omega (arith, m)) o.1
order-next (h ∷ hs) (suc i) (suc j) d o l m = order-next hs i j d o.2 (omega (arith, l)) (omega (arith, m))

joined-suc : (bs : List (List Posting)) (n : ℕ) → n < length bs → joined (take (suc n) bs) ≡ joined (take n bs) ++ get_or bs n []
joined-suc [] n l = absurd (omega (arith, l))
joined-suc (b ∷ bs) zero l = append-empty b
  where
    append-empty : (b : List Posting) → b ++ [] ≡ b
    append-empty [] = refl
    append-empty (p ∷ b) = ap (λ ps. p ∷ ps) (append-empty b)
joined-suc (b ∷ bs) (suc n) l = ap (λ ps. b ++ ps) (joined-suc bs n (omega (arith, l))) ∙ sym (append_assoc b (joined (take n bs)) (get_or bs n []))

pub tally-append : (at x : ℕ) (a b : List Posting) → tally at x (a ++ b) ≡ tally at x a + tally at x b
tally-append at x [] b = omega arith
tally-append at x (p ∷ a) b = let e = tally-append at x a b in omega (arith, e)

-- what one block more has
pub tally-block : (at x n : ℕ) (bs : List (List Posting)) → n < length bs → tally at x (joined (take (n + 1) bs)) ≡ tally at x (joined (take n bs)) + tally at x (get_or bs n [])
tally-block at x n bs l = ap (λ m. tally at x (joined (take m bs))) (add-one n) ∙ ap (tally at x) (joined-suc bs n l) ∙ tally-append at x (joined (take n bs)) (get_or bs n [])

pub ascends-join : (a b : List Posting) → AreAscending a → AreAscending b → Each (λ p. Each (λ q. p.doc.0 ≤ q.doc.0) b) a → AreAscending (a ++ b)
ascends-join [] b x y z = y
ascends-join (p ∷ a) b x y z = (each-append (λ q. p.doc.0 ≤ q.doc.0) a b x.0 z.0, ascends-join a b x.1 y z.1)

-- the postings of a block, by its header
pub record IsBlock (s : Sheet) (i : ℕ) (b : List Posting) : Type 0 where
  pub ascends : AreAscending b
  pub range : Each (λ q. ((get_or s.heads i no_head).first.0 ≤ q.doc.0) × (q.doc.0 ≤ (get_or s.heads i no_head).last.0)) b
  pub behind : (j : ℕ) → i < j → j < length s.heads → Each (λ q. q.doc.0 ≤ (get_or s.heads j no_head).first.0) b

pub block-is : (at : ℕ) (s : Sheet) (i : ℕ) → IsSheet at s → i < length s.heads → IsBlock s i (get_or s.blocks i [])
block-is at s i sheet l =
    let e = zip-length s.heads s.blocks sheet.heads_are in
    let asc = block-ascends s.blocks i (omega (arith, l, e)) (list-ascends (joined s.blocks) sheet.listed) in
    let r = head-range (get_or s.heads i no_head) (get_or s.blocks i []) (zip-at s.heads s.blocks i no_head sheet.heads_are l) asc in
    record {
      ascends = asc;
      range = r;
      behind = λ j a b. let o = order-next s.heads i j no_head (sheet-order at s sheet) a b in each-weaker _ (λ q. q.doc.0 ≤ (get_or s.heads j no_head).first.0) (λ q k. omega (arith, k.1, o)) (get_or s.blocks i []) r;
    }

-- passing over a block that ends before the document
over-one : (at : ℕ) (s : Sheet) (d i x : ℕ) → IsSheet at s → i < length s.heads → (get_or s.heads i no_head).last.0 < d → d ≤ x → tally at x (joined (take (i + 1) s.blocks)) ≡ tally at x (joined (take i s.blocks))
over-one at s d i x sheet l p a =
    let b = block-is at s i sheet l in
    let z = tally-none at x (get_or s.blocks i []) (each-weaker _ (λ q. q.doc.0 ≢ x) (λ q k. λ e. omega (arith, k.1, p, a, e)) (get_or s.blocks i []) b.range) in
    let n = zip-length s.heads s.blocks sheet.heads_are in
    let t = tally-block at x i s.blocks (omega (arith, l, n)) in
    omega (arith, t, z)

over-many : (at : ℕ) (s : Sheet) (d from n x : ℕ) → IsSheet at s → from + n ≤ length s.heads → ((i : ℕ) → i < from + n → (get_or s.heads i no_head).last.0 < d) → d ≤ x
    → tally at x (joined (take (from + n) s.blocks)) ≡ tally at x (joined (take from s.blocks))
over-many at s d from zero x sheet l p a = ap (λ m. tally at x (joined (take m s.blocks))) (omega arith)
over-many at s d from (suc n) x sheet l p a =
    ap (λ m. tally at x (joined (take m s.blocks))) (omega arith)
    ∙ over-one at s d (from + n) x sheet (omega (arith, l)) (p (from + n) (omega arith)) a
    ∙ over-many at s d from n x sheet (omega (arith, l)) (λ i m. p i (omega (arith, m))) a

pub over : (at : ℕ) (s : Sheet) (d from to x : ℕ) → IsSheet at s → from ≤ to → to ≤ length s.heads → ((i : ℕ) → i < to → (get_or s.heads i no_head).last.0 < d) → d ≤ x
    → tally at x (joined (take to s.blocks)) ≡ tally at x (joined (take from s.blocks))
over at s d from to x sheet o l p a =
    let e : to ≡ from + (to - from) = omega (arith, o) in
    ap (λ m. tally at x (joined (take m s.blocks))) e ∙ over-many at s d from (to - from) x sheet (omega (arith, l, e)) (λ i m. p i (omega (arith, m, e))) a
