-- What is held of a word is the sheet whose blocks are spelled there.
use Rattle.std.specs.Prelude.{◌≡◌, ℕ, zero, suc, ◌+◌, ◌<◌, ◌^◌, nat_lt, nat_le, Bool, true, false, List, [], ◌∷◌, ◌++◌, length, map, get_or, Option, Some, None, refl}
use Rattle.std.specs.List.{AllZip}
use Rattle.std.proofs.Common.{arith, ap, ap₂, sym, subst, ◌∙◌}
use Rattle.std.proofs.lemmas.Bool.Decides.{nat_tests}
use Rattle.base_types.specs.declared.posting.Posting.{Posting}
use Rattle.base_types.proofs.Equal.{same_posting}
use Rattle.lists_postings.specs.Lists.{IsList}
use Rattle.pages_codec.specs.Fields.{fields}
use Rattle.pages_codec.specs.Blocks.{block_spelling, blocks_at}
use Rattle.pages_codec.specs.Frames.{FramesState, block_bytes}
use Rattle.pages_codec.proofs.BlockCodec.{block_codec}
use Rattle.pages_sublists.specs.Framing.{IsOpened}
use Rattle.query_top.specs.Sheets.{Sheet}
use Rattle.query_best.specs.Reading.{if_so, posting_in, postings_in, postings_of, postings_or_none}
use Rattle.query_best.specs.Held.{AreBlocksOf, IsHeldAs, blocks_from, blocks_in, heads_in, sheet_of}
use Rattle.query_best.specs.Opening.{sheets_of}
use Rattle.query_best.specs.declared.held.HeldBlocks.{HeldBlocks}
use Rattle.query_best.specs.declared.held.HeldWord.{HeldWord}

so : {P : Type 0} (b : Bool) (tells : b ≡ true → P) (make : P → List Posting) (p : Posting) → b ≡ true → ((x : P) → make x ≡ p ∷ []) → if_so b tells make ≡ p ∷ []
so true tells make p e each = each (tells refl)
so false tells make p e each = absurd cc

one-posting : (p : Posting) → posting_in (fields p) ≡ p ∷ []
unfolding posting_in
one-posting p =
    so (nat_lt p.doc.0 (2 ^ 32)) _ _ p (grind (arith, nat_tests, p.numbered)) λ numbered.
    so (nat_le 1 p.tf) _ _ p (grind (arith, nat_tests, p.counted)) λ counted.
    so (nat_lt p.tf (2 ^ 32)) _ _ p (grind (arith, nat_tests, p.bounded)) λ bounded.
    so (nat_lt p.span.from p.span.to) _ _ p (grind (arith, nat_tests, p.span.ordered)) λ ordered.
    so (nat_le p.span.to (2 ^ 40)) _ _ p (grind (arith, nat_tests, p.span.in_time)) λ in_time.
    ap (λ (x : Posting). x ∷ []) (same_posting _ p refl refl refl refl)

all-postings : (list : List Posting) → postings_of (map fields list) ≡ list
all-postings [] = refl
all-postings (p ∷ list) = ap₂ (λ (xs ys : List Posting). xs ++ ys) (one-posting p) (all-postings list)

-- the postings of a list's spelling are the list
pub spelled-postings : (list : List Posting) (bytes : List ℕ) → IsList list → bytes ≡ block_spelling list → postings_in bytes ≡ list
unfolding postings_in
spelled-postings list bytes is e = ap (λ (bs : List ℕ). postings_or_none (blocks_at bs)) e ∙ ap postings_or_none (block_codec.again list is) ∙ all-postings list

pub blocks-at : (f : FramesState) (n more i : ℕ) → i < more → get_or (blocks_from f n more) i [] ≡ postings_in (block_bytes f (n + i))
blocks-at f n zero i l = absurd (omega (arith, l))
blocks-at f n (suc more) zero l = ap (λ k. postings_in (block_bytes f k)) (omega arith)
blocks-at f n (suc more) (suc i) l = blocks-at f (n + 1) more i (omega (arith, l)) ∙ ap (λ k. postings_in (block_bytes f k)) (omega arith)

blocks-are : (f : FramesState) (n : ℕ) (bs : List (List Posting)) → ((i : ℕ) → i < length bs → IsList (get_or bs i []) × (block_bytes f (n + i) ≡ block_spelling (get_or bs i [])))
    → blocks_from f n (length bs) ≡ bs
blocks-are f n [] each = refl
blocks-are f n (b ∷ bs) each =
    let first = each 0 (omega arith) in
    let z : n ≡ n + 0 = omega arith in
    ap₂ (λ (x : List Posting) (xs : List (List Posting)). x ∷ xs) (spelled-postings b (block_bytes f n) first.0 (ap (block_bytes f) z ∙ first.1))
    (blocks-are f (n + 1) bs (λ i l. let e = each (suc i) (omega (arith, l)) in (let y : (n + 1) + i ≡ n + suc i = omega arith in (e.0, ap (block_bytes f) y ∙ e.1))))

pub held-sheet : (w : HeldWord) (s : Sheet) → IsHeldAs w s → sheet_of w ≡ s
held-sheet w s is = go w.blocks is.blocks
  where
    go : (o : Option HeldBlocks) → AreBlocksOf o s → record { heads = heads_in o; blocks = blocks_in o; flat = w.flat.items } ≡ s
    go None (heads, blocks) = λ i. record { heads = sym heads i; blocks = sym blocks i; flat = is.flat i }
    go (Some held) (heads, count, each) =
        let len : length held.frames.heads ≡ length s.blocks = ap (λ hs. length hs) heads ∙ sym count in
        let blocks = ap (blocks_from held.frames 0) len ∙ blocks-are held.frames 0 s.blocks (λ i l. (let z : 0 + i ≡ i = omega arith in ((each i l).0, ap (block_bytes held.frames) z ∙ (each i l).1))) in
        λ i. record { heads = heads i; blocks = blocks i; flat = is.flat i }

pub held-sheets : (words : List HeldWord) (ss : List Sheet) → AllZip IsHeldAs words ss → sheets_of words ≡ ss
held-sheets [] [] z = refl
held-sheets [] (s ∷ ss) z = absurd z
held-sheets (w ∷ words) [] z = absurd z
held-sheets (w ∷ words) (s ∷ ss) z = ap₂ (λ (x : Sheet) (xs : List Sheet). x ∷ xs) (held-sheet w s z.0) (held-sheets words ss z.1)

-- what a block gives that was opened is what is held of it
pub opened-found : (blocks : Option HeldBlocks) (held : HeldBlocks) (block a b h : ℕ) (v : List Posting) → blocks ≡ Some held → block < length (heads_in blocks) → IsOpened held.frames block a b h v
    → v ≡ get_or (blocks_in blocks) block []
opened-found blocks held block a b h v is l o =
    let here : block < length held.frames.heads = subst (λ (x : Option HeldBlocks). block < length (heads_in x)) is l in
    let z : 0 + block ≡ block = omega arith in
    sym (ap (λ (x : Option HeldBlocks). get_or (blocks_in x) block []) is
    ∙ blocks-at held.frames 0 (length held.frames.heads) block here ∙ ap (λ k. postings_in (block_bytes held.frames k)) z ∙ spelled-postings v (block_bytes held.frames block) o.ordered o.spelled)
