-- Bytes split into parts in one way.
use Rattle.std.specs.Prelude.{◌≡◌, ◌≢◌, ℕ, zero, suc, ◌+◌, ◌<◌, ◌≤◌, Bool, true, false, nat_lt, if◌then◌else◌, ◌==◌, ◌&&◌, List, [], ◌∷◌, ◌++◌, length, drop, take, filter_map, Option, Some, refl}
use Rattle.std.specs.List.{position_or_len}
use Rattle.std.proofs.Common.{arith, ap, sym, ◌∙◌, subst, length-drop}
use Rattle.base_commands.specs.declared.command.Command.TheVariants.{Arrive}
use Rattle.script_read.specs.declared.part.Part.{Part}
use Rattle.script_read.specs.Parts.{told}
use Rattle.script_read.specs.declared.line.Meaning.{Meaning}
use Rattle.script_read.specs.declared.line.Meaning.TheVariants.{Skipped, Alone, Arrival, Faulty}
use Rattle.script_read.specs.declared.first.First.{First}
use Rattle.script_read.specs.declared.first.First.TheVariants.{Whole, Broken, More, End}
use Rattle.script_read.specs.Lines.{meaning}
use Rattle.script_read.specs.Items.{without_cr, text_at, short, text_end, piece_of, last_piece, open_line, closed_line, first, Pieces, IsNoPiece, Splits}
use Rattle.script_read.specs.Reading.{IsWithin}
use Rattle.script_read.proofs.Cuts.{first_by-append, first_by-within}

-- a piece that is whole or broken, or an end
abbrev IsSettled : First → Type 0
IsSettled (Whole p n) = Unit {0}
IsSettled (Broken n) = Unit {0}
IsSettled More = ⊥
IsSettled End = Unit {0}

-- nothing, or nothing but more
abbrev IsNoEnd : First → Type 0
IsNoEnd (Whole p n) = Unit {0}
IsNoEnd (Broken n) = Unit {0}
IsNoEnd More = Unit {0}
IsNoEnd End = ⊥

text_end-settled : (len used : ℕ) (item : Part) (bs : List ℕ) → IsSettled (text_end true len used item bs)
text_end-settled len used item [] = tt
text_end-settled len used item (b ∷ []) = go (b == 10) (b == 13)
  where
    go : (p q : Bool) → IsSettled (if p then Whole (Some item) (used + 1) else (if q then Broken len else Broken used))
    go true q = tt
    go false true = tt
    go false false = tt
text_end-settled len used item (b ∷ c ∷ bs) = go (b == 10) ((b == 13) && (c == 10))
  where
    go : (p q : Bool) → IsSettled (if p then Whole (Some item) (used + 1) else (if q then Whole (Some item) (used + 2) else Broken used))
    go true q = tt
    go false true = tt
    go false false = tt

short-no-end : (e : Bool) (len : ℕ) → IsNoEnd (short e len)
short-no-end true len = tt
short-no-end false len = tt

text_end-no-end : (e : Bool) (len used : ℕ) (item : Part) (bs : List ℕ) → IsNoEnd (text_end e len used item bs)
text_end-no-end e len used item [] = short-no-end e len
text_end-no-end e len used item (b ∷ []) = go (b == 10) (b == 13)
  where
    go : (p q : Bool) → IsNoEnd (if p then Whole (Some item) (used + 1) else (if q then short e len else Broken used))
    go true q = tt
    go false true = short-no-end e len
    go false false = tt
text_end-no-end e len used item (b ∷ c ∷ bs) = go (b == 10) ((b == 13) && (c == 10))
  where
    go : (p q : Bool) → IsNoEnd (if p then Whole (Some item) (used + 1) else (if q then Whole (Some item) (used + 2) else Broken used))
    go true q = tt
    go false true = tt
    go false false = tt

piece_of-settled : (m : Meaning) (used : ℕ) (bs : List ℕ) → IsSettled (piece_of true m used bs)
piece_of-settled Skipped used bs = tt
piece_of-settled (Alone item) used bs = tt
piece_of-settled Faulty used bs = tt
piece_of-settled (Arrival doc at n) used bs = go (nat_lt (length bs) (used + n))
  where
    go : (b : Bool) → IsSettled (if b then Broken (length bs) else text_end true (length bs) (used + n) (told (Arrive doc at (text_at n (drop used bs)))) (drop (used + n) bs))
    go true = tt
    go false = text_end-settled (length bs) (used + n) (told (Arrive doc at (text_at n (drop used bs)))) (drop (used + n) bs)

last_piece-settled : (m : Meaning) (n : ℕ) → IsSettled (last_piece m n)
last_piece-settled Skipped n = tt
last_piece-settled (Alone item) n = tt
last_piece-settled (Arrival doc at size) n = tt
last_piece-settled Faulty n = tt

last_piece-no-end : (m : Meaning) (n : ℕ) → IsNoEnd (last_piece m n)
last_piece-no-end Skipped n = tt
last_piece-no-end (Alone item) n = tt
last_piece-no-end (Arrival doc at size) n = tt
last_piece-no-end Faulty n = tt

-- at the end of the input nothing waits
first-settled : (bs : List ℕ) → IsSettled (first true bs)
first-settled bs = go (nat_lt n (length bs))
  where
    n : ℕ
    n = position_or_len (λ b. b == 10) bs

    closed : (b : Bool) → IsSettled (if b then Broken 0 else piece_of true (meaning (without_cr (take n bs))) (n + 1) bs)
    closed true = tt
    closed false = piece_of-settled (meaning (without_cr (take n bs))) (n + 1) bs

    unended : (bs : List ℕ) → IsSettled (open_line meaning true bs)
    unended [] = tt
    unended (c ∷ bs) = go (nat_lt 4096 (length (c ∷ bs)))
      where
        go : (b : Bool) → IsSettled (if b then Broken 0 else last_piece (meaning (c ∷ bs)) (length (c ∷ bs)))
        go true = tt
        go false = last_piece-settled (meaning (c ∷ bs)) (length (c ∷ bs))

    go : (b : Bool) → IsSettled (if b then closed_line meaning true n (without_cr (take n bs)) bs else open_line meaning true bs)
    go true = closed (nat_lt 4096 (length (without_cr (take n bs))))
    go false = unended bs

-- where more may come nothing ends, and at the end of the input only nothing is an end
abbrev EndsWithNothing : Bool → List ℕ → First → Type 0
EndsWithNothing e bs End = (e ≡ true) × (bs ≡ [])
EndsWithNothing e bs (Whole p n) = Unit {0}
EndsWithNothing e bs (Broken n) = Unit {0}
EndsWithNothing e bs More = Unit {0}

no_end_here : (e : Bool) (bs : List ℕ) (f : First) → IsNoEnd f → EndsWithNothing e bs f
no_end_here e bs (Whole p n) none = tt
no_end_here e bs (Broken n) none = tt
no_end_here e bs More none = tt
no_end_here e bs End none = absurd none

piece_of-no-end : (e : Bool) (m : Meaning) (used : ℕ) (bs : List ℕ) → IsNoEnd (piece_of e m used bs)
piece_of-no-end e Skipped used bs = tt
piece_of-no-end e (Alone item) used bs = tt
piece_of-no-end e Faulty used bs = tt
piece_of-no-end e (Arrival doc at n) used bs = go (nat_lt (length bs) (used + n))
  where
    go : (b : Bool) → IsNoEnd (if b then short e (length bs) else text_end e (length bs) (used + n) (told (Arrive doc at (text_at n (drop used bs)))) (drop (used + n) bs))
    go true = short-no-end e (length bs)
    go false = text_end-no-end e (length bs) (used + n) (told (Arrive doc at (text_at n (drop used bs)))) (drop (used + n) bs)

first-end : (e : Bool) (bs : List ℕ) → EndsWithNothing e bs (first e bs)
first-end e bs = go (nat_lt n (length bs))
  where
    n : ℕ
    n = position_or_len (λ b. b == 10) bs

    closed : (b : Bool) → EndsWithNothing e bs (if b then Broken 0 else piece_of e (meaning (without_cr (take n bs))) (n + 1) bs)
    closed true = tt
    closed false = no_end_here e bs (piece_of e (meaning (without_cr (take n bs))) (n + 1) bs) (piece_of-no-end e (meaning (without_cr (take n bs))) (n + 1) bs)

    unended : (e : Bool) (bs : List ℕ) → EndsWithNothing e bs (open_line meaning e bs)
    unended false bs = go (nat_lt 4096 (length (without_cr bs)))
      where
        go : (b : Bool) → EndsWithNothing false bs (if b then Broken 0 else More)
        go true = tt
        go false = tt
    unended true [] = (refl, refl)
    unended true (c ∷ bs) = go (nat_lt 4096 (length (c ∷ bs)))
      where
        go : (b : Bool) → EndsWithNothing true (c ∷ bs) (if b then Broken 0 else last_piece (meaning (c ∷ bs)) (length (c ∷ bs)))
        go true = tt
        go false = no_end_here true (c ∷ bs) (last_piece (meaning (c ∷ bs)) (length (c ∷ bs))) (last_piece-no-end (meaning (c ∷ bs)) (length (c ∷ bs)))

    go : (b : Bool) → EndsWithNothing e bs (if b then closed_line meaning e n (without_cr (take n bs)) bs else open_line meaning e bs)
    go true = closed (nat_lt 4096 (length (without_cr (take n bs))))
    go false = unended e bs

pub end-is : (e : Bool) (bs : List ℕ) → first e bs ≡ End → (e ≡ true) × (bs ≡ [])
end-is e bs is = subst (EndsWithNothing e bs) is (first-end e bs)

pub never-more : (bs : List ℕ) → first true bs ≢ More
never-more bs is = subst IsSettled is (first-settled bs)

-- where more is wanted the end was not told
pub more-open : (e : Bool) (bs : List ℕ) → first e bs ≡ More → e ≡ false
more-open false bs is = refl
more-open true bs is = absurd (never-more bs is)

-- a whole piece takes one to all of the bytes
whole-within : (e : Bool) (bs : List ℕ) (p : Option Part) (n : ℕ) → first e bs ≡ Whole p n → (0 < n) × (n ≤ length bs)
whole-within e bs p n whole = subst (IsWithin 0 (length bs)) whole (first_by-within meaning e bs)

-- bytes are split into items and a rest
abbrev HasPieces : Bool → List ℕ → Type 0
HasPieces e bs = (pieces : List (Option Part)) × (rest : List ℕ) × Pieces e bs pieces rest × IsNoPiece (first e rest)

pieces_from : (e : Bool) (bs : List ℕ) → ((k : ℕ) → 0 < k → k ≤ length bs → HasPieces e (drop k bs)) → (f : First) → first e bs ≡ f → HasPieces e bs
pieces_from e bs behind (Whole p k) is =
    let within = whole-within e bs p k is in
    let further = behind k within.0 within.1 in
    (p ∷ further.0, further.1, (k, is, further.2), further.3)
pieces_from e bs behind (Broken k) is = ([], bs, refl, subst IsNoPiece (sym is) tt)
pieces_from e bs behind More is = ([], bs, refl, subst IsNoPiece (sym is) tt)
pieces_from e bs behind End is = ([], bs, refl, subst IsNoPiece (sym is) tt)

pieces_within : (n : ℕ) (e : Bool) (bs : List ℕ) → length bs ≤ n → HasPieces e bs
pieces_within zero e bs short = pieces_from e bs (λ k some within. absurd (omega (arith, some, within, short))) (first e bs) refl
pieces_within (suc n) e bs short = pieces_from e bs (λ k some within. pieces_within n e (drop k bs) (omega (arith, length-drop k bs, some, within, short))) (first e bs) refl

pub each_splits : (e : Bool) (bs : List ℕ) → (items : List Part) × (rest : List ℕ) × Splits e bs items rest
each_splits e bs =
    let has = pieces_within (length bs) e bs (omega arith) in
    (filter_map (λ p. p) has.0, has.1, (record { pieces = has.0; items_are = refl; in_turn = has.2 }, has.3))

-- and in one way
pieces_one : (e : Bool) (bs : List ℕ) (xs ys : List (Option Part)) (r s : List ℕ) → Pieces e bs xs r → IsNoPiece (first e r) → Pieces e bs ys s → IsNoPiece (first e s) → (xs ≡ ys) × (r ≡ s)
pieces_one e bs [] [] r s a p b q = (refl, a ∙ sym b)
pieces_one e bs [] (y ∷ ys) r s a p (m, whole, b) q = absurd (subst IsNoPiece (ap (first e) a ∙ whole) p)
pieces_one e bs (x ∷ xs) [] r s (n, whole, a) p b q = absurd (subst IsNoPiece (ap (first e) b ∙ whole) q)
pieces_one e bs (x ∷ xs) (y ∷ ys) r s (n, whole, a) p (m, other, b) q =
    let told : Whole x n ≡ Whole y m = sym whole ∙ other in
    let same : n ≡ m = cc in
    let head : x ≡ y = cc in
    let P : ℕ → Type 0 = λ k. Pieces e (drop k bs) ys s in
    let tails = pieces_one e (drop n bs) xs ys r s a p (subst P (sym same) b) q in
    (let rest = tails.0 in cc, tails.1)

pub one_split : (e : Bool) (bs : List ℕ) (xs ys : List Part) (r s : List ℕ) → Splits e bs xs r → Splits e bs ys s → (xs ≡ ys) × (r ≡ s)
one_split e bs xs ys r s a b =
    let same = pieces_one e bs a.0.pieces b.0.pieces r s a.0.in_turn a.1 b.0.in_turn b.1 in
    (sym a.0.items_are ∙ ap (filter_map (λ p. p)) same.0 ∙ b.0.items_are, same.1)

-- what is broken stays so
pub broken-append : (bs x : List ℕ) (n : ℕ) → first false bs ≡ Broken n → first true (bs ++ x) ≡ Broken n
broken-append bs x n broken = first_by-append meaning true bs x (λ e. cc) ∙ broken
