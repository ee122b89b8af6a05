-- What bytes begin with is the same however they are cut. Nothing here depends on what a line says.
use Rattle.std.specs.Prelude.{◌≡◌, ◌≢◌, ℕ, ◌+◌, ◌-◌, ◌<◌, ◌≤◌, Bool, true, false, nat_eq, nat_lt, cond, if◌then◌else◌, not, ◌==◌, ◌&&◌, List, [], ◌∷◌, ◌++◌, length, take, drop, slice_index, Option, Some, refl}
use Rattle.std.specs.List.{position_or_len}
use Rattle.std.proofs.Common.{arith, ap, sym, ◌∙◌, subst, ltb-true, ltb-false, eqb-true, lt-ltb, le-ltb, length-append, length-drop, length-take, append-nil}
use Rattle.std.proofs.lemmas.List.{take-append-le, drop-append-le}
use Rattle.std.proofs.Math.Seq.{take-append-add}
use Rattle.std.proofs.lemmas.List.Folds.{prefix_len-append}
use Rattle.std.proofs.lemmas.List.Sums.{prefix_len-le-length}
use Rattle.base_commands.specs.declared.text.Text.TheVariants.{Bytes, TooLong}
use Rattle.base_commands.specs.declared.command.Command.TheVariants.{Arrive}
use Rattle.script_read.specs.declared.part.Part.{Part}
use Rattle.script_read.specs.Parts.{told}
use Rattle.script_read.specs.declared.line.Meaning.{Meaning}
use Rattle.script_read.specs.declared.line.Meaning.TheVariants.{Skipped, Alone, Arrival, Faulty}
use Rattle.script_read.specs.declared.first.First.TheVariants.{Whole, Broken, More}
use Rattle.script_read.specs.Reading.{IsWithin}
use Rattle.script_read.specs.Lines.{meaning}
use Rattle.script_read.specs.Items.{without_cr, text_at, short, text_end, piece_of, last_piece, open_line, closed_line, from_line, first_by, first, Pieces}

-- a line end that stands stays where it is
text_end-append : (len len' used : ℕ) (item : Part) (bs x : List ℕ) (e : Bool) → text_end false len used item bs ≢ More
    → text_end e len' used item (bs ++ x) ≡ text_end false len used item bs
text_end-append len len' used item [] x e settled = absurd (settled refl)
text_end-append len len' used item (b ∷ []) x e settled = go x (b == 10) (b == 13) refl refl settled
  where
    go : (x : List ℕ) (p q : Bool) → (b == 10) ≡ p → (b == 13) ≡ q
        → (if p then Whole (Some item) (used + 1) else (if q then More else Broken used)) ≢ More
        → text_end e len' used item (b ∷ x) ≡ (if p then Whole (Some item) (used + 1) else (if q then More else Broken used))
    go [] true q h k s = rw h refl
    go [] false true h k s = absurd (s refl)
    go [] false false h k s = rw (h, k) refl
    go (c ∷ x) true q h k s = rw h refl
    go (c ∷ x) false true h k s = absurd (s refl)
    go (c ∷ x) false false h k s = rw (h, k) refl
text_end-append len len' used item (b ∷ c ∷ bs) x e settled = refl

piece_of-append : (m : Meaning) (used : ℕ) (bs x : List ℕ) (e : Bool) → used ≤ length bs → piece_of false m used bs ≢ More
    → piece_of e m used (bs ++ x) ≡ piece_of false m used bs
piece_of-append Skipped used bs x e h settled = refl
piece_of-append (Alone item) used bs x e h settled = refl
piece_of-append Faulty used bs x e h settled = refl
piece_of-append (Arrival doc at n) used bs x e h settled = go (nat_lt (length bs) (used + n)) refl settled
  where
    text : List ℕ → Part
    text bytes = told (Arrive doc at (text_at n (drop used bytes)))

    go : (b : Bool) → nat_lt (length bs) (used + n) ≡ b
        → (if b then More else text_end false (length bs) (used + n) (text bs) (drop (used + n) bs)) ≢ More
        → piece_of e (Arrival doc at n) used (bs ++ x) ≡ (if b then More else text_end false (length bs) (used + n) (text bs) (drop (used + n) bs))
    go true k s = absurd (s refl)
    go false k s =
        let enough : used + n ≤ length bs = ltb-false _ _ k in
        let longer : used + n ≤ length (bs ++ x) = omega (arith, length-append bs x) in
        let inside : n ≤ length (drop used bs) = omega (arith, length-drop used bs) in
        let front : take n (drop used (bs ++ x)) ≡ take n (drop used bs) = ap (take n) (drop-append-le used bs x h) ∙ take-append-le n (drop used bs) x inside in
        let same : text (bs ++ x) ≡ text bs = ap (λ t. told (Arrive doc at (if nat_lt 4194304 n then TooLong n else Bytes t))) front in
        rw (le-ltb (length (bs ++ x)) (used + n) longer, drop-append-le (used + n) bs x enough, same)
        (text_end-append (length bs) (length (bs ++ x)) (used + n) (text bs) (drop (used + n) bs) x e s)

-- the first LF stays in its place under more bytes, and without one it comes behind these
pub place-append : (p : ℕ → Bool) (bs x : List ℕ) → (position_or_len p bs ≤ position_or_len p (bs ++ x))
    × (position_or_len p bs < length bs → position_or_len p (bs ++ x) ≡ position_or_len p bs)
place-append p bs x = go (nat_eq n (length bs)) refl (prefix_len-append (λ b. not (p b)) bs x)
  where
    n : ℕ
    n = position_or_len p bs

    go : (b : Bool) → nat_eq n (length bs) ≡ b → position_or_len p (bs ++ x) ≡ cond b (length bs + position_or_len p x) n
        → (n ≤ position_or_len p (bs ++ x)) × (n < length bs → position_or_len p (bs ++ x) ≡ n)
    go true h e = (omega (arith, prefix_len-le-length (λ b. not (p b)) bs), λ lt. absurd (omega (arith, eqb-true _ _ h)))
    go false h e = (omega arith, λ lt. e)

-- a line loses at most one byte
pub without_cr-length : (line : List ℕ) → (length line ≤ length (without_cr line) + 1) × (length (without_cr line) ≤ length line)
without_cr-length line = go (slice_index line (length line - 1) == 13)
  where
    go : (b : Bool) → (length line ≤ length (if b then take (length line - 1) line else line) + 1) × (length (if b then take (length line - 1) line else line) ≤ length line)
    go true = (omega (arith, length-take (length line - 1) line), omega (arith, length-take (length line - 1) line))
    go false = (omega arith, omega arith)

pub from_line-closed : (say : List ℕ → Meaning) (e : Bool) (n : ℕ) (bs : List ℕ) → n < length bs → from_line say e n bs ≡ closed_line say e n (without_cr (take n bs)) bs
from_line-closed say e n bs h = rw (lt-ltb n (length bs) h) refl

pub from_line-open : (say : List ℕ → Meaning) (e : Bool) (n : ℕ) (bs : List ℕ) → length bs ≤ n → from_line say e n bs ≡ open_line say e bs
from_line-open say e n bs h = rw (le-ltb n (length bs) h) refl

-- a line that is whole stays as it is
closed-append : (say : List ℕ → Meaning) (e : Bool) (n : ℕ) (bs x : List ℕ) → n < length bs
    → closed_line say false n (without_cr (take n bs)) bs ≢ More
    → closed_line say e n (without_cr (take n (bs ++ x))) (bs ++ x) ≡ closed_line say false n (without_cr (take n bs)) bs
closed-append say e n bs x h settled =
    let inside : n ≤ length bs = omega arith in
    rw (take-append-le n bs x inside) (go (nat_lt 4096 (length line)) settled)
  where
    line : List ℕ
    line = without_cr (take n bs)

    go : (b : Bool) → (if b then Broken 0 else piece_of false (say line) (n + 1) bs) ≢ More
        → (if b then Broken 0 else piece_of e (say line) (n + 1) (bs ++ x)) ≡ (if b then Broken 0 else piece_of false (say line) (n + 1) bs)
    go true s = refl
    go false s = piece_of-append (say line) (n + 1) bs x e (omega arith) s

pub too-long-open : (say : List ℕ → Meaning) (e : Bool) (bs : List ℕ) → 4096 < length (without_cr bs) → open_line say e bs ≡ Broken 0
too-long-open say false bs h = rw (lt-ltb 4096 (length (without_cr bs)) h) refl
too-long-open say true [] h = absurd (omega (arith, h, (without_cr-length []).1))
too-long-open say true (b ∷ bs) h = rw (lt-ltb 4096 (length (b ∷ bs)) (omega (arith, h, (without_cr-length (b ∷ bs)).1))) refl

pub too-long-closed : (say : List ℕ → Meaning) (e : Bool) (n : ℕ) (line bs : List ℕ) → 4096 < length line → closed_line say e n line bs ≡ Broken 0
too-long-closed say e n line bs h = rw (lt-ltb 4096 (length line) h) refl

-- a line that is too long so far stays so
longer-too-long : (bs x : List ℕ) → 4096 < length (without_cr bs) → 4096 < length (without_cr (bs ++ x))
longer-too-long bs [] h = rw (append-nil bs) h
longer-too-long bs (c ∷ x) h = omega (arith, h, (without_cr-length bs).1, (without_cr-length (bs ++ (c ∷ x))).0, length-append bs (c ∷ x))

too-long-append : (say : List ℕ → Meaning) (e : Bool) (bs x : List ℕ) → length bs ≤ position_or_len (λ b. b == 10) bs → 4096 < length (without_cr bs)
    → first_by say e (bs ++ x) ≡ Broken 0
too-long-append say e bs x unended h = go (nat_lt m (length (bs ++ x))) refl
  where
    m : ℕ
    m = position_or_len (λ b. b == 10) (bs ++ x)

    behind : length bs ≤ m
    behind = omega (arith, unended, (place-append (λ b. b == 10) bs x).0)

    front : (length bs ≤ m) → m ≤ length (bs ++ x) → (y : List ℕ) × (take m (bs ++ x) ≡ bs ++ y)
    front h k = (take (m - length bs) x, ap (λ k. take k (bs ++ x)) (omega (arith, h)) ∙ take-append-add bs x (m - length bs))

    go : (b : Bool) → nat_lt m (length (bs ++ x)) ≡ b → from_line say e m (bs ++ x) ≡ Broken 0
    go true k =
        let lt : m < length (bs ++ x) = ltb-true _ _ k in
        let f = front behind (omega arith) in
        from_line-closed say e m (bs ++ x) lt
        ∙ too-long-closed say e m (without_cr (take m (bs ++ x))) (bs ++ x) (subst (λ l. 4096 < length (without_cr l)) (sym f.1) (longer-too-long bs f.0 h))
    go false k = from_line-open say e m (bs ++ x) (ltb-false _ _ k) ∙ too-long-open say e (bs ++ x) (longer-too-long bs x h)

-- what bytes begin with stays so under any more of them, whatever a line says
pub first_by-append : (say : List ℕ → Meaning) (e : Bool) (bs x : List ℕ) → first_by say false bs ≢ More → first_by say e (bs ++ x) ≡ first_by say false bs
first_by-append say e bs x settled = go (nat_lt n (length bs)) refl
  where
    n : ℕ
    n = position_or_len (λ b. b == 10) bs

    unended : (b : Bool) → nat_lt 4096 (length (without_cr bs)) ≡ b → length bs ≤ n → first_by say false bs ≡ (if b then Broken 0 else More)
    unended b h k = from_line-open say false n bs k ∙ ap (λ c. if c then Broken 0 else More) h

    long : (b : Bool) → nat_lt 4096 (length (without_cr bs)) ≡ b → length bs ≤ n → first_by say e (bs ++ x) ≡ first_by say false bs
    long true h k = too-long-append say e bs x k (ltb-true _ _ h) ∙ sym (unended true h k)
    long false h k = absurd (settled (unended false h k))

    go : (b : Bool) → nat_lt n (length bs) ≡ b → first_by say e (bs ++ x) ≡ first_by say false bs
    go true h =
        let lt : n < length bs = ltb-true _ _ h in
        let same : position_or_len (λ b. b == 10) (bs ++ x) ≡ n = (place-append (λ b. b == 10) bs x).1 lt in
        let longer : n < length (bs ++ x) = omega (arith, length-append bs x) in
        let is : first_by say false bs ≡ closed_line say false n (without_cr (take n bs)) bs = from_line-closed say false n bs lt in
        ap (λ k. from_line say e k (bs ++ x)) same
        ∙ from_line-closed say e n (bs ++ x) longer
        ∙ closed-append say e n bs x lt (λ m. settled (is ∙ m))
        ∙ sym is
    go false h = long (nat_lt 4096 (length (without_cr bs))) refl (ltb-false _ _ h)

pub text_end-within : (least : ℕ) (e : Bool) (len used : ℕ) (item : Part) (bs : List ℕ) → least ≤ used → used + length bs ≡ len
    → IsWithin least len (text_end e len used item bs)
text_end-within least true len used item [] l h = omega arith
text_end-within least false len used item [] l h = tt
text_end-within least e len used item (b ∷ []) l h = go e (b == 10) (b == 13)
  where
    go : (e p q : Bool) → IsWithin least len (if p then Whole (Some item) (used + 1) else (if q then short e len else Broken used))
    go e true q = (omega arith, omega (arith, h))
    go true false true = omega arith
    go false false true = tt
    go e false false = omega (arith, h)
text_end-within least e len used item (b ∷ c ∷ bs) l h = go (b == 10) ((b == 13) && (c == 10))
  where
    go : (p q : Bool) → IsWithin least len (if p then Whole (Some item) (used + 1) else (if q then Whole (Some item) (used + 2) else Broken used))
    go true q = (omega arith, omega (arith, h))
    go false true = (omega arith, omega (arith, h))
    go false false = omega (arith, h)

piece_of-within : (e : Bool) (m : Meaning) (used : ℕ) (bs : List ℕ) → 1 ≤ used → used ≤ length bs → IsWithin 0 (length bs) (piece_of e m used bs)
piece_of-within e Skipped used bs o h = (o, h)
piece_of-within e (Alone item) used bs o h = (o, h)
piece_of-within e Faulty used bs o h = omega arith
piece_of-within e (Arrival doc at n) used bs o h = go e (nat_lt (length bs) (used + n)) refl
  where
    item : Part
    item = told (Arrive doc at (text_at n (drop used bs)))

    go : (e b : Bool) → nat_lt (length bs) (used + n) ≡ b → IsWithin 0 (length bs) (if b then short e (length bs) else text_end e (length bs) (used + n) item (drop (used + n) bs))
    go true true k = omega arith
    go false true k = tt
    go e false k = text_end-within 0 e (length bs) (used + n) item (drop (used + n) bs) (omega arith) (omega (arith, ltb-false _ _ k, length-drop (used + n) bs))

last_piece-within : (m : Meaning) (n : ℕ) → 1 ≤ n → IsWithin 0 n (last_piece m n)
last_piece-within Skipped n h = (h, omega arith)
last_piece-within (Alone item) n h = (h, omega arith)
last_piece-within (Arrival doc at size) n h = omega arith
last_piece-within Faulty n h = omega arith

-- a piece lies within the bytes, and so does what is wrong
pub first_by-within : (say : List ℕ → Meaning) (e : Bool) (bs : List ℕ) → IsWithin 0 (length bs) (first_by say e bs)
first_by-within say e bs = go (nat_lt n (length bs)) refl
  where
    n : ℕ
    n = position_or_len (λ b. b == 10) bs

    closed : (b : Bool) → n < length bs → IsWithin 0 (length bs) (if b then Broken 0 else piece_of e (say (without_cr (take n bs))) (n + 1) bs)
    closed true h = omega arith
    closed false h = piece_of-within e (say (without_cr (take n bs))) (n + 1) bs (omega arith) (omega (arith, h))

    unended : (e : Bool) (bs : List ℕ) → IsWithin 0 (length bs) (open_line say e bs)
    unended false bs = go (nat_lt 4096 (length (without_cr bs)))
      where
        go : (b : Bool) → IsWithin 0 (length bs) (if b then Broken 0 else More)
        go true = omega arith
        go false = tt
    unended true [] = tt
    unended true (c ∷ bs) = go (nat_lt 4096 (length (c ∷ bs)))
      where
        go : (b : Bool) → IsWithin 0 (length (c ∷ bs)) (if b then Broken 0 else last_piece (say (c ∷ bs)) (length (c ∷ bs)))
        go true = omega arith
        go false = last_piece-within (say (c ∷ bs)) (length (c ∷ bs)) (omega arith)

    go : (b : Bool) → nat_lt n (length bs) ≡ b → IsWithin 0 (length bs) (if b then closed_line say e n (without_cr (take n bs)) bs else open_line say e bs)
    go true h = closed (nat_lt 4096 (length (without_cr (take n bs)))) (ltb-true _ _ h)
    go false h = unended e bs

-- the pieces of bytes are pieces of any longer ones
pub pieces-append : (e : Bool) (bs x rest : List ℕ) (pieces : List (Option Part)) → Pieces false bs pieces rest → Pieces e (bs ++ x) pieces (rest ++ x)
pieces-append e bs x rest [] p = ap (λ l. l ++ x) p
pieces-append e bs x rest (piece ∷ pieces) (n, whole, p) = (
  n,
  first_by-append meaning e bs x (λ m. apart (sym whole ∙ m)) ∙ whole,
  subst (λ l. Pieces e l pieces (rest ++ x)) (sym (drop-append-le n bs x (used n bs whole))) (pieces-append e (drop n bs) x rest pieces p),
)
  where
    apart : Whole piece n ≢ More
    apart h = cc

    used : (n : ℕ) (bs : List ℕ) → first false bs ≡ Whole piece n → n ≤ length bs
    used n bs h = let w = first_by-within meaning false bs in (subst (IsWithin 0 (length bs)) h w).1
