-- What a reader holds, and what it stands for.
use Rattle.std.specs.Prelude.{◌≡◌, ◌≢◌, ℕ, ◌+◌, ◌-◌, ◌≤◌, min, Bool, true, false, ◌==◌, ◌&&◌, nat_lt, if◌then◌else◌, List, [], ◌∷◌, ◌++◌, length, take, drop, Option, Some, None, IfSome, refl}
use Rattle.std.proofs.Common.{arith, ap, sym, ◌∙◌, subst, ltb-false, append_assoc, length-append, length-drop, take-append-drop}
use Rattle.std.proofs.lemmas.List.{drop-drop}
use Rattle.std.proofs.Math.Seq.{drop-append-add}
use Rattle.script_read.specs.declared.passing.Over.{Over}
use Rattle.script_read.specs.declared.first.First.{First}
use Rattle.script_read.specs.declared.first.First.TheVariants.{Whole, Broken, More}
use Rattle.script_read.specs.declared.line.Meaning.{Meaning}
use Rattle.script_read.specs.declared.line.Meaning.TheVariants.{Skipped, Alone, Arrival, Faulty}
use Rattle.base_commands.specs.declared.command.Command.TheVariants.{Arrive}
use Rattle.script_read.specs.declared.part.Part.{Part}
use Rattle.script_read.specs.Parts.{told}
use Rattle.std.specs.List.{position_or_len}
use Rattle.script_read.specs.Items.{first, short, text_end, text_at, piece_of, last_piece, open_line, closed_line, without_cr}
use Rattle.script_read.specs.Lines.{meaning}
use Rattle.script_read.specs.Reading.{ReaderState, AsksFor, StandsForLong, StandsBy, StandsFor, IsSmall, IsWithin, gone, long_piece, passed_item, found_by, found}
use Rattle.script_read.proofs.Cuts.{first_by-within, text_end-within}
use Rattle.script_read.proofs.LongTexts.{goes_on, found-long}

-- what the bytes since the last item begin with is found in what is held
by : (ended : Bool) (over : Option Over) (bytes since : List ℕ) → StandsBy over bytes since → first ended since ≡ found_by ended over bytes
by ended None bytes since same = ap (first ended) (sym same)
by ended (Some over) bytes since s = found-long over ended bytes since s

pub found-is : (h : ReaderState) (since : List ℕ) → StandsFor h since → first h.ended since ≡ found h
found-is h since stands = by h.ended h.over h.bytes since stands

length-by : (over : Option Over) (bytes since : List ℕ) → StandsBy over bytes since → length since ≡ gone over + length bytes
length-by None bytes since same = omega (arith, ap length same)
length-by (Some over) bytes since s =
    omega (arith, ap length s.joined, length-append s.line (s.text ++ bytes), length-append s.text bytes, s.are_gone, s.asks.length_is)

pub length-since : (h : ReaderState) (since : List ℕ) → StandsFor h since → length since ≡ gone h.over + length h.bytes
length-since h since stands = length-by h.over h.bytes since stands

-- more bytes come behind those at hand
pub stands-more : (over : Option Over) (bytes since p : List ℕ) → StandsBy over bytes since → StandsBy over (bytes ++ p) (since ++ p)
stands-more None bytes since p same = ap (λ l. l ++ p) same
stands-more (Some over) bytes since p s = record {
  line = s.line;
  text = s.text;
  asks = s.asks;
  are_gone = s.are_gone;
  joined = ap (λ l. l ++ p) s.joined ∙ append_assoc s.line (s.text ++ bytes) p ∙ ap (λ l. s.line ++ l) (append_assoc s.text bytes p);
}

-- the first bytes go, those that are gone among them
pub stands-drop : (over : Option Over) (bytes since : List ℕ) (n : ℕ) → gone over ≤ n → StandsBy over bytes since → drop (n - gone over) bytes ≡ drop n since
stands-drop None bytes since n h same = let e : n - 0 ≡ n = omega arith in ap (λ k. drop k bytes) e ∙ ap (drop n) same
stands-drop (Some over) bytes since n h s =
    let front : length (s.line ++ s.text) ≡ over.line + over.gone = omega (arith, length-append s.line s.text, s.are_gone, s.asks.length_is) in
    let split : n ≡ length (s.line ++ s.text) + (n - (over.line + over.gone)) = omega (arith, front, h) in
    sym (ap (drop n) (s.joined ∙ sym (append_assoc s.line s.text bytes)) ∙ ap (λ k. drop k ((s.line ++ s.text) ++ bytes)) split
    ∙ drop-append-add (s.line ++ s.text) bytes (n - (over.line + over.gone)))

-- what is at hand of a text is let go
pub stands-on : (now : ReaderState) (over : Over) (start n : ℕ) (items : List ℕ) → drop start items ≡ now.bytes → now.over ≡ Some over → IsSmall now.over
    → n ≡ min (length now.bytes) (over.size - over.gone) → (since : List ℕ) → StandsFor now since
    → StandsForLong (record { doc = over.doc; at = over.at; size = over.size; line = over.line; gone = over.gone + n }) (drop (start + n) items) since
stands-on now over start n items view is small k since stands =
    let fits : over.gone ≤ over.size = (subst IsSmall is small).0 in
    let P : Option Over → Type 0 = λ o. StandsBy o now.bytes since in
    let on = goes_on over now.bytes since n (omega (arith, k)) (omega (arith, k, fits)) (subst P is stands) in
    let next : Over = record { doc = over.doc; at = over.at; size = over.size; line = over.line; gone = over.gone + n } in
    let Q : List ℕ → Type 0 = λ l. StandsForLong next l since in
    subst Q (ap (drop n) (sym view) ∙ drop-drop n start items) on

-- a line that asks for a long text is let go
pub stands-begun : (r : Option Over) (over : Over) (start : ℕ) (items now hand : List ℕ) → r ≡ Some over → IfSome r (λ o. AsksFor o (take o.line hand))
    → IfSome r (λ o. (o.gone ≡ 0) × (o.line ≤ length hand)) → hand ≡ now → drop start items ≡ now → StandsForLong over (drop (start + over.line) items) now
stands-begun r over start items now hand is asks start_at same view =
    let here : AsksFor over (take over.line hand) = let P : Option Over → Type 0 = λ o. IfSome o (λ o. AsksFor o (take o.line hand)) in subst P is asks in
    let none : (over.gone ≡ 0) × (over.line ≤ length hand) = let P : Option Over → Type 0 = λ o. IfSome o (λ o. (o.gone ≡ 0) × (o.line ≤ length hand)) in subst P is start_at in
    record {
      line = take over.line now;
      text = [];
      asks = let P : List ℕ → Type 0 = λ l. AsksFor over (take over.line l) in subst P same here;
      are_gone = sym none.0;
      joined = sym (take-append-drop over.line now) ∙ ap (λ l. take over.line now ++ l) (ap (drop over.line) (sym view) ∙ drop-drop over.line start items);
    }

-- what a first line begins is found in what is held
pub line-found : (old : ReaderState) (f : First) (e : Bool) (hand : List ℕ) → old.over ≡ None → f ≡ first e hand → hand ≡ old.bytes → e ≡ old.ended → f ≡ found old
line-found old f e hand none value same told =
    value ∙ ap (first e) same ∙ ap (λ b. first b old.bytes) told ∙ ap (λ o. found_by old.ended o old.bytes) (sym none)

long-within : (ended : Bool) (over : Over) (bytes : List ℕ) → over.gone ≤ over.size
    → IsWithin (over.line + over.gone) (over.line + over.gone + length bytes) (long_piece ended over bytes)
long-within ended over bytes h = go ended (nat_lt (over.gone + length bytes) over.size) refl
  where
    len : ℕ
    len = over.line + over.gone + length bytes

    behind : List ℕ
    behind = drop (over.size - over.gone) bytes

    go : (e b : Bool) → nat_lt (over.gone + length bytes) over.size ≡ b
        → IsWithin (over.line + over.gone) len (if b then short e len else text_end e len (over.line + over.size) (passed_item over) behind)
    go true true k = omega arith
    go false true k = tt
    go e false k =
        text_end-within (over.line + over.gone) e len (over.line + over.size) (passed_item over) behind (omega arith)
        (omega (arith, ltb-false _ _ k, length-drop (over.size - over.gone) bytes))

-- what is found takes what is gone and something at hand
pub found-within : (ended : Bool) (over : Option Over) (bytes : List ℕ) → IsSmall over → IsWithin (gone over) (gone over + length bytes) (found_by ended over bytes)
found-within ended None bytes small =
    let P : ℕ → Type 0 = λ len. IsWithin 0 len (first ended bytes) in subst P (omega arith) (first_by-within meaning ended bytes)
found-within ended (Some over) bytes small = long-within ended over bytes small.0

pub within-of : (h : ReaderState) (f : First) → IsSmall h.over → f ≡ found h → IsWithin (gone h.over) (gone h.over + length h.bytes) f
within-of h f small value = let P : First → Type 0 = λ f. IsWithin (gone h.over) (gone h.over + length h.bytes) f in subst P (sym value) (found-within h.ended h.over h.bytes small)

-- at the end of the input nothing is left open
short-told : (len : ℕ) → short true len ≢ More
short-told len = λ e. cc

text_end-told : (len used : ℕ) (item : Part) (bs : List ℕ) → text_end true len used item bs ≢ More
text_end-told len used item [] = λ e. cc
text_end-told len used item (b ∷ []) = go (b == 10) (b == 13)
  where
    go : (p q : Bool) → (if p then Whole (Some item) (used + 1) else (if q then Broken len else Broken used)) ≢ More
    go true q = λ e. cc
    go false true = λ e. cc
    go false false = λ e. cc
text_end-told len used item (b ∷ c ∷ bs) = go (b == 10) ((b == 13) && (c == 10))
  where
    go : (p q : Bool) → (if p then Whole (Some item) (used + 1) else (if q then Whole (Some item) (used + 2) else Broken used)) ≢ More
    go true q = λ e. cc
    go false true = λ e. cc
    go false false = λ e. cc

piece_of-told : (m : Meaning) (used : ℕ) (bs : List ℕ) → piece_of true m used bs ≢ More
piece_of-told Skipped used bs = λ e. cc
piece_of-told (Alone item) used bs = λ e. cc
piece_of-told Faulty used bs = λ e. cc
piece_of-told (Arrival doc at n) used bs = go (nat_lt (length bs) (used + n))
  where
    item : Part
    item = told (Arrive doc at (text_at n (drop used bs)))

    go : (b : Bool) → (if b then short true (length bs) else text_end true (length bs) (used + n) item (drop (used + n) bs)) ≢ More
    go true = short-told (length bs)
    go false = text_end-told (length bs) (used + n) item (drop (used + n) bs)

last_piece-told : (m : Meaning) (n : ℕ) → last_piece m n ≢ More
last_piece-told Skipped n = λ e. cc
last_piece-told (Alone item) n = λ e. cc
last_piece-told (Arrival doc at size) n = λ e. cc
last_piece-told Faulty n = λ e. cc

pub first-told : (bs : List ℕ) → first true bs ≢ More
first-told bs = go (nat_lt n (length bs))
  where
    n : ℕ
    n = position_or_len (λ b. b == 10) bs

    line : List ℕ
    line = without_cr (take n bs)

    closed : (b : Bool) → (if b then Broken 0 else piece_of true (meaning line) (n + 1) bs) ≢ More
    closed true = λ e. cc
    closed false = piece_of-told (meaning line) (n + 1) bs

    unended : (bs : List ℕ) → open_line meaning true bs ≢ More
    unended [] = λ e. cc
    unended (c ∷ bs) = two (nat_lt 4096 (length (c ∷ bs)))
      where
        two : (b : Bool) → (if b then Broken 0 else last_piece (meaning (c ∷ bs)) (length (c ∷ bs))) ≢ More
        two true = λ e. cc
        two false = last_piece-told (meaning (c ∷ bs)) (length (c ∷ bs))

    go : (b : Bool) → (if b then closed_line meaning true n line bs else open_line meaning true bs) ≢ More
    go true = closed (nat_lt 4096 (length line))
    go false = unended bs

long-told : (over : Over) (bytes : List ℕ) → long_piece true over bytes ≢ More
long-told over bytes = go (nat_lt (over.gone + length bytes) over.size)
  where
    go : (b : Bool) → (if b then short true (over.line + over.gone + length bytes)
        else text_end true (over.line + over.gone + length bytes) (over.line + over.size) (passed_item over) (drop (over.size - over.gone) bytes)) ≢ More
    go true = short-told (over.line + over.gone + length bytes)
    go false = text_end-told (over.line + over.gone + length bytes) (over.line + over.size) (passed_item over) (drop (over.size - over.gone) bytes)

open-by : (ended : Bool) (over : Option Over) (bytes : List ℕ) → More ≡ found_by ended over bytes → ended ≡ false
open-by false over bytes e = refl
open-by true None bytes e = absurd (first-told bytes (sym e))
open-by true (Some over) bytes e = absurd (long-told over bytes (sym e))

-- where more is wanted the end was not told
pub still-open : (h : ReaderState) → More ≡ found h → h.ended ≡ false
still-open h e = open-by h.ended h.over h.bytes e
