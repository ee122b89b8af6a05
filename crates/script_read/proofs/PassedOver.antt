-- A text above the limit need not be held: what bytes begin with depends on its length alone.
use Rattle.std.specs.Prelude.{◌≡◌, ℕ, ◌+◌, ◌-◌, ◌<◌, ◌≤◌, Bool, true, false, nat_lt, ◌==◌, List, ◌++◌, length, take, drop, refl}
use Rattle.std.specs.List.{position_or_len}
use Rattle.std.proofs.Common.{arith, ap, sym, ◌∙◌, lt-ltb, le-ltb, ltb-true, ltb-false, length-append}
use Rattle.std.proofs.lemmas.List.{take-append-le}
use Rattle.std.proofs.Math.Seq.{drop-append-add}
use Rattle.base_types.specs.declared.ids.DocId.{DocId}
use Rattle.base_types.specs.declared.time.Time.{Time}
use Rattle.base_commands.specs.declared.text.Text.TheVariants.{TooLong}
use Rattle.script_read.specs.declared.line.Meaning.{Meaning}
use Rattle.script_read.specs.declared.line.Meaning.TheVariants.{Arrival}
use Rattle.script_read.specs.Items.{without_cr, text_at, piece_of, closed_line, from_line, first_by}
use Rattle.script_read.specs.Reading.{long_piece}
use Rattle.script_read.proofs.Cuts.{place-append, from_line-closed}

-- These bytes are one line with its LF, which asks for a text of so many bytes, more than are held.
pub record AsksForLong (say : List ℕ → Meaning) (doc : DocId) (at : Time) (size : ℕ) (line : List ℕ) : Type 0 where
  pub place : ℕ
  pub one_line : position_or_len (λ b. b == 10) line ≡ place
  pub takes : length line ≡ place + 1
  pub short_line : length (without_cr (take place line)) ≤ 4096
  pub says : say (without_cr (take place line)) ≡ Arrival doc at size
  pub long : 4194304 < size

pub passed_over : (say : List ℕ → Meaning) (ended : Bool) (doc : DocId) (at : Time) (size : ℕ) (line text bytes : List ℕ)
    → AsksForLong say doc at size line → length text ≤ size
    → first_by say ended (line ++ (text ++ bytes)) ≡ long_piece ended (record { doc = doc; at = at; size = size; line = length line; gone = length text }) bytes
passed_over say ended doc at size line text bytes a fits =
    ap (λ k. from_line say ended k all) place
    ∙ from_line-closed say ended n all (omega (arith, a.takes, long_all))
    ∙ closed
    ∙ piece
  where
    n : ℕ
    n = a.place

    used : ℕ
    used = length line

    all : List ℕ
    all = line ++ (text ++ bytes)

    place : position_or_len (λ b. b == 10) all ≡ n
    place = (place-append (λ b. b == 10) line (text ++ bytes)).1 (omega (arith, a.one_line, a.takes)) ∙ a.one_line

    long_all : length all ≡ used + length text + length bytes
    long_all = omega (arith, length-append line (text ++ bytes), length-append text bytes)

    front : take n all ≡ take n line
    front = take-append-le n line (text ++ bytes) (omega (arith, a.takes))

    closed : closed_line say ended n (without_cr (take n all)) all ≡ piece_of ended (Arrival doc at size) used all
    closed = ap (λ l. closed_line say ended n (without_cr l) all) front ∙ rw (le-ltb 4096 (length (without_cr (take n line))) a.short_line, a.says) (ap (λ k. piece_of ended (Arrival doc at size) k all) (sym a.takes))

    behind : length text ≤ size → drop (used + size) all ≡ drop (size - length text) bytes
    behind h =
        let e : used + size ≡ used + (length text + (size - length text)) = omega (arith, h) in
        ap (λ k. drop k all) e ∙ drop-append-add line (text ++ bytes) (length text + (size - length text)) ∙ drop-append-add text bytes (size - length text)

    held : text_at size (drop used all) ≡ TooLong size
    held = rw (lt-ltb 4194304 size a.long) refl

    missing : nat_lt (length all) (used + size) ≡ nat_lt (length text + length bytes) size
    missing = go (nat_lt (length text + length bytes) size) refl
      where
        go : (b : Bool) → nat_lt (length text + length bytes) size ≡ b → nat_lt (length all) (used + size) ≡ b
        go true h = lt-ltb _ _ (omega (arith, long_all, ltb-true _ _ h))
        go false h = le-ltb _ _ (omega (arith, long_all, ltb-false _ _ h))

    piece : piece_of ended (Arrival doc at size) used all ≡ long_piece ended (record { doc = doc; at = at; size = size; line = used; gone = length text }) bytes
    piece = rw (missing, long_all, behind fits, held) refl
