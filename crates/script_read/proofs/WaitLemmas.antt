-- How many bytes wait where more are wanted.
use Rattle.std.specs.Prelude.{◌≡◌, ℕ, ◌+◌, ◌-◌, ◌<◌, ◌≤◌, min, Bool, true, false, nat_lt, if◌then◌else◌, ◌==◌, ◌&&◌, List, [], ◌∷◌, length, take, drop, Some, refl}
use Rattle.std.specs.List.{position_or_len}
use Rattle.std.proofs.Common.{arith, sym, ◌∙◌, ltb-true, le-ltb, length-take, length-drop}
use Rattle.base_commands.specs.declared.command.Command.TheVariants.{Arrive}
use Rattle.script_read.specs.declared.part.Part.{Part}
use Rattle.script_read.specs.Parts.{told}
use Rattle.script_read.specs.declared.line.Meaning.{Meaning}
use Rattle.script_read.specs.declared.line.Meaning.TheVariants.{Skipped, Alone, Arrival, Faulty}
use Rattle.script_read.specs.declared.first.First.TheVariants.{Whole, Broken, More}
use Rattle.script_read.specs.Lines.{meaning}
use Rattle.script_read.specs.Items.{first, short, text_end, text_at, piece_of, closed_line, without_cr}
use Rattle.script_read.specs.Reading.{IsWithinText}
use Rattle.script_read.proofs.Cuts.{without_cr-length}
use Rattle.script_read.proofs.LineLemmas.{first-closed}

-- behind a text only a CR waits
text_end-few : (ended : Bool) (len used : ℕ) (item : Part) (bs : List ℕ) → text_end ended len used item bs ≡ More → length bs ≤ 1
text_end-few ended len used item [] e = omega arith
text_end-few ended len used item (b ∷ []) e = omega arith
text_end-few ended len used item (b ∷ c ∷ bs) e = go (b == 10) ((b == 13) && (c == 10)) e
  where
    go : (p q : Bool) → (if p then Whole (Some item) (used + 1) else (if q then Whole (Some item) (used + 2) else Broken used)) ≡ More → length (b ∷ c ∷ bs) ≤ 1
    go true q e = cc
    go false true e = cc
    go false false e = cc

piece_of-few : (ended : Bool) (m : Meaning) (used : ℕ) (bs : List ℕ) → used ≤ 4098 → IsWithinText m → piece_of ended m used bs ≡ More → length bs ≤ 4198403
piece_of-few ended Skipped used bs near within e = cc
piece_of-few ended (Alone item) used bs near within e = cc
piece_of-few ended Faulty used bs near within e = cc
piece_of-few ended (Arrival doc at n) used bs near within e = go (nat_lt (length bs) (used + n)) refl e
  where
    item : Part
    item = told (Arrive doc at (text_at n (drop used bs)))

    go : (b : Bool) → nat_lt (length bs) (used + n) ≡ b
        → (if b then short ended (length bs) else text_end ended (length bs) (used + n) item (drop (used + n) bs)) ≡ More → length bs ≤ 4198403
    go true k e = omega (arith, ltb-true _ _ k, near, within)
    go false k e = omega (arith, text_end-few ended (length bs) (used + n) item (drop (used + n) bs) e, length-drop (used + n) bs, near, within)

-- behind a line with its LF at n that asks for no text above the limit
pub few_wait : (ended : Bool) (n : ℕ) (bytes : List ℕ) → n ≡ min 4098 (position_or_len (λ b. b == 10) bytes) → n < length bytes
    → length (without_cr (take n bytes)) ≤ 4096 → IsWithinText (meaning (without_cr (take n bytes))) → first ended bytes ≡ More → length bytes ≤ 4198403
few_wait ended n bytes place lt short_line within more =
    let near : n < 4098 = omega (arith, lt, short_line, length-take n bytes, (without_cr-length (take n bytes)).0) in
    let closed : closed_line meaning ended n (without_cr (take n bytes)) bytes ≡ piece_of ended (meaning (without_cr (take n bytes))) (n + 1) bytes =
    rw (le-ltb 4096 (length (without_cr (take n bytes))) short_line) refl in
    piece_of-few ended (meaning (without_cr (take n bytes))) (n + 1) bytes (omega (arith, near)) within
    (sym closed ∙ sym (first-closed ended n bytes place (omega (arith, near)) lt) ∙ more)
