-- Places of line feeds, found in the front of the bytes alone.
use Rattle.std.specs.Prelude.{◌≡◌, ℕ, ◌+◌, ◌<◌, ◌≤◌, min, Bool, true, false, nat_lt, cond, not, ◌==◌, List, [], ◌∷◌, length, take, Option, Some, None, IfSome, zero, suc, refl}
use Rattle.std.specs.List.{position_or_len}
use Rattle.std.proofs.Common.{arith, ap, sym, ◌∙◌, subst, ltb-true, ltb-false, length-take}
use Rattle.std.proofs.lemmas.List.{take-take}
use Rattle.std.proofs.lemmas.List.Sums.{prefix_len-le-length}
use Rattle.script_read.specs.declared.line.Meaning.{Meaning}
use Rattle.script_read.specs.declared.line.Meaning.TheVariants.{Arrival}
use Rattle.script_read.specs.declared.first.First.TheVariants.{Broken}
use Rattle.script_read.specs.declared.passing.Over.{Over}
use Rattle.script_read.specs.Lines.{meaning}
use Rattle.script_read.specs.Items.{without_cr, open_line, closed_line, from_line, first}
use Rattle.script_read.specs.Reading.{AsksFor, IsSmall}
use Rattle.script_read.proofs.Ranges.{IsFit, meaning-fits}
use Rattle.script_read.proofs.Cuts.{from_line-closed, from_line-open, too-long-closed, too-long-open, without_cr-length}

-- in the front of a list the place is the same, or past the front
pub position_or_len-take : {X : Type 0} (p : X → Bool) (k : ℕ) (xs : List X) → position_or_len p (take k xs) ≡ min k (position_or_len p xs)
position_or_len-take p zero xs = omega arith
position_or_len-take p (suc k) [] = omega arith
position_or_len-take p (suc k) (x ∷ xs) = go (p x) (position_or_len-take p k xs)
  where
    go : (b : Bool) → position_or_len p (take k xs) ≡ min k (position_or_len p xs)
        → cond (not b) (1 + position_or_len p (take k xs)) 0 ≡ min (suc k) (cond (not b) (1 + position_or_len p xs) 0)
    go true more = omega arith
    go false more = omega arith

-- the same, where the front is no longer than the list
pub position_or_len-front : {X : Type 0} (p : X → Bool) (k : ℕ) (xs : List X) → position_or_len p (take (min (length xs) k) xs) ≡ min k (position_or_len p xs)
position_or_len-front p k xs = omega (arith, position_or_len-take p (min (length xs) k) xs, prefix_len-le-length (λ x. not (p x)) xs)

abbrev line_feed : List ℕ → ℕ
line_feed bytes = position_or_len (λ b. b == 10) bytes

-- with no LF so far a line is too long
pub first-long : (ended : Bool) (bytes : List ℕ) → 4098 ≤ position_or_len (λ b. b == 10) bytes → first ended bytes ≡ Broken 0
first-long ended bytes far = go (nat_lt n (length bytes)) refl
  where
    n : ℕ
    n = line_feed bytes

    within : n ≤ length bytes
    within = prefix_len-le-length (λ b. not (b == 10)) bytes

    go : (b : Bool) → nat_lt n (length bytes) ≡ b → first ended bytes ≡ Broken 0
    go true h =
        let lt : n < length bytes = ltb-true _ _ h in
        from_line-closed meaning ended n bytes lt
        ∙ too-long-closed meaning ended n (without_cr (take n bytes)) bytes (omega (arith, far, within, length-take n bytes, (without_cr-length (take n bytes)).0))
    go false h = from_line-open meaning ended n bytes (ltb-false _ _ h) ∙ too-long-open meaning ended bytes (omega (arith, far, within, (without_cr-length bytes).0))

-- a line with its LF at n
pub first-closed : (ended : Bool) (n : ℕ) (bytes : List ℕ) → n ≡ min 4098 (position_or_len (λ b. b == 10) bytes) → n ≤ 4097 → n < length bytes
    → first ended bytes ≡ closed_line meaning ended n (without_cr (take n bytes)) bytes
first-closed ended n bytes place short lt =
    let here : position_or_len (λ b. b == 10) bytes ≡ n = omega (arith, place, short) in
    ap (λ k. from_line meaning ended k bytes) here ∙ from_line-closed meaning ended n bytes lt

-- bytes without an LF
pub first-open : (ended : Bool) (n : ℕ) (bytes : List ℕ) → n ≡ min 4098 (position_or_len (λ b. b == 10) bytes) → n ≤ 4097 → length bytes ≤ n
    → first ended bytes ≡ open_line meaning ended bytes
first-open ended n bytes place short all = from_line-open meaning ended (line_feed bytes) bytes (omega (arith, place, short, all))

-- a line with its LF at n that asks for a text above the limit
pub asks_for : (n : ℕ) (bytes : List ℕ) (m : Meaning) (r : Option Over) → n ≡ min 4098 (position_or_len (λ b. b == 10) bytes) → n < length bytes
    → length (without_cr (take n bytes)) ≤ 4096 → m ≡ meaning (without_cr (take n bytes))
    → IfSome r (λ over. (m ≡ Arrival over.doc over.at over.size) × (4194304 < over.size) × (over.line ≡ n + 1) × (over.gone ≡ 0))
    → IfSome r (λ over. AsksFor over (take over.line bytes))
asks_for n bytes m None place lt short says is = tt
asks_for n bytes m (Some over) place lt short says is =
    let near : n < 4098 = omega (arith, length-take n bytes, (without_cr-length (take n bytes)).0) in
    let front : take n (take over.line bytes) ≡ take n bytes = ap (λ k. take n (take k bytes)) is.2 ∙ take-take n (n + 1) bytes (omega arith) in
    record {
      place = n;
      one_line = position_or_len-take (λ b. b == 10) over.line bytes ∙ omega (arith, place, near, is.2);
      takes = omega (arith, length-take over.line bytes, is.2, lt);
      length_is = omega (arith, length-take over.line bytes, is.2, lt);
      short_line = rw front short;
      says = ap (λ l. meaning (without_cr l)) front ∙ sym says ∙ is.0;
      long = is.1;
      partly = omega (arith, is.3);
    }

-- and it is small enough to be counted
pub asks_small : (n : ℕ) (bytes : List ℕ) (m : Meaning) (r : Option Over) → n ≡ min 4098 (position_or_len (λ b. b == 10) bytes) → n < length bytes
    → length (without_cr (take n bytes)) ≤ 4096 → m ≡ meaning (without_cr (take n bytes))
    → IfSome r (λ over. (m ≡ Arrival over.doc over.at over.size) × (4194304 < over.size) × (over.line ≡ n + 1) × (over.gone ≡ 0)) → IsSmall r
asks_small n bytes m None place lt short says is = tt
asks_small n bytes m (Some over) place lt short says is =
    let near : n < 4098 = omega (arith, length-take n bytes, (without_cr-length (take n bytes)).0) in
    let fits = subst IsFit (sym says ∙ is.0) (meaning-fits (without_cr (take n bytes))) in
    (omega (arith, is.3), fits.1, omega (arith, is.2, near), fits.0)
