-- What bytes begin with.
use Rattle.std.specs.Prelude.{◌≡◌, ◌≢◌, ℕ, ◌+◌, ◌≤◌, Bool, true, false, nat_lt, if◌then◌else◌, ◌==◌, List, [], ◌∷◌, ◌++◌, length, take, drop, refl}
use Rattle.std.specs.Int.{w32, w64, to_be_bytes, from_be_bytes}
use Rattle.std.proofs.Common.{arith, ap, sym, ◌∙◌, append_assoc, length-drop, take-append-drop}
use Rattle.std.proofs.lemmas.List.{drop-drop, length-take}
use Rattle.journal_packets.specs.declared.first.First.TheVariants.{Whole, Bad, More}
use Rattle.journal_packets.specs.Packets.{packet_bytes, first, few, short, with_number, with_size}

-- bytes that begin with a number and a length are a packet, and then the rest
pub split : (bytes : List ℕ) (number size : ℕ) → 12 + size ≤ length bytes → to_be_bytes w64 number ≡ take 8 bytes → to_be_bytes w32 size ≡ take 4 (drop 8 bytes)
    → bytes ≡ packet_bytes number (take size (drop 12 bytes)) ++ drop (12 + size) bytes
split bytes number size fits n_is s_is =
    let body : List ℕ = take size (drop 12 bytes) in
    let rest : List ℕ = drop (12 + size) bytes in
    let size_is : length body ≡ size = omega (arith, length-take size (drop 12 bytes), length-drop 12 bytes) in
    let behind : body ++ rest ≡ drop 12 bytes = ap (λ l. body ++ l) (sym (drop-drop size 12 bytes)) ∙ take-append-drop size (drop 12 bytes) in
    sym (
    ap (λ a. (a ++ (to_be_bytes w32 (length body) ++ body)) ++ rest) n_is
    ∙ ap (λ k. (take 8 bytes ++ (to_be_bytes w32 k ++ body)) ++ rest) size_is
    ∙ ap (λ b. (take 8 bytes ++ (b ++ body)) ++ rest) s_is
    ∙ append_assoc (take 8 bytes) (take 4 (drop 8 bytes) ++ body) rest
    ∙ ap (λ l. take 8 bytes ++ l) (append_assoc (take 4 (drop 8 bytes)) body rest ∙ ap (λ l. take 4 (drop 8 bytes) ++ l) (behind ∙ sym (drop-drop 4 8 bytes)) ∙ take-append-drop 4 (drop 8 bytes))
    ∙ take-append-drop 8 bytes
    )

-- at the end of the input nothing is left open
few-told : (bytes : List ℕ) → few true bytes ≢ More
few-told [] = λ e. cc
few-told (b ∷ bytes) = λ e. cc

pub told : (bytes : List ℕ) → first true bytes ≢ More
told bytes = go (nat_lt (length bytes) 8)
  where
    number : ℕ
    number = from_be_bytes w64 (take 8 bytes)

    behind : List ℕ
    behind = drop 8 bytes

    size : ℕ
    size = from_be_bytes w32 (take 4 behind)

    whole : (p q : Bool) → (if p then Bad else if q then short true else Whole number size) ≢ More
    whole true q = λ e. cc
    whole false true = λ e. cc
    whole false false = λ e. cc

    sized : (p q : Bool) → (if p then Bad else if q then short true else with_size true number size (drop 4 behind)) ≢ More
    sized true q = λ e. cc
    sized false true = λ e. cc
    sized false false = whole (nat_lt 67108864 size) (nat_lt (length (drop 4 behind)) size)

    go : (b : Bool) → (if b then few true bytes else with_number true number behind) ≢ More
    go true = few-told bytes
    go false = sized (number == 0) (nat_lt (length behind) 4)

-- where more is wanted the end was not told
pub still-open : (ended : Bool) (bytes : List ℕ) → More ≡ first ended bytes → ended ≡ false
still-open false bytes e = refl
still-open true bytes e = absurd (told bytes (sym e))
