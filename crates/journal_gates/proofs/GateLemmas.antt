-- What lies at a gate, from the bytes there.
use Rattle.std.proofs.Common.{◌≡◌, ℕ, ◌+◌, ◌-◌, ◌<◌, ◌≤◌, List, [], ◌∷◌, ◌++◌, length, take, drop, get_or, ap, sym, ◌∙◌, arith, append_assoc, length-drop}
use Rattle.std.specs.Int.{w32, to_be_bytes}
use Rattle.std.proofs.lemmas.List.{length-take, take-append-drop}
use Rattle.journal_gates.specs.declared.gate.Gate.TheVariants.{Open}
use Rattle.journal_gates.specs.Records.{open_gate, record_bytes}
use Rattle.journal_gates.specs.Scanning.{LiesAt}

viewed : (bytes all : List ℕ) → bytes ≡ take (length bytes) all → all ≡ bytes ++ drop (length bytes) all
viewed bytes all view = sym (take-append-drop (length bytes) all) ∙ ap (λ (l : List ℕ). l ++ drop (length bytes) all) (sym view)

five_bytes : (bytes all : List ℕ) → 5 ≤ length bytes → bytes ≡ take (length bytes) all → all ≡ get_or bytes 0 0 ∷ (take 4 (drop 1 bytes) ++ drop 5 all)
five_bytes [] all some view = absurd (omega (arith, some))
five_bytes (a ∷ []) all some view = absurd (omega (arith, some))
five_bytes (a ∷ b ∷ []) all some view = absurd (omega (arith, some))
five_bytes (a ∷ b ∷ c ∷ []) all some view = absurd (omega (arith, some))
five_bytes (a ∷ b ∷ c ∷ d ∷ []) all some view = absurd (omega (arith, some))
five_bytes (a ∷ b ∷ c ∷ d ∷ e ∷ bytes) all some view =
    let whole = viewed (a ∷ b ∷ c ∷ d ∷ e ∷ bytes) all view in whole ∙ ap (λ (l : List ℕ). a ∷ b ∷ c ∷ d ∷ e ∷ l) (sym (ap (drop 5) whole))

-- an open gate and a length
counted : (bytes all : List ℕ) (count : ℕ) → 5 ≤ length bytes → bytes ≡ take (length bytes) all → get_or bytes 0 0 ≡ open_gate → to_be_bytes w32 count ≡ take 4 (drop 1 bytes)
    → all ≡ open_gate ∷ (to_be_bytes w32 count ++ drop 5 all)
counted bytes all count enough view is_open spelled =
    five_bytes bytes all enough view ∙ ap (λ g. g ∷ (take 4 (drop 1 bytes) ++ drop 5 all)) is_open ∙ ap (λ (l : List ℕ). open_gate ∷ (l ++ drop 5 all)) (sym spelled)

pub lies_open : (bytes all : List ℕ) (count : ℕ) → 5 ≤ length bytes → bytes ≡ take (length bytes) all → get_or bytes 0 0 ≡ open_gate → to_be_bytes w32 count ≡ take 4 (drop 1 bytes)
    → 5 + count < length all → LiesAt all (Open count)
lies_open bytes all count enough view is_open spelled room =
    let tail = drop 5 all in
    let body = take count tail in
    let long : length tail ≡ length all - 5 = length-drop 5 all in
    let is : length body ≡ count = omega (arith, length-take count tail, long, room) in
    let lb = to_be_bytes w32 (length body) in
    let whole : all ≡ record_bytes body ++ drop count tail =
    counted bytes all count enough view is_open spelled ∙ ap (λ n. open_gate ∷ (to_be_bytes w32 n ++ tail)) (sym is)
    ∙ ap (λ (l : List ℕ). open_gate ∷ (lb ++ l)) (sym (take-append-drop count tail))
    ∙ ap (λ (l : List ℕ). open_gate ∷ l) (sym (append_assoc lb body (drop count tail))) in
    (body, (drop count tail, whole, is, omega (arith, length-drop count tail, long, room)))
