-- What a write leaves of a list of bytes, by the part in front of it.
use Rattle.std.proofs.Common.{◌≡◌, ◌⊎◌, ℕ, ◌+◌, ◌-◌, ◌<◌, ◌≤◌, List, [], ◌∷◌, ◌++◌, length, take, drop, get_or, zero, suc, refl, inl, inr, ap, sym, ◌∙◌, arith, append_assoc, length-append}
use Rattle.std.specs.Prelude.{replicate}
use Rattle.std.proofs.lemmas.Bool.{cases_lt}
use Rattle.std.proofs.lemmas.List.{append-nil, get_or_append_left, get_or-take, length-take, take-append-drop, ext_get_or}
use Rattle.std.proofs.Math.Seq.{take-append_seam, drop-append-add, get_or-append_seam}
use Rattle.machine_model.specs.Images.{Torn}
use Rattle.machine_model.specs.Calls.{written}

-- a list that has these bytes in front
fronted : (p c : List ℕ) → length p ≤ length c → ((k : ℕ) → k < length p → get_or c k 0 ≡ get_or p k 0) → c ≡ p ++ drop (length p) c
fronted p c long same =
    let front : take (length p) c ≡ p = ext_get_or 0 (take (length p) c) p (omega (arith, length-take (length p) c)) (λ k inside.
    let here : k < length p = omega (arith, length-take (length p) c) in get_or-take (length p) c k 0 here ∙ same k here) in
    sym (take-append-drop (length p) c) ∙ ap (λ (l : List ℕ). l ++ drop (length p) c) front

-- what stands before a write that was cut short stays
pub torn_behind : (at n : ℕ) (p rest c : List ℕ) → Torn at n (p ++ rest) c → length p ≤ at → c ≡ p ++ drop (length p) c
torn_behind at n p rest c torn far = fronted p c (omega (arith, torn.no_shorter, length-append p rest)) (λ k inside.
    torn.untouched k (omega (arith, length-append p rest)) (inl (omega (arith, inside, far))) ∙ get_or_append_left p rest 0 k inside)

other_bytes : (p rest : List ℕ) (g x k : ℕ) → (k < length p) ⊎ (length p + 1 ≤ k) → get_or (p ++ g ∷ rest) k 0 ≡ get_or (p ++ x ∷ rest) k 0
other_bytes [] rest g x zero (inl low) = absurd (omega (arith, low))
other_bytes [] rest g x zero (inr high) = absurd (omega (arith, high))
other_bytes [] rest g x (suc k) out = refl
other_bytes (b ∷ p) rest g x zero out = refl
other_bytes (b ∷ p) rest g x (suc k) (inl low) = other_bytes p rest g x k (inl (omega (arith, low)))
other_bytes (b ∷ p) rest g x (suc k) (inr high) = other_bytes p rest g x k (inr (omega (arith, high)))

-- a write of one byte that was cut short changes that byte at most
pub torn_byte : (at : ℕ) (p rest c : List ℕ) (g : ℕ) → at ≡ length p → Torn at 1 (p ++ g ∷ rest) c → c ≡ p ++ get_or c at 0 ∷ rest
torn_byte at p rest c g here torn =
    let x = get_or c at 0 in
    let long : length (p ++ g ∷ rest) ≡ length p + (1 + length rest) = omega (arith, length-append p (g ∷ rest)) in
    let long_now : length (p ++ x ∷ rest) ≡ length p + (1 + length rest) = omega (arith, length-append p (x ∷ rest)) in
    let same : length c ≡ length p + (1 + length rest) = omega (arith, long, here, torn.no_shorter, torn.no_longer) in
    ext_get_or 0 c (p ++ x ∷ rest) (omega (arith, same, long_now)) (λ k inside.
    let out : (k < length p) ⊎ (length p + 1 ≤ k) → get_or c k 0 ≡ get_or (p ++ x ∷ rest) k 0 = λ where_is.
    torn.untouched k (omega (arith, inside, same, long)) (elim where_is as (λ _. (k < at) ⊎ (at + 1 ≤ k)) [ inl low ↦ inl (omega (arith, low, here)) | inr high ↦ inr (omega (arith, high, here)) ])
    ∙ other_bytes p rest g x k where_is in
    elim (cases_lt k (length p)) as (λ _. get_or c k 0 ≡ get_or (p ++ x ∷ rest) k 0) [
      | inl low ↦ out (inl low)
      | inr past ↦ elim (cases_lt k (length p + 1)) as (λ _. get_or c k 0 ≡ get_or (p ++ x ∷ rest) k 0) [
        | inl near ↦ (let is : k ≡ length p = omega (arith, past, near) in
            ap (λ n. get_or c n 0) (is ∙ sym here) ∙ sym (ap (λ n. get_or (p ++ x ∷ rest) n 0) is ∙ get_or-append_seam p x rest 0))
        | inr high ↦ out (inr high)
      ]
    ])

-- a write right behind what stands in front
pub written_behind : (at : ℕ) (bytes p rest : List ℕ) → at ≡ length p → written at bytes (p ++ rest) ≡ p ++ (bytes ++ drop (length bytes) rest)
written_behind at bytes p rest here =
    let front : take at (p ++ rest) ≡ p = ap (λ n. take n (p ++ rest)) here ∙ take-append_seam p rest in
    let gap : at - length (p ++ rest) ≡ 0 = omega (arith, here, length-append p rest) in
    let zeros : replicate (at - length (p ++ rest)) 0 ≡ [] = ap (λ n. replicate n 0) gap in
    let behind : drop (at + length bytes) (p ++ rest) ≡ drop (length bytes) rest = ap (λ n. drop (n + length bytes) (p ++ rest)) here ∙ drop-append-add p rest (length bytes) in
    ap (λ (l : List ℕ). ((l ++ replicate (at - length (p ++ rest)) 0) ++ bytes) ++ drop (at + length bytes) (p ++ rest)) front
    ∙ ap (λ (l : List ℕ). ((p ++ l) ++ bytes) ++ drop (at + length bytes) (p ++ rest)) zeros
    ∙ ap (λ (l : List ℕ). (l ++ bytes) ++ drop (at + length bytes) (p ++ rest)) (append-nil p)
    ∙ ap (λ (l : List ℕ). (p ++ bytes) ++ l) behind
    ∙ append_assoc p bytes (drop (length bytes) rest)
