-- Where the bodies of a journal stand.
use Rattle.std.proofs.Common.{◌≡◌, ℕ, ◌+◌, List, [], ◌∷◌, ◌++◌, length, take, drop, suc, refl, inl, inr, ap, subst, sym, ◌∙◌, arith, append_assoc, length-append}
use Rattle.std.specs.Int.{w32, to_be_bytes}
use Rattle.std.proofs.Math.Seq.{take-append_seam, drop-append-add}
use Rattle.journal_gates.specs.declared.head.Head.{Head}
use Rattle.journal_gates.specs.Header.{header}
use Rattle.journal_gates.specs.Records.{record_bytes, records, front}
use Rattle.journal_gates.specs.Spelled.{Spells}
use Rattle.journal_gates.specs.Heads.{heads_of, AreInRow, AreBodies}
use Rattle.journal_gates.proofs.SpellingLemmas.{length-header}

pub length-front : (bodies : List (List ℕ)) → length (front bodies) ≡ 16 + length (records bodies)
length-front bodies = omega (arith, length-append header (records bodies), length-header)

pub length_heads : (gate : ℕ) (bodies : List (List ℕ)) → length (heads_of gate bodies) ≡ length bodies
length_heads gate [] = refl
length_heads gate (body ∷ bodies) = ap suc (length_heads (gate + 5 + length body) bodies)

-- a row ends behind its bodies and the closed gate
pub row_end : (gate end : ℕ) (bodies : List (List ℕ)) → AreInRow gate (heads_of gate bodies) end → end ≡ gate + length (records bodies) + 1
row_end gate end [] row = omega (arith, row)
row_end gate end (body ∷ bodies) row =
    omega (arith, row_end (gate + 5 + length body) end bodies row.2, length-append (record_bytes body) (records bodies), length-append (to_be_bytes w32 (length body)) body)

-- the heads with one body more, whose gate is here
pub heads_more : (from gate : ℕ) (bodies : List (List ℕ)) (body : List ℕ) → gate ≡ from + length (records bodies)
    → heads_of from (bodies ++ body ∷ []) ≡ heads_of from bodies ++ record { gate = gate; body = gate + 5; bytes = length body } ∷ []
heads_more from gate [] body here = ap (λ n. record { gate = n; body = n + 5; bytes = length body } ∷ []) (omega (arith, here))
heads_more from gate (first ∷ bodies) body here = ap (λ (heads : List Head). record { gate = from; body = from + 5; bytes = length first } ∷ heads)
    (heads_more (from + 5 + length first) gate bodies body (omega (arith, here, length-append (record_bytes first) (records bodies), length-append (to_be_bytes w32 (length first)) first)))

-- a body stands behind its gate and the four bytes of its length
body_behind : (bytes pre rest body : List ℕ) (gate : ℕ) → gate ≡ length pre → bytes ≡ pre ++ (record_bytes body ++ rest) → take (length body) (drop (gate + 5) bytes) ≡ body
body_behind bytes pre rest body gate here whole =
    let behind : drop (gate + 5) bytes ≡ body ++ rest = ap (drop (gate + 5)) whole ∙ ap (λ n. drop (n + 5) (pre ++ (record_bytes body ++ rest))) here ∙ drop-append-add pre (record_bytes body ++ rest) 5 in
    ap (take (length body)) behind ∙ take-append_seam body rest

-- the heads lead to the bodies behind what stands in front
lead : (bytes pre tail : List ℕ) (bodies : List (List ℕ)) (gate : ℕ) → gate ≡ length pre → bytes ≡ pre ++ (records bodies ++ tail) → AreBodies bytes (heads_of gate bodies) bodies
lead bytes pre tail [] gate here whole = tt
lead bytes pre tail (body ∷ bodies) gate here whole =
    let rest = records bodies ++ tail in
    let first : bytes ≡ pre ++ (record_bytes body ++ rest) = whole ∙ ap (λ (l : List ℕ). pre ++ l) (append_assoc (record_bytes body) (records bodies) tail) in (
      body_behind bytes pre rest body gate here first,
      lead bytes (pre ++ record_bytes body) tail bodies (gate + 5 + length body)
          (omega (arith, here, length-append pre (record_bytes body), length-append (to_be_bytes w32 (length body)) body)) (first ∙ sym (append_assoc pre (record_bytes body) rest)),
    )

pub heads_lead : (bytes : List ℕ) (bodies : List (List ℕ)) → Spells bytes bodies → AreBodies bytes (heads_of 16 bodies) bodies
heads_lead bytes bodies (inl few) = subst (λ (b : List (List ℕ)). AreBodies bytes (heads_of 16 b) b) (sym few.1) tt
heads_lead bytes bodies (inr long) = lead bytes header (long.gate ∷ long.rest) bodies 16 (sym length-header) (long.whole ∙ append_assoc header (records bodies) (long.gate ∷ long.rest))

pub heads_grow : (bodies : List (List ℕ)) (body : List ℕ) → let gate = length (front bodies) in heads_of 16 (bodies ++ body ∷ []) ≡ heads_of 16 bodies ++ record { gate = gate; body = gate + 5; bytes = length body } ∷ []
heads_grow bodies body = heads_more 16 (length (front bodies)) bodies body (length-front bodies)
