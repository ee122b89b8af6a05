-- Reading front after front, as a loop does.
use Rattle.std.specs.Prelude.{◌≡◌, ℕ, zero, suc, ◌+◌, ◌-◌, ◌<◌, ◌≤◌, List, [], ◌∷◌, ◌++◌, length, Option, Result, Ok, Err, refl}
use Rattle.std.proofs.Common.{sym, ap, subst, ◌∙◌, append_assoc, arith}
use Rattle.base_types.specs.Reading.{◌>>=◌}
use Rattle.pages_codec.specs.Steps.{last_of, all_at}
use Rattle.base_types.proofs.Bytes.{IsBytes}
use Rattle.pages_codec.proofs.Readings.{Reads, StandsIn, stands_within, reads_ok, reads_err, reads_then}

-- what was read before, and what is still read
abbrev pub with_front : {A : Type 0} → List A → Result (List A) ℕ → Result (List A) ℕ
with_front front read = read >>= λ xs. Ok (front ++ xs)

-- total is what was read, and then what reading the rest behind this value gives
pub record IsRead {A : Type 0} (front_at : Option A → List ℕ → Result (List A × List ℕ) ℕ) (total : Result (List A) ℕ) (front : List A) (before : Option A) (rest : List ℕ) : Type 0 where
  pub readings : ℕ
  pub enough : length rest ≤ readings
  pub same : with_front front (all_at front_at readings before rest) ≡ total

with_none : {A : Type 0} (read : Result (List A) ℕ) → with_front [] read ≡ read
with_none (Ok xs) = refl
with_none (Err left) = refl

regroup : {A : Type 0} (front xs : List A) (read : Result (List A) ℕ) → with_front front (read >>= λ ys. Ok (xs ++ ys)) ≡ with_front (front ++ xs) read
regroup front xs (Ok ys) = ap (λ zs. Ok zs) (simp append_assoc)
regroup front xs (Err left) = refl

pub begins : {A : Type 0} (front_at : Option A → List ℕ → Result (List A × List ℕ) ℕ) (before : Option A) (bytes : List ℕ) → IsRead front_at (all_at front_at (length bytes) before bytes) [] before bytes
begins front_at before bytes = record { readings = length bytes; enough = omega arith; same = with_none (all_at front_at (length bytes) before bytes) }

-- where bytes are left, one front is read, and then the others
all_more : {A : Type 0} (front_at : Option A → List ℕ → Result (List A × List ℕ) ℕ) (n : ℕ) (before : Option A) (bytes : List ℕ) → 0 < length bytes → length bytes ≤ n
    → all_at front_at n before bytes ≡ (front_at before bytes >>= λ x. all_at front_at (n - 1) (last_of before x.0) x.1 >>= λ ys. Ok (x.0 ++ ys))
all_more front_at n before [] some le = absurd (omega arith)
all_more front_at zero before (b ∷ bytes) some le = absurd (omega arith)
all_more front_at (suc n) before (b ∷ bytes) some le =
    let e : n ≡ suc n - 1 = omega arith in
    ap (λ k. front_at before (b ∷ bytes) >>= λ x. all_at front_at k (last_of before x.0) x.1 >>= λ ys. Ok (x.0 ++ ys)) e

pub goes_on : {A : Type 0} (front_at : Option A → List ℕ → Result (List A × List ℕ) ℕ) (total : Result (List A) ℕ) (front : List A) (before : Option A) (rest : List ℕ) (xs : List A) (behind : List ℕ)
    → IsRead front_at total front before rest → 0 < length rest → front_at before rest ≡ Ok (xs, behind) → length behind < length rest
    → IsRead front_at total (front ++ xs) (last_of before xs) behind
goes_on front_at total front before rest xs behind r some e shorter =
    let enough = r.enough in
    record {
      readings = r.readings - 1;
      enough = omega arith;
      same = sym (regroup front xs (all_at front_at (r.readings - 1) (last_of before xs) behind)) ∙ (rw e at (ap (with_front front) (sym (all_more front_at r.readings before rest some enough)) ∙ r.same));
    }

pub ends : {A : Type 0} (front_at : Option A → List ℕ → Result (List A × List ℕ) ℕ) (total : Result (List A) ℕ) (front : List A) (before : Option A) (rest : List ℕ) (left : ℕ)
    → IsRead front_at total front before rest → 0 < length rest → front_at before rest ≡ Err left → total ≡ Err left
ends front_at total front before rest left r some e = sym (rw e at (ap (with_front front) (sym (all_more front_at r.readings before rest some r.enough)) ∙ r.same))

-- one front, and then the others
pub all_step : {A : Type 0} (front_at : Option A → List ℕ → Result (List A × List ℕ) ℕ) (n : ℕ) (before : Option A) (bytes : List ℕ) (xs : List A) (behind : List ℕ) → 0 < length bytes → front_at before bytes ≡ Ok (xs, behind)
    → all_at front_at (suc n) before bytes ≡ (all_at front_at n (last_of before xs) behind >>= λ ys. Ok (xs ++ ys))
all_step front_at n before [] xs behind some e = absurd (omega arith)
all_step front_at n before (b ∷ bytes) xs behind some e = rw e refl

-- What holds of no values at no bytes, and of a front and what holds of the others behind it, holds of all that is read.
pub all_reads : {A : Type 0} (front_at : Option A → List ℕ → Result (List A × List ℕ) ℕ) (spell : List A → List ℕ) (Is : Option A → List A × List ℕ → Type 0) (Are : Option A → List ℕ → List A → Type 0)
    → ((before : Option A) → Are before [] [])
    → ((before : Option A) (bytes : List ℕ) → IsBytes bytes → Reads (StandsIn spell (Is before) bytes) (length bytes) (front_at before bytes))
    → ((before : Option A) (x : List A × List ℕ) (ys : List A) → Is before x → Are (last_of before x.0) x.1 ys → Are before (spell x.0 ++ x.1) (x.0 ++ ys))
    → (n : ℕ) (before : Option A) (bytes : List ℕ) → IsBytes bytes → Reads (Are before bytes) (length bytes) (all_at front_at n before bytes)
all_reads front_at spell Is Are none front more n before [] fits = reads_ok (Are before []) 0 [] (none before)
all_reads front_at spell Is Are none front more zero before (b ∷ bytes) fits = reads_err (Are before (b ∷ bytes)) (length (b ∷ bytes)) (length bytes + 1) (omega arith)
all_reads front_at spell Is Are none front more (suc n) before (b ∷ bytes) fits =
    reads_then (StandsIn spell (Is before) (b ∷ bytes)) (Are before (b ∷ bytes)) (length (b ∷ bytes)) (length (b ∷ bytes)) (front_at before (b ∷ bytes)) _ (front before (b ∷ bytes) fits) (omega arith) (λ x is.
    reads_then (Are (last_of before x.0) x.1) (Are before (b ∷ bytes)) (length x.1) (length (b ∷ bytes)) (all_at front_at n (last_of before x.0) x.1) _ (all_reads front_at spell Is Are none front more n (last_of before x.0) x.1 is.rest_fits) (stands_within spell (Is before) (b ∷ bytes) x is) (λ ys are.
    reads_ok (Are before (b ∷ bytes)) (length (b ∷ bytes)) (x.0 ++ ys) (subst (λ (bs : List ℕ). Are before bs (x.0 ++ ys)) (sym is.parts) (more before x ys is.holds are))))
