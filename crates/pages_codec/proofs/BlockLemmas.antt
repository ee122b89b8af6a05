-- Reading blocks, as the loops do.
use Rattle.std.specs.Prelude.{◌≡◌, ℕ, suc, ◌+◌, ◌-◌, ◌<◌, ◌≤◌, List, [], ◌∷◌, ◌++◌, map, Option, Some, None, Result, Ok, Err, refl}
use Rattle.std.proofs.Common.{sym, ap, ◌∙◌, arith, append_assoc}
use Rattle.std.proofs.lemmas.List.{append-nil, map_push}
use Rattle.base_types.specs.declared.posting.Posting.{Posting}
use Rattle.pages_codec.specs.declared.error.ReadError.{ReadError}
use Rattle.pages_codec.specs.declared.error.ReadError.TheVariants.{Form, Memory}
use Rattle.pages_codec.specs.Fields.{Fields, fields}
use Rattle.base_types.specs.Reading.{◌>>=◌}
use Rattle.pages_codec.specs.Steps.{last_of}
use Rattle.pages_codec.specs.Gives.{Fails, with_front}
use Rattle.pages_codec.specs.Blocks.{next_at, others_at, block_at, blocks_at}
use Rattle.pages_codec.proofs.AllAt.{IsRead, begins}

-- ---- postings one after the other

regroup : (front : List Fields) (p : Fields) (read : Result (List Fields × List ℕ) ℕ) → with_front front (read >>= λ x. Ok (p ∷ x.0, x.1)) ≡ with_front (front ++ p ∷ []) read
regroup front p (Ok x) = ap (λ (ps : List Fields). Ok (ps, x.1)) (simp append_assoc)
regroup front p (Err left) = refl

pub goes_on : (front : List Fields) (count i : ℕ) (q : Fields) (bytes : List ℕ) (p : Fields) (behind : List ℕ) (total : Result (List Fields × List ℕ) ℕ) → i < count → next_at q bytes ≡ Ok (p, behind)
    → with_front front (others_at (count - i) q bytes) ≡ total → with_front (front ++ p ∷ []) (others_at (count - (i + 1)) p behind) ≡ total
unfolding others_at
goes_on front count i q bytes p behind total lt h so_far =
    let k : count - i ≡ suc (count - (i + 1)) = omega arith in
    sym (regroup front p (others_at (count - (i + 1)) p behind)) ∙ (rw (k, h) at so_far)

pub ends : (e : ReadError) (front : List Fields) (count i : ℕ) (q : Fields) (bytes : List ℕ) (total : Result (List Fields × List ℕ) ℕ) → i < count → Fails e (next_at q bytes)
    → with_front front (others_at (count - i) q bytes) ≡ total → Fails e total
unfolding others_at
ends Memory front count i q bytes total lt h so_far = tt
ends (Form left) front count i q bytes total lt h so_far =
    let k : count - i ≡ suc (count - (i + 1)) = omega arith in
    sym (rw (k, h) at so_far)

pub is_done : (front : List Fields) (count i : ℕ) (q : Fields) (bytes : List ℕ) (total : Result (List Fields × List ℕ) ℕ) → count ≤ i → with_front front (others_at (count - i) q bytes) ≡ total → total ≡ Ok (front, bytes)
unfolding others_at
is_done front count i q bytes total le so_far =
    let k : count - i ≡ 0 = omega arith in
    sym (rw k at so_far) ∙ ap (λ (ps : List Fields). Ok (ps, bytes)) (append-nil front)

-- ---- for the loop over blocks

pub blocks_begin : (bytes : List ℕ) → IsRead block_at (blocks_at bytes) [] None bytes
unfolding blocks_at
blocks_begin bytes = begins block_at None bytes

last_of-push : (before : Option Fields) (xs : List Fields) (x : Fields) → last_of before (xs ++ x ∷ []) ≡ Some x
last_of-push before [] x = refl
last_of-push before (y ∷ xs) x = last_of-push (Some y) xs x

pub last_is : (before : Option Fields) (list front : List Posting) (p : Posting) → list ≡ front ++ p ∷ [] → Some (fields p) ≡ last_of before (map fields list)
last_is before list front p e = sym (ap (λ (ps : List Posting). last_of before (map fields ps)) e ∙ ap (last_of before) (map_push fields front p) ∙ last_of-push before (map fields front) (fields p))
