-- What a write leaves of an area's bytes.
use Rattle.std.proofs.Common.{◌≡◌, ◌⊎◌, ℕ, ◌+◌, ◌-◌, ◌<◌, ◌≤◌, ◌^◌, max, List, ◌∷◌, ◌++◌, length, take, drop, replicate, slice_index, get_or, arith, inl, inr, ◌∙◌, ap, length-append, length-drop, Fits, w8}
use Rattle.std.proofs.lemmas.List.{length-take, length-replicate, get_or-append_right, get_or-drop, places}
use Rattle.std.proofs.lemmas.List.Elements.{All-append, All-take, All-drop, All-replicate, All-from_get_or}
use Rattle.machine_model.specs.Images.{IsAllowed, AreBytes}
use Rattle.machine_model.specs.Calls.{written}
use Rattle.machine_model.specs.declared.range.Range.{Range}
use Rattle.machine_mem.specs.Stores.{IsSound}

pub length-written : (at : ℕ) (bytes old : List ℕ) → length (written at bytes old) ≡ max (length old) (at + length bytes)
length-written at bytes old = simp (length-append, length-take, length-drop, length-replicate) (omega arith)

-- the bytes outside the range stay
pub get_or-written : (at : ℕ) (bytes old : List ℕ) (k : ℕ) → k < length old → (k < at) ⊎ (at + length bytes ≤ k)
    → slice_index (written at bytes old) k ≡ slice_index old k
get_or-written at bytes old k within (inl before) = grind (arith, places)
get_or-written at bytes old k within (inr behind) =
    let front : List ℕ = take at old ++ replicate (at - length old) 0 ++ bytes in
    let long : length front ≡ at + length bytes = simp (length-append, length-take, length-replicate) (omega arith) in
    let place : at + length bytes + (k - (at + length bytes)) ≡ k = omega arith in
    get_or-append_right front (drop (at + length bytes) old) (at + length bytes) k 0 long behind
    ∙ get_or-drop (at + length bytes) old (k - (at + length bytes)) 0 ∙ ap (λ i. get_or old i 0) place

pub AreBytes-written : (at : ℕ) (bytes old : List ℕ) → AreBytes bytes → AreBytes old → AreBytes (written at bytes old)
AreBytes-written at bytes old new was =
    let P : ℕ → Type 0 = λ b. b < 2 ^ 8 in
    All-append P _ _ (All-append P _ _ (All-append P _ _ (All-take P at old was) (All-replicate P _ 0 (omega arith))) new) (All-drop P _ old was)

-- what the machine knows of a slice of bytes
pub AreBytes-from_fits : (bytes : List ℕ) → ((i : ℕ) → Fits w8 (get_or bytes i 0)) → AreBytes bytes
AreBytes-from_fits bytes fits = All-from_get_or (λ b. b < 2 ^ 8) bytes 0 (λ i within. omega (arith, fits i))

pub AreBytes-take : (n : ℕ) (bytes : List ℕ) → AreBytes bytes → AreBytes (take n bytes)
AreBytes-take n bytes are = All-take (λ b. b < 2 ^ 8) n bytes are

-- an image is one more after a write whose range is pending, whether any of its bytes came through or not
written_allowed_lem : (stable : List ℕ) (pending : List Range) (old : List ℕ) (at n : ℕ) (bytes : List ℕ) → IsAllowed stable pending old
    → AreBytes bytes → length bytes ≤ n → IsAllowed stable (record { at = at; count = n } ∷ pending) (written at bytes old)
written_allowed_lem stable pending old at n bytes was new short = record {
  no_shorter = omega (arith, length-written at bytes old, was.no_shorter);
  no_longer = omega (arith, length-written at bytes old, was.no_longer);
  untouched = λ k within untouched.
      let outside : (k < at) ⊎ (at + length bytes ≤ k) = elim untouched.0 [ inl before ↦ inl before | inr behind ↦ inr (omega arith) ] in
      get_or-written at bytes old k (omega (arith, was.no_shorter)) outside ∙ was.untouched k within untouched.1;
  bytes = AreBytes-written at bytes old new was.bytes;
}

written_sound_lem : (stable : List ℕ) (pending : List Range) (old : List ℕ) (at : ℕ) (bytes : List ℕ) → IsSound stable pending old
    → AreBytes bytes → at + length bytes ≤ 2 ^ 40 → IsSound stable (record { at = at; count = length bytes } ∷ pending) (written at bytes old)
written_sound_lem stable pending old at bytes was new fits = record {
  bytes = was.bytes;
  allowed = written_allowed_lem stable pending old at (length bytes) bytes was.allowed new (omega arith);
  whole = length-written at bytes old ∙ omega (arith, was.whole);
  limit = omega (arith, length-written at bytes old, was.limit);
}

-- the same of lists that are equal to these
pub written_allowed : {stable : List ℕ} {pending : List Range} {old : List ℕ} (at n : ℕ) (bytes : List ℕ) {stable' : List ℕ} {pending' : List Range} {new : List ℕ}
    → IsAllowed stable pending old → AreBytes bytes → length bytes ≤ n
    → stable' ≡ stable → pending' ≡ record { at = at; count = n } ∷ pending → new ≡ written at bytes old → IsAllowed stable' pending' new
written_allowed {stable} {pending} {old} at n bytes was allowed short same_stable ranges bytes_are =
    rw (same_stable, ranges, bytes_are) (written_allowed_lem stable pending old at n bytes was allowed short)

pub written_sound : {stable : List ℕ} {pending : List Range} {old : List ℕ} (at : ℕ) (bytes : List ℕ) {stable' : List ℕ} {pending' : List Range} {new : List ℕ}
    → IsSound stable pending old → AreBytes bytes → at + length bytes ≤ 2 ^ 40
    → stable' ≡ stable → pending' ≡ record { at = at; count = length bytes } ∷ pending → new ≡ written at bytes old → IsSound stable' pending' new
written_sound {stable} {pending} {old} at bytes was allowed fits same_stable ranges bytes_are =
    rw (same_stable, ranges, bytes_are) (written_sound_lem stable pending old at bytes was allowed fits)
