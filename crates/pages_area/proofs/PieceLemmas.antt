-- The pieces of bytes.
use Rattle.std.proofs.Common.{◌≡◌, ℕ, zero, suc, ◌+◌, ◌-◌, ◌*◌, ◌<◌, ◌≤◌, min, List, [], ◌∷◌, ◌++◌, length, take, drop, All, refl, sym, ap, subst, ◌∙◌, inl, inr, arith}
use Rattle.std.proofs.Math.Seq.{take-add}
use Rattle.std.proofs.lemmas.Bool.{cases_lt}
use Rattle.std.proofs.lemmas.List.{length-append, length-take, length-drop, take-take, take_min, drop-take, drop-drop}
use Rattle.std.proofs.lemmas.List.FromFn.{fill_by_all, length-map-range_with_len, get_or-map-range_with_len, map-range_with_len_more}
use Rattle.std.proofs.lemmas.Slice.{between-put_mid, take-put_mid_below}
use borrow.Rule.Slice.PartMut.{put_mid}
use Rattle.pages_area.specs.Caches.{Kept, IsHeld}
use Rattle.pages_area.specs.Pieces.{piece, first_pieces}

-- what holds of the pieces holds of each
pub each-piece : (P : Kept → Type 0) (n first : ℕ) (bytes : List ℕ) → All P (first_pieces n first bytes) → (k : ℕ) → k < n → P (piece first bytes k)
each-piece P n first bytes all k below =
    subst P (get_or-map-range_with_len (piece first bytes) 0 n k k (piece first bytes 0) below (omega arith))
    (all k (piece first bytes 0) (omega (arith, length-map-range_with_len (piece first bytes) 0 n)))

-- the first pieces are by the bytes up to their end
piece-front : (n k : ℕ) (bytes : List ℕ) → k < n → take 4096 (drop (4096 * k) bytes) ≡ drop (4096 * k) (take (4096 * k + 4096) (take (4096 * n) bytes))
piece-front n k bytes below =
    sym (drop-take (4096 * k) 4096 bytes) ∙ ap (drop (4096 * k)) (sym (take-take (4096 * k + 4096) (4096 * n) bytes (omega arith)))

pub pieces-same : (n first : ℕ) (xs ys : List ℕ) → take (4096 * n) xs ≡ take (4096 * n) ys → first_pieces n first xs ≡ first_pieces n first ys
pieces-same n first xs ys same =
    fill_by_all (piece first ys) (first_pieces n first xs) n (piece first xs 0) (length-map-range_with_len (piece first xs) 0 n) (λ k below.
    get_or-map-range_with_len (piece first xs) 0 n k k (piece first xs 0) below (omega arith)
    ∙ ap (λ l. record { page = first + k; bytes = l }) (piece-front n k xs below ∙ ap (λ l. drop (4096 * k) (take (4096 * k + 4096) l)) same ∙ sym (piece-front n k ys below)))

-- Where each piece is what Pages holds, so are the bytes.
pub pieces-held : (n m first : ℕ) (bytes pages : List ℕ) → m ≤ 4096 * n → m ≤ length bytes → ((k : ℕ) → k < n → IsHeld pages (piece first bytes k))
    → take m bytes ≡ take m (drop (first * 4096) pages)
pieces-held zero m first bytes pages low within held = let none : m ≡ 0 = omega arith in rw none refl
pieces-held (suc n) m first bytes pages low within held = elim (cases_lt m (4096 * n)) [
  | inl before ↦ pieces-held n m first bytes pages (omega arith) within (λ k below. held k (omega arith))
  | inr from ↦ (
      let at : ℕ = 4096 * n in
      let r : ℕ = m - at in
      let there : List ℕ = drop (first * 4096) pages in
      let k : Kept = piece first bytes n in
      let is : m ≡ at + r = omega arith in
      let page : k.page * 4096 ≡ first * 4096 + at = omega arith in
      let long : r ≤ length k.bytes = omega (arith, length-take 4096 (drop at bytes), length-drop at bytes) in
      let front : take at bytes ≡ take at there = pieces-held n at first bytes pages (omega arith) (omega arith) (λ i below. held i (omega arith)) in
      let last : k.bytes ≡ take (length k.bytes) (drop at there) =
      (held n (omega arith)).bytes ∙ ap (take (length k.bytes)) (ap (λ i. drop i pages) page ∙ sym (drop-drop at (first * 4096) pages)) in
      let rest : take r (drop at bytes) ≡ take r (drop at there) =
      sym (take-take r 4096 (drop at bytes) (omega arith)) ∙ ap (take r) last ∙ take-take r (length k.bytes) (drop at there) long in
      ap (λ i. take i bytes) is ∙ take-add at r bytes ∙ rw (front, rest) refl ∙ sym (take-add at r there) ∙ ap (λ i. take i there) (sym is))
]

-- A part of `bytes` that is written leaves the pieces in front, and is the piece there.
pub written-pieces : (first n end : ℕ) (bytes part : List ℕ) → 4096 * n ≤ length bytes → end ≡ min (length bytes) (4096 * (n + 1)) → length part ≡ end - 4096 * n
    → (first_pieces n first (put_mid (4096 * n) (end - 4096 * n) bytes part) ≡ first_pieces n first bytes)
    × (first_pieces (n + 1) first (put_mid (4096 * n) (end - 4096 * n) bytes part) ≡ first_pieces n first bytes ++ record { page = first + n; bytes = part } ∷ [])
written-pieces first n end bytes part within end_is long =
    let at : ℕ = 4096 * n in
    let written : List ℕ = put_mid at (end - at) bytes part in
    let kept : first_pieces n first written ≡ first_pieces n first bytes =
    pieces-same n first written bytes (take-put_mid_below at (end - at) bytes part at (omega arith) within) in
    let rest : List ℕ = drop (end - at) (drop at bytes) in
    let size : min 4096 (length (drop at written)) ≡ end - at = omega (
      arith,
      length-drop at written,
      length-append (take at bytes) (part ++ rest),
      length-append part rest,
      length-take at bytes,
      length-drop (end - at) (drop at bytes),
      length-drop at bytes,
    ) in
    let here : take 4096 (drop at written) ≡ part =
    sym (take_min 4096 (drop at written)) ∙ ap (λ m. take m (drop at written)) size ∙ between-put_mid at (end - at) bytes part end within long in
    (kept, map-range_with_len_more (piece first written) 0 n n (omega arith) ∙ rw (kept, here) refl)
