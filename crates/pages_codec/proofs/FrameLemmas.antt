-- Reading headers, as the loop does, and where the blocks begin.
use Rattle.std.specs.Prelude.{◌≡◌, ℕ, ◌+◌, ◌-◌, ◌<◌, ◌≤◌, cond, nat_lt, nat_le, ◌&&◌, List, [], ◌∷◌, ◌++◌, length, map, take, drop, get_or, sum_by, slice_index, Option, Some, None, Ok, Err, refl}
use Rattle.std.proofs.Common.{sym, ap, subst, ◌∙◌, inl, inr, arith}
use Rattle.std.proofs.lemmas.Bool.{cases_lt, and_parts, ltb-false, leb-true}
use Rattle.std.proofs.lemmas.List.{length-append, length-drop, map_push, take_all, take-append-le, get_or_append_left, get_or_default, get_or_push}
use Rattle.std.proofs.lemmas.List.Sums.{sum_by_push, sum_by_more, sum_by-take-le}
use Rattle.pages_codec.specs.declared.head.BlockHead.{BlockHead}
use Rattle.pages_codec.specs.Steps.{last_of}
use Rattle.pages_codec.specs.Blocks.{Head, head_front}
use Rattle.pages_codec.specs.Heads.{head_of}
use Rattle.pages_codec.specs.Frames.{may_frame, front_of, frame_at, frames_at, start_of, block_bytes, AreStarts}
use Rattle.pages_codec.proofs.Steps.{test_some, guard_some}
use Rattle.pages_codec.proofs.AllAt.{IsRead, begins, goes_on, ends}

abbrev head_size : BlockHead → ℕ
head_size h = 15 + h.size

front_shorter : (bytes : List ℕ) (head : Head) (behind : List ℕ) → front_of bytes ≡ Some (head, behind) → 15 + head.size + length behind ≡ length bytes
unfolding front_of
front_shorter bytes head behind e =
    let g = guard_some (nat_lt (length bytes) 15) (cond (may_frame (head_front bytes).0 (length (head_front bytes).1)) (Some ((head_front bytes).0, drop (head_front bytes).0.size (head_front bytes).1)) None) (head, behind) e in
    let t = test_some (may_frame (head_front bytes).0 (length (head_front bytes).1)) ((head_front bytes).0, drop (head_front bytes).0.size (head_front bytes).1) (head, behind) g.1 in
    let long = ltb-false (length bytes) 15 g.0 in
    let within = leb-true (head_front bytes).0.size (length (head_front bytes).1) (and_parts (nat_le 1 (head_front bytes).0.count && nat_le (head_front bytes).0.count 128) (nat_le (head_front bytes).0.size (length (head_front bytes).1)) t.0).1 in
    let rest = length-drop (head_front bytes).0.size (head_front bytes).1 in
    let all : length (head_front bytes).1 + 15 ≡ length bytes = omega (arith, length-drop 1 bytes, length-drop 2 (drop 1 bytes), length-drop 4 (drop 2 (drop 1 bytes)), length-drop 4 (drop 4 (drop 2 (drop 1 bytes))), length-drop 4 (drop 4 (drop 4 (drop 2 (drop 1 bytes))))) in
    subst (λ (x : Head × List ℕ). 15 + x.0.size + length x.1 ≡ length bytes) t.1 (omega arith)

frame_ok : (before : Option Head) (bytes : List ℕ) (read : Head × List ℕ) → front_of bytes ≡ Some read → frame_at before bytes ≡ Ok (read.0 ∷ [], read.1)
unfolding frame_at
frame_ok before bytes read e = rw e refl

frame_err : (before : Option Head) (bytes : List ℕ) → front_of bytes ≡ None → frame_at before bytes ≡ Err (length bytes)
unfolding frame_at
frame_err before bytes e = rw e refl

-- ---- where blocks begin

-- the block of this number ends where the next begins, inside all blocks
pub starts_next : (len : ℕ) (heads : List BlockHead) (starts : List ℕ) (n : ℕ) (d : BlockHead) → AreStarts len heads starts → n < length heads
    → (start_of heads (n + 1) ≡ start_of heads n + head_size (get_or heads n d)) × (start_of heads (n + 1) ≤ len)
starts_next len heads starts n d are lt =
    let more = sum_by_more head_size heads n d lt in
    let all = ap (sum_by head_size) (take_all (length heads) heads (omega arith)) in
    let inside = are.inside in
    (more, omega (arith, sum_by-take-le head_size heads (n + 1)))

-- so its bytes stand there
pub block_place : (bytes : List ℕ) (heads : List BlockHead) (starts : List ℕ) (n start : ℕ) (h : BlockHead) → AreStarts (length bytes) heads starts → n < length heads → start ≡ get_or starts n start → h ≡ get_or heads n h
    → (start ≡ start_of heads n) × (start + 15 + h.size ≤ length bytes) × (take (start + 15 + h.size - start) (drop start bytes) ≡ block_bytes (record { bytes = bytes; heads = heads }) n)
block_place bytes heads starts n start h are lt is head =
    let count = are.count in
    let at : start ≡ start_of heads n = is ∙ get_or_default starts n start 0 (omega arith) ∙ are.each n lt in
    let next = starts_next (length bytes) heads starts n h are lt in
    let size : head_size (get_or heads n h) ≡ 15 + h.size = ap head_size (sym head) in
    let len : start + 15 + h.size - start ≡ start_of heads (n + 1) - start_of heads n = omega (arith, next.0) in
    (at, omega (arith, next.0, next.1), (λ i. take (len i) (drop (at i) bytes)))

starts_all : (heads : List BlockHead) (h : BlockHead) → start_of (heads ++ h ∷ []) (length (heads ++ h ∷ [])) ≡ start_of heads (length heads) + head_size h
starts_all heads h = ap (sum_by head_size) (take_all (length (heads ++ h ∷ [])) (heads ++ h ∷ []) (omega arith)) ∙ sum_by_push head_size heads h ∙ ap (λ (hs : List BlockHead). sum_by head_size hs + head_size h) (sym (take_all (length heads) heads (omega arith)))

starts_push : (len : ℕ) (heads : List BlockHead) (starts : List ℕ) (h : BlockHead) (start : ℕ) → AreStarts len heads starts → start ≡ start_of heads (length heads) → start + head_size h ≤ len → AreStarts len (heads ++ h ∷ []) (starts ++ start ∷ [])
starts_push len heads starts h start are is inside = record {
  count = omega (arith, length-append heads (h ∷ []), length-append starts (start ∷ []), are.count);
  each = λ n lt. elim (cases_lt n (length heads)) as (λ _. slice_index (starts ++ start ∷ []) n ≡ start_of (heads ++ h ∷ []) n) [
    | inl before ↦ get_or_append_left starts (start ∷ []) 0 n (omega (arith, are.count)) ∙ are.each n before ∙ sym (ap (sum_by head_size) (take-append-le n heads (h ∷ []) (omega arith)))
    | inr behind ↦ (let last : n ≡ length heads = omega (arith, length-append heads (h ∷ [])) in
        get_or_push starts start 0 n (omega (arith, are.count)) ∙ is ∙ ap (start_of heads) (sym last) ∙ sym (ap (sum_by head_size) (take-append-le n heads (h ∷ []) (omega arith))))
  ];
  inside = omega (arith, starts_all heads h);
}

-- ---- for the loop

-- these headers were read, and the rest is still to be read
pub record IsFramed (bytes : List ℕ) (heads : List BlockHead) (starts : List ℕ) (rest : List ℕ) : Type 0 where
  pub before : Option Head
  pub read : IsRead frame_at (frames_at bytes) (map head_of heads) before rest
  pub starts_are : AreStarts (length bytes) heads starts
  pub rest_is : start_of heads (length heads) + length rest ≡ length bytes

pub framed_begins : (bytes : List ℕ) → IsFramed bytes [] [] bytes
unfolding frames_at
framed_begins bytes = record {
  before = None;
  read = begins frame_at None bytes;
  starts_are = record { count = refl; each = λ n lt. absurd (omega arith); inside = omega arith };
  rest_is = omega arith;
}

pub framed_more : (bytes : List ℕ) (heads : List BlockHead) (starts : List ℕ) (rest : List ℕ) (h : BlockHead) (behind : List ℕ) (start : ℕ) → IsFramed bytes heads starts rest → start + length rest ≡ length bytes
    → front_of rest ≡ Some (head_of h, behind) → IsFramed bytes (heads ++ h ∷ []) (starts ++ start ∷ []) behind
framed_more bytes heads starts rest h behind start f at e =
    let shorter = front_shorter rest (head_of h) behind e in
    let is = f.rest_is in
    let next = goes_on frame_at (frames_at bytes) (map head_of heads) f.before rest (head_of h ∷ []) behind f.read (omega arith) (frame_ok f.before rest (head_of h, behind) e) (omega arith) in
    let here : start ≡ start_of heads (length heads) = omega arith in
    let all = starts_push (length bytes) heads starts h start f.starts_are here (omega arith) in
    record {
      before = last_of f.before (head_of h ∷ []);
      read = subst (λ (hs : List Head). IsRead frame_at (frames_at bytes) hs (last_of f.before (head_of h ∷ [])) behind) (sym (map_push head_of heads h)) next;
      starts_are = all;
      rest_is = omega (arith, starts_all heads h);
    }

pub framed_shorter : (rest : List ℕ) (h : Head) (behind : List ℕ) → front_of rest ≡ Some (h, behind) → length behind < length rest
framed_shorter rest h behind e = omega (arith, front_shorter rest h behind e)

pub framed_fails : (bytes : List ℕ) (heads : List BlockHead) (starts : List ℕ) (rest : List ℕ) → IsFramed bytes heads starts rest → 0 < length rest → front_of rest ≡ None → frames_at bytes ≡ Err (length rest)
framed_fails bytes heads starts rest f some e = ends frame_at (frames_at bytes) (map head_of heads) f.before rest (length rest) f.read some (frame_err f.before rest e)
