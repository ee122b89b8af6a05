-- The headers of a list that is spelled in blocks, and the bytes of each block.
use Rattle.std.specs.Prelude.{◌≡◌, ℕ, zero, suc, ◌+◌, ◌-◌, ◌<◌, ◌≤◌, true, false, cond, nat_lt, nat_le, List, [], ◌∷◌, ◌++◌, length, map, take, drop, get_or, Option, Some, None, Result, Ok, refl}
use Rattle.std.proofs.Common.{sym, ap, ap₂, subst, ◌∙◌, arith, append_assoc}
use Rattle.std.specs.List.{flat_map}
use Rattle.std.proofs.lemmas.Bool.{le-ltb, le-leb}
use Rattle.std.proofs.lemmas.List.{append-nil, length-append, length-take, length-drop, length-map, take-append-drop, take_at, drop_at, take_all, drop_all}
use Rattle.std.proofs.lemmas.List.Sums.{sum_by-cons}
use Rattle.base_types.specs.declared.posting.Posting.{Posting}
use Rattle.base_types.specs.Reading.{◌>>=◌}
use Rattle.lists_postings.specs.Lists.{IsList}
use Rattle.pages_codec.specs.Fields.{Fields, fields}
use Rattle.pages_codec.specs.Steps.{last_of, all_at}
use Rattle.pages_codec.specs.Blocks.{Head, inside, head_bytes, head_for, head_front, block, pieces, block_spelling}
use Rattle.pages_codec.specs.Heads.{head_of}
use Rattle.pages_codec.specs.Frames.{may_frame, front_of, frame_at, frames_at, start_of}
use Rattle.pages_codec.specs.declared.head.BlockHead.{BlockHead}
use Rattle.pages_codec.proofs.AllAt.{all_step}
use Rattle.pages_codec.proofs.FieldLemmas.{AreNext, next-parts, list_next}
use Rattle.pages_codec.proofs.WriteLemmas.{inside_length}
use Rattle.pages_codec.proofs.BlockWalk.{head_again, block_long, top_below, last_below, pieces_none}

-- ---- headers

-- a header in front, where a block may stand there
abbrev framed : Head × List ℕ → Option (Head × List ℕ)
framed front = cond (may_frame front.0 (length front.1)) (Some (front.0, drop front.0.size front.1)) None

front_again : (before : Option Fields) (p : Fields) (ps : List Fields) (rest : List ℕ) → AreNext before (p ∷ ps) → length (p ∷ ps) ≤ 128 → front_of (block (p ∷ ps) ++ rest) ≡ Some (head_for (p ∷ ps), rest)
unfolding front_of
front_again before p ps rest from most =
    let h = head_for (p ∷ ps) in
    let inner = inside (p ∷ ps) in
    let bytes = head_bytes h ++ (inner ++ rest) in
    let front : head_front bytes ≡ (h, inner ++ rest) = head_again h (inner ++ rest) (omega (arith, inside_length (p ∷ ps))) (top_below 0 before (p ∷ ps) (omega arith) from) from.0.allowed.numbered (last_below 0 before (p ∷ ps) (omega arith) from) in
    let long : nat_lt (length bytes) 15 ≡ false = le-ltb (length bytes) 15 (omega arith) in
    let some : nat_le 1 h.count ≡ true = le-leb 1 h.count (omega arith) in
    let few : nat_le h.count 128 ≡ true = le-leb h.count 128 most in
    let within : nat_le h.size (length (inner ++ rest)) ≡ true = le-leb h.size (length (inner ++ rest)) (omega (arith, length-append inner rest)) in
    let may : may_frame h (length (inner ++ rest)) ≡ true = rw (some, few, within) refl in
    ap front_of (append_assoc (head_bytes h) inner rest)
    ∙ ap (λ b. cond b None (framed (head_front bytes))) long
    ∙ ap framed front
    ∙ ap (λ b. cond b (Some (h, drop h.size (inner ++ rest))) None) may
    ∙ ap (λ (xs : List ℕ). Some (h, xs)) (drop_at inner rest h.size refl)

frame_again : (was : Option Head) (before : Option Fields) (p : Fields) (ps : List Fields) (rest : List ℕ) → AreNext before (p ∷ ps) → length (p ∷ ps) ≤ 128 → frame_at was (block (p ∷ ps) ++ rest) ≡ Ok (head_for (p ∷ ps) ∷ [], rest)
unfolding frame_at
frame_again was before p ps rest from most = rw (front_again before p ps rest from most) refl

frames_again : (n most : ℕ) (was : Option Head) (before : Option Fields) (ps : List Fields) → AreNext before ps → length ps ≤ most → length (flat_map block (pieces most ps)) ≤ n
    → all_at frame_at n was (flat_map block (pieces most ps)) ≡ Ok (map head_for (pieces most ps))
frames_again n zero was before [] from le long = refl
frames_again n (suc most) was before [] from le long = refl
frames_again n zero was before (p ∷ ps) from le long = absurd (omega arith)
frames_again zero (suc most) was before (p ∷ ps) from le long = absurd (omega (arith, block_long (take 128 (p ∷ ps)) (flat_map block (pieces most (drop 128 (p ∷ ps))))))
frames_again (suc n) (suc most) was before (p ∷ ps) from le long =
    let front = take 128 (p ∷ ps) in
    let back = drop 128 (p ∷ ps) in
    let rest = flat_map block (pieces most back) in
    let whole : front ++ back ≡ p ∷ ps = take-append-drop 128 (p ∷ ps) in
    let parts = next-parts before front back (subst (AreNext before) (sym whole) from) in
    let len = length-take 128 (p ∷ ps) in
    let less = length-drop 128 (p ∷ ps) in
    let bytes = block_long front rest in
    all_step frame_at n was (block front ++ rest) (head_for front ∷ []) rest (omega arith) (frame_again was before p (take 127 ps) rest parts.0 (omega arith))
    ∙ ap (λ (r : Result (List Head) ℕ). r >>= λ hs. Ok (head_for front ∷ hs)) (frames_again n most (Some (head_for front)) (last_of before front) back parts.1 (omega arith) (omega arith))

-- the headers of a list that is spelled in blocks are those of its pieces
pub spelled_frames : (list : List Posting) → IsList list → frames_at (block_spelling list) ≡ Ok (map head_for (pieces (length list) (map fields list)))
unfolding frames_at block_spelling
spelled_frames list is = frames_again (length (block_spelling list)) (length list) None None (map fields list) (list_next list is) (omega (arith, length-map list fields)) (omega arith)

-- ---- the bytes of each block

block_length : (b : List Fields) → length (block b) ≡ 15 + length (inside b)
block_length b = omega (arith, length-append (head_bytes (head_for b)) (inside b))

take_behind : (xs ys : List ℕ) (n m : ℕ) → take n (drop (length xs + m) (xs ++ ys)) ≡ take n (drop m ys)
take_behind [] ys n m = let same : 0 + m ≡ m = omega arith in ap (λ (k : ℕ). take n (drop k ys)) same
take_behind (x ∷ xs) ys n m = let same : length (x ∷ xs) + m ≡ suc (length xs + m) = omega arith in ap (λ (k : ℕ). take n (drop k (x ∷ xs ++ ys))) same ∙ take_behind xs ys n m

starts_more : (h : BlockHead) (heads : List BlockHead) (n : ℕ) → start_of (h ∷ heads) (suc n) ≡ 15 + h.size + start_of heads n
starts_more h heads n = sum_by-cons (λ (x : BlockHead). 15 + x.size) h (take n heads)

pub block_of : (bs : List (List Fields)) (heads : List BlockHead) (n : ℕ) → map head_of heads ≡ map head_for bs → n < length bs
    → take (start_of heads (n + 1) - start_of heads n) (drop (start_of heads n) (flat_map block bs)) ≡ block (get_or bs n [])
block_of [] heads n e l = absurd (omega (arith, l))
block_of (b ∷ bs) [] n e l = absurd cc
block_of (b ∷ bs) (h ∷ heads) n e l =
    let first : head_of h ≡ head_for b = cc in
    let others : map head_of heads ≡ map head_for bs = cc in
    let size : 15 + h.size ≡ length (block b) = omega (arith, ap (λ (x : Head). x.size) first, block_length b) in
    go n (λ k m. block_of bs heads k others m) size l
  where
    go : (n : ℕ) → ((k : ℕ) → k < length bs → take (start_of heads (k + 1) - start_of heads k) (drop (start_of heads k) (flat_map block bs)) ≡ block (get_or bs k [])) → 15 + h.size ≡ length (block b) → n < length (b ∷ bs)
        → take (start_of (h ∷ heads) (n + 1) - start_of (h ∷ heads) n) (drop (start_of (h ∷ heads) n) (block b ++ flat_map block bs)) ≡ block (get_or (b ∷ bs) n [])
    go zero others size l =
        let s : start_of (h ∷ heads) 1 - start_of (h ∷ heads) 0 ≡ length (block b) = omega (arith, starts_more h heads 0, size) in
        ap (λ (k : ℕ). take k (block b ++ flat_map block bs)) s ∙ take_at (block b) (flat_map block bs) (length (block b)) refl
    go (suc n) others size l =
        let one = starts_more h heads n in
        let plus : suc n + 1 ≡ suc (n + 1) = omega arith in
        let two = ap (start_of (h ∷ heads)) plus ∙ starts_more h heads (n + 1) in
        let from : start_of (h ∷ heads) (suc n) ≡ length (block b) + start_of heads n = omega (arith, one, size) in
        let len : start_of (h ∷ heads) (suc n + 1) - start_of (h ∷ heads) (suc n) ≡ start_of heads (n + 1) - start_of heads n = omega (arith, one, two) in
        ap₂ (λ (a k : ℕ). take k (drop a (block b ++ flat_map block bs))) from len
        ∙ take_behind (block b) (flat_map block bs) (start_of heads (n + 1) - start_of heads n) (start_of heads n)
        ∙ others n (omega (arith, l))

-- ---- the postings of each block

map-take : (n : ℕ) (ps : List Posting) → map fields (take n ps) ≡ take n (map fields ps)
map-take zero ps = refl
map-take (suc n) [] = refl
map-take (suc n) (p ∷ ps) = ap (λ (qs : List Fields). fields p ∷ qs) (map-take n ps)

map-drop : (n : ℕ) (ps : List Posting) → map fields (drop n ps) ≡ drop n (map fields ps)
map-drop zero ps = refl
map-drop (suc n) [] = refl
map-drop (suc n) (p ∷ ps) = map-drop n ps

-- the pieces of postings are those of their numbers
pub pieces-fields : (most : ℕ) (list : List Posting) → map (map fields) (pieces most list) ≡ pieces most (map fields list)
pieces-fields zero [] = refl
pieces-fields (suc most) [] = refl
pieces-fields zero (p ∷ list) = refl
pieces-fields (suc most) (p ∷ list) =
    ap₂ (λ (b : List Fields) (bs : List (List Fields)). b ∷ bs) (map-take 128 (p ∷ list))
    (pieces-fields most (drop 128 (p ∷ list)) ∙ ap (pieces most) (map-drop 128 (p ∷ list)))

-- a piece by itself is spelled as one block
pub piece_spelling : (list : List Posting) → 1 ≤ length list → length list ≤ 128 → block_spelling list ≡ block (map fields list)
unfolding block_spelling
piece_spelling [] some few = absurd (omega (arith, some))
piece_spelling (p ∷ list) some few =
    let all = length-map (p ∷ list) fields in
    let one : pieces (length (p ∷ list)) (map fields (p ∷ list)) ≡ map fields (p ∷ list) ∷ [] =
    ap₂ (λ (b : List Fields) (bs : List (List Fields)). b ∷ bs) (take_all 128 (map fields (p ∷ list)) (omega (arith, all, few)))
    (ap (pieces (length list)) (drop_all 128 (map fields (p ∷ list)) (omega (arith, all, few))) ∙ pieces_none (length list)) in
    ap (flat_map block) one ∙ append-nil (block (map fields (p ∷ list)))
