-- Blocks: what is read as a block is spelled so, and what is spelled so is read; and so along all blocks of a list.
use Rattle.std.specs.Prelude.{◌≡◌, ◌⊎◌, ℕ, zero, suc, ◌+◌, ◌^◌, ◌<◌, ◌≤◌, max, true, false, cond, nat_lt, List, [], ◌∷◌, ◌++◌, length, take, drop, Option, Some, None, Result, Ok, Err, refl}
use Rattle.std.proofs.Common.{sym, ap, subst, ◌∙◌, inl, inr, arith, append_assoc}
use Rattle.std.specs.List.{flat_map}
use Rattle.std.specs.Int.{w16, w32, to_be_bytes}
use Rattle.std.proofs.lemmas.Bool.{cases_lt, ltb-false, le-ltb, eq-eqb}
use Rattle.std.proofs.lemmas.Bool.Decides.{nat_tests}
use Rattle.std.proofs.lemmas.List.{append-nil, length-append, length-take, length-drop, nil_from_length, take-append-drop, take_at, drop_at, take_all, drop_all}
use Rattle.pages_codec.specs.Fields.{Fields}
use Rattle.base_types.specs.Reading.{◌>>=◌}
use Rattle.pages_codec.specs.Steps.{last_of, all_at}
use Rattle.pages_codec.specs.Blocks.{inside, Head, top_of, last_doc, head_bytes, head_for, block, pieces, head_front, doc_before, may_lead, is_true, before_more, postings_at, body_at, block_at, blocks_at}
use Rattle.base_types.proofs.Bytes.{IsBytes, IsBytes-take, IsBytes-drop, wide16, wide32, number_again}
use Rattle.pages_codec.proofs.Readings.{Reads, StandsIn, reads_ok, reads_err, reads_if}
use Rattle.pages_codec.proofs.AllAt.{all_step, all_reads}
use Rattle.pages_codec.proofs.WriteLemmas.{inside_length}
use Rattle.pages_codec.proofs.FrontLemmas.{front_is}
use Rattle.pages_codec.proofs.FieldLemmas.{AreNext, next-parts, next-join}
use Rattle.pages_codec.proofs.BlockLaws.{ArePostings, postings_reads, postings_again}

-- ---- headers

-- a header that was read is spelled there
record IsHead (bytes : List ℕ) : Type 0 where
  pub parts : bytes ≡ head_bytes (head_front bytes).0 ++ (head_front bytes).1
  pub first_fits : (head_front bytes).0.first < 2 ^ 32
  pub rest_fits : IsBytes (head_front bytes).1

head_back : (bytes : List ℕ) → IsBytes bytes → 15 ≤ length bytes → IsHead bytes
head_back [] fits long = absurd (omega arith)
head_back (b ∷ bytes) fits long =
    let h = (head_front (b ∷ bytes)).0 in
    let size = front_is w16 (2 ^ 16) wide16 bytes (λ i. fits (suc i)) (omega arith) in
    let top = front_is w32 (2 ^ 32) wide32 (drop 2 bytes) size.rest_fits (omega (arith, size.shorter)) in
    let first = front_is w32 (2 ^ 32) wide32 (drop 4 (drop 2 bytes)) top.rest_fits (omega (arith, size.shorter, top.shorter)) in
    let last = front_is w32 (2 ^ 32) wide32 (drop 4 (drop 4 (drop 2 bytes))) first.rest_fits (omega (arith, size.shorter, top.shorter, first.shorter)) in
    record {
      parts = ap (λ (xs : List ℕ). b ∷ xs) (size.parts ∙ ap (λ (xs : List ℕ). to_be_bytes w16 h.size ++ xs) (top.parts ∙ ap (λ (xs : List ℕ). to_be_bytes w32 h.top ++ xs) (first.parts ∙ ap (λ (xs : List ℕ). to_be_bytes w32 h.first ++ xs) last.parts)));
      first_fits = first.below;
      rest_fits = last.rest_fits;
    }

pub head_again : (h : Head) (rest : List ℕ) → h.size < 2 ^ 16 → h.top < 2 ^ 32 → h.first < 2 ^ 32 → h.last < 2 ^ 32 → head_front (head_bytes h ++ rest) ≡ (h, rest)
head_again h rest size_fits top_fits first_fits last_fits =
    let size = number_again w16 (2 ^ 16) wide16 h.size (to_be_bytes w32 h.top ++ (to_be_bytes w32 h.first ++ (to_be_bytes w32 h.last ++ rest))) size_fits in
    let top = number_again w32 (2 ^ 32) wide32 h.top (to_be_bytes w32 h.first ++ (to_be_bytes w32 h.last ++ rest)) top_fits in
    let first = number_again w32 (2 ^ 32) wide32 h.first (to_be_bytes w32 h.last ++ rest) first_fits in
    let last = number_again w32 (2 ^ 32) wide32 h.last rest last_fits in
    λ i. (record { count = h.count; size = size i; top = top i; first = first i; last = last i }, rest)

-- ---- tests

pub record IsLead (before : Option Fields) (head : Head) (behind : ℕ) : Type 0 where
  pub some : 1 ≤ head.count
  pub most : head.count ≤ 128
  pub within : head.size ≤ behind
  pub full : (head.count ≡ 128) ⊎ (head.size ≡ behind)
  pub doc : doc_before before ≤ head.first

pub lead_is : (before : Option Fields) (head : Head) (behind : ℕ) → may_lead before head behind ≡ true → IsLead before head behind
lead_is before head behind e = record {
  some = grind (arith, nat_tests);
  most = grind (arith, nat_tests);
  within = grind (arith, nat_tests);
  full = grind (arith, nat_tests);
  doc = grind (arith, nat_tests);
}

lead_passes : (before : Option Fields) (head : Head) (behind : ℕ) → IsLead before head behind → may_lead before head behind ≡ true
lead_passes before head behind lead = grind (arith, nat_tests, lead.some, lead.most, lead.within, lead.full, lead.doc)

-- ---- a block

-- the postings of a block: they may stand there, and are as many as can be, or the last
pub record IsBlock (before : Option Fields) (read : List Fields × List ℕ) : Type 0 where
  pub from : AreNext before read.0
  pub some : 1 ≤ length read.0
  pub most : length read.0 ≤ 128
  pub full : (length read.0 ≡ 128) ⊎ (read.1 ≡ [])

-- the header of a block is that of its postings
head_is : (before : Option Fields) (head : Head) (rest : List ℕ) (ps : List Fields) → head.size ≤ length rest → ArePostings before head.first head.count (ps, []) → take head.size rest ≡ inside ps → head.top ≡ top_of 0 ps → head.last ≡ last_doc 0 ps → head ≡ head_for ps
head_is before head rest ps within are same top last =
    let size-is : head.size ≡ length (inside ps) = omega (arith, length-take head.size rest, ap (λ (xs : List ℕ). length xs) same) in
    λ i. record { count = sym are.0 i; size = size-is i; top = top i; first = sym are.1 i; last = last i }

body_reads : (before : Option Fields) (bytes : List ℕ) (head : Head) (rest : List ℕ) → head.first < 2 ^ 32 → IsBytes rest → bytes ≡ head_bytes head ++ rest → IsLead before head (length rest) → Reads (StandsIn block (IsBlock before) bytes) (length bytes) (body_at before bytes head rest)
unfolding body_at
body_reads before bytes head rest numbered fits parts lead =
    go (postings_at before head.first head.count (take head.size rest)) (postings_reads before head.first head.count (take head.size rest) numbered lead.some (IsBytes-take head.size rest fits))
  where
    go : (r : Result (List Fields × List ℕ) ℕ) → Reads (StandsIn inside (ArePostings before head.first head.count) (take head.size rest)) (length (take head.size rest)) r
        → Reads (StandsIn block (IsBlock before) bytes) (length bytes) (before_more (length (drop head.size rest)) r >>= λ read. cond (is_true head read) (Ok (read.0, drop head.size rest)) (Err (length bytes)))
    go (Err left) w = reads_err _ _ (left + length (drop head.size rest)) (omega (arith, w.fails left refl, length-take head.size rest, length-drop head.size rest, lead.within, ap (λ (xs : List ℕ). length xs) parts, length-append (head_bytes head) rest))
    go (Ok x) w = reads_if _ _ (is_true head x) _ _ (λ e.
        (let s = w.read x refl in
        let none : length x.1 ≡ 0 = grind (arith, nat_tests) in
        let top : head.top ≡ top_of 0 x.0 = grind (arith, nat_tests) in
        let last : head.last ≡ last_doc 0 x.0 = grind (arith, nat_tests) in
        let inner : take head.size rest ≡ inside x.0 = s.parts ∙ ap (λ (xs : List ℕ). inside x.0 ++ xs) (nil_from_length x.1 none) ∙ append-nil (inside x.0) in
        let is = head_is before head rest x.0 lead.within s.holds inner top last in
        let count = s.holds.0 in
        let some = lead.some in
        let most = lead.most in
        reads_ok _ _ (x.0, drop head.size rest) (record {
          parts = parts ∙ (λ i. head_bytes (is i) ++ sym (take-append-drop head.size rest) i) ∙ ap (λ (xs : List ℕ). head_bytes (head_for x.0) ++ (xs ++ drop head.size rest)) inner
              ∙ sym (append_assoc (head_bytes (head_for x.0)) (inside x.0) (drop head.size rest));
          rest_fits = IsBytes-drop head.size rest fits;
          holds = record {
            from = s.holds.2 lead.doc;
            some = omega arith;
            most = omega arith;
            full = elim lead.full as (λ _. (length x.0 ≡ 128) ⊎ (drop head.size rest ≡ [])) [ inl full ↦ inl (omega arith) | inr end ↦ inr (drop_all head.size rest (omega arith)) ];
          };
        }))) (λ e. reads_err _ _ (length bytes) (omega arith))

pub block_reads : (before : Option Fields) (bytes : List ℕ) → IsBytes bytes → Reads (StandsIn block (IsBlock before) bytes) (length bytes) (block_at before bytes)
unfolding block_at
block_reads before bytes fits =
    let front = head_front bytes in
    reads_if _ _ (nat_lt (length bytes) 15) _ _ (λ e. reads_err _ _ (length bytes) (omega arith)) (λ e. reads_if _ _ (may_lead before front.0 (length front.1)) _ _
    (λ f. (let h = head_back bytes fits (ltb-false (length bytes) 15 e) in body_reads before bytes front.0 front.1 h.first_fits h.rest_fits h.parts (lead_is before front.0 (length front.1) f)))
    (λ f. reads_err _ _ (length bytes) (omega arith)))

pub block_long : (ps : List Fields) (rest : List ℕ) → 15 + length rest ≤ length (block ps ++ rest)
block_long ps rest = omega (arith, length-append (block ps) rest, length-append (head_bytes (head_for ps)) (inside ps))

-- what is left behind a block
pub block_rest : (before : Option Fields) (bytes : List ℕ) (x : List Fields × List ℕ) → IsBytes bytes → block_at before bytes ≡ Ok x → (length x.1 < length bytes) × IsBytes x.1
block_rest before bytes x fits e = let is = (block_reads before bytes fits).read x e in (omega (arith, block_long x.0 x.1, ap (λ (bs : List ℕ). length bs) is.parts), is.rest_fits)

pub top_below : (top : ℕ) (before : Option Fields) (ps : List Fields) → top < 2 ^ 32 → AreNext before ps → top_of top ps < 2 ^ 32
top_below top before [] lt next = lt
top_below top before (p ∷ ps) lt next = top_below (max top p.tf) (Some p) ps (omega (arith, next.0.allowed.bounded)) next.1

pub last_below : (doc : ℕ) (before : Option Fields) (ps : List Fields) → doc < 2 ^ 32 → AreNext before ps → last_doc doc ps < 2 ^ 32
last_below doc before [] lt next = lt
last_below doc before (p ∷ ps) lt next = last_below p.doc (Some p) ps next.0.allowed.numbered next.1

-- a block's postings, by the bytes of its postings and those behind them
abbrev body_of : Option Fields → List ℕ → Head → List ℕ → List ℕ → Result (List Fields × List ℕ) ℕ
body_of before bytes head xs ys = before_more (length ys) (postings_at before head.first head.count xs) >>= λ read. cond (is_true head read) (Ok (read.0, ys)) (Err (length bytes))

body_again : (before : Option Fields) (p : Fields) (ps : List Fields) (rest bytes : List ℕ) → AreNext before (p ∷ ps) → body_at before bytes (head_for (p ∷ ps)) (inside (p ∷ ps) ++ rest) ≡ Ok (p ∷ ps, rest)
unfolding body_at
body_again before p ps rest bytes from =
    let h = head_for (p ∷ ps) in
    let inner = inside (p ∷ ps) in
    let taken : take h.size (inner ++ rest) ≡ inner = take_at inner rest h.size refl in
    let dropped : drop h.size (inner ++ rest) ≡ rest = drop_at inner rest h.size refl in
    let read : postings_at before p.doc (suc (length ps)) inner ≡ Ok (p ∷ ps, []) = ap (postings_at before p.doc (suc (length ps))) (sym (append-nil inner)) ∙ postings_again before p ps [] from in
    let right : is_true h (p ∷ ps, []) ≡ true = rw (eq-eqb h.top h.top refl, eq-eqb h.last h.last refl) refl in
    (λ i. body_of before bytes h (taken i) (dropped i))
    ∙ ap (λ (r : Result (List Fields × List ℕ) ℕ). before_more (length rest) r >>= λ read. cond (is_true h read) (Ok (read.0, rest)) (Err (length bytes))) read
    ∙ ap (λ b. cond b (Ok (p ∷ ps, rest)) (Err (length bytes))) right

-- a block by its header and what is behind it
abbrev led : Option Fields → List ℕ → Head × List ℕ → Result (List Fields × List ℕ) ℕ
led before bytes h = cond (may_lead before h.0 (length h.1)) (body_at before bytes h.0 h.1) (Err (length bytes))

pub block_again : (before : Option Fields) (p : Fields) (ps : List Fields) (rest : List ℕ) → AreNext before (p ∷ ps) → length (p ∷ ps) ≤ 128 → (length (p ∷ ps) ≡ 128) ⊎ (rest ≡ [])
    → block_at before (block (p ∷ ps) ++ rest) ≡ Ok (p ∷ ps, rest)
unfolding block_at
block_again before p ps rest from most full =
    let h = head_for (p ∷ ps) in
    let inner = inside (p ∷ ps) in
    let bytes = head_bytes h ++ (inner ++ rest) in
    let front : head_front bytes ≡ (h, inner ++ rest) = head_again h (inner ++ rest) (omega (arith, inside_length (p ∷ ps))) (top_below 0 before (p ∷ ps) (omega arith) from) from.0.allowed.numbered (last_below 0 before (p ∷ ps) (omega arith) from) in
    let long : nat_lt (length bytes) 15 ≡ false = le-ltb (length bytes) 15 (omega arith) in
    let lead = lead_passes before h (length (inner ++ rest)) (record {
      some = omega arith;
      most = most;
      within = omega (arith, length-append inner rest);
      full = elim full as (λ _. (length (p ∷ ps) ≡ 128) ⊎ (length inner ≡ length (inner ++ rest))) [ inl is ↦ inl is | inr none ↦ inr (ap (λ (xs : List ℕ). length xs) (sym (append-nil inner) ∙ ap (λ (xs : List ℕ). inner ++ xs) (sym none))) ];
      doc = from.0.doc;
    }) in
    ap (block_at before) (append_assoc (head_bytes h) inner rest)
    ∙ ap (λ b. cond b (Err (length bytes)) (led before bytes (head_front bytes))) long
    ∙ ap (led before bytes) front
    ∙ ap (λ b. cond b (body_at before bytes h (inner ++ rest)) (Err (length bytes))) lead
    ∙ body_again before p ps rest bytes from

-- ---- blocks in a row

pub pieces_none : (most : ℕ) → pieces {A = Fields} most [] ≡ []
pieces_none zero = refl
pieces_none (suc most) = refl

-- a block is the first piece, where it is full or the last
cut_here : (ps rest : List Fields) → length ps ≤ 128 → (length ps ≡ 128) ⊎ (rest ≡ []) → (take 128 (ps ++ rest) ≡ ps) × (drop 128 (ps ++ rest) ≡ rest)
cut_here ps rest most (inl full) = (take_at ps rest 128 full, drop_at ps rest 128 full)
cut_here ps rest most (inr none) =
    let alone : ps ++ rest ≡ ps = ap (λ (xs : List Fields). ps ++ xs) none ∙ append-nil ps in
    (ap (take 128) alone ∙ take_all 128 ps most, ap (drop 128) alone ∙ drop_all 128 ps most ∙ sym none)

piece_more : (most : ℕ) (ps rest : List Fields) → 1 ≤ length ps → length ps ≤ 128 → (length ps ≡ 128) ⊎ (rest ≡ []) → pieces (suc most) (ps ++ rest) ≡ ps ∷ pieces most rest
piece_more most [] rest some le full = absurd (omega arith)
piece_more most (p ∷ ps) rest some le full = let c = cut_here (p ∷ ps) rest le full in λ i. c.0 i ∷ pieces most (c.1 i)

-- the postings may stand there, and the bytes are those of their blocks
pub record AreBlocks (before : Option Fields) (bytes : List ℕ) (ps : List Fields) : Type 0 where
  pub from : AreNext before ps
  pub parts : (most : ℕ) → length ps ≤ most → bytes ≡ flat_map block (pieces most ps)

parts_more : (ps rest : List Fields) (bytes behind : List ℕ) → 1 ≤ length ps → length ps ≤ 128 → (length ps ≡ 128) ⊎ (rest ≡ []) → bytes ≡ block ps ++ behind
    → ((most : ℕ) → length rest ≤ most → behind ≡ flat_map block (pieces most rest)) → (most : ℕ) → length (ps ++ rest) ≤ most → bytes ≡ flat_map block (pieces most (ps ++ rest))
parts_more ps rest bytes behind some short full one more zero le = absurd (omega (arith, length-append ps rest))
parts_more ps rest bytes behind some short full one more (suc most) le =
    one ∙ ap (λ (xs : List ℕ). block ps ++ xs) (more most (omega (arith, length-append ps rest))) ∙ sym (ap (flat_map block) (piece_more most ps rest some short full))

none_left : (ps : List Fields) → [] ≡ flat_map block (pieces (length ps) ps) → ps ≡ []
none_left [] e = refl
none_left (p ∷ ps) e = absurd cc

blocks_more : (before : Option Fields) (x : List Fields × List ℕ) (ys : List Fields) → IsBlock before x → AreBlocks (last_of before x.0) x.1 ys → AreBlocks before (block x.0 ++ x.1) (x.0 ++ ys)
blocks_more before x ys is are = record {
  from = next-join before x.0 ys is.from are.from;
  parts = parts_more x.0 ys (block x.0 ++ x.1) x.1 is.some is.most
      (elim is.full as (λ _. (length x.0 ≡ 128) ⊎ (ys ≡ [])) [ inl full ↦ inl full | inr none ↦ inr (none_left ys (sym none ∙ are.parts (length ys) (omega arith))) ]) refl are.parts;
}

pub blocks_reads : (bytes : List ℕ) → IsBytes bytes → Reads (AreBlocks None bytes) (length bytes) (blocks_at bytes)
unfolding blocks_at
blocks_reads bytes fits = all_reads block_at block IsBlock AreBlocks (λ before. record { from = tt; parts = λ most le. sym (ap (flat_map block) (pieces_none most)) }) block_reads blocks_more (length bytes) None bytes fits

pub blocks_again : (n most : ℕ) (before : Option Fields) (ps : List Fields) → AreNext before ps → length ps ≤ most → length (flat_map block (pieces most ps)) ≤ n → all_at block_at n before (flat_map block (pieces most ps)) ≡ Ok ps
blocks_again n zero before [] from le long = refl
blocks_again n (suc most) before [] from le long = refl
blocks_again n zero before (p ∷ ps) from le long = absurd (omega arith)
blocks_again zero (suc most) before (p ∷ ps) from le long = absurd (omega (arith, block_long (take 128 (p ∷ ps)) (flat_map block (pieces most (drop 128 (p ∷ ps))))))
blocks_again (suc n) (suc most) before (p ∷ ps) from le long =
    let front = take 128 (p ∷ ps) in
    let back = drop 128 (p ∷ ps) in
    let rest = flat_map block (pieces most back) in
    let whole : front ++ back ≡ p ∷ ps = take-append-drop 128 (p ∷ ps) in
    let parts = next-parts before front back (subst (AreNext before) (sym whole) from) in
    let len = length-take 128 (p ∷ ps) in
    let less = length-drop 128 (p ∷ ps) in
    let bytes = block_long front rest in
    let full : (length front ≡ 128) ⊎ (rest ≡ []) = elim (cases_lt (length (p ∷ ps)) 128) as (λ _. (length front ≡ 128) ⊎ (rest ≡ [])) [
      | inl short ↦ inr (ap (λ (qs : List Fields). flat_map block (pieces most qs)) (drop_all 128 (p ∷ ps) (omega arith)) ∙ ap (flat_map block) (pieces_none most))
      | inr enough ↦ inl (omega arith)
    ] in
    all_step block_at n before (block front ++ rest) front rest (omega arith) (block_again before p (take 127 ps) rest parts.0 (omega arith) full)
    ∙ ap (λ (r : Result (List Fields) ℕ). r >>= λ qs. Ok (front ++ qs)) (blocks_again n most (last_of before front) back parts.1 (omega arith) (omega arith))
    ∙ ap (λ (qs : List Fields). Ok qs) whole
