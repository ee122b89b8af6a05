-- The postings of a block: what is read is spelled so, and what is spelled so is read.
use Rattle.std.specs.Prelude.{◌≡◌, ℕ, zero, suc, ◌+◌, ◌-◌, ◌^◌, ◌<◌, ◌≤◌, nat_lt, nat_le, ◌&&◌, List, [], ◌∷◌, ◌++◌, length, Option, Some, None, Ok, refl}
use Rattle.std.proofs.Common.{sym, ap, subst, ◌∙◌, inl, inr, arith, append_assoc}
use Rattle.std.specs.List.{flat_map}
use Rattle.std.proofs.lemmas.Bool.{cases_lt, and_parts, leb-true, ltb-true, le-leb, lt-ltb, eq-eqb, ne_eqb}
use Rattle.std.proofs.lemmas.Grind.{flat_map-append}
use Rattle.std.proofs.lemmas.List.{append-nil}
use Rattle.pages_codec.specs.Fields.{Fields}
use Rattle.pages_codec.specs.Numbers.{number_bytes, number_at}
use Rattle.pages_codec.specs.Blocks.{span_numbers, base_behind, other_numbers, inside, first_doc, least_start, doc_before, if_within, number_in, span_at, next_at, others_at, postings_at}
use Rattle.pages_codec.proofs.Steps.{test_some}
use Rattle.pages_codec.proofs.Readings.{Reads, StandsIn, reads_ok, reads_value, reads_next, reads_as}
use Rattle.base_types.proofs.Bytes.{IsBytes}
use Rattle.pages_codec.proofs.NumberLemmas.{number_taken, number_again}
use Rattle.pages_codec.proofs.FieldLemmas.{IsAllowed, IsNext, AreNext}

-- ---- a number

within_parts : (least limit : ℕ) (o : Option (ℕ × List ℕ)) (read : ℕ × List ℕ) → if_within least limit o ≡ Some read → (o ≡ Some read) × (least ≤ read.0) × (read.0 < limit)
within_parts least limit None read e = absurd cc
within_parts least limit (Some r) read e =
    let t = test_some (nat_le least r.0 && nat_lt r.0 limit) r read e in
    let both = and_parts (nat_le least r.0) (nat_lt r.0 limit) t.0 in
    (ap (λ (x : ℕ × List ℕ). Some x) t.1, subst (λ (x : ℕ × List ℕ). least ≤ x.0) t.1 (leb-true least r.0 both.0), subst (λ (x : ℕ × List ℕ). x.0 < limit) t.1 (ltb-true r.0 limit both.1))

-- a number in its range
abbrev IsIn : ℕ → ℕ → ℕ × List ℕ → Type 0
IsIn least limit x = (least ≤ x.0) × (x.0 < limit)

number_in_reads : (least limit : ℕ) (bytes : List ℕ) → IsBytes bytes → Reads (StandsIn (number_bytes 6) (IsIn least limit) bytes) (length bytes) (number_in least limit bytes)
unfolding number_in
number_in_reads least limit bytes fits = reads_value _ (length bytes) (if_within least limit (number_at 6 bytes)) (λ x e.
    (let w = within_parts least limit (number_at 6 bytes) x e in let n = number_taken 6 bytes x fits w.0 in record { parts = n.parts; rest_fits = n.rest_fits; holds = (w.1, w.2) }))

number_in_again : (least limit n : ℕ) (rest : List ℕ) → least ≤ n → n < limit → n < 2 ^ 42 → number_in least limit (number_bytes 6 n ++ rest) ≡ Ok (n, rest)
unfolding number_in
number_in_again least limit n rest le lt fits = rw (number_again 6 n rest (omega arith) fits, le-leb least n le, lt-ltb n limit lt) refl

-- ---- a posting

-- the bytes of a posting whose start counts from base
abbrev span_bytes : ℕ → Fields → List ℕ
span_bytes base p = flat_map (number_bytes 6) (span_numbers base p)

-- the bytes of three numbers
three : (a b c : ℕ) (rest : List ℕ) → flat_map (number_bytes 6) (a ∷ b ∷ c ∷ []) ++ rest ≡ number_bytes 6 a ++ (number_bytes 6 b ++ (number_bytes 6 c ++ rest))
three a b c rest =
    ap (λ (xs : List ℕ). (number_bytes 6 a ++ (number_bytes 6 b ++ xs)) ++ rest) (append-nil (number_bytes 6 c))
    ∙ append_assoc (number_bytes 6 a) (number_bytes 6 b ++ number_bytes 6 c) rest
    ∙ ap (λ (xs : List ℕ). number_bytes 6 a ++ xs) (append_assoc (number_bytes 6 b) (number_bytes 6 c) rest)

-- a posting of this document that starts no earlier
abbrev IsSpan : ℕ → ℕ → Fields × List ℕ → Type 0
IsSpan doc start x = IsAllowed x.0 × (x.0.doc ≡ doc) × (start ≤ x.0.from)

span_reads : (doc base least : ℕ) (bytes : List ℕ) → doc < 2 ^ 32 → IsBytes bytes → Reads (StandsIn (span_bytes base) (IsSpan doc (base + least)) bytes) (length bytes) (span_at doc base least bytes)
unfolding span_at
span_reads doc base least bytes numbered fits =
    reads_next _ _ _ _ [] bytes (number_in 1 (2 ^ 32) bytes) _ (number_in_reads 1 (2 ^ 32) bytes fits) (λ tf fits counted.
    reads_next _ _ _ _ (number_bytes 6 tf.0) tf.1 (number_in least (2 ^ 40 - base) tf.1) _ (number_in_reads least (2 ^ 40 - base) tf.1 fits) (λ start fits from.
    reads_next _ _ _ _ (number_bytes 6 tf.0 ++ number_bytes 6 start.0) start.1 (number_in 1 (2 ^ 40 - (base + start.0) + 1) start.1) _ (number_in_reads 1 (2 ^ 40 - (base + start.0) + 1) start.1 fits) (λ len fits to.
    (let a = from.0 in let b = from.1 in let c = to.0 in let d = to.1 in
    let start-is : start.0 ≡ base + start.0 - base = omega arith in
    let len-is : len.0 ≡ base + start.0 + len.0 - (base + start.0) = omega arith in
    let whole : ((number_bytes 6 tf.0 ++ number_bytes 6 start.0) ++ number_bytes 6 len.0) ++ len.1 ≡ number_bytes 6 tf.0 ++ (number_bytes 6 start.0 ++ (number_bytes 6 len.0 ++ len.1)) = simp append_assoc in
    reads_ok _ _ (record { doc = doc; tf = tf.0; from = base + start.0; to = base + start.0 + len.0 }, len.1) (record {
      parts = whole ∙ sym (three tf.0 start.0 len.0 len.1) ∙ (λ i. flat_map (number_bytes 6) (tf.0 ∷ start-is i ∷ len-is i ∷ []) ++ len.1);
      rest_fits = fits;
      holds = (record { numbered = numbered; counted = counted.0; bounded = counted.1; ordered = omega arith; in_time = omega arith }, refl, omega arith);
    })))))

span_again : (base least : ℕ) (p : Fields) (rest : List ℕ) → IsAllowed p → base + least ≤ p.from → span_at p.doc base least (span_bytes base p ++ rest) ≡ Ok (p, rest)
unfolding span_at
span_again base least p rest a start =
    let ordered = a.ordered in
    let in_time = a.in_time in
    let from-is : base + (p.from - base) ≡ p.from = omega arith in
    let to-is : p.from + (p.to - p.from) ≡ p.to = omega arith in
    let tf = number_in_again 1 (2 ^ 32) p.tf (number_bytes 6 (p.from - base) ++ (number_bytes 6 (p.to - p.from) ++ rest)) a.counted a.bounded (omega (arith, a.bounded)) in
    let st = number_in_again least (2 ^ 40 - base) (p.from - base) (number_bytes 6 (p.to - p.from) ++ rest) (omega arith) (omega arith) (omega arith) in
    let ln = number_in_again 1 (2 ^ 40 - (base + (p.from - base)) + 1) (p.to - p.from) rest (omega arith) (omega arith) (omega arith) in
    ap (span_at p.doc base least) (three p.tf (p.from - base) (p.to - p.from) rest)
    ∙ rw (tf, st, ln, from-is, to-is) refl

-- ---- postings behind another

-- the numbers of a posting behind another
abbrev next_numbers : Fields → Fields → List ℕ
next_numbers q p = (p.doc - q.doc) ∷ span_numbers (base_behind q (p.doc - q.doc)) p

-- a start counts from the least start that there may be
base_is : (q : Fields) (doc : ℕ) → q.doc ≤ doc → base_behind q (doc - q.doc) ≡ least_start (Some q) doc
base_is q doc le =
    elim (cases_lt q.doc doc) as (λ _. base_behind q (doc - q.doc) ≡ least_start (Some q) doc) [
      | inl lt ↦ rw (ne_eqb (doc - q.doc) 0 (omega arith), ne_eqb q.doc doc (omega arith)) refl
      | inr ge ↦ rw (eq-eqb (doc - q.doc) 0 (omega arith), eq-eqb q.doc doc (omega arith)) refl
    ]

next_reads : (q : Fields) (bytes : List ℕ) → IsBytes bytes → Reads (StandsIn (λ p. flat_map (number_bytes 6) (next_numbers q p)) (λ x. IsNext (Some q) x.0) bytes) (length bytes) (next_at q bytes)
unfolding next_at
next_reads q bytes fits =
    reads_next _ _ _ _ [] bytes (number_in 0 (2 ^ 32 - q.doc) bytes) _ (number_in_reads 0 (2 ^ 32 - q.doc) bytes fits) (λ step fits is.
    (let limit = is.1 in
    reads_as _ _ _ _ (number_bytes 6 step.0) step.1 (span_at (q.doc + step.0) (base_behind q step.0) 0 step.1) (span_reads (q.doc + step.0) (base_behind q step.0) 0 step.1 (omega arith) fits) (λ x span.
    (let doc-is = span.1 in
    let step-is : step.0 ≡ x.0.doc - q.doc = omega arith in (
      ap (λ n. flat_map (number_bytes 6) (n ∷ span_numbers (base_behind q n) x.0)) step-is,
      record { allowed = span.0; doc = omega arith; start = omega (arith, span.2, ap (base_behind q) step-is, base_is q x.0.doc (omega arith)) },
    )))))

next_again : (q p : Fields) (rest : List ℕ) → IsNext (Some q) p → next_at q (flat_map (number_bytes 6) (next_numbers q p) ++ rest) ≡ Ok (p, rest)
unfolding next_at
next_again q p rest n =
    let base = base_behind q (p.doc - q.doc) in
    let in_docs = n.allowed.numbered in
    let not_before = n.doc in
    let step = number_in_again 0 (2 ^ 32 - q.doc) (p.doc - q.doc) (span_bytes base p ++ rest) (omega arith) (omega arith) (omega arith) in
    let doc-is : q.doc + (p.doc - q.doc) ≡ p.doc = omega arith in
    ap (next_at q) (append_assoc (number_bytes 6 (p.doc - q.doc)) (span_bytes base p) rest)
    ∙ rw (step, doc-is) (span_again base 0 p rest n.allowed (omega (arith, base_is q p.doc n.doc, n.start)))

-- the bytes of a posting and of those behind it
others_bytes : (ns ms rest : List ℕ) → flat_map (number_bytes 6) (ns ++ ms) ++ rest ≡ flat_map (number_bytes 6) ns ++ (flat_map (number_bytes 6) ms ++ rest)
others_bytes ns ms rest = ap (λ (xs : List ℕ). xs ++ rest) (flat_map-append (number_bytes 6) ns ms) ∙ append_assoc (flat_map (number_bytes 6) ns) (flat_map (number_bytes 6) ms) rest

others_reads : (count : ℕ) (q : Fields) (bytes : List ℕ) → IsBytes bytes → Reads (StandsIn (λ ps. flat_map (number_bytes 6) (other_numbers q ps)) (λ x. (length x.0 ≡ count) × AreNext (Some q) x.0) bytes) (length bytes) (others_at count q bytes)
unfolding others_at
others_reads zero q bytes fits = reads_ok _ _ ([], bytes) (record { parts = refl; rest_fits = fits; holds = (refl, tt) })
others_reads (suc count) q bytes fits =
    reads_next _ _ _ _ [] bytes (next_at q bytes) _ (next_reads q bytes fits) (λ p fits next.
    reads_next _ _ _ _ (flat_map (number_bytes 6) (next_numbers q p.0)) p.1 (others_at count p.0 p.1) _ (others_reads count p.0 p.1 fits) (λ ps fits are.
    reads_ok _ _ (p.0 ∷ ps.0, ps.1) (record {
      parts = ap (λ (xs : List ℕ). xs ++ ps.1) (sym (flat_map-append (number_bytes 6) (next_numbers q p.0) (other_numbers p.0 ps.0)));
      rest_fits = fits;
      holds = (ap suc are.0, (next, are.1));
    })))

others_again : (q : Fields) (ps : List Fields) (rest : List ℕ) → AreNext (Some q) ps → others_at (length ps) q (flat_map (number_bytes 6) (other_numbers q ps) ++ rest) ≡ Ok (ps, rest)
unfolding others_at
others_again q [] rest a = refl
others_again q (p ∷ ps) rest a =
    let first = next_again q p (flat_map (number_bytes 6) (other_numbers p ps) ++ rest) a.0 in
    let others = others_again p ps rest a.1 in
    ap (λ (xs : List ℕ). others_at (suc (length ps)) q xs) (others_bytes (next_numbers q p) (other_numbers p ps) rest) ∙ rw (first, others) refl

-- ---- the postings of a block

-- so many postings, the first of this document, which may stand there if the document may
abbrev pub ArePostings : Option Fields → ℕ → ℕ → List Fields × List ℕ → Type 0
ArePostings before doc count x = (length x.0 ≡ count) × (first_doc x.0 ≡ doc) × (doc_before before ≤ doc → AreNext before x.0)

pub postings_reads : (before : Option Fields) (doc count : ℕ) (bytes : List ℕ) → doc < 2 ^ 32 → 1 ≤ count → IsBytes bytes → Reads (StandsIn inside (ArePostings before doc count) bytes) (length bytes) (postings_at before doc count bytes)
unfolding postings_at
postings_reads before doc count bytes numbered some fits =
    reads_next _ _ _ _ [] bytes (span_at doc 0 (least_start before doc) bytes) _ (span_reads doc 0 (least_start before doc) bytes numbered fits) (λ p fits span.
    reads_next _ _ _ _ (span_bytes 0 p.0) p.1 (others_at (count - 1) p.0 p.1) _ (others_reads (count - 1) p.0 p.1 fits) (λ ps fits are.
    (let len = are.0 in let doc-is = span.1 in
    reads_ok _ _ (p.0 ∷ ps.0, ps.1) (record {
      parts = ap (λ (xs : List ℕ). xs ++ ps.1) (sym (flat_map-append (number_bytes 6) (span_numbers 0 p.0) (other_numbers p.0 ps.0)));
      rest_fits = fits;
      holds = (omega arith, doc-is, λ behind. (record { allowed = span.0; doc = omega arith; start = subst (λ d. least_start before d ≤ p.0.from) (sym doc-is) (omega (arith, span.2)) }, are.1));
    }))))

pub postings_again : (before : Option Fields) (p : Fields) (ps : List Fields) (rest : List ℕ) → AreNext before (p ∷ ps) → postings_at before p.doc (suc (length ps)) (inside (p ∷ ps) ++ rest) ≡ Ok (p ∷ ps, rest)
unfolding postings_at
postings_again before p ps rest a =
    let le = a.0.start in
    let span = span_again 0 (least_start before p.doc) p (flat_map (number_bytes 6) (other_numbers p ps) ++ rest) a.0.allowed (omega arith) in
    let others = others_again p ps rest a.1 in
    let count : suc (length ps) - 1 ≡ length ps = omega arith in
    ap (postings_at before p.doc (suc (length ps))) (others_bytes (span_numbers 0 p) (other_numbers p ps) rest) ∙ rw (span, count, others) refl
