-- How a scan goes over the records.
use Rattle.std.proofs.Common.{◌≡◌, ℕ, ◌+◌, ◌<◌, ◌^◌, List, [], ◌∷◌, ◌++◌, length, take, drop, All, refl, inr, ap, subst, sym, ◌∙◌, arith, append_assoc, length-append}
use Rattle.std.specs.Int.{w32, to_be_bytes}
use Rattle.std.proofs.lemmas.List.{append-nil, take-append-drop}
use Rattle.std.proofs.lemmas.List.Elements.{All-cons}
use Rattle.std.proofs.Math.Seq.{drop-append_seam}
use Rattle.journal_gates.specs.declared.head.Head.{Head}
use Rattle.journal_gates.specs.declared.gate.Gate.{Gate}
use Rattle.journal_gates.specs.declared.gate.Gate.TheVariants.{Closed, Open, CutShort}
use Rattle.journal_gates.specs.Header.{header}
use Rattle.journal_gates.specs.Records.{record_bytes, front}
use Rattle.journal_gates.specs.Spelled.{Spells}
use Rattle.journal_gates.specs.Refused.{IsCutShort}
use Rattle.journal_gates.specs.Heads.{heads_of, AreInRow, LiesBefore}
use Rattle.journal_gates.specs.Found.{IsFound}
use Rattle.journal_gates.specs.Scanning.{LiesAt, IsScanned}
use Rattle.journal_gates.proofs.SpellingLemmas.{spelled_not_refused}
use Rattle.journal_gates.proofs.HeadLemmas.{length-front, heads_more}
use Rattle.journal_gates.proofs.AppendLemmas.{front_more, fit_more}

-- one head more in a row
row_and : (from gate : ℕ) (heads : List Head) (head : Head) → AreInRow from heads (gate + 1) → head.gate ≡ gate → head.body ≡ gate + 5
    → AreInRow from (heads ++ head ∷ []) (head.body + head.bytes + 1)
row_and from gate [] head row here body = (omega (arith, row, here), omega (arith, row, body), refl)
row_and from gate (first ∷ heads) head row here body = (row.0, row.1, row_and (first.body + first.bytes) gate heads head row.2 here body)

pub row_more : (from gate count next : ℕ) (heads more : List Head) → AreInRow from heads (gate + 1) → more ≡ heads ++ record { gate = gate; body = gate + 5; bytes = count } ∷ [] → next ≡ gate + 5 + count → AreInRow from more (next + 1)
row_more from gate count next heads more row pushed here =
    let R : List Head → ℕ → Type 0 = λ h n. AreInRow from h (n + 1) in
    subst (λ (n : ℕ). R more n) (sym here) (subst (λ (h : List Head). R h (gate + 5 + count)) (sym pushed) (row_and from gate heads (record { gate = gate; body = gate + 5; bytes = count }) row refl refl))

-- each head of a row lies before its end
row_within : (from end : ℕ) (heads : List Head) → AreInRow from heads end → from < end
row_within from end [] row = omega (arith, row)
row_within from end (head ∷ heads) row = omega (arith, row_within (head.body + head.bytes) end heads row.2, row.1)

pub row_before : (from end : ℕ) (heads : List Head) → AreInRow from heads end → All (LiesBefore end) heads
row_before from end [] row = λ k d inside. absurd (omega (arith, inside))
row_before from end (head ∷ heads) row = All-cons (LiesBefore end) head heads
    (record { body = omega (arith, row.0, row.1); within = row_within (head.body + head.bytes) end heads row.2 })
    (row_before (head.body + head.bytes) end heads row.2)

-- before the first gate no record was passed
pub scanned_none : (bytes : List ℕ) → take 16 bytes ≡ header → IsScanned bytes 16 []
scanned_none bytes right = record {
  bodies = [];
  rest = drop 16 bytes;
  fit = λ k d inside. absurd (omega (arith, inside));
  whole = sym (take-append-drop 16 bytes) ∙ ap (λ (l : List ℕ). l ++ drop 16 bytes) (right ∙ sym (append-nil header));
  gate_is = sym (length-front []);
  heads_are = refl;
}

-- what is left from the gate on
left_at : (bytes : List ℕ) (gate : ℕ) (heads : List Head) (s : IsScanned bytes gate heads) → drop gate bytes ≡ s.rest
left_at bytes gate heads s = ap (drop gate) s.whole ∙ ap (λ n. drop n (front s.bodies ++ s.rest)) s.gate_is ∙ drop-append_seam (front s.bodies) s.rest

-- one record is passed
scanned_and : (bytes : List ℕ) (gate count : ℕ) (heads : List Head) → count < 2 ^ 32 → IsScanned bytes gate heads → LiesAt (drop gate bytes) (Open count)
    → IsScanned bytes (gate + 5 + count) (heads ++ record { gate = gate; body = gate + 5; bytes = count } ∷ [])
scanned_and bytes gate count heads fits s lies =
    let body = lies.0 in
    let rest = lies.1.0 in
    let left : s.rest ≡ record_bytes body ++ rest = sym (left_at bytes gate heads s) ∙ lies.1.1 in
    let long : length body ≡ count = lies.1.2 in
    let short : length body < 2 ^ 32 = omega (arith, long, fits) in
    record {
      bodies = s.bodies ++ body ∷ [];
      rest = rest;
      fit = fit_more s.bodies body s.fit short;
      whole = s.whole ∙ ap (λ (l : List ℕ). front s.bodies ++ l) left ∙ sym (append_assoc (front s.bodies) (record_bytes body) rest) ∙ ap (λ (l : List ℕ). l ++ rest) (sym (front_more s.bodies body));
      gate_is = omega (arith, long, s.gate_is, ap length (front_more s.bodies body), length-append (front s.bodies) (record_bytes body), length-append (to_be_bytes w32 (length body)) body);
      heads_are = ap (λ (h : List Head). h ++ record { gate = gate; body = gate + 5; bytes = count } ∷ []) s.heads_are
          ∙ ap (λ n. heads_of 16 s.bodies ++ record { gate = gate; body = gate + 5; bytes = n } ∷ []) (sym long)
          ∙ sym (heads_more 16 gate s.bodies body (s.gate_is ∙ length-front s.bodies));
    }

pub scanned_next : {bytes : List ℕ} {gate count next : ℕ} {heads more : List Head} → count < 2 ^ 32 → IsScanned bytes gate heads → LiesAt (drop gate bytes) (Open count)
    → more ≡ heads ++ record { gate = gate; body = gate + 5; bytes = count } ∷ [] → next ≡ gate + 5 + count → IsScanned bytes next more
scanned_next {bytes} {gate} {count} {next} {heads} {more} fits s lies pushed here =
    subst (λ (n : ℕ). IsScanned bytes n more) (sym here) (subst (λ (h : List Head). IsScanned bytes (gate + 5 + count) h) (sym pushed) (scanned_and bytes gate count heads fits s lies))

-- what lies at a gate, by what was found there
pub lies_as : (left : List ℕ) (found wanted : Gate) → found ≡ wanted → LiesAt left found → LiesAt left wanted
lies_as left found wanted is lies = subst (λ (x : Gate). LiesAt left x) is lies

-- at a closed gate the bodies are found
pub scanned_closed : (bytes : List ℕ) (gate : ℕ) (heads : List Head) → IsScanned bytes gate heads → LiesAt (drop gate bytes) Closed → IsFound bytes (gate + 1) heads
scanned_closed bytes gate heads s lies =
    let spells : Spells bytes s.bodies = inr (record {
      gate = lies.0;
      rest = lies.1.0;
      shut = lies.1.2;
      fit = s.fit;
      whole = s.whole ∙ ap (λ (l : List ℕ). front s.bodies ++ l) (sym (left_at bytes gate heads s) ∙ lies.1.1);
    }) in
    record {
      bodies = s.bodies;
      spelled = spells;
      laid_out = record { end_is = ap (λ n. n + 1) s.gate_is; heads_are = s.heads_are };
      not_refused = λ at. spelled_not_refused bytes s.bodies at spells;
    }

pub found_at : {bytes : List ℕ} {at end : ℕ} {heads : List Head} → at ≡ end → IsFound bytes end heads → IsFound bytes at heads
found_at {bytes} {at} {end} {heads} same found = subst (λ (n : ℕ). IsFound bytes n heads) (sym same) found

-- at a gate that is cut short the bytes are refused
pub scanned_cut : (bytes : List ℕ) (gate : ℕ) (heads : List Head) → IsScanned bytes gate heads → LiesAt (drop gate bytes) CutShort → IsCutShort bytes gate
scanned_cut bytes gate heads s lies = record {
  bodies = s.bodies;
  rest = lies.0;
  fit = s.fit;
  whole = s.whole ∙ ap (λ (l : List ℕ). front s.bodies ++ l) (sym (left_at bytes gate heads s) ∙ lies.1);
  at_is = s.gate_is;
  cut = lies.2;
}
