-- How an append goes: the record behind the closed gate, and then the gate.
use Rattle.std.proofs.Common.{◌≡◌, ◌≢◌, ◌⊎◌, ℕ, ◌+◌, ◌-◌, ◌<◌, ◌≤◌, ◌^◌, List, [], ◌∷◌, ◌++◌, length, drop, get_or, inl, inr, ap, subst, sym, ◌∙◌, arith, append_assoc, length-append}
use Rattle.std.specs.Int.{w32, to_be_bytes}
use Rattle.std.proofs.lemmas.Grind.{flat_map-append}
use Rattle.std.proofs.lemmas.Bool.{cases_eq}
use Rattle.std.proofs.lemmas.List.{append-nil}
use Rattle.std.proofs.lemmas.List.Elements.{All-append, All-cons}
use Rattle.machine_model.specs.Areas.{Bytes}
use Rattle.machine_model.specs.States.{DiskState}
use Rattle.machine_model.specs.Images.{MayLeave, Only, Torn}
use Rattle.machine_model.specs.Calls.{WritesThrough, Stays, written}
use Rattle.machine_model.specs.declared.area.Area.TheVariants.{Journal}
use Rattle.machine_model.proofs.MomentLemmas.{joined, goes_on_joins}
use Rattle.journal_gates.specs.Header.{header}
use Rattle.journal_gates.specs.Records.{open_gate, framed, behind_gate, record_bytes, records, front, Fit}
use Rattle.journal_gates.specs.Spelled.{SpellsLong, Spells}
use Rattle.journal_gates.specs.InStep.{IsInStep}
use Rattle.journal_gates.specs.Crash.{Appends}
use Rattle.journal_gates.proofs.TornLemmas.{torn_behind, torn_byte, written_behind}

Either : List (List ℕ) → List ℕ → DiskState → Bytes → List ℕ → Type 0
Either bodies body old image beside = (Spells image.journal bodies ⊎ Spells image.journal (bodies ++ body ∷ [])) × (beside ≡ old.now.beside)

-- the front with one record more
pub front_more : (bodies : List (List ℕ)) (body : List ℕ) → front (bodies ++ body ∷ []) ≡ front bodies ++ record_bytes body
front_more bodies body = ap (λ (l : List ℕ). header ++ l) (flat_map-append record_bytes bodies (body ∷ []) ∙ ap (λ (l : List ℕ). records bodies ++ l) (append-nil (record_bytes body)))
    ∙ sym (append_assoc header (records bodies) (record_bytes body))

pub fit_more : (bodies : List (List ℕ)) (body : List ℕ) → Fit bodies → length body < 2 ^ 32 → Fit (bodies ++ body ∷ [])
fit_more bodies body fit fits = All-append (λ b. length b < 2 ^ 32) bodies (body ∷ []) fit (All-cons (λ b. length b < 2 ^ 32) body [] fits (λ k d inside. absurd (omega (arith, inside))))

pub appends_join : {bodies : List (List ℕ)} {body : List ℕ} {a b c : DiskState} → Appends bodies body a b → b.now.beside ≡ a.now.beside → Appends bodies body b c → Appends bodies body a c
unfolding Either
appends_join {bodies} {body} {a} {b} {c} first same second = record {
  goes_on = goes_on_joins first.goes_on second.goes_on;
  images = joined (Either bodies body a) first.goes_on first.images second.goes_on (λ image beside left.
      let later = second.images image beside left in (later.0, later.1 ∙ same));
}

-- the gate stays closed while a record is written behind it
still_spells : (end n gate : ℕ) (bodies : List (List ℕ)) (rest c : List ℕ) → gate ≢ open_gate → Fit bodies → end ≡ length (front bodies) + 1
    → Torn end n (front bodies ++ gate ∷ rest) c → SpellsLong c bodies
still_spells end n gate bodies rest c shut fit here torn =
    let p = front bodies ++ gate ∷ [] in
    let far : length p ≤ end = omega (arith, here, length-append (front bodies) (gate ∷ [])) in
    let split : front bodies ++ gate ∷ rest ≡ p ++ rest = sym (append_assoc (front bodies) (gate ∷ []) rest) in
    let T : List ℕ → Type 0 = λ l. Torn end n l c in
    record {
      gate = gate;
      rest = drop (length p) c;
      shut = shut;
      fit = fit;
      whole = torn_behind end n p rest c (subst T split torn) far ∙ append_assoc (front bodies) (gate ∷ []) (drop (length p) c);
    }

-- while the record is written each image spells the old bodies
pub record_written : {at end n : ℕ} {bodies : List (List ℕ)} (body : List ℕ) {a b : DiskState} → at ≡ end → IsInStep a end bodies → WritesThrough Journal at n a b → Appends bodies body a b
unfolding Either
record_written {at} {end} {n} {bodies} body {a} {b} here step through = record {
  goes_on = through.goes_on;
  images = λ image beside left.
      let w = through.images image beside left in
      let is = step.images w.0 w.1 in
      let T : List ℕ → Type 0 = λ l. Torn at n l image.journal in
      let spells : Spells image.journal bodies = elim w.2 as (λ _. Spells image.journal bodies) [
        | inl equal ↦ inr (record { gate = step.gate; rest = is.0; shut = step.shut; fit = step.fit; whole = ap (λ (i : Bytes). i.journal) equal ∙ is.1 })
        | inr torn ↦ inr (still_spells at n step.gate bodies is.0 image.journal step.shut step.fit (here ∙ step.end_is) (subst T is.1 torn.here))
      ] in
      (inl spells, w.3);
}

-- then the record stands behind the closed gate in the one image
pub record IsStaged (d : DiskState) (end : ℕ) (bodies : List (List ℕ)) (body : List ℕ) : Type 0 where
  pub gate : ℕ
  pub rest : List ℕ
  pub shut : gate ≢ open_gate
  pub fit : Fit bodies
  pub fits : length body < 2 ^ 32
  pub end_is : end ≡ length (front bodies) + 1
  pub only : Only d.holds d
  pub journal : d.holds.journal ≡ front bodies ++ gate ∷ (framed body ++ 0 ∷ rest)

pub staged : {at end : ℕ} {bodies : List (List ℕ)} {body bytes : List ℕ} {a b : DiskState} → at ≡ end → length body < 2 ^ 32 → bytes ≡ behind_gate body → IsInStep a end bodies → MayLeave a.now a.holds
    → Stays Journal at bytes a b → IsStaged b at bodies body
staged {at} {end} {bodies} {body} {bytes} {a} {b} same fits spelled step now stays =
    let is = step.images a.holds now in
    let p = front bodies ++ step.gate ∷ [] in
    let rest = drop (length (behind_gate body)) is.0 in
    let here : at ≡ length p = omega (arith, same, step.end_is, length-append (front bodies) (step.gate ∷ [])) in
    record {
      gate = step.gate;
      rest = rest;
      shut = step.shut;
      fit = step.fit;
      fits = fits;
      end_is = same ∙ step.end_is;
      only = stays.only;
      journal = ap (λ (i : Bytes). i.journal) stays.holds ∙ ap (λ (l : List ℕ). written at l a.holds.journal) spelled ∙ ap (written at (behind_gate body)) (is.1 ∙ sym (append_assoc (front bodies) (step.gate ∷ []) is.0))
          ∙ written_behind at (behind_gate body) p is.0 here ∙ append_assoc (front bodies) (step.gate ∷ []) (behind_gate body ++ rest)
          ∙ ap (λ (l : List ℕ). front bodies ++ step.gate ∷ l) (append_assoc (framed body) (0 ∷ []) rest);
    }

-- with its gate open the record counts
opened : (bodies : List (List ℕ)) (body rest : List ℕ) → front bodies ++ open_gate ∷ (framed body ++ 0 ∷ rest) ≡ front (bodies ++ body ∷ []) ++ 0 ∷ rest
opened bodies body rest = sym (append_assoc (front bodies) (record_bytes body) (0 ∷ rest)) ∙ ap (λ (l : List ℕ). l ++ 0 ∷ rest) (sym (front_more bodies body))

opened_spells : (bodies : List (List ℕ)) (body rest c : List ℕ) → Fit bodies → length body < 2 ^ 32 → c ≡ front bodies ++ open_gate ∷ (framed body ++ 0 ∷ rest) → SpellsLong c (bodies ++ body ∷ [])
opened_spells bodies body rest c fit fits whole = record { gate = 0; rest = rest; shut = λ same. cc; fit = fit_more bodies body fit fits; whole = whole ∙ opened bodies body rest }

-- while the gate is written each image spells the old bodies, or these and the new one
gate_torn : {d : DiskState} {end : ℕ} {bodies : List (List ℕ)} {body : List ℕ} (c : List ℕ) → (s : IsStaged d end bodies body) → Torn (end - 1) 1 d.holds.journal c → Spells c bodies ⊎ Spells c (bodies ++ body ∷ [])
gate_torn {d} {end} {bodies} {body} c s torn =
    let behind = framed body ++ 0 ∷ s.rest in
    let T : List ℕ → Type 0 = λ l. Torn (end - 1) 1 l c in
    let whole : c ≡ front bodies ++ get_or c (end - 1) 0 ∷ behind = torn_byte (end - 1) (front bodies) behind c s.gate (omega (arith, s.end_is)) (subst T s.journal torn) in
    elim (cases_eq (get_or c (end - 1) 0) open_gate) as (λ _. Spells c bodies ⊎ Spells c (bodies ++ body ∷ [])) [
      | inl is_open ↦ inr (inr (opened_spells bodies body s.rest c s.fit s.fits (whole ∙ ap (λ g. front bodies ++ g ∷ behind) is_open)))
      | inr shut ↦ inl (inr (record { gate = get_or c (end - 1) 0; rest = behind; shut = shut; fit = s.fit; whole = whole }))
    ]

pub gate_written : {end : ℕ} {bodies : List (List ℕ)} {body : List ℕ} {b c : DiskState} → IsStaged b end bodies body → WritesThrough Journal (end - 1) 1 b c → Appends bodies body b c
unfolding Either
gate_written {end} {bodies} {body} {b} {c} s through = record {
  goes_on = through.goes_on;
  images = λ image beside left.
      let w = through.images image beside left in
      let one = s.only w.0 w.1 in
      let T : Bytes → Type 0 = λ i. Torn (end - 1) 1 i.journal image.journal in
      let either : Spells image.journal bodies ⊎ Spells image.journal (bodies ++ body ∷ []) = elim w.2 as (λ _. Spells image.journal bodies ⊎ Spells image.journal (bodies ++ body ∷ [])) [
        | inl equal ↦ inl (inr (record { gate = s.gate; rest = framed body ++ 0 ∷ s.rest; shut = s.shut; fit = s.fit; whole = ap (λ (i : Bytes). i.journal) (equal ∙ one) ∙ s.journal }))
        | inr torn ↦ gate_torn image.journal s (subst T one torn.here)
      ] in
      (either, w.3);
}

-- both writes
pub both_written : {at end n : ℕ} {bodies : List (List ℕ)} {body bytes gate : List ℕ} {a b c : DiskState} → at ≡ end → length body < 2 ^ 32 → bytes ≡ behind_gate body → gate ≡ open_gate ∷ []
    → IsInStep a end bodies → MayLeave a.now a.holds → WritesThrough Journal at n a b → Stays Journal at bytes a b → b.now.beside ≡ a.now.beside → WritesThrough Journal (at - 1) (length gate) b c → Appends bodies body a c
both_written {at = at} {body = body} {b = b} {c = c} same fits spelled is_open step now first stays beside second =
    let W : ℕ → Type 0 = λ n. WritesThrough Journal (at - 1) n b c in
    appends_join (record_written body same step first) beside (gate_written (staged same fits spelled step now stays) (subst W (ap length is_open) second))

pub length-behind_gate : (body : List ℕ) → length (behind_gate body) ≡ 5 + length body
length-behind_gate body = omega (arith, length-append (framed body) (0 ∷ []), length-append (to_be_bytes w32 (length body)) body)

-- and then the disk is in step with one body more
pub appended : {end : ℕ} {bodies : List (List ℕ)} {body gate : List ℕ} {b c : DiskState} → IsStaged b end bodies body → gate ≡ open_gate ∷ [] → Stays Journal (end - 1) gate b c
    → IsInStep c (end + 5 + length body) (bodies ++ body ∷ [])
appended {end} {bodies} {body} {gate} {b} {c} s is_open stays =
    let behind = framed body ++ 0 ∷ s.rest in
    let journal : c.holds.journal ≡ front (bodies ++ body ∷ []) ++ 0 ∷ s.rest =
    ap (λ (i : Bytes). i.journal) stays.holds ∙ ap (λ (l : List ℕ). written (end - 1) l b.holds.journal) is_open ∙ ap (written (end - 1) (open_gate ∷ [])) s.journal
    ∙ written_behind (end - 1) (open_gate ∷ []) (front bodies) (s.gate ∷ behind) (omega (arith, s.end_is)) ∙ opened bodies body s.rest in
    record {
      gate = 0;
      shut = λ same. cc;
      fit = fit_more bodies body s.fit s.fits;
      end_is = omega (arith, s.end_is, ap length (front_more bodies body), length-append (front bodies) (record_bytes body), length-append (framed body) []);
      images = λ image allowed. (s.rest, ap (λ (i : Bytes). i.journal) (stays.only image allowed) ∙ journal);
    }
