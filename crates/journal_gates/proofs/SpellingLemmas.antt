-- That bytes spell one list of bodies at most, and are refused at one place at most.
use Rattle.std.proofs.Common.{◌≡◌, ◌≢◌, ◌⊎◌, ℕ, ◌+◌, ◌<◌, ◌≤◌, ◌^◌, List, [], ◌∷◌, ◌++◌, length, take, drop, get_or, suc, refl, inl, inr, ap, subst, sym, ◌∙◌, arith, append_assoc, length-append}
use Rattle.std.specs.Int.{w32, to_be_bytes, from_be_bytes}
use Rattle.std.proofs.lemmas.Nat.{from_be_bytes-to_be_bytes_4}
use Rattle.std.proofs.lemmas.Bool.{cases_lt}
use Rattle.std.proofs.lemmas.List.{append_cancel_left, get_or_append_left, get_or-take}
use Rattle.std.proofs.Math.Seq.{take-append_seam, drop-append_seam}
use Rattle.journal_gates.specs.Header.{header}
use Rattle.journal_gates.specs.Records.{open_gate, record_bytes, records, front, Fit}
use Rattle.journal_gates.specs.Spelled.{SpellsLong, Spells}
use Rattle.journal_gates.specs.Refused.{IsFirstWrong, IsCut, IsCutShort, IsNotJournal}

pub length-header : length header ≡ 16
unfolding header
length-header = refl

-- two lists of one length in front are the same if the whole is
same_front : (a b s t : List ℕ) → length a ≡ length b → a ++ s ≡ b ++ t → (a ≡ b) × (s ≡ t)
same_front a b s t long same = (
  sym (take-append_seam a s) ∙ ap (take (length a)) same ∙ ap (λ n. take n (b ++ t)) long ∙ take-append_seam b t,
  sym (drop-append_seam a s) ∙ ap (drop (length a)) same ∙ ap (λ n. drop n (b ++ t)) long ∙ drop-append_seam b t,
)

-- a record in front is read in one way
same_record : (x y s t : List ℕ) → length x < 2 ^ 32 → length y < 2 ^ 32 → record_bytes x ++ s ≡ record_bytes y ++ t → (x ≡ y) × (s ≡ t)
same_record x y s t x_fits y_fits same =
    let lx = to_be_bytes w32 (length x) in
    let ly = to_be_bytes w32 (length y) in
    let behind : lx ++ (x ++ s) ≡ ly ++ (y ++ t) = sym (append_assoc lx x s) ∙ ap (drop 1) same ∙ append_assoc ly y t in
    let parts = same_front lx ly (x ++ s) (y ++ t) refl behind in
    let long : length x ≡ length y = sym (from_be_bytes-to_be_bytes_4 (length x) x_fits) ∙ ap (from_be_bytes w32) parts.0 ∙ from_be_bytes-to_be_bytes_4 (length y) y_fits in
    same_front x y s t long parts.1

-- what lies at the last gate: a closed gate, or an open one that is cut short
pub Stops : List ℕ → Type 0
Stops tail = ((gate : ℕ) × ((rest : List ℕ) × (tail ≡ gate ∷ rest) × (gate ≢ open_gate))) ⊎ ((rest : List ℕ) × (tail ≡ open_gate ∷ rest) × IsCut rest)

some_stops : (tail : List ℕ) → Stops tail → 0 < length tail
unfolding Stops
some_stops tail (inl shut) = omega (arith, ap length shut.1.1)
some_stops tail (inr cut) = omega (arith, ap length cut.1)

-- behind a record and something more there is no stop
goes_on : (body tail : List ℕ) → length body < 2 ^ 32 → 0 < length tail → Stops (record_bytes body ++ tail) → ⊥
unfolding Stops
goes_on body tail fits some (inl shut) = shut.1.2 (sym (ap (λ (l : List ℕ). get_or l 0 0) shut.1.1))
goes_on body tail fits some (inr cut) =
    let lb = to_be_bytes w32 (length body) in
    let rest : cut.0 ≡ lb ++ (body ++ tail) = ap (drop 1) (sym cut.1) ∙ append_assoc lb body tail in
    let long : length cut.0 ≡ 4 + (length body + length tail) = ap length rest ∙ length-append lb (body ++ tail) ∙ ap (λ n. 4 + n) (length-append body tail) in
    let told : from_be_bytes w32 (take 4 cut.0) ≡ length body =
    ap (λ (l : List ℕ). from_be_bytes w32 (take 4 l)) rest ∙ ap (from_be_bytes w32) (take-append_seam lb (body ++ tail)) ∙ from_be_bytes-to_be_bytes_4 (length body) fits in
    elim cut.2 as (λ _. ⊥) [ inl few ↦ omega (arith, few, long) | inr short ↦ omega (arith, short, long, told) ]

fits_first : (y : List ℕ) (b : List (List ℕ)) → Fit (y ∷ b) → length y < 2 ^ 32
fits_first y b fit = fit 0 [] (omega arith)

fits_rest : (y : List ℕ) (b : List (List ℕ)) → Fit (y ∷ b) → Fit b
fits_rest y b fit = λ k d inside. fit (suc k) d (omega arith)

-- records up to a stop are read in one way
same_records : (a b : List (List ℕ)) (s t : List ℕ) → Fit a → Fit b → Stops s → Stops t → records a ++ s ≡ records b ++ t → (a ≡ b) × (s ≡ t)
same_records [] [] s t a_fit b_fit one other same = (refl, same)
same_records [] (y ∷ b) s t a_fit b_fit one other same =
    absurd (goes_on y (records b ++ t) (fits_first y b b_fit) (omega (arith, some_stops t other, length-append (records b) t)) (subst Stops (same ∙ append_assoc (record_bytes y) (records b) t) one))
same_records (x ∷ a) [] s t a_fit b_fit one other same =
    absurd (goes_on x (records a ++ s) (fits_first x a a_fit) (omega (arith, some_stops s one, length-append (records a) s)) (subst Stops (sym same ∙ append_assoc (record_bytes x) (records a) s) other))
same_records (x ∷ a) (y ∷ b) s t a_fit b_fit one other same =
    let head = same_record x y (records a ++ s) (records b ++ t) (fits_first x a a_fit) (fits_first y b b_fit) (sym (append_assoc (record_bytes x) (records a) s) ∙ same ∙ append_assoc (record_bytes y) (records b) t) in
    let more = same_records a b s t (fits_rest x a a_fit) (fits_rest y b b_fit) one other head.1 in
    (ap (λ (h : List ℕ). h ∷ a) head.0 ∙ ap (λ (l : List (List ℕ)). y ∷ l) more.0, more.1)

-- a header, the records of these bodies, and a stop
pub record Ends (bytes : List ℕ) (bodies : List (List ℕ)) (tail : List ℕ) : Type 0 where
  pub fit : Fit bodies
  pub stops : Stops tail
  pub whole : bytes ≡ front bodies ++ tail

pub ends_once : {bytes : List ℕ} {a b : List (List ℕ)} {s t : List ℕ} → Ends bytes a s → Ends bytes b t → (a ≡ b) × (s ≡ t)
ends_once {bytes} {a} {b} {s} {t} one other = same_records a b s t one.fit other.fit one.stops other.stops
    (append_cancel_left header (records a ++ s) (records b ++ t) (sym (append_assoc header (records a) s) ∙ sym one.whole ∙ other.whole ∙ append_assoc header (records b) t))

pub ends_spelled : {bytes : List ℕ} {bodies : List (List ℕ)} (s : SpellsLong bytes bodies) → Ends bytes bodies (s.gate ∷ s.rest)
unfolding Stops
ends_spelled s = record { fit = s.fit; stops = inl (s.gate, (s.rest, refl, s.shut)); whole = s.whole }

pub ends_cut : {bytes : List ℕ} {at : ℕ} (s : IsCutShort bytes at) → Ends bytes s.bodies (open_gate ∷ s.rest)
unfolding Stops
ends_cut s = record { fit = s.fit; stops = inr (s.rest, refl, s.cut); whole = s.whole }

-- a journal of at most 17 bytes has no room for a record
few_spell_none : (bytes : List ℕ) (bodies : List (List ℕ)) → length bytes ≤ 17 → SpellsLong bytes bodies → bodies ≡ []
few_spell_none bytes [] few long = refl
few_spell_none bytes (x ∷ bodies) few long =
    let rest = records bodies ++ long.gate ∷ long.rest in
    let all : bytes ≡ header ++ (record_bytes x ++ rest) = long.whole ∙ append_assoc header (records (x ∷ bodies)) (long.gate ∷ long.rest) ∙ ap (λ (l : List ℕ). header ++ l) (append_assoc (record_bytes x) (records bodies) (long.gate ∷ long.rest)) in
    absurd (omega (arith, few, ap length all, length-header, length-append header (record_bytes x ++ rest), length-append (record_bytes x) rest, length-append (to_be_bytes w32 (length x)) x))

-- bytes spell one list of bodies at most
pub spells_once : (bytes : List ℕ) (a b : List (List ℕ)) → Spells bytes a → Spells bytes b → a ≡ b
spells_once bytes a b (inl one) (inl other) = one.1 ∙ sym other.1
spells_once bytes a b (inl one) (inr other) = one.1 ∙ sym (few_spell_none bytes b one.0 other)
spells_once bytes a b (inr one) (inl other) = few_spell_none bytes a other.0 one ∙ sym other.1
spells_once bytes a b (inr one) (inr other) = (ends_once (ends_spelled one) (ends_spelled other)).0

-- where the header is whole no byte of it is wrong
header_right : (bytes rest : List ℕ) (at : ℕ) → bytes ≡ header ++ rest → IsFirstWrong bytes at → ⊥
header_right bytes rest at whole wrong = wrong.wrong (ap (λ (l : List ℕ). get_or l at 0) whole ∙ get_or_append_left header rest 0 at wrong.inside)

ends_right : {bytes : List ℕ} {bodies : List (List ℕ)} {tail : List ℕ} (at : ℕ) → Ends bytes bodies tail → IsFirstWrong bytes at → ⊥
ends_right {bytes} {bodies} {tail} at ends wrong = header_right bytes (records bodies ++ tail) at (ends.whole ∙ append_assoc header (records bodies) tail) wrong

-- bytes that spell bodies are refused nowhere
pub spelled_not_refused : (bytes : List ℕ) (bodies : List (List ℕ)) (at : ℕ) → Spells bytes bodies → IsNotJournal bytes at → ⊥
spelled_not_refused bytes bodies at (inl few) refused = omega (arith, few.0, refused.0)
spelled_not_refused bytes bodies at (inr long) refused = elim refused.1 as (λ _. ⊥) [
  | inl wrong ↦ ends_right at (ends_spelled long) wrong
  | inr cut ↦ long.shut (ap (λ (l : List ℕ). get_or l 0 0) (ends_once (ends_spelled long) (ends_cut cut)).1)
]

-- the first of two wrong bytes isn't wrong
first_not_later : (bytes : List ℕ) (one other : ℕ) → IsFirstWrong bytes one → IsFirstWrong bytes other → one < other → ⊥
first_not_later bytes one other first second before = first.wrong
    (sym (get_or-take other bytes one 0 before) ∙ ap (λ (l : List ℕ). get_or l one 0) second.before ∙ get_or-take other header one 0 before)

first_once : (bytes : List ℕ) (one other : ℕ) → IsFirstWrong bytes one → IsFirstWrong bytes other → one ≡ other
first_once bytes one other first second = elim (cases_lt one other) as (λ _. one ≡ other) [
  | inl before ↦ absurd (first_not_later bytes one other first second before)
  | inr behind ↦ elim (cases_lt other one) as (λ _. one ≡ other) [
    | inl after ↦ absurd (first_not_later bytes other one second first after)
    | inr here ↦ omega (arith, behind, here)
  ]
]

-- bytes are refused at one place at most
pub refused_once : (bytes : List ℕ) (one other : ℕ) → IsNotJournal bytes one → IsNotJournal bytes other → one ≡ other
refused_once bytes one other first second = elim first.1 as (λ _. one ≡ other) [
  | inl wrong ↦ elim second.1 as (λ _. one ≡ other) [
    | inl later ↦ first_once bytes one other wrong later
    | inr cut ↦ absurd (ends_right one (ends_cut cut) wrong)
  ]
  | inr cut ↦ elim second.1 as (λ _. one ≡ other) [
    | inl wrong ↦ absurd (ends_right other (ends_cut cut) wrong)
    | inr again ↦ cut.at_is ∙ ap (λ (l : List (List ℕ)). length (front l)) (ends_once (ends_cut cut) (ends_cut again)).0 ∙ sym again.at_is
  ]
]
