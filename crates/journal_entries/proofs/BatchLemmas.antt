-- A batch: what is read is spelled so, and what is spelled so is read.
use Rattle.std.specs.Prelude.{◌≡◌, ℕ, ◌-◌, ◌+◌, ◌^◌, ◌<◌, ◌≤◌, List, [], ◌∷◌, ◌++◌, length, Result, Ok, Err, suc, zero, refl}
use Rattle.std.proofs.Common.{sym, ap, subst, ◌∙◌, arith, append_assoc}
use Rattle.std.specs.Int.{w32, to_be_bytes}
use Rattle.std.proofs.lemmas.List.{append-nil, length-append}
use Rattle.base_types.specs.Reading.{◌>>=◌}
use Rattle.journal_entries.specs.declared.act.Act.{Act}
use Rattle.journal_entries.specs.declared.fields.FieldError.{FieldError}
use Rattle.journal_entries.specs.declared.fields.FieldError.TheVariants.{Form, Memory}
use Rattle.journal_entries.specs.Fields.{Fails}
use Rattle.journal_entries.specs.Acts.{most_acts, acts_bytes, batch_front, batch_spelling, IsBatch}
use Rattle.journal_entries.specs.FieldReading.{end_at}
use Rattle.journal_entries.specs.PlanReading.{number_in}
use Rattle.journal_entries.specs.Reading.{sized_at, acts_at, batch_at}
use Rattle.base_types.proofs.Readings.{bind_ok, ok_is, Within, Within-next}
use Rattle.base_types.proofs.Bytes.{IsBytes}
use Rattle.journal_entries.proofs.FieldLemmas.{end_takes, end_within}
use Rattle.journal_entries.proofs.FieldCodec.{IsField}
use Rattle.journal_entries.proofs.PlanFieldLemmas.{number_field}
use Rattle.journal_entries.proofs.ActLemmas.{acts_field, acts_length}

pub count_field : IsField ℕ (number_in 1 most_acts) (λ n. to_be_bytes w32 n) (λ n. (1 ≤ n) × (n ≤ most_acts))
count_field = number_field 1 most_acts (omega arith)

-- ---- a batch

pub batch_takes : (bytes : List ℕ) (acts : List Act) → IsBytes bytes → batch_at bytes ≡ Ok acts → IsBatch acts × (4 ∷ bytes ≡ batch_spelling acts)
unfolding batch_at batch_spelling
batch_takes bytes acts fits r =
    let n = bind_ok (number_in 1 most_acts bytes) _ acts r in
    let a = bind_ok (acts_at n.0.0 n.0.1) _ acts n.2 in
    let e = bind_ok (end_at a.0.1) _ acts a.2 in
    let count = count_field.takes bytes n.0 fits n.1 in
    let each = (acts_field n.0.0).takes n.0.1 a.0 count.0.rest_fits a.1 in
    let end = end_takes a.0.1 e.0 e.1 in
    let rest = each.0.parts ∙ ap (λ (xs : List ℕ). acts_bytes a.0.0 ++ xs) end ∙ append-nil (acts_bytes a.0.0) in
    let whole : 4 ∷ bytes ≡ batch_front (length a.0.0) ++ acts_bytes a.0.0 =
    ap (λ (xs : List ℕ). 4 ∷ xs) (count.0.parts ∙ (λ i. to_be_bytes w32 (sym each.1.0 i) ++ rest i)) in
    let some : 1 ≤ length a.0.0 = omega (arith, each.1.0, count.1.0) in
    let most : length a.0.0 ≤ most_acts = omega (arith, each.1.0, count.1.1) in
    subst (λ (y : List Act). IsBatch y × (4 ∷ bytes ≡ batch_front (length y) ++ acts_bytes y)) (ok_is a.0.0 acts e.2) (record { sized = (some, most); each = each.1.1 }, whole)

-- a spelling is the tag, and bytes that are read as the batch
pub batch_again : (acts : List Act) → IsBatch acts → (bytes : List ℕ) × (batch_spelling acts ≡ 4 ∷ bytes) × (batch_at bytes ≡ Ok acts)
unfolding batch_at batch_spelling
batch_again acts fits =
    let text = acts_bytes acts in
    let read : acts_at (length acts) text ≡ Ok (acts, []) =
    ap (acts_at (length acts)) (sym (append-nil text)) ∙ (acts_field (length acts)).again acts [] (refl, fits.each) in
    let again : batch_at (to_be_bytes w32 (length acts) ++ text) ≡ Ok acts =
    rw (count_field.again (length acts) text fits.sized, read) refl in
    (to_be_bytes w32 (length acts) ++ text, refl, again)

pub batch_within : (bytes : List ℕ) → Within (λ _. 0) (length bytes) (batch_at bytes)
unfolding batch_at
batch_within bytes =
    Within-next (λ x. length x.1) (λ _. 0) (length bytes) (number_in 1 most_acts bytes) _ (count_field.within bytes) (λ n.
    Within-next (λ x. length x.1) (λ _. 0) (length n.1) (acts_at n.0 n.1) _ ((acts_field n.0).within n.1) (λ a.
    Within-next (λ _. 0) (λ _. 0) (length a.1) (end_at a.1) _ (end_within a.1) (λ e. omega arith)))

batch_length : (acts : List Act) → length (batch_spelling acts) ≡ 5 + length (acts_bytes acts)
unfolding batch_spelling
batch_length acts = omega (arith, length-append (batch_front (length acts)) (acts_bytes acts))

-- a batch's length fits a record of the journal
pub batch_short : (acts : List Act) → IsBatch acts → length (batch_spelling acts) < 2 ^ 32
batch_short acts fits = omega (arith, batch_length acts, (acts_length acts fits.each).1, fits.sized.1)

pub batch_long : (acts : List Act) → IsBatch acts → 22 ≤ length (batch_spelling acts)
batch_long acts fits = omega (arith, batch_length acts, (acts_length acts fits.each).0, fits.sized.0)

-- ---- the loop that reads acts

-- what was read before, and what is still read
abbrev pub behind : List Act → Result (List Act × List ℕ) ℕ → Result (List Act × List ℕ) ℕ
behind acts (Ok read) = Ok (acts ++ read.0, read.1)
behind acts (Err left) = Err left

regroup : (acts : List Act) (a : Act) (read : Result (List Act × List ℕ) ℕ) → behind acts (read >>= λ o. Ok (a ∷ o.0, o.1)) ≡ behind (acts ++ a ∷ []) read
regroup acts a (Ok read) = λ i. Ok (sym (append_assoc acts (a ∷ []) read.0) i, read.1)
regroup acts a (Err left) = refl

pub goes_on : (acts : List Act) (count i : ℕ) (bytes : List ℕ) (a : Act) (rest : List ℕ) (total : Result (List Act × List ℕ) ℕ)
    → i < count → sized_at bytes ≡ Ok (a, rest) → behind acts (acts_at (count - i) bytes) ≡ total → behind (acts ++ a ∷ []) (acts_at (count - (i + 1)) rest) ≡ total
unfolding acts_at
goes_on acts count i bytes a rest total lt h so_far =
    let k : count - i ≡ suc (count - (i + 1)) = omega arith in
    let one : behind acts (acts_at (count - i) bytes) ≡ behind (acts ++ a ∷ []) (acts_at (count - (i + 1)) rest) =
    rw (k, h) (regroup acts a (acts_at (count - (i + 1)) rest)) in
    sym one ∙ so_far

pub ends : (e : FieldError) (acts : List Act) (count i : ℕ) (bytes : List ℕ) (total : Result (List Act × List ℕ) ℕ)
    → i < count → Fails e (sized_at bytes) → behind acts (acts_at (count - i) bytes) ≡ total → Fails e total
unfolding acts_at
ends Memory acts count i bytes total lt h so_far = tt
ends (Form left) acts count i bytes total lt h so_far =
    let k : count - i ≡ suc (count - (i + 1)) = omega arith in
    let one : behind acts (acts_at (count - i) bytes) ≡ Err left = rw (k, h) refl in
    sym so_far ∙ one

pub is_done : (acts : List Act) (count i : ℕ) (bytes : List ℕ) (total : Result (List Act × List ℕ) ℕ)
    → count ≤ i → behind acts (acts_at (count - i) bytes) ≡ total → total ≡ Ok (acts, bytes)
unfolding acts_at
is_done acts count i bytes total le so_far =
    let k : count - i ≡ zero = omega arith in
    let one : behind acts (acts_at (count - i) bytes) ≡ Ok (acts ++ [], bytes) = rw k refl in
    sym so_far ∙ one ∙ (λ j. Ok (append-nil acts j, bytes))
