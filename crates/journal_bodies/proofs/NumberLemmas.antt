-- The bodies of a journal by their numbers.
use Rattle.std.proofs.Common.{◌≡◌, ℕ, zero, suc, ◌+◌, ◌-◌, ◌<◌, ◌≤◌, List, [], ◌∷◌, ◌++◌, length, take, drop, get_or, All, Some, refl, ap, subst, sym, ◌∙◌, arith}
use Rattle.std.specs.Prelude.{slice_get}
use Rattle.std.proofs.lemmas.List.Elements.{All-append, All-cons, All-nil, All-weaker}
use Rattle.journal_gates.specs.declared.head.Head.{Head}
use Rattle.journal_gates.specs.Found.{IsFound}
use Rattle.journal_gates.specs.Heads.{AreBodies, AreInRow, LiesBefore, heads_of}
use Rattle.journal_gates.specs.Records.{front}
use Rattle.journal_gates.specs.Spelled.{Spells}
use Rattle.journal_gates.proofs.HeadLemmas.{heads_grow, heads_lead, length-front}
use Rattle.journal_gates.proofs.LoadLemmas.{none_spelled}
use Rattle.journal_gates.proofs.SpellingLemmas.{spells_once}
use Rattle.journal_bodies.specs.Numbered.{LiesAt}

-- what was found are the bodies that the journal spells
pub found_heads : (journal : List ℕ) (bodies : List (List ℕ)) (end : ℕ) (heads : List Head) → Spells journal bodies → IsFound journal end heads → heads ≡ heads_of 16 bodies
found_heads journal bodies end heads spelled found =
    found.laid_out.heads_are ∙ ap (λ (b : List (List ℕ)). heads_of 16 b) (spells_once journal found.bodies bodies found.spelled spelled)

pub found_end : (journal : List ℕ) (bodies : List (List ℕ)) (end : ℕ) (heads : List Head) → Spells journal bodies → IsFound journal end heads → end ≡ length (front bodies) + 1
found_end journal bodies end heads spelled found =
    found.laid_out.end_is ∙ ap (λ (b : List (List ℕ)). length (front b) + 1) (spells_once journal found.bodies bodies found.spelled spelled)

pub new_heads : (journal : List ℕ) (bodies : List (List ℕ)) (heads : List Head) → length journal ≤ 17 → Spells journal bodies → heads ≡ [] → heads ≡ heads_of 16 bodies
new_heads journal bodies heads few spelled none = none ∙ ap (λ (b : List (List ℕ)). heads_of 16 b) (sym (none_spelled journal bodies few spelled))

pub new_end : (journal : List ℕ) (bodies : List (List ℕ)) → length journal ≤ 17 → Spells journal bodies → length (front bodies) + 1 ≡ 17
new_end journal bodies few spelled = ap (λ (b : List (List ℕ)). length (front b) + 1) (none_spelled journal bodies few spelled) ∙ omega (arith, length-front [])

-- the head of a number leads to its body
leads : (journal : List ℕ) (heads : List Head) (bodies : List (List ℕ)) (k : ℕ) (head : Head) → AreBodies journal heads bodies → k < length heads → head ≡ get_or heads k head
    → slice_get bodies k ≡ Some (take head.bytes (drop head.body journal))
leads journal [] bodies k head lead within is = absurd (omega (arith, within))
leads journal (h ∷ heads) [] k head lead within is = absurd lead
leads journal (h ∷ heads) (body ∷ bodies) zero head lead within is =
    ap Some (sym lead.0) ∙ ap (λ (x : Head). Some (take x.bytes (drop x.body journal))) (sym is)
leads journal (h ∷ heads) (body ∷ bodies) (suc k) head lead within is = leads journal heads bodies k head lead.1 (omega (arith, within)) is

pub lies_at : (journal : List ℕ) (heads : List Head) (bodies : List (List ℕ)) (number : ℕ) (head : Head) → Spells journal bodies → heads ≡ heads_of 16 bodies → 1 ≤ number → number ≤ length heads
    → head ≡ get_or heads (number - 1) head → LiesAt journal bodies number head
lies_at journal heads bodies number head spelled same some within is =
    leads journal heads bodies (number - 1) head (subst (λ (l : List Head). AreBodies journal l bodies) (sym same) (heads_lead journal bodies spelled)) (omega (arith, some, within)) is

-- ---- one more

abbrev pub head_at : ℕ → ℕ → Head
head_at gate bytes = record { gate = gate; body = gate + 5; bytes = bytes }

row_push : (from : ℕ) (heads : List Head) (end gate bytes last : ℕ) → AreInRow from heads end → gate + 1 ≡ end → last ≡ end + 5 + bytes → AreInRow from (heads ++ head_at gate bytes ∷ []) last
row_push from [] end gate bytes last row here long = (omega (arith, row, here), omega (arith, row, here), omega (arith, here, long))
row_push from (h ∷ heads) end gate bytes last row here long = (row.0, row.1, row_push (h.body + h.bytes) heads end gate bytes last row.2 here long)

pub row_more : (heads : List Head) (end gate bytes last : ℕ) → AreInRow 16 heads end → All (LiesBefore end) heads → gate + 1 ≡ end → last ≡ end + 5 + bytes
    → AreInRow 16 (heads ++ head_at gate bytes ∷ []) last × All (LiesBefore last) (heads ++ head_at gate bytes ∷ [])
row_more heads end gate bytes last row each here long = (
  row_push 16 heads end gate bytes last row here long,
  All-append (LiesBefore last) heads (head_at gate bytes ∷ [])
      (All-weaker (LiesBefore end) (LiesBefore last) (λ h lies. record { body = lies.body; within = omega (arith, lies.within, long) }) heads each)
      (All-cons (LiesBefore last) (head_at gate bytes) [] (record { body = refl; within = omega (arith, here, long) }) (All-nil (LiesBefore last))),
)

pub heads_with : (heads : List Head) (bodies : List (List ℕ)) (body : List ℕ) (end gate bytes : ℕ) → heads ≡ heads_of 16 bodies → length body ≡ bytes → end ≡ length (front bodies) + 1 → gate + 1 ≡ end
    → heads ++ head_at gate bytes ∷ [] ≡ heads_of 16 (bodies ++ body ∷ [])
heads_with heads bodies body end gate bytes same long is here =
    ap (λ (l : List Head). l ++ head_at gate bytes ∷ []) same
    ∙ ap (λ (n : ℕ). heads_of 16 bodies ++ head_at gate n ∷ []) (sym long)
    ∙ ap (λ (n : ℕ). heads_of 16 bodies ++ head_at n (length body) ∷ []) (omega (arith, is, here))
    ∙ sym (heads_grow bodies body)
