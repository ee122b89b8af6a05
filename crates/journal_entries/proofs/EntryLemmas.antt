-- What is read is spelled so, and what is spelled so is read.
use Rattle.std.specs.Prelude.{◌≡◌, ℕ, zero, suc, ◌^◌, ◌<◌, ◌≤◌, List, [], ◌∷◌, ◌++◌, length, Result, Ok, Err, refl}
use Rattle.std.proofs.Common.{sym, ap, subst, ◌∙◌, arith}
use Rattle.std.specs.Int.{w16, to_be_bytes}
use Rattle.journal_entries.specs.declared.entry.Entry.{Entry}
use Rattle.journal_entries.specs.declared.entry.Entry.TheVariants.{Arrive, Delete, Planned, Format, Batch}
use Rattle.journal_entries.specs.declared.act.Act.{Act}
use Rattle.journal_entries.specs.Acts.{alone, act_spelling, IsAct}
use Rattle.journal_entries.specs.Spelling.{spelling, IsEntry}
use Rattle.base_types.specs.Reading.{◌>>=◌}
use Rattle.journal_entries.specs.FieldReading.{end_at}
use Rattle.journal_entries.specs.Reading.{arrive_at, delete_at, batch_at, format_at, entry_at}
use Rattle.journal_entries.specs.PlanReading.{named_at, if_within, plan_at}
use Rattle.base_types.proofs.Readings.{bind_ok, ok_is, Within, Within-more, Within-next, Within-err}
use Rattle.base_types.proofs.Bytes.{IsBytes}
use Rattle.journal_entries.proofs.ChangeLemmas.{change_field}
use Rattle.journal_entries.proofs.PlanFieldLemmas.{mark_field}
use Rattle.journal_entries.proofs.FieldLemmas.{text_at-ok, end_takes, end_within}
use Rattle.journal_entries.proofs.ActLemmas.{rest_fits, arrive_takes, delete_takes, arrive_within, delete_within, alone_fits, alone_spelled}
use Rattle.journal_entries.proofs.BatchLemmas.{batch_takes, batch_again, batch_within, batch_short, batch_long}
use Rattle.journal_entries.proofs.PlanLemmas.{plan_takes, plan_again, plan_within, plan_short, plan_long}

alone_takes : (tag : ℕ) (read : Result Act ℕ) (bytes : List ℕ) (e : Entry) → ((a : Act) → read ≡ Ok a → IsAct a × (tag ∷ bytes ≡ act_spelling a)) → (read >>= λ a. Ok (alone a)) ≡ Ok e → IsEntry e × (tag ∷ bytes ≡ spelling e)
alone_takes tag read bytes e takes r =
    let a = bind_ok read _ e r in
    let is = takes a.0 a.1 in
    subst (λ (y : Entry). IsEntry y × (tag ∷ bytes ≡ spelling y)) (ok_is (alone a.0) e a.2) (alone_fits a.0 is.0, is.1 ∙ alone_spelled a.0)

planned_takes : (bytes : List ℕ) (e : Entry) → IsBytes bytes → (plan_at bytes >>= λ plan. Ok (Planned plan)) ≡ Ok e → IsEntry e × (3 ∷ bytes ≡ spelling e)
planned_takes bytes e fits r =
    let p = bind_ok (plan_at bytes) _ e r in
    subst (λ (y : Entry). IsEntry y × (3 ∷ bytes ≡ spelling y)) (ok_is (Planned p.0) e p.2) (plan_takes bytes p.0 fits p.1)

mark_takes : (bytes : List ℕ) (e : Entry) → IsBytes bytes → format_at bytes ≡ Ok e → IsEntry e × (5 ∷ bytes ≡ spelling e)
unfolding format_at
mark_takes bytes e fits r =
    let n = bind_ok (named_at w16 (if_within 2 2) bytes) _ e r in
    let t = bind_ok (end_at n.0.1) _ e n.2 in
    let number = mark_field.takes bytes n.0 fits n.1 in
    let two : n.0.0 ≡ 2 = omega (arith, number.1.0, number.1.1) in
    let whole : bytes ≡ 0 ∷ 2 ∷ [] = number.0.parts ∙ (λ i. to_be_bytes w16 (two i) ++ end_takes n.0.1 t.0 t.1 i) in
    subst (λ (y : Entry). IsEntry y × (5 ∷ bytes ≡ spelling y)) (ok_is Format e t.2) (tt, ap (λ (xs : List ℕ). 5 ∷ xs) whole)

batch_entry_takes : (bytes : List ℕ) (e : Entry) → IsBytes bytes → (batch_at bytes >>= λ acts. Ok (Batch acts)) ≡ Ok e → IsEntry e × (4 ∷ bytes ≡ spelling e)
batch_entry_takes bytes e fits r =
    let a = bind_ok (batch_at bytes) _ e r in
    subst (λ (y : Entry). IsEntry y × (4 ∷ bytes ≡ spelling y)) (ok_is (Batch a.0) e a.2) (batch_takes bytes a.0 fits a.1)

-- what is read is an entry, and is spelled so
pub entry_takes : (bytes : List ℕ) (e : Entry) → IsBytes bytes → entry_at bytes ≡ Ok e → IsEntry e × (bytes ≡ spelling e)
unfolding entry_at
entry_takes [] e fits r = absurd cc
entry_takes (zero ∷ bytes) e fits r = absurd cc
entry_takes (suc zero ∷ bytes) e fits r = alone_takes 1 (arrive_at bytes) bytes e (λ a is. arrive_takes bytes a (rest_fits 1 bytes fits) is) r
entry_takes (suc (suc zero) ∷ bytes) e fits r = alone_takes 2 (delete_at bytes) bytes e (λ a is. delete_takes bytes a (rest_fits 2 bytes fits) is) r
entry_takes (suc (suc (suc zero)) ∷ bytes) e fits r = planned_takes bytes e (rest_fits 3 bytes fits) r
entry_takes (suc (suc (suc (suc zero))) ∷ bytes) e fits r = batch_entry_takes bytes e (rest_fits 4 bytes fits) r
entry_takes (suc (suc (suc (suc (suc zero)))) ∷ bytes) e fits r = mark_takes bytes e (rest_fits 5 bytes fits) r
entry_takes (suc (suc (suc (suc (suc (suc tag))))) ∷ bytes) e fits r = absurd cc

-- what is spelled so is read
pub entry_again : (e : Entry) → IsEntry e → entry_at (spelling e) ≡ Ok e
unfolding entry_at arrive_at delete_at format_at
entry_again (Arrive doc at text) fits = rw (change_field.again (doc, at) text fits.0, text_at-ok text text refl fits.2 fits.3) refl
entry_again (Delete doc at) fits = rw (change_field.again (doc, at) [] fits.0) refl
entry_again (Planned plan) fits = let again = plan_again plan fits in rw (again.1, again.2) refl
entry_again Format fits = refl
entry_again (Batch acts) fits = let again = batch_again acts fits in rw (again.1, again.2) refl

-- a reading that goes on behind a tag, and makes an entry of what is read
behind_tag : {A : Type 0} (tag : ℕ) (bytes : List ℕ) (read : Result A ℕ) (make : A → Entry) → Within (λ _. 0) (length bytes) read → Within (λ _. 0) (length (tag ∷ bytes)) (read >>= λ x. Ok (make x))
behind_tag tag bytes read make within = Within-more (λ _. 0) (length bytes) (length (tag ∷ bytes)) _ (omega arith) (Within-next (λ _. 0) (λ _. 0) (length bytes) read _ within (λ x. omega arith))

mark_within : (bytes : List ℕ) → Within (λ (_ : Entry). 0) (length bytes) (format_at bytes)
unfolding format_at
mark_within bytes = Within-next (λ x. length x.1) (λ _. 0) (length bytes) (named_at w16 (if_within 2 2) bytes) _ (mark_field.within bytes) (λ n. Within-next (λ _. 0) (λ _. 0) (length n.1) (end_at n.1) _ (end_within n.1) (λ t. omega arith))

pub entry_within : (bytes : List ℕ) → Within (λ _. 0) (length bytes) (entry_at bytes)
unfolding entry_at
entry_within [] = omega arith
entry_within (zero ∷ bytes) = omega arith
entry_within (suc zero ∷ bytes) = behind_tag 1 bytes (arrive_at bytes) alone (arrive_within bytes)
entry_within (suc (suc zero) ∷ bytes) = behind_tag 2 bytes (delete_at bytes) alone (delete_within bytes)
entry_within (suc (suc (suc zero)) ∷ bytes) = behind_tag 3 bytes (plan_at bytes) (λ plan. Planned plan) (plan_within bytes)
entry_within (suc (suc (suc (suc zero))) ∷ bytes) = behind_tag 4 bytes (batch_at bytes) (λ acts. Batch acts) (batch_within bytes)
entry_within (suc (suc (suc (suc (suc zero)))) ∷ bytes) = Within-more (λ _. 0) (length bytes) (length (5 ∷ bytes)) _ (omega arith) (mark_within bytes)
entry_within (suc (suc (suc (suc (suc (suc tag))))) ∷ bytes) = omega arith

-- what is left at a fault is no more than there was
pub entry_left : (bytes : List ℕ) (left : ℕ) → entry_at bytes ≡ Err left → left ≤ length bytes
entry_left bytes left e = Within-err (λ _. 0) (length bytes) (entry_at bytes) left (entry_within bytes) e

-- what is read as an entry spells no other
pub entry_only : (bytes : List ℕ) (a b : Entry) → entry_at bytes ≡ Ok a → IsEntry b → bytes ≡ spelling b → a ≡ b
entry_only bytes a b e fits same = ok_is a b (sym e ∙ ap entry_at same ∙ entry_again b fits)

-- what fails spells nothing
pub entry_none : (bytes : List ℕ) (left : ℕ) (e : Entry) → entry_at bytes ≡ Err left → IsEntry e → bytes ≡ spelling e → ⊥
entry_none bytes left e fails fits same = let read = ap entry_at same ∙ entry_again e fits in cc

-- two entries with one spelling are one
pub one_entry : (a b : Entry) → IsEntry a → IsEntry b → spelling a ≡ spelling b → a ≡ b
one_entry a b p q same = entry_only (spelling a) a b (entry_again a p) q same

-- ---- how long it is

pub entry_long : (e : Entry) → IsEntry e → 3 ≤ length (spelling e)
entry_long (Arrive doc at text) fits = omega arith
entry_long (Delete doc at) fits = omega arith
entry_long (Planned plan) fits = omega (arith, plan_long plan fits)
entry_long Format fits = omega arith
entry_long (Batch acts) fits = omega (arith, batch_long acts fits)

-- an entry's length fits a record of the journal
pub entry_short : (e : Entry) → IsEntry e → length (spelling e) < 2 ^ 32
entry_short (Arrive doc at text) fits = omega arith
entry_short (Delete doc at) fits = omega arith
entry_short (Planned plan) fits = plan_short plan fits
entry_short Format fits = omega arith
entry_short (Batch acts) fits = batch_short acts fits
