-- An act that is read is spelled so, and what is spelled so is read.
use Rattle.std.specs.Prelude.{◌≡◌, ℕ, zero, suc, ◌+◌, ◌*◌, ◌^◌, ◌≤◌, Bool, true, false, cond, nat_lt, List, [], ◌∷◌, ◌++◌, length, take, drop, All, Result, Ok, Err, refl}
use Rattle.std.proofs.Common.{sym, ap, subst, ◌∙◌, arith, append_assoc}
use Rattle.std.specs.Int.{w32, w64, to_be_bytes}
use Rattle.std.proofs.lemmas.Bool.{ltb-false, le-ltb}
use Rattle.std.proofs.lemmas.List.{take_at, drop_at, take-append-drop, length-append, length-take, length-drop}
use Rattle.std.proofs.lemmas.List.Elements.{All-nil, All-cons, All-head, All-tail}
use Rattle.base_types.specs.declared.ids.DocId.{DocId}
use Rattle.base_types.specs.declared.time.Time.{Time}
use Rattle.journal_entries.specs.declared.act.Act.{Act}
use Rattle.journal_entries.specs.declared.act.Act.TheVariants.{Arrive, Delete}
use Rattle.journal_entries.specs.Acts.{alone, act_spelling, act_bytes, acts_bytes, IsAct}
use Rattle.journal_entries.specs.Spelling.{spelling, IsEntry}
use Rattle.journal_entries.specs.FieldReading.{number_at, end_at}
use Rattle.journal_entries.specs.Reading.{change_at, text_at, arrive_at, delete_at, act_at, with_rest, act_of, sized_at, acts_at}
use Rattle.base_types.proofs.Readings.{bind_ok, ok_is, Within, Within-more, Within-next}
use Rattle.base_types.proofs.Bytes.{IsBytes, IsBytes-take, IsBytes-drop, wide32}
use Rattle.journal_entries.proofs.FieldLemmas.{Takes, number_takes, number_again, number_within, text_at-ok, text_takes, text_within, end_takes, end_within}
use Rattle.journal_entries.proofs.ChangeLemmas.{change_field}
use Rattle.journal_entries.proofs.FieldCodec.{IsField, both}

-- ---- an act that takes all the bytes

pub rest_fits : (b : ℕ) (bytes : List ℕ) → IsBytes (b ∷ bytes) → IsBytes bytes
rest_fits b bytes fits i = fits (suc i)

pub arrive_takes : (bytes : List ℕ) (a : Act) → IsBytes bytes → arrive_at bytes ≡ Ok a → IsAct a × (1 ∷ bytes ≡ act_spelling a)
unfolding arrive_at
arrive_takes bytes a fits r =
    let c = bind_ok (change_at bytes) _ a r in
    let t = bind_ok (text_at c.0.1) _ a c.2 in
    let change = change_field.takes bytes c.0 fits c.1 in
    let text = text_takes c.0.1 t.0 t.1 in
    let whole = change.0.parts ∙ ap (λ (rest : List ℕ). to_be_bytes w32 c.0.0.0.0 ++ (to_be_bytes w64 c.0.0.1.seconds ++ rest)) text.0 in
    subst (λ (y : Act). IsAct y × (1 ∷ bytes ≡ act_spelling y)) (ok_is (Arrive c.0.0.0 c.0.0.1 t.0) a t.2) ((change.1, c.0.0.1.before_now, text.1, text.2), ap (λ (rest : List ℕ). 1 ∷ rest) whole)

pub delete_takes : (bytes : List ℕ) (a : Act) → IsBytes bytes → delete_at bytes ≡ Ok a → IsAct a × (2 ∷ bytes ≡ act_spelling a)
unfolding delete_at
delete_takes bytes a fits r =
    let c = bind_ok (change_at bytes) _ a r in
    let t = bind_ok (end_at c.0.1) _ a c.2 in
    let change = change_field.takes bytes c.0 fits c.1 in
    let whole = change.0.parts ∙ ap (λ (rest : List ℕ). to_be_bytes w32 c.0.0.0.0 ++ (to_be_bytes w64 c.0.0.1.seconds ++ rest)) (end_takes c.0.1 t.0 t.1) in
    subst (λ (y : Act). IsAct y × (2 ∷ bytes ≡ act_spelling y)) (ok_is (Delete c.0.0.0 c.0.0.1) a t.2) ((change.1, c.0.0.1.before_now), ap (λ (rest : List ℕ). 2 ∷ rest) whole)

act_takes : (bytes : List ℕ) (a : Act) → IsBytes bytes → act_at bytes ≡ Ok a → IsAct a × (bytes ≡ act_spelling a)
unfolding act_at
act_takes [] a fits r = absurd cc
act_takes (zero ∷ bytes) a fits r = absurd cc
act_takes (suc zero ∷ bytes) a fits r = arrive_takes bytes a (rest_fits 1 bytes fits) r
act_takes (suc (suc zero) ∷ bytes) a fits r = delete_takes bytes a (rest_fits 2 bytes fits) r
act_takes (suc (suc (suc tag)) ∷ bytes) a fits r = absurd cc

act_again : (a : Act) → IsAct a → act_at (act_spelling a) ≡ Ok a
unfolding act_at arrive_at delete_at
act_again (Arrive doc at text) fits = rw (change_field.again (doc, at) text fits.0, text_at-ok text text refl fits.2 fits.3) refl
act_again (Delete doc at) fits = rw (change_field.again (doc, at) [] fits.0) refl

pub arrive_within : (bytes : List ℕ) → Within (λ _. 0) (length bytes) (arrive_at bytes)
unfolding arrive_at
arrive_within bytes = Within-next (λ x. length x.1) (λ _. 0) (length bytes) (change_at bytes) _ (change_field.within bytes) (λ c. Within-next (λ _. 0) (λ _. 0) (length c.1) (text_at c.1) _ (text_within c.1) (λ t. omega arith))

pub delete_within : (bytes : List ℕ) → Within (λ _. 0) (length bytes) (delete_at bytes)
unfolding delete_at
delete_within bytes = Within-next (λ x. length x.1) (λ _. 0) (length bytes) (change_at bytes) _ (change_field.within bytes) (λ c. Within-next (λ _. 0) (λ _. 0) (length c.1) (end_at c.1) _ (end_within c.1) (λ t. omega arith))

pub act_within : (bytes : List ℕ) → Within (λ _. 0) (length bytes) (act_at bytes)
unfolding act_at
act_within [] = omega arith
act_within (zero ∷ bytes) = omega arith
act_within (suc zero ∷ bytes) = Within-more (λ _. 0) (length bytes) (length (1 ∷ bytes)) _ (omega arith) (arrive_within bytes)
act_within (suc (suc zero) ∷ bytes) = Within-more (λ _. 0) (length bytes) (length (2 ∷ bytes)) _ (omega arith) (delete_within bytes)
act_within (suc (suc (suc tag)) ∷ bytes) = omega arith

-- ---- an act as an entry of its own

pub alone_fits : (a : Act) → IsAct a → IsEntry (alone a)
alone_fits (Arrive doc at text) fits = fits
alone_fits (Delete doc at) fits = fits

pub alone_spelled : (a : Act) → act_spelling a ≡ spelling (alone a)
alone_spelled (Arrive doc at text) = refl
alone_spelled (Delete doc at) = refl

-- ---- how long it is

pub act_long : (a : Act) → IsAct a → 13 ≤ length (act_spelling a)
act_long (Arrive doc at text) fits = omega arith
act_long (Delete doc at) fits = omega arith

pub act_short : (a : Act) → IsAct a → length (act_spelling a) ≤ 4194317
act_short (Arrive doc at text) fits = omega (arith, fits.2)
act_short (Delete doc at) fits = omega arith

-- ---- an act behind its length

-- a test that did not fail, and what was read behind it
guarded : {A : Type 0} (b : Bool) (left : ℕ) (r : Result A ℕ) (x : A) → cond b (Err left) r ≡ Ok x → (b ≡ false) × (r ≡ Ok x)
guarded true left r x e = absurd cc
guarded false left r x e = (refl, e)

rest_of : (r : Result Act ℕ) (rest : List ℕ) (x : Act × List ℕ) → with_rest r rest ≡ Ok x → (r ≡ Ok x.0) × (rest ≡ x.1)
rest_of (Ok a) rest x e = let same = ok_is (a, rest) x e in (ap (λ (y : Act × List ℕ). Ok y.0) same, ap (λ (y : Act × List ℕ). y.1) same)
rest_of (Err left) rest x e = absurd cc

-- so many bytes are the act's
record IsOf (len : ℕ) (bytes : List ℕ) (x : Act × List ℕ) : Type 0 where
  pub fits : IsAct x.0
  pub len_is : length (act_spelling x.0) ≡ len
  pub parts : bytes ≡ act_spelling x.0 ++ x.1
  pub rest_fits : IsBytes x.1

act_is_of : (len : ℕ) (bytes : List ℕ) (x : Act × List ℕ) → IsBytes bytes → act_of len bytes ≡ Ok x → IsOf len bytes x
act_is_of len bytes x fits e =
    let g = guarded (nat_lt (length bytes) len) (length bytes) (with_rest (act_at (take len bytes)) (drop len bytes)) x e in
    let long : len ≤ length bytes = ltb-false (length bytes) len g.0 in
    let r = rest_of (act_at (take len bytes)) (drop len bytes) x g.1 in
    let a = act_takes (take len bytes) x.0 (IsBytes-take len bytes fits) r.0 in
    record {
      fits = a.0;
      len_is = omega (arith, ap length a.1, length-take len bytes, long);
      parts = sym (take-append-drop len bytes) ∙ (λ i. a.1 i ++ r.1 i);
      rest_fits = subst IsBytes r.1 (IsBytes-drop len bytes fits);
    }

act_of-again : (a : Act) (rest : List ℕ) (len : ℕ) → length (act_spelling a) ≡ len → IsAct a → act_of len (act_spelling a ++ rest) ≡ Ok (a, rest)
act_of-again a rest len is fits =
    let text = act_spelling a in
    let long : nat_lt (length (text ++ rest)) len ≡ false = le-ltb (length (text ++ rest)) len (omega (arith, is, length-append text rest)) in
    rw (long, take_at text rest len is, drop_at text rest len is, act_again a fits) refl

-- what was read of some of the bytes, with those behind them
pub rest_within : (r : Result Act ℕ) (rest : List ℕ) (n most : ℕ) → n + length rest ≤ most → Within (λ _. 0) n r → Within (λ (x : Act × List ℕ). length x.1) most (with_rest r rest)
rest_within (Ok a) rest n most le w = omega (arith, le)
rest_within (Err left) rest n most le w = omega (arith, le, w)

pub act_of-within : (len : ℕ) (bytes : List ℕ) → Within (λ x. length x.1) (length bytes) (act_of len bytes)
act_of-within len bytes = go (nat_lt (length bytes) len) refl
  where
    go : (b : Bool) → nat_lt (length bytes) len ≡ b → Within (λ (x : Act × List ℕ). length x.1) (length bytes) (cond b (Err (length bytes)) (with_rest (act_at (take len bytes)) (drop len bytes)))
    go true e = omega arith
    go false e = rest_within (act_at (take len bytes)) (drop len bytes) (length (take len bytes)) (length bytes) (omega (arith, ltb-false (length bytes) len e, length-take len bytes, length-drop len bytes)) (act_within (take len bytes))

sized_takes : (bytes : List ℕ) (x : Act × List ℕ) → IsBytes bytes → sized_at bytes ≡ Ok x → Takes bytes (act_bytes x.0) x.1 × IsAct x.0
unfolding sized_at
sized_takes bytes x fits e =
    let n = bind_ok (number_at w32 bytes) _ x e in
    let taken = number_takes w32 (2 ^ 32) wide32 bytes n.0.0 n.0.1 fits n.1 in
    let a = act_is_of n.0.0 n.0.1 x taken.0.rest_fits n.2 in
    let text = act_spelling x.0 in
    let whole : bytes ≡ act_bytes x.0 ++ x.1 =
    taken.0.parts ∙ (λ i. to_be_bytes w32 (sym a.len_is i) ++ a.parts i) ∙ sym (append_assoc (to_be_bytes w32 (length text)) text x.1) in
    (record { parts = whole; rest_fits = a.rest_fits }, a.fits)

sized_again : (a : Act) (rest : List ℕ) → IsAct a → sized_at (act_bytes a ++ rest) ≡ Ok (a, rest)
unfolding sized_at
sized_again a rest fits =
    let text = act_spelling a in
    let n = length text in
    let read : sized_at (to_be_bytes w32 n ++ (text ++ rest)) ≡ Ok (a, rest) =
    rw (number_again w32 (2 ^ 32) wide32 n (text ++ rest) (omega (arith, act_short a fits)), act_of-again a rest n refl fits) refl in
    ap sized_at (append_assoc (to_be_bytes w32 n) text rest) ∙ read

sized_within : (bytes : List ℕ) → Within (λ x. length x.1) (length bytes) (sized_at bytes)
unfolding sized_at
sized_within bytes = Within-next (λ x. length x.1) (λ x. length x.1) (length bytes) (number_at w32 bytes) _ (number_within w32 bytes) (λ n. act_of-within n.0 n.1)

pub sized_field : IsField Act sized_at act_bytes IsAct
sized_field = record { takes = sized_takes; again = sized_again; within = sized_within }

-- ---- acts one after another

abbrev put_first : Act → List Act → List Act
put_first a others = a ∷ others

abbrev pub AreActs : ℕ → List Act → Type 0
AreActs count acts = (length acts ≡ count) × All IsAct acts

first_act : (count : ℕ) (acts : List Act) → AreActs (suc count) acts → (a : Act) × (o : List Act) × (put_first a o ≡ acts) × IsAct a × AreActs count o
first_act count [] h = absurd (omega (arith, h.0))
first_act count (a ∷ acts) h = (a, acts, refl, All-head IsAct a acts h.1, (omega (arith, h.0), All-tail IsAct a acts h.1))

none_are : (acts : List Act) → length acts ≡ 0 → acts ≡ []
none_are [] e = refl
none_are (a ∷ acts) e = absurd (omega (arith, e))

none_again : (acts : List Act) (rest : List ℕ) → AreActs 0 acts → acts_at 0 (acts_bytes acts ++ rest) ≡ Ok (acts, rest)
unfolding acts_at
none_again acts rest fits = subst (λ (z : List Act). acts_at 0 (acts_bytes z ++ rest) ≡ Ok (z, rest)) (sym (none_are acts fits.0)) refl

pub acts_field : (count : ℕ) → IsField (List Act) (acts_at count) acts_bytes (AreActs count)
unfolding acts_at
acts_field zero = record {
  takes = λ bytes x fits e. subst (λ (y : List Act × List ℕ). Takes bytes (acts_bytes y.0) y.1 × AreActs 0 y.0) (ok_is ([], bytes) x e) (record { parts = refl; rest_fits = fits }, (refl, All-nil IsAct));
  again = none_again;
  within = λ bytes. omega arith;
}
acts_field (suc count) = both Act (List Act) (List Act) put_first
    sized_at act_bytes IsAct
    (λ a. acts_at count) acts_bytes (λ a. AreActs count)
    acts_bytes (AreActs (suc count))
    sized_field (λ a. acts_field count)
    (λ a o fits others. (λ rest. append_assoc (act_bytes a) (acts_bytes o) rest, (omega (arith, others.0), All-cons IsAct a o fits others.1)))
    (λ c fits. first_act count c fits)

pub acts_length : (acts : List Act) → All IsAct acts → (17 * length acts ≤ length (acts_bytes acts)) × (length (acts_bytes acts) ≤ 4194321 * length acts)
acts_length [] all = (omega arith, omega arith)
acts_length (a ∷ acts) all =
    let fits = All-head IsAct a acts all in
    let rest = acts_length acts (All-tail IsAct a acts all) in (
      omega (arith, rest.0, act_long a fits, length-append (act_bytes a) (acts_bytes acts), length-append (to_be_bytes w32 (length (act_spelling a))) (act_spelling a)),
      omega (arith, rest.1, act_short a fits, length-append (act_bytes a) (acts_bytes acts), length-append (to_be_bytes w32 (length (act_spelling a))) (act_spelling a)),
    )

-- ---- how it is written

pub arrival_written : (doc : DocId) (at : Time) (text old a b c : List ℕ) (len : ℕ) → len ≡ 13 + length text → a ≡ old ++ to_be_bytes w32 len → b ≡ a ++ 1 ∷ (to_be_bytes w32 doc.0 ++ to_be_bytes w64 at.seconds) → c ≡ b ++ text
    → c ≡ old ++ act_bytes (Arrive doc at text)
arrival_written doc at text old a b c len l p q r =
    let front = 1 ∷ (to_be_bytes w32 doc.0 ++ to_be_bytes w64 at.seconds) in
    let is : len ≡ length (act_spelling (Arrive doc at text)) = omega (arith, l) in
    r ∙ ap (λ (xs : List ℕ). xs ++ text) (q ∙ ap (λ (xs : List ℕ). xs ++ front) p ∙ append_assoc old (to_be_bytes w32 len) front) ∙ append_assoc old (to_be_bytes w32 len ++ front) text
    ∙ ap (λ (n : ℕ). old ++ (to_be_bytes w32 n ++ act_spelling (Arrive doc at text))) is
