-- Acts by themselves and in a batch: where reading them stops, and that it goes on behind what begins them.
use Rattle.std.specs.Prelude.{◌≡◌, ◌⊎◌, ℕ, zero, suc, ◌+◌, ◌-◌, ◌^◌, ◌<◌, ◌≤◌, Bool, true, false, cond, nat_lt, List, [], ◌∷◌, ◌++◌, length, take, drop, All, Result, Ok, Err, refl}
use Rattle.std.specs.Int.{w32, w64, to_be_bytes}
use Rattle.std.specs.List.{concat}
use Rattle.std.proofs.Common.{sym, ap, subst, ◌∙◌, arith, inl, inr, append_assoc}
use Rattle.std.proofs.lemmas.Bool.{ltb-false, le-ltb}
use Rattle.std.proofs.lemmas.List.{append-nil, take_at, drop_at, take-append-drop, length-append, length-take, length-drop}
use Rattle.std.proofs.lemmas.List.Elements.{All-nil, All-cons, All-head, All-tail}
use Rattle.std.proofs.lemmas.Str.{IsUtf8-nil}
use Rattle.base_types.specs.Reading.{◌>>=◌}
use Rattle.base_types.specs.declared.ids.DocId.{DocId}
use Rattle.base_types.specs.declared.time.Time.{Time}
use Rattle.base_types.proofs.Bytes.{IsBytes, IsBytes-take, wide32}
use Rattle.base_types.proofs.Readings.{Within, Within-more, Within-next, Within-then}
use Rattle.journal_entries.specs.declared.act.Act.{Act}
use Rattle.journal_entries.specs.declared.act.Act.TheVariants.{Arrive, Delete}
use Rattle.journal_entries.specs.Acts.{alone, act_bytes, acts_bytes, batch_front, most_acts, IsAct}
use Rattle.journal_entries.specs.Faults.{fields, IsActCount, BeginsAct, BeginsActs}
use Rattle.journal_entries.specs.FieldReading.{number_at, end_at}
use Rattle.journal_entries.specs.PlanReading.{number_in}
use Rattle.journal_entries.specs.Reading.{change_at, text_at, arrive_at, delete_at, act_at, with_rest, act_of, sized_at, acts_at, batch_at}
use Rattle.journal_entries.proofs.Steps.{err_is, no_fault, bind_err, made_err, test_err}
use Rattle.journal_entries.proofs.FieldLemmas.{number_takes, number_again, text_within, end_within}
use Rattle.journal_entries.proofs.ChangeLemmas.{IsDoc, change_field}
use Rattle.journal_entries.proofs.Stops.{InFront, none, more_in_front, IsStopped, Of, closed}
use Rattle.journal_entries.proofs.FieldStops.{time_0, bounded_fails, number_fails, number_front, change_fields, change_front}
use Rattle.journal_entries.proofs.ActLemmas.{rest_fits, act_within, act_of-within, rest_within, sized_field, acts_field}
use Rattle.journal_entries.proofs.BatchLemmas.{count_field}

-- ---- an arrival and a deletion, from behind the tag

text_fails : (bytes : List ℕ) (left : ℕ) → text_at bytes ≡ Err left → left ≡ length bytes
text_fails bytes left e = (test_err (List ℕ) _ bytes left (length bytes) e).1

pub end_fails : (bytes : List ℕ) (left : ℕ) → end_at bytes ≡ Err left → left ≡ length bytes
end_fails [] left e = absurd (no_fault (Unit {0}) tt left e)
end_fails (b ∷ bytes) left e = let h = err_is (Unit {0}) (length bytes + 1) left e in omega (arith, h)

abbrev OfChange : List (List ℕ) → Type 0
OfChange = Of change_fields (λ c. IsDoc c.0)

of_whole : (c : DocId × Time) → IsDoc c.0 → (fs : List (List ℕ)) × OfChange fs × (concat fs ≡ to_be_bytes w32 c.0.0 ++ to_be_bytes w64 c.1.seconds)
of_whole c fit = (change_fields c, (c, fit, refl), change_front.same c)

arrive_stopped : IsStopped Act (λ _. 0) arrive_at OfChange
unfolding arrive_at
arrive_stopped = closed (DocId × Time) (List ℕ) Act change_at (λ c. to_be_bytes w32 c.0.0 ++ to_be_bytes w64 c.1.seconds) (λ c. IsDoc c.0) OfChange text_at (λ c text. Arrive c.0 c.1 text)
    change_field change_front.stopped of_whole text_within text_fails

delete_stopped : IsStopped Act (λ _. 0) delete_at OfChange
unfolding delete_at
delete_stopped = closed (DocId × Time) (Unit {0}) Act change_at (λ c. to_be_bytes w32 c.0.0 ++ to_be_bytes w64 c.1.seconds) (λ c. IsDoc c.0) OfChange end_at (λ c end. Delete c.0 c.1)
    change_field change_front.stopped of_whole end_within end_fails

-- the first fields of an act are in front of so many of the bytes
abbrev pub Stops : List ℕ → ℕ → Type 0
Stops bytes left = (a : Act) × IsAct a × InFront (fields 0 (alone a)) bytes left

behind_tag : (tag : ℕ) (a : Act) (fs : List (List ℕ)) (bytes : List ℕ) (left : ℕ) → IsAct a → fields 0 (alone a) ≡ (tag ∷ []) ∷ fs → InFront fs bytes left → Stops (tag ∷ bytes) left
behind_tag tag a fs bytes left fit is front =
    (a, fit, subst (λ (gs : List (List ℕ)). InFront gs (tag ∷ bytes) left) (sym is) (more_in_front ((tag ∷ []) ∷ []) fs (tag ∷ bytes) bytes left refl front))

pub arrive_stops : (bytes : List ℕ) (left : ℕ) → IsBytes bytes → arrive_at bytes ≡ Err left → Stops (1 ∷ bytes) left
arrive_stops bytes left fits e =
    let s = arrive_stopped.stops bytes left fits e in
    let c = s.1.0 in
    behind_tag 1 (Arrive c.0 c.1 []) s.0 bytes left (s.1.1, c.1.before_now, omega arith, IsUtf8-nil) (ap (λ (fs : List (List ℕ)). (1 ∷ []) ∷ fs) (sym s.1.2)) s.2

pub delete_stops : (bytes : List ℕ) (left : ℕ) → IsBytes bytes → delete_at bytes ≡ Err left → Stops (2 ∷ bytes) left
delete_stops bytes left fits e =
    let s = delete_stopped.stops bytes left fits e in
    let c = s.1.0 in
    behind_tag 2 (Delete c.0 c.1) s.0 bytes left (s.1.1, c.1.before_now) (ap (λ (fs : List (List ℕ)). (2 ∷ []) ∷ fs) (sym s.1.2)) s.2

-- what is read behind the tag and the first fields
pub arrive_passes : (c : DocId × Time) (whole : ℕ) (after : List ℕ) → IsDoc c.0 → Within (λ _. 0) (length after) (arrive_at (concat (take whole (change_fields c)) ++ after))
arrive_passes c whole after fit = arrive_stopped.passes (take whole (change_fields c)) (drop whole (change_fields c)) after (c, fit, take-append-drop whole (change_fields c))

pub delete_passes : (c : DocId × Time) (whole : ℕ) (after : List ℕ) → IsDoc c.0 → Within (λ _. 0) (length after) (delete_at (concat (take whole (change_fields c)) ++ after))
delete_passes c whole after fit = delete_stopped.passes (take whole (change_fields c)) (drop whole (change_fields c)) after (c, fit, take-append-drop whole (change_fields c))

-- ---- an act that takes all the bytes

no_act : (bytes : List ℕ) (left : ℕ) → left ≡ length bytes → Stops bytes left
no_act bytes left e = let a = Delete (record { 0 = 0 }) time_0 in (a, (omega arith, time_0.before_now), none (fields 0 (alone a)) bytes left e)

act_stops : (bytes : List ℕ) (left : ℕ) → IsBytes bytes → act_at bytes ≡ Err left → Stops bytes left
unfolding act_at
act_stops [] left fits e = no_act [] left (sym (err_is Act 0 left e))
act_stops (zero ∷ bytes) left fits e = let h = err_is Act (length bytes + 1) left e in no_act (0 ∷ bytes) left (omega (arith, h))
act_stops (suc zero ∷ bytes) left fits e = arrive_stops bytes left (rest_fits 1 bytes fits) e
act_stops (suc (suc zero) ∷ bytes) left fits e = delete_stops bytes left (rest_fits 2 bytes fits) e
act_stops (suc (suc (suc tag)) ∷ bytes) left fits e = let h = err_is Act (length bytes + 1) left e in no_act (suc (suc (suc tag)) ∷ bytes) left (omega (arith, h))

act_passes : (a : Act) (whole : ℕ) (after : List ℕ) → IsAct a → Within (λ _. 0) (length after) (act_at (concat (take whole (fields 0 (alone a))) ++ after))
unfolding act_at
act_passes a zero after fit = act_within after
act_passes (Arrive doc at text) (suc whole) after fit = arrive_passes (doc, at) whole after fit.0
act_passes (Delete doc at) (suc whole) after fit = delete_passes (doc, at) whole after fit.0

-- ---- an act behind its length

-- a front that begins the next act, and what is left behind it
record StopsAct (bytes : List ℕ) (left : ℕ) : Type 0 where
  next : List ℕ
  rest : List ℕ
  parts : bytes ≡ next ++ rest
  left_is : length rest ≡ left
  begins : (next ≡ []) ⊎ BeginsAct next rest

with_rest-err : (r : Result Act ℕ) (rest : List ℕ) (left : ℕ) → with_rest r rest ≡ Err left → (inner : ℕ) × (r ≡ Err inner) × (left ≡ inner + length rest)
with_rest-err (Ok a) rest left e = absurd (no_fault (Act × List ℕ) (a, rest) left e)
with_rest-err (Err inner) rest left e = (inner, refl, sym (err_is (Act × List ℕ) (inner + length rest) left e))

-- the bytes behind the length stop within the act, or are too few
inside_stops : (len : ℕ) (bytes : List ℕ) (left : ℕ) → len < 2 ^ 32 → IsBytes bytes → act_of len bytes ≡ Err left → StopsAct (to_be_bytes w32 len ++ bytes) left
inside_stops len bytes left small fits e = go (nat_lt (length bytes) len) refl e
  where
    go : (b : Bool) → nat_lt (length bytes) len ≡ b → cond b (Err (length bytes)) (with_rest (act_at (take len bytes)) (drop len bytes)) ≡ Err left → StopsAct (to_be_bytes w32 len ++ bytes) left
    go true few e = record {
      next = to_be_bytes w32 len;
      rest = bytes;
      parts = refl;
      left_is = err_is (Act × List ℕ) (length bytes) left e;
      begins = let a = Delete (record { 0 = 0 }) time_0 in
          inr (record { len = len; fits = small; act = a; begun = (omega arith, time_0.before_now); whole = 0; are = sym (append-nil (to_be_bytes w32 len)); held = inl refl });
    }
    go false enough e =
        let w = with_rest-err (act_at (take len bytes)) (drop len bytes) left e in
        let s = act_stops (take len bytes) w.0 (IsBytes-take len bytes fits) w.1 in
        let f = s.2 in
        let n4 = to_be_bytes w32 len in
        let rest = f.rest ++ drop len bytes in
        let long : len ≤ length bytes = ltb-false (length bytes) len enough in
        let size : length (take len bytes) ≡ length (concat f.whole) + length f.rest = ap length f.parts ∙ length-append (concat f.whole) f.rest in
        let taken : take (length f.whole) (fields 0 (alone s.0)) ≡ f.whole = ap (take (length f.whole)) (sym f.split) ∙ take_at f.whole f.more (length f.whole) refl in
        let whole : bytes ≡ concat f.whole ++ rest =
        sym (take-append-drop len bytes) ∙ ap (λ (xs : List ℕ). xs ++ drop len bytes) f.parts ∙ append_assoc (concat f.whole) f.rest (drop len bytes) in
        record {
          next = n4 ++ concat f.whole;
          rest = rest;
          parts = ap (λ (xs : List ℕ). n4 ++ xs) whole ∙ sym (append_assoc n4 (concat f.whole) rest);
          left_is = length-append f.rest (drop len bytes) ∙ omega (arith, f.left_is, w.2);
          begins = inr (record {
            len = len;
            fits = small;
            act = s.0;
            begun = s.1;
            whole = length f.whole;
            are = ap (λ (fs : List (List ℕ)). n4 ++ concat fs) (sym taken);
            held = inr (
              omega (arith, length-append n4 (concat f.whole), wide32.len len, size, length-take len bytes, long),
              omega (arith, length-append n4 (concat f.whole), wide32.len len, size, length-take len bytes, long, length-append f.rest (drop len bytes)),
            );
          });
        }

sized_stops : (bytes : List ℕ) (left : ℕ) → IsBytes bytes → sized_at bytes ≡ Err left → StopsAct bytes left
unfolding sized_at
sized_stops bytes left fits e = elim (bind_err (ℕ × List ℕ) (Act × List ℕ) (number_at w32 bytes) _ left e) [
  | inl short ↦ record { next = []; rest = bytes; parts = refl; left_is = sym (number_fails w32 bytes left short); begins = inl refl }
  | inr (n, read, e) ↦
      let taken = number_takes w32 (2 ^ 32) wide32 bytes n.0 n.1 fits read in
      subst (λ (xs : List ℕ). StopsAct xs left) (sym taken.0.parts) (inside_stops n.0 n.1 left taken.1 taken.0.rest_fits e)
]

-- so many bytes of an act are read behind its length, and what is behind them is left
sized_passes : (front after : List ℕ) → BeginsAct front after → Within (λ x. length x.1) (length after) (sized_at (front ++ after))
unfolding sized_at
sized_passes front after b =
    let n4 = to_be_bytes w32 b.len in
    let some = concat (take b.whole (fields 0 (alone b.act))) in
    let split : front ++ after ≡ n4 ++ (some ++ after) = ap (λ (xs : List ℕ). xs ++ after) b.are ∙ append_assoc n4 some after in
    let size : length front ≡ 4 + length some = ap length b.are ∙ length-append n4 some ∙ omega (arith, wide32.len b.len) in
    let read : sized_at (front ++ after) ≡ act_of b.len (some ++ after) = ap sized_at split ∙ rw (number_again w32 (2 ^ 32) wide32 b.len (some ++ after) b.fits) refl in
    subst (Within (λ (x : Act × List ℕ). length x.1) (length after)) (sym read) (elim b.held [
      | inl none ↦
          let empty : some ≡ [] = ap (λ (n : ℕ). concat (take n (fields 0 (alone b.act)))) none in
          subst (λ (xs : List ℕ). Within (λ (x : Act × List ℕ). length x.1) (length after) (act_of b.len (xs ++ after))) (sym empty) (act_of-within b.len after)
      | inr (low, high) ↦
          let k = b.len - length some in
          let one = take k after in
          let two = drop k after in
          let here : length one ≡ k = omega (arith, length-take k after, size, high, low) in
          let long : length (some ++ one) ≡ b.len = length-append some one ∙ omega (arith, here, size, low) in
          let whole : some ++ after ≡ (some ++ one) ++ two = ap (λ (xs : List ℕ). some ++ xs) (sym (take-append-drop k after)) ∙ sym (append_assoc some one two) in
          let enough : nat_lt (length ((some ++ one) ++ two)) b.len ≡ false = le-ltb (length ((some ++ one) ++ two)) b.len (omega (arith, length-append (some ++ one) two, long)) in
          let reads : act_of b.len ((some ++ one) ++ two) ≡ with_rest (act_at (some ++ one)) two = rw (enough, take_at (some ++ one) two b.len long, drop_at (some ++ one) two b.len long) refl in
          subst (Within (λ (x : Act × List ℕ). length x.1) (length after)) (sym (ap (act_of b.len) whole ∙ reads))
          (rest_within (act_at (some ++ one)) two (length one) (length after) (omega (arith, length-take k after, length-drop k after, here)) (act_passes b.act b.whole one b.begun))
    ])

-- ---- acts one after another

-- whole acts, what begins the next one, and what is left behind it
record StopsActs (count : ℕ) (bytes : List ℕ) (left : ℕ) : Type 0 where
  acts : List Act
  each : All IsAct acts
  few : length acts < count
  next : List ℕ
  rest : List ℕ
  parts : bytes ≡ acts_bytes acts ++ (next ++ rest)
  left_is : length rest ≡ left
  begins : (next ≡ []) ⊎ BeginsAct next rest

each_stops : (count : ℕ) (bytes : List ℕ) (left : ℕ) → IsBytes bytes → acts_at count bytes ≡ Err left → StopsActs count bytes left
unfolding acts_at
each_stops zero bytes left fits e = absurd (no_fault (List Act × List ℕ) ([], bytes) left e)
each_stops (suc count) bytes left fits e = elim (bind_err (Act × List ℕ) (List Act × List ℕ) (sized_at bytes) _ left e) [
  | inl e ↦
      let s = sized_stops bytes left fits e in
      record { acts = []; each = All-nil IsAct; few = omega arith; next = s.next; rest = s.rest; parts = s.parts; left_is = s.left_is; begins = s.begins }
  | inr (a, read, e) ↦
      let taken = sized_field.takes bytes a fits read in
      let s = each_stops count a.1 left taken.0.rest_fits (made_err (List Act × List ℕ) (List Act × List ℕ) (acts_at count a.1) (λ o. (a.0 ∷ o.0, o.1)) left e) in
      record {
        acts = a.0 ∷ s.acts;
        each = All-cons IsAct a.0 s.acts taken.1 s.each;
        few = omega (arith, s.few);
        next = s.next;
        rest = s.rest;
        parts = taken.0.parts ∙ ap (λ (xs : List ℕ). act_bytes a.0 ++ xs) s.parts ∙ sym (append_assoc (act_bytes a.0) (acts_bytes s.acts) (s.next ++ s.rest));
        left_is = s.left_is;
        begins = s.begins;
      }
]

more_acts : (a : Act) (n : ℕ) (r : Result (List Act × List ℕ) ℕ) → Within (λ x. length x.1) n r → Within (λ (x : List Act × List ℕ). length x.1) n (r >>= λ o. Ok (a ∷ o.0, o.1))
more_acts a n r within = Within-then (λ x. length x.1) (λ x. length x.1) n r _ within (λ o le. le)

each_passes : (acts : List Act) (count : ℕ) (next after : List ℕ) → All IsAct acts → length acts ≤ count → (next ≡ []) ⊎ ((length acts < count) × BeginsAct next after)
    → Within (λ x. length x.1) (length after) (acts_at count (acts_bytes acts ++ (next ++ after)))
unfolding acts_at
each_passes [] count next after each few (inl none) =
    subst (λ (xs : List ℕ). Within (λ (x : List Act × List ℕ). length x.1) (length after) (acts_at count (xs ++ after))) (sym none) ((acts_field count).within after)
each_passes [] zero next after each few (inr (more, b)) = absurd (omega (arith, more))
each_passes [] (suc count) next after each few (inr (more, b)) =
    Within-then (λ x. length x.1) (λ x. length x.1) (length after) (sized_at (next ++ after)) _ (sized_passes next after b)
    (λ a le. more_acts a.0 (length after) (acts_at count a.1) (Within-more (λ x. length x.1) (length a.1) (length after) (acts_at count a.1) le ((acts_field count).within a.1)))
each_passes (a ∷ acts) zero next after each few begins = absurd (omega (arith, few))
each_passes (a ∷ acts) (suc count) next after each few begins =
    let rest = acts_bytes acts ++ (next ++ after) in
    let split : acts_bytes (a ∷ acts) ++ (next ++ after) ≡ act_bytes a ++ rest = append_assoc (act_bytes a) (acts_bytes acts) (next ++ after) in
    let read : sized_at (acts_bytes (a ∷ acts) ++ (next ++ after)) ≡ Ok (a, rest) = ap sized_at split ∙ sized_field.again a rest (All-head IsAct a acts each) in
    rw read (more_acts a (length after) (acts_at count rest) (each_passes acts count next after (All-tail IsAct a acts each) (omega (arith, few)) (elim begins [
      | inl none ↦ inl none
      | inr (more, b) ↦ inr (omega (arith, more), b)
    ])))

-- ---- a batch, from behind the tag

-- so many bytes are left behind a front with which a batch begins
pub record StopsAmong (bytes : List ℕ) (left : ℕ) : Type 0 where
  pub front : List ℕ
  pub rest : List ℕ
  pub parts : 4 ∷ bytes ≡ front ++ rest
  pub left_is : length rest ≡ left
  pub begins : BeginsActs front rest

pub acts_stop : (bytes : List ℕ) (left : ℕ) → IsBytes bytes → batch_at bytes ≡ Err left → (left ≡ length bytes) ⊎ StopsAmong bytes left
unfolding batch_at
acts_stop bytes left fits e = elim (bind_err (ℕ × List ℕ) (List Act) (number_in 1 most_acts bytes) _ left e) [
  | inl short ↦ inl (bounded_fails 1 most_acts bytes left short)
  | inr (n, read, e) ↦
      let count = count_field.takes bytes n fits read in
      let n4 = to_be_bytes w32 n.0 in
      elim (bind_err (List Act × List ℕ) (List Act) (acts_at n.0 n.1) _ left e) [
        | inl e ↦
            let s = each_stops n.0 n.1 left count.0.rest_fits e in
            inr (record {
              front = batch_front n.0 ++ (acts_bytes s.acts ++ s.next);
              rest = s.rest;
              parts = ap (λ (xs : List ℕ). 4 ∷ xs) (count.0.parts ∙ ap (λ (xs : List ℕ). n4 ++ xs) (s.parts ∙ sym (append_assoc (acts_bytes s.acts) s.next s.rest)) ∙ sym (append_assoc n4 (acts_bytes s.acts ++ s.next) s.rest));
              left_is = s.left_is;
              begins = record {
                count = n.0;
                sized = count.1;
                acts = s.acts;
                each = s.each;
                few = omega (arith, s.few);
                next = s.next;
                begins = elim s.begins [ inl none ↦ inl none | inr b ↦ inr (s.few, b) ];
                are = refl;
              };
            })
        | inr (a, acts_read, e) ↦
            let each = (acts_field n.0).takes n.1 a count.0.rest_fits acts_read in
            let behind : left ≡ length a.1 = end_fails a.1 left (made_err (Unit {0}) (List Act) (end_at a.1) (λ _. a.0) left e) in
            inr (record {
              front = batch_front n.0 ++ (acts_bytes a.0 ++ []);
              rest = a.1;
              parts = ap (λ (xs : List ℕ). 4 ∷ xs) (count.0.parts ∙ ap (λ (xs : List ℕ). n4 ++ xs) (each.0.parts ∙ ap (λ (xs : List ℕ). xs ++ a.1) (sym (append-nil (acts_bytes a.0)))) ∙ sym (append_assoc n4 (acts_bytes a.0 ++ []) a.1));
              left_is = sym behind;
              begins = record { count = n.0; sized = count.1; acts = a.0; each = each.1.1; few = omega (arith, each.1.0); next = []; begins = inl refl; are = refl };
            })
      ]
]

-- what is read behind the tag and the first fields of a batch
pub number_passes : (count whole : ℕ) (after : List ℕ) → IsActCount count → Within (λ _. 0) (length after) (batch_at (concat (take whole (to_be_bytes w32 count ∷ [])) ++ after))
unfolding batch_at
number_passes count whole after sized =
    Within-next (λ x. length x.1) (λ _. 0) (length after) (number_in 1 most_acts (concat (take whole (to_be_bytes w32 count ∷ [])) ++ after)) _
    ((number_front 1 most_acts (omega arith) (omega arith)).stopped.passes (take whole (to_be_bytes w32 count ∷ [])) (drop whole (to_be_bytes w32 count ∷ [])) after (count, sized, take-append-drop whole (to_be_bytes w32 count ∷ [])))
    (λ n. Within-next (λ x. length x.1) (λ _. 0) (length n.1) (acts_at n.0 n.1) _ ((acts_field n.0).within n.1) (λ a. Within-next (λ _. 0) (λ _. 0) (length a.1) (end_at a.1) _ (end_within a.1) (λ end. omega arith)))

-- what is read behind what begins a batch's acts
pub acts_pass : {front : List ℕ} (after : List ℕ) (b : BeginsActs front after) → Within (λ _. 0) (length after) (batch_at ((to_be_bytes w32 b.count ++ (acts_bytes b.acts ++ b.next)) ++ after))
unfolding batch_at
acts_pass after b =
    let n4 = to_be_bytes w32 b.count in
    let rest = acts_bytes b.acts ++ (b.next ++ after) in
    let split : (n4 ++ (acts_bytes b.acts ++ b.next)) ++ after ≡ n4 ++ rest = append_assoc n4 (acts_bytes b.acts ++ b.next) after ∙ ap (λ (xs : List ℕ). n4 ++ xs) (append_assoc (acts_bytes b.acts) b.next after) in
    let read : number_in 1 most_acts ((n4 ++ (acts_bytes b.acts ++ b.next)) ++ after) ≡ Ok (b.count, rest) = ap (number_in 1 most_acts) split ∙ count_field.again b.count rest b.sized in
    rw read (Within-then (λ x. length x.1) (λ _. 0) (length after) (acts_at b.count rest) _ (each_passes b.acts b.count b.next after b.each b.few b.begins)
    (λ a le. Within-more (λ _. 0) (length a.1) (length after) _ le (Within-next (λ _. 0) (λ _. 0) (length a.1) (end_at a.1) _ (end_within a.1) (λ end. omega arith))))
