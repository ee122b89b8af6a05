-- The fields of an entry, and where reading each stops.
use Rattle.std.specs.Prelude.{◌≡◌, ◌⊎◌, ℕ, zero, suc, ◌+◌, ◌^◌, ◌<◌, ◌≤◌, Bool, true, false, cond, nat_lt, nat_le, ◌&&◌, List, [], ◌∷◌, ◌++◌, length, take, drop, replicate, slice_index, Option, Result, Ok, Err, All, refl}
use Rattle.std.specs.Int.{Width, w16, w32, w64, byte_len, from_be_bytes, to_be_bytes}
use Rattle.std.specs.List.{concat}
use Rattle.std.specs.Str.{is_utf8}
use Rattle.std.proofs.Common.{sym, ap, subst, ◌∙◌, arith, inl, inr}
use Rattle.std.proofs.lemmas.Bool.{lt-ltb, leb-true, le-leb, and_from}
use Rattle.std.proofs.lemmas.List.{append-nil, length-replicate, length-take, length-drop}
use Rattle.std.proofs.lemmas.List.Elements.{All-nil, All-cons, All-head, All-tail, All-replicate}
use Rattle.std.proofs.lemmas.Str.{IsUtf8-from_ascii, IsUtf8-nil, is_utf8-from_IsUtf8}
use Rattle.base_commands.specs.declared.command.Kind.{Kind}
use Rattle.base_commands.specs.declared.command.Kind.TheVariants.{Guarantee, Uniform, Since}
use Rattle.base_types.specs.declared.ids.DocId.{DocId}
use Rattle.base_types.specs.declared.extent.Extent.{Extent}
use Rattle.base_types.specs.declared.fraction.Fraction.{Fraction}
use Rattle.base_types.specs.declared.time.Time.{Time}
use Rattle.base_types.specs.Times.{time_of}
use Rattle.base_types.specs.Reading.{◌>>=◌, value_or}
use Rattle.journal_entries.specs.declared.place.Layout.{Layout}
use Rattle.journal_entries.specs.declared.place.Layout.TheVariants.{Flat, Blocks}
use Rattle.journal_entries.specs.declared.place.Place.{Place}
use Rattle.journal_entries.specs.Numbers.{fraction_of, extent_of}
use Rattle.journal_entries.specs.PlanSpelling.{layout_byte, kind_fields, segments_fields, IsDigest, IsWord}
use Rattle.journal_entries.specs.PlanBytes.{kind_bytes}
use Rattle.journal_entries.specs.FieldReading.{number_at, doc_at, time_at}
use Rattle.journal_entries.specs.PlanReading.{named_at, if_within, number_in, layout_at, kind_at, fraction_at, word_at, key_at, extent_at, digest_at, place_at, cut_at, segment_at, segments_at}
use Rattle.journal_entries.specs.Reading.{change_at}
use Rattle.base_types.proofs.Bytes.{IsBytes}
use Rattle.base_types.proofs.Readings.{Within, Within-then}
use Rattle.journal_entries.proofs.Steps.{good, err_is, no_fault, bind_err, made_err, test_err, guard_err, value_or-err, regroup}
use Rattle.journal_entries.proofs.PlanFieldLemmas.{time_field, number_field, mark_field, layout_field, kind_is, kind_field, under_field, fraction_field, key_field, length_field, extent_field, digest_field, place_bytes, place_field, IsCut, cut_field}
use Rattle.journal_entries.proofs.SegmentLemmas.{Ascend}
use Rattle.journal_entries.proofs.ChangeLemmas.{IsDoc, doc_field, change_field}
use Rattle.journal_entries.proofs.Stops.{InFront, none, IsStopped, behind, Of, Then, NoFields, HasFields, renamed, same_reading, made, one_field, after_any, after_maybe, both_fields, nothing}

-- ---- numbers

pub number_fails : (w : Width) (bytes : List ℕ) (left : ℕ) → number_at w bytes ≡ Err left → left ≡ length bytes
number_fails w bytes left e = (guard_err (ℕ × List ℕ) (nat_lt (length bytes) (byte_len w)) (from_be_bytes w (take (byte_len w) bytes), drop (byte_len w) bytes) left (length bytes) e).1

named_fails : (A : Type 0) (w : Width) (value : ℕ → Option A) (bytes : List ℕ) (left : ℕ) → named_at w value bytes ≡ Err left → left ≡ length bytes
named_fails A w value bytes left e = go (bind_err (ℕ × List ℕ) (A × List ℕ) (number_at w bytes) _ left e)
  where
    go : (number_at w bytes ≡ Err left) ⊎ ((n : ℕ × List ℕ) × (number_at w bytes ≡ Ok n) × ((value_or (length bytes) (value n.0) >>= λ x. good (A × List ℕ) (x, n.1)) ≡ Err left)) → left ≡ length bytes
    go (inl h) = number_fails w bytes left h
    go (inr h) = value_or-err A (length bytes) (value h.0.0) left (made_err A (A × List ℕ) (value_or (length bytes) (value h.0.0)) (λ x. (x, h.0.1)) left h.2)

pub time_0 : Time
time_0 = record { seconds = 0; before_now = omega arith }

time_fails : (bytes : List ℕ) (left : ℕ) → time_at bytes ≡ Err left → left ≡ length bytes
time_fails = named_fails Time w64 time_of

pub time_front : HasFields Time time_at (λ t. to_be_bytes w64 t.seconds) (λ t. to_be_bytes w64 t.seconds ∷ []) (λ _. Unit {0})
time_front = one_field Time time_at (λ t. to_be_bytes w64 t.seconds) (λ _. Unit {0}) time_0 tt time_field time_fails

pub number_front : (least most : ℕ) → least ≤ most → most < 2 ^ 32 → HasFields ℕ (number_in least most) (λ n. to_be_bytes w32 n) (λ n. to_be_bytes w32 n ∷ []) (λ n. (least ≤ n) × (n ≤ most))
unfolding number_in
number_front least most le lt = one_field ℕ (number_in least most) (λ n. to_be_bytes w32 n) (λ n. (least ≤ n) × (n ≤ most)) least (omega arith, le) (number_field least most lt) (named_fails ℕ w32 (if_within least most))

pub bounded_fails : (least most : ℕ) (bytes : List ℕ) (left : ℕ) → number_in least most bytes ≡ Err left → left ≡ length bytes
unfolding number_in
bounded_fails least most = named_fails ℕ w32 (if_within least most)

pub mark_front : HasFields ℕ (named_at w16 (if_within 2 2)) (λ n. to_be_bytes w16 n) (λ n. to_be_bytes w16 n ∷ []) (λ n. (2 ≤ n) × (n ≤ 2))
mark_front = one_field ℕ (named_at w16 (if_within 2 2)) (λ n. to_be_bytes w16 n) (λ n. (2 ≤ n) × (n ≤ 2)) 2 (omega arith, omega arith) mark_field (named_fails ℕ w16 (if_within 2 2))

-- ---- layout and kind

layout_fails : (bytes : List ℕ) (left : ℕ) → layout_at bytes ≡ Err left → left ≡ length bytes
unfolding layout_at
layout_fails [] left e = sym (err_is (Layout × List ℕ) 0 left e)
layout_fails (zero ∷ bytes) left e = let h = err_is (Layout × List ℕ) (length bytes + 1) left e in omega (arith, h)
layout_fails (suc zero ∷ bytes) left e = absurd (no_fault (Layout × List ℕ) (Flat, bytes) left e)
layout_fails (suc (suc zero) ∷ bytes) left e = absurd (no_fault (Layout × List ℕ) (Blocks, bytes) left e)
layout_fails (suc (suc (suc n)) ∷ bytes) left e = let h = err_is (Layout × List ℕ) (length bytes + 1) left e in omega (arith, h)

pub layout_front : HasFields Layout layout_at (λ l. layout_byte l ∷ []) (λ l. (layout_byte l ∷ []) ∷ []) (λ _. Unit {0})
layout_front = one_field Layout layout_at (λ l. layout_byte l ∷ []) (λ _. Unit {0}) Flat tt layout_field layout_fails

abbrev IsKind : Kind → Type 0
IsKind _ = Unit {0}

kind_stops : (bytes : List ℕ) (left : ℕ) → IsBytes bytes → kind_at bytes ≡ Err left → (fs : List (List ℕ)) × Of kind_fields IsKind fs × InFront fs bytes left
unfolding kind_at
kind_stops [] left fits e = (kind_fields Guarantee, (Guarantee, tt, refl), none (kind_fields Guarantee) [] left (sym (err_is (Kind × List ℕ) 0 left e)))
kind_stops (zero ∷ bytes) left fits e =
    let h = err_is (Kind × List ℕ) (length bytes + 1) left e in
    (kind_fields Guarantee, (Guarantee, tt, refl), none (kind_fields Guarantee) (0 ∷ bytes) left (omega (arith, h)))
kind_stops (suc zero ∷ bytes) left fits e = absurd (no_fault (Kind × List ℕ) (Guarantee, bytes) left e)
kind_stops (suc (suc zero) ∷ bytes) left fits e = absurd (no_fault (Kind × List ℕ) (Uniform, bytes) left e)
kind_stops (suc (suc (suc zero)) ∷ bytes) left fits e =
    let h = time_fails bytes left (made_err (Time × List ℕ) (Kind × List ℕ) (time_at bytes) (λ at. (Since at.0, at.1)) left e) in
    let since = kind_fields (Since time_0) in
    (since, (Since time_0, tt, refl), record { whole = (3 ∷ []) ∷ []; more = to_be_bytes w64 time_0.seconds ∷ []; rest = bytes; split = refl; parts = refl; left_is = sym h })
kind_stops (suc (suc (suc (suc n))) ∷ bytes) left fits e =
    let h = err_is (Kind × List ℕ) (length bytes + 1) left e in
    (kind_fields Guarantee, (Guarantee, tt, refl), none (kind_fields Guarantee) (suc (suc (suc (suc n))) ∷ bytes) left (omega (arith, h)))

kind_passes_on : (k : Kind) (w : List ℕ) (whole more : List (List ℕ)) (after : List ℕ) → w ∷ (whole ++ more) ≡ kind_fields k → Within behind (length after) (kind_at (concat (w ∷ whole) ++ after))
unfolding kind_at
kind_passes_on Guarantee w [] more after e =
    let is : w ≡ 1 ∷ [] = cc in
    subst (λ (xs : List ℕ). Within behind (length after) (kind_at ((xs ++ []) ++ after))) (sym is) (omega arith)
kind_passes_on Guarantee w (v ∷ whole) more after e = absurd cc
kind_passes_on Uniform w [] more after e =
    let is : w ≡ 2 ∷ [] = cc in
    subst (λ (xs : List ℕ). Within behind (length after) (kind_at ((xs ++ []) ++ after))) (sym is) (omega arith)
kind_passes_on Uniform w (v ∷ whole) more after e = absurd cc
kind_passes_on (Since at) w [] more after e =
    let is : w ≡ 3 ∷ [] = cc in
    subst (λ (xs : List ℕ). Within behind (length after) (kind_at ((xs ++ []) ++ after))) (sym is) (Within-then behind behind (length after) (time_at after) _ (time_field.within after) (λ t le. le))
kind_passes_on (Since at) w (v ∷ []) more after e =
    let is : w ∷ v ∷ [] ≡ kind_fields (Since at) = let first : w ≡ 3 ∷ [] = cc in let second : v ≡ to_be_bytes w64 at.seconds = cc in λ i. first i ∷ second i ∷ [] in
    let read : kind_at (concat (w ∷ v ∷ []) ++ after) ≡ Ok (Since at, after) = ap (λ (fs : List (List ℕ)). kind_at (concat fs ++ after)) is ∙ kind_field.again (Since at) after tt in
    subst (Within behind (length after)) (sym read) (omega arith)
kind_passes_on (Since at) w (v ∷ u ∷ whole) more after e = absurd cc

kind_passes : (whole more : List (List ℕ)) (after : List ℕ) → Of kind_fields IsKind (whole ++ more) → Within behind (length after) (kind_at (concat whole ++ after))
kind_passes [] more after f = kind_field.within after
kind_passes (w ∷ whole) more after f = kind_passes_on f.0 w whole more after f.2

pub kind_front : HasFields Kind kind_at kind_bytes kind_fields (λ _. Unit {0})
kind_front = record { field = kind_field; same = kind_is; stopped = record { within = kind_field.within; stops = kind_stops; passes = kind_passes } }

-- ---- the fraction

fraction_over : (over : ℕ) → (1 ≤ over) × (over ≤ 4294967295) → (f : Fraction) × (f.over ≡ over)
fraction_over over fits = (record { over = over; under = 1; proper = omega arith; at_least_one = fits.0; in_range = omega (arith, fits.1) }, refl)

under_front : (over : ℕ) → (1 ≤ over) × (over ≤ 4294967295) → HasFields Fraction (named_at w32 (fraction_of over)) (λ f. to_be_bytes w32 f.under) (λ f. to_be_bytes w32 f.under ∷ []) (λ f. f.over ≡ over)
under_front over fits =
    let f = fraction_over over fits in
    one_field Fraction (named_at w32 (fraction_of over)) (λ f. to_be_bytes w32 f.under) (λ f. f.over ≡ over) f.0 f.1 (under_field over) (named_fails Fraction w32 (fraction_of over))

abbrev pub fraction_fields : Fraction → List (List ℕ)
fraction_fields f = to_be_bytes w32 f.over ∷ to_be_bytes w32 f.under ∷ []

pub fraction_front : HasFields Fraction fraction_at (λ f. to_be_bytes w32 f.over ++ to_be_bytes w32 f.under) fraction_fields (λ _. Unit {0})
unfolding fraction_at
fraction_front = both_fields ℕ Fraction Fraction (λ over f. f)
    (number_in 1 4294967295) (λ n. to_be_bytes w32 n) (λ n. to_be_bytes w32 n ∷ []) (λ n. (1 ≤ n) × (n ≤ 4294967295))
    (λ over. named_at w32 (fraction_of over)) (λ f. to_be_bytes w32 f.under) (λ f. to_be_bytes w32 f.under ∷ []) (λ over f. f.over ≡ over)
    (λ f. to_be_bytes w32 f.over ++ to_be_bytes w32 f.under) fraction_fields (λ _. Unit {0})
    fraction_field (λ f. refl) (number_front 1 4294967295 (omega arith) (omega arith)) under_field under_front fraction_over
    (λ over f fits same. (ap (λ (n : ℕ). to_be_bytes w32 n ∷ to_be_bytes w32 f.under ∷ []) same, tt))
    (λ f fits. (f.over, f, refl, (omega (arith, f.proper, f.at_least_one), omega (arith, f.in_range)), refl))

-- ---- the word

abbrev pub key_fields : List ℕ → List (List ℕ)
key_fields word = (length word ∷ []) ∷ word ∷ []

small : (n i : ℕ) → slice_index (replicate n 97) i < 128
small zero i = omega arith
small (suc n) zero = omega arith
small (suc n) (suc i) = small n i

-- there is a word of each length
some_word : (n : ℕ) → 1 ≤ n → n ≤ 255 → (word : List ℕ) × IsWord word × (length word ≡ n)
some_word n least most =
    let len = length-replicate n 97 in
    (replicate n 97, (omega (arith, len), omega (arith, len), IsUtf8-from_ascii (replicate n 97) (small n)), len)

pub word_1 : (word : List ℕ) × IsWord word × (length word ≡ 1)
word_1 = some_word 1 (omega arith) (omega arith)

word_fails : (len : ℕ) (bytes : List ℕ) (left : ℕ) → word_at len bytes ≡ Err left → (nat_le len (length bytes) && is_utf8 (take len bytes) ≡ false) × (left ≡ length bytes)
word_fails len bytes left e = test_err (List ℕ × List ℕ) (nat_le len (length bytes) && is_utf8 (take len bytes)) (take len bytes, drop len bytes) left (length bytes) e

abbrev some_key : List ℕ × List ℕ → List ℕ → Result (List ℕ × List ℕ) ℕ
some_key word bytes = cond (nat_lt 0 (length word.0)) (Ok word) (Err (length bytes + 1))

key_stops : (bytes : List ℕ) (left : ℕ) → IsBytes bytes → key_at bytes ≡ Err left → (fs : List (List ℕ)) × Of key_fields IsWord fs × InFront fs bytes left
unfolding key_at
key_stops [] left fits e = let w = word_1 in (key_fields w.0, (w.0, w.1, refl), none (key_fields w.0) [] left (sym (err_is (List ℕ × List ℕ) 0 left e)))
key_stops (len ∷ bytes) left fits e = go len (fits 0) (bind_err (List ℕ × List ℕ) (List ℕ × List ℕ) (word_at len bytes) _ left e)
  where
    go : (n : ℕ) → n < 256 → (word_at n bytes ≡ Err left) ⊎ ((word : List ℕ × List ℕ) × (word_at n bytes ≡ Ok word) × (some_key word bytes ≡ Err left)) → (fs : List (List ℕ)) × Of key_fields IsWord fs × InFront fs (n ∷ bytes) left
    go zero lt (inl h) =
        let f = (word_fails 0 bytes left h).0 in
        let good_word : nat_le 0 (length bytes) && is_utf8 (take 0 bytes) ≡ true = and_from _ _ (le-leb 0 (length bytes) (omega arith)) (is_utf8-from_IsUtf8 [] IsUtf8-nil) in
        absurd cc
    go (suc k) lt (inl h) =
        let w = some_word (suc k) (omega arith) (omega arith) in
        let left_is = (word_fails (suc k) bytes left h).1 in
        (key_fields w.0, (w.0, w.1, refl), record { whole = (suc k ∷ []) ∷ []; more = w.0 ∷ []; rest = bytes; split = λ i. (sym w.2 i ∷ []) ∷ w.0 ∷ []; parts = refl; left_is = sym left_is })
    go n lt (inr h) =
        let w = word_1 in
        let f = test_err (List ℕ × List ℕ) (nat_lt 0 (length h.0.0)) h.0 left (length bytes + 1) h.2 in
        (key_fields w.0, (w.0, w.1, refl), none (key_fields w.0) (n ∷ bytes) left (omega (arith, f.1)))

-- behind the length of a word the fault is the word's
behind_length : (n : ℕ) (bytes : List ℕ) → 1 ≤ n → Within behind (length bytes) (word_at n bytes >>= λ word. some_key word bytes)
behind_length n bytes least = go (nat_le n (length bytes)) refl (is_utf8 (take n bytes))
  where
    go : (b : Bool) → nat_le n (length bytes) ≡ b → (c : Bool) → Within behind (length bytes) (cond (b && c) (good (List ℕ × List ℕ) (take n bytes, drop n bytes)) (Err (length bytes)) >>= λ word. some_key word bytes)
    go true h true =
        let long : n ≤ length bytes = leb-true n (length bytes) h in
        let some : nat_lt 0 (length (take n bytes)) ≡ true = lt-ltb 0 (length (take n bytes)) (omega (arith, length-take n bytes)) in
        rw some (omega (arith, length-drop n bytes))
    go true h false = omega arith
    go false h c = omega arith

key_passes : (whole more : List (List ℕ)) (after : List ℕ) → Of key_fields IsWord (whole ++ more) → Within behind (length after) (key_at (concat whole ++ after))
unfolding key_at
key_passes [] more after f = key_field.within after
key_passes (w ∷ []) more after f =
    let e = f.2 in
    let is : w ≡ length f.0 ∷ [] = cc in
    subst (λ (xs : List ℕ). Within behind (length after) (key_at ((xs ++ []) ++ after))) (sym is) (behind_length (length f.0) after f.1.0)
key_passes (w ∷ v ∷ []) more after f =
    let e = f.2 in
    let is : w ∷ v ∷ [] ≡ key_fields f.0 = let first : w ≡ length f.0 ∷ [] = cc in let second : v ≡ f.0 = cc in λ i. first i ∷ second i ∷ [] in
    let read : key_at (concat (w ∷ v ∷ []) ++ after) ≡ Ok (f.0, after) = ap (λ (fs : List (List ℕ)). key_at (concat fs ++ after)) is ∙ ap (λ (bs : List ℕ). key_at (length f.0 ∷ (bs ++ after))) (append-nil f.0) ∙ key_field.again f.0 after f.1 in
    subst (Within behind (length after)) (sym read) (omega arith)
key_passes (w ∷ v ∷ u ∷ whole) more after f = absurd (let e = f.2 in cc)

pub key_front : HasFields (List ℕ) key_at (λ word. length word ∷ word) key_fields IsWord
key_front = record {
  field = key_field;
  same = λ word. ap (λ (xs : List ℕ). length word ∷ xs) (append-nil word);
  stopped = record { within = key_field.within; stops = key_stops; passes = key_passes };
}

-- ---- where a sublist lies

extent_from : (first : ℕ) → (0 ≤ first) × (first ≤ 268435456) → (e : Extent) × (e.first ≡ first)
extent_from first fits = (record { first = first; bytes = 0; in_pages = omega (arith, fits.1); numbered = omega (arith, fits.1); sized = omega arith }, refl)

length_front : (first : ℕ) → (0 ≤ first) × (first ≤ 268435456) → HasFields Extent (named_at w64 (extent_of first)) (λ e. to_be_bytes w64 e.bytes) (λ e. to_be_bytes w64 e.bytes ∷ []) (λ e. e.first ≡ first)
length_front first fits =
    let e = extent_from first fits in
    one_field Extent (named_at w64 (extent_of first)) (λ e. to_be_bytes w64 e.bytes) (λ e. e.first ≡ first) e.0 e.1 (length_field first) (named_fails Extent w64 (extent_of first))

abbrev extent_fields : Extent → List (List ℕ)
extent_fields e = to_be_bytes w32 e.first ∷ to_be_bytes w64 e.bytes ∷ []

extent_front : HasFields Extent extent_at (λ e. to_be_bytes w32 e.first ++ to_be_bytes w64 e.bytes) extent_fields (λ _. Unit {0})
unfolding extent_at
extent_front = both_fields ℕ Extent Extent (λ first e. e)
    (number_in 0 268435456) (λ n. to_be_bytes w32 n) (λ n. to_be_bytes w32 n ∷ []) (λ n. (0 ≤ n) × (n ≤ 268435456))
    (λ first. named_at w64 (extent_of first)) (λ e. to_be_bytes w64 e.bytes) (λ e. to_be_bytes w64 e.bytes ∷ []) (λ first e. e.first ≡ first)
    (λ e. to_be_bytes w32 e.first ++ to_be_bytes w64 e.bytes) extent_fields (λ _. Unit {0})
    extent_field (λ e. refl) (number_front 0 268435456 (omega arith) (omega arith)) length_field length_front extent_from
    (λ first e fits same. (ap (λ (n : ℕ). to_be_bytes w32 n ∷ to_be_bytes w64 e.bytes ∷ []) same, tt))
    (λ e fits. (e.first, e, refl, (omega arith, omega (arith, e.in_pages)), refl))

digest_0 : (digest : List ℕ) × IsDigest digest
digest_0 = let nought : ℕ = 0 in (replicate 32 nought, (length-replicate 32 nought, All-replicate (λ b. b < 256) 32 nought (omega arith)))

digest_fails : (bytes : List ℕ) (left : ℕ) → digest_at bytes ≡ Err left → left ≡ length bytes
unfolding digest_at
digest_fails bytes left e = (guard_err (List ℕ × List ℕ) (nat_lt (length bytes) 32) (take 32 bytes, drop 32 bytes) left (length bytes) e).1

digest_front : HasFields (List ℕ) digest_at (λ d. d) (λ d. d ∷ []) IsDigest
digest_front = one_field (List ℕ) digest_at (λ d. d) IsDigest digest_0.0 digest_0.1 digest_field digest_fails

abbrev place_fields : Place → List (List ℕ)
place_fields p = to_be_bytes w32 p.extent.first ∷ to_be_bytes w64 p.extent.bytes ∷ p.digest ∷ []

abbrev IsPlace : Place → Type 0
IsPlace p = IsDigest p.digest

place_front : HasFields Place place_at place_bytes place_fields IsPlace
unfolding place_at
place_front = both_fields Extent (List ℕ) Place (λ e d. record { extent = e; digest = d })
    extent_at (λ e. to_be_bytes w32 e.first ++ to_be_bytes w64 e.bytes) extent_fields (λ _. Unit {0})
    (λ _. digest_at) (λ d. d) (λ d. d ∷ []) (λ _ d. IsDigest d) place_bytes place_fields IsPlace
    place_field (λ p. ap (λ (xs : List ℕ). to_be_bytes w32 p.extent.first ++ (to_be_bytes w64 p.extent.bytes ++ xs)) (append-nil p.digest))
    extent_front (λ _. digest_field) (λ _ fits. digest_front) (λ _ fits. digest_0)
    (λ e d fits digest. (refl, digest))
    (λ p fits. (p.extent, p.digest, refl, tt, fits))

-- ---- segments

cut_fails : (least : ℕ) (horizon : Time) (bytes : List ℕ) (left : ℕ) → cut_at least horizon bytes ≡ Err left → left ≡ length bytes
unfolding cut_at
cut_fails least horizon bytes left e = go (bind_err (Time × List ℕ) (Time × List ℕ) (time_at bytes) _ left e)
  where
    go : (time_at bytes ≡ Err left) ⊎ ((t : Time × List ℕ) × (time_at bytes ≡ Ok t) × (cond (nat_le least t.0.seconds && nat_lt t.0.seconds horizon.seconds) (good (Time × List ℕ) t) (Err (length bytes)) ≡ Err left)) → left ≡ length bytes
    go (inl h) = time_fails bytes left h
    go (inr h) = (test_err (Time × List ℕ) (nat_le least h.0.0.seconds && nat_lt h.0.0.seconds horizon.seconds) h.0 left (length bytes) h.2).1

abbrev Segments : Type 0
Segments = List Time × List Place

-- no more segments than these, of which the first ascend
pub record AreBegun (count least : ℕ) (horizon : Time) (s : List Time × List Place) : Type 0 where
  pub cuts : length s.0 ≤ count
  pub places : length s.1 ≡ length s.0
  pub ascend : Ascend least horizon s.0
  pub digests : All (λ p. IsDigest p.digest) s.1

abbrev pub OfSegments : ℕ → ℕ → Time → List (List ℕ) → Type 0
OfSegments count least horizon = Of (λ s. segments_fields s.0 s.1) (AreBegun count least horizon)

pub no_segments : (count least : ℕ) (horizon : Time) → AreBegun count least horizon ([], [])
no_segments count least horizon = record { cuts = omega arith; places = refl; ascend = tt; digests = All-nil (λ p. IsDigest p.digest) }

none_begun : (count least : ℕ) (horizon : Time) (fs : List (List ℕ)) → NoFields fs → OfSegments count least horizon fs
none_begun count least horizon fs e = (([], []), no_segments count least horizon, e)

none_of_none : (least : ℕ) (horizon : Time) (fs : List (List ℕ)) → OfSegments 0 least horizon fs → NoFields fs
none_of_none least horizon fs f = go f.0.0 f.0.1 (omega (arith, f.1.cuts)) f.2
  where
    go : (cuts : List Time) (places : List Place) → length cuts ≤ 0 → fs ≡ segments_fields cuts places → NoFields fs
    go [] places le e = e
    go (c ∷ cuts) places le e = absurd (omega (arith, le))

abbrev Behind : ℕ → ℕ → Time → List (List ℕ) → Type 0
Behind count least horizon fs = NoFields fs ⊎ Then (λ cut. to_be_bytes w64 cut.seconds ∷ []) (IsCut least horizon) (λ cut. Then place_fields IsPlace (λ place. OfSegments count (cut.seconds + 1) horizon)) fs

one_begun : (count least : ℕ) (horizon : Time) (fs : List (List ℕ)) → Behind count least horizon fs → OfSegments (suc count) least horizon fs
one_begun count least horizon fs (inl e) = none_begun (suc count) least horizon fs e
one_begun count least horizon fs (inr f) =
    let cut = f.0 in
    let p = f.3 in
    let s = p.3 in (
      (cut ∷ s.0.0, p.0 ∷ s.0.1),
      record {
        cuts = omega (arith, s.1.cuts);
        places = ap suc s.1.places;
        ascend = (f.1.0, f.1.1, s.1.ascend);
        digests = All-cons (λ q. IsDigest q.digest) p.0 s.0.1 p.1 s.1.digests;
      },
      f.4 ∙ ap (λ (gs : List (List ℕ)). to_be_bytes w64 cut.seconds ∷ gs) (p.4 ∙ ap (λ (gs : List (List ℕ)). place_fields p.0 ++ gs) s.2),
    )

first_begun : (count least : ℕ) (horizon : Time) (fs : List (List ℕ)) (cuts : List Time) (places : List Place) → AreBegun (suc count) least horizon (cuts, places) → fs ≡ segments_fields cuts places → Behind count least horizon fs
first_begun count least horizon fs [] places a e = inl e
first_begun count least horizon fs (c ∷ cuts) [] a e = absurd (let p = a.places in omega (arith, p))
first_begun count least horizon fs (c ∷ cuts) (p ∷ places) a e =
    let few = a.cuts in
    let same = a.places in
    let others : AreBegun count (c.seconds + 1) horizon (cuts, places) =
    record { cuts = omega arith; places = omega arith; ascend = a.ascend.2; digests = All-tail (λ q. IsDigest q.digest) p places a.digests } in
    inr (c, (a.ascend.0, a.ascend.1), place_fields p ++ segments_fields cuts places, (p, (All-head (λ q. IsDigest q.digest) p places a.digests), segments_fields cuts places, ((cuts, places), others, refl), refl), e)

abbrev others_at : ℕ → Time → Time → Place → List ℕ → Result (Segments × List ℕ) ℕ
others_at count horizon cut place bytes = segments_at count (cut.seconds + 1) horizon bytes >>= λ o. Ok ((cut ∷ o.0.0, place ∷ o.0.1), o.1)

pub segments_stopped : (count least : ℕ) (horizon : Time) → IsStopped ((List Time × List Place) × List ℕ) behind (segments_at count least horizon) (OfSegments count least horizon)
unfolding segments_at segment_at
segments_stopped zero least horizon = renamed (Segments × List ℕ) behind (segments_at 0 least horizon) NoFields (OfSegments 0 least horizon) (none_begun 0 least horizon) (none_of_none least horizon)
    (nothing (Segments × List ℕ) behind (λ bytes. (([], []), bytes)) (λ bytes. omega arith))
segments_stopped (suc count) least horizon =
    renamed (Segments × List ℕ) behind (segments_at (suc count) least horizon) (Behind count least horizon) (OfSegments (suc count) least horizon)
    (one_begun count least horizon) (λ fs f. first_begun count least horizon fs f.0.0 f.0.1 f.1 f.2)
    (same_reading (Segments × List ℕ) behind (λ bytes. cut_at least horizon bytes >>= λ cut. place_at cut.1 >>= λ place. others_at count horizon cut.0 place.0 place.1) (segments_at (suc count) least horizon)
    (Behind count least horizon)
    (λ bytes. regroup (Time × List ℕ) (Place × List ℕ) ((Time × Place) × List ℕ) (Segments × List ℕ) (cut_at least horizon bytes) (λ cut. place_at cut.1) (λ cut place. ((cut.0, place.0), place.1)) (λ s. others_at count horizon s.0.0 s.0.1 s.1))
    (after_maybe Time (Segments × List ℕ) behind (cut_at least horizon) (λ cut. to_be_bytes w64 cut.seconds) (IsCut least horizon)
    (λ cut bytes. place_at bytes >>= λ place. others_at count horizon cut place.0 place.1) (λ cut. Then place_fields IsPlace (λ place. OfSegments count (cut.seconds + 1) horizon))
    (cut_field least horizon) (cut_fails least horizon)
    (λ cut. after_any Place (Segments × List ℕ) behind place_at place_bytes place_fields IsPlace (others_at count horizon cut) (λ _. OfSegments count (cut.seconds + 1) horizon)
    place_front
    (λ place. made (Segments × List ℕ) (Segments × List ℕ) behind behind (segments_at count (cut.seconds + 1) horizon) (OfSegments count (cut.seconds + 1) horizon) (λ o. ((cut ∷ o.0.0, place ∷ o.0.1), o.1)) (λ o. omega arith)
    (segments_stopped count (cut.seconds + 1) horizon))
    (λ place. ([], none_begun count (cut.seconds + 1) horizon [] refl)))))

-- ---- the document and the time of a change

doc_fails : (bytes : List ℕ) (left : ℕ) → doc_at bytes ≡ Err left → left ≡ length bytes
doc_fails bytes left e = number_fails w32 bytes left (made_err (ℕ × List ℕ) (DocId × List ℕ) (number_at w32 bytes) (λ n. (record { 0 = n.0 }, n.1)) left e)

doc_front : HasFields DocId doc_at (λ d. to_be_bytes w32 d.0) (λ d. to_be_bytes w32 d.0 ∷ []) IsDoc
doc_front = one_field DocId doc_at (λ d. to_be_bytes w32 d.0) IsDoc (record { 0 = 0 }) (omega arith) doc_field doc_fails

abbrev pub change_fields : DocId × Time → List (List ℕ)
change_fields c = to_be_bytes w32 c.0.0 ∷ to_be_bytes w64 c.1.seconds ∷ []

pub change_front : HasFields (DocId × Time) change_at (λ c. to_be_bytes w32 c.0.0 ++ to_be_bytes w64 c.1.seconds) change_fields (λ c. IsDoc c.0)
unfolding change_at
change_front = both_fields DocId Time (DocId × Time) (λ d t. (d, t))
    doc_at (λ d. to_be_bytes w32 d.0) (λ d. to_be_bytes w32 d.0 ∷ []) IsDoc
    (λ _. time_at) (λ t. to_be_bytes w64 t.seconds) (λ t. to_be_bytes w64 t.seconds ∷ []) (λ _ _. Unit {0})
    (λ c. to_be_bytes w32 c.0.0 ++ to_be_bytes w64 c.1.seconds) change_fields (λ c. IsDoc c.0)
    change_field (λ c. refl) doc_front (λ _. time_field) (λ _ fits. time_front) (λ _ fits. (time_0, tt))
    (λ d t fits any. (refl, fits))
    (λ c fits. (c.0, c.1, refl, fits, tt))
