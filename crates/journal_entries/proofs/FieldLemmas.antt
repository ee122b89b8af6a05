-- A field that is read is the field that was written, and what was written is read again.
use Rattle.std.specs.Prelude.{◌≡◌, ℕ, ◌^◌, ◌<◌, ◌≤◌, Bool, true, false, cond, nat_lt, nat_le, ◌&&◌, List, [], ◌∷◌, ◌++◌, length, take, drop, Some, Ok, Err, IsUtf8, refl}
use Rattle.std.proofs.Common.{sym, ap, arith}
use Rattle.std.specs.Int.{Width, w64, byte_len, from_be_bytes, to_be_bytes}
use Rattle.std.specs.Str.{is_utf8}
use Rattle.std.proofs.lemmas.Bool.{ltb-true, ltb-false, le-ltb, leb-true, le-leb, and_parts, and_right, cond-false, false_from_ne_true}
use Rattle.std.proofs.lemmas.List.{take_at, drop_at, take-append-drop, length-append, length-take, length-drop}
use Rattle.std.proofs.lemmas.Str.{IsUtf8-from_is_utf8, is_utf8-from_IsUtf8}
use Rattle.base_types.specs.declared.time.Time.{Time}
use Rattle.base_types.specs.Times.{time_by, time_of}
use Rattle.base_types.proofs.TimeLemmas.{time_of-seconds}
use Rattle.journal_entries.specs.Acts.{most_text}
use Rattle.journal_entries.specs.FieldReading.{number_at, time_at, end_at}
use Rattle.journal_entries.specs.Reading.{text_at}
use Rattle.base_types.proofs.Bytes.{IsBytes, IsBytes-take, IsBytes-drop, IsWide}
use Rattle.base_types.proofs.Readings.{Within}
use Rattle.journal_entries.proofs.Steps.{test_ok, guard_ok}

-- what a reader took from the front
pub record Takes (bytes text rest : List ℕ) : Type 0 where
  pub parts : bytes ≡ text ++ rest
  pub rest_fits : IsBytes rest

-- ---- numbers

pub number_takes : (w : Width) (limit : ℕ) (wide : IsWide w limit) (bytes : List ℕ) (n : ℕ) (rest : List ℕ) → IsBytes bytes → number_at w bytes ≡ Ok (n, rest) → Takes bytes (to_be_bytes w n) rest × (n < limit)
number_takes w limit wide bytes n rest fits e =
    let g = guard_ok (nat_lt (length bytes) (byte_len w)) (from_be_bytes w (take (byte_len w) bytes), drop (byte_len w) bytes) (n, rest) (length bytes) e in
    let long : byte_len w ≤ length bytes = ltb-false _ _ g.0 in
    let n-is : from_be_bytes w (take (byte_len w) bytes) ≡ n = ap (λ (p : ℕ × List ℕ). p.0) g.1 in
    let rest-is : drop (byte_len w) bytes ≡ rest = ap (λ (p : ℕ × List ℕ). p.1) g.1 in
    let front : to_be_bytes w n ≡ take (byte_len w) bytes = rw (← n-is) (wide.back (take (byte_len w) bytes) (omega (arith, length-take (byte_len w) bytes)) (IsBytes-take (byte_len w) bytes fits)) in
    (record { parts = rw (front, ← rest-is) (sym (take-append-drop (byte_len w) bytes)); rest_fits = rw (← rest-is) (IsBytes-drop (byte_len w) bytes fits) }, rw (← n-is) (wide.below (take (byte_len w) bytes) (IsBytes-take (byte_len w) bytes fits)))

pub number_again : (w : Width) (limit : ℕ) (wide : IsWide w limit) (n : ℕ) (rest : List ℕ) → n < limit → number_at w (to_be_bytes w n ++ rest) ≡ Ok (n, rest)
number_again w limit wide n rest lt =
    let len = wide.len n in
    let long : nat_lt (length (to_be_bytes w n ++ rest)) (byte_len w) ≡ false = le-ltb _ _ (omega (arith, length-append (to_be_bytes w n) rest)) in
    rw (long, take_at (to_be_bytes w n) rest (byte_len w) len, drop_at (to_be_bytes w n) rest (byte_len w) len, wide.again n lt) refl

pub number_within : (w : Width) (bytes : List ℕ) → Within (λ x. length x.1) (length bytes) (number_at w bytes)
number_within w bytes = go (nat_lt (length bytes) (byte_len w))
  where
    go : (b : Bool) → Within (λ (x : ℕ × List ℕ). length x.1) (length bytes) (cond b (Err (length bytes)) (Ok (from_be_bytes w (take (byte_len w) bytes), drop (byte_len w) bytes)))
    go true = omega arith
    go false = omega (arith, length-drop (byte_len w) bytes)

-- ---- times

-- a time made from a number has that many seconds
pub seconds-time_of : (n : ℕ) (t : Time) → time_of n ≡ Some t → t.seconds ≡ n
seconds-time_of n t = go (nat_lt n (2 ^ 40)) refl
  where
    go : (b : Bool) (h : nat_lt n (2 ^ 40) ≡ b) → time_by n b h ≡ Some t → t.seconds ≡ n
    go true h e = let s : record { seconds = n; before_now = ltb-true n (2 ^ 40) h } ≡ t = cc in sym (ap (λ (x : Time). x.seconds) s)
    go false h e = absurd cc

-- a time is read from its seconds
pub time_at-some : (bytes rest : List ℕ) (n : ℕ) (t : Time) → number_at w64 bytes ≡ Ok (n, rest) → t.seconds ≡ n → time_at bytes ≡ Ok (t, rest)
time_at-some bytes rest n t e s = rw (e, ← s, time_of-seconds t.seconds t.before_now) refl

-- ---- texts, and the end

pub text_at-ok : (bytes text : List ℕ) → text ≡ bytes → length bytes ≤ most_text → IsUtf8 bytes → text_at bytes ≡ Ok text
text_at-ok bytes text same short utf8 = rw (same, le-leb (length bytes) most_text short, is_utf8-from_IsUtf8 bytes utf8) refl

pub text_at-err : (bytes : List ℕ) → ¬ (IsUtf8 bytes) → text_at bytes ≡ Err (length bytes)
text_at-err bytes not_utf8 = cond-false _ _ _ (and_right (nat_le (length bytes) most_text) (is_utf8 bytes) (false_from_ne_true (is_utf8 bytes) (λ e. not_utf8 (IsUtf8-from_is_utf8 bytes e))))

pub text_takes : (bytes text : List ℕ) → text_at bytes ≡ Ok text → (bytes ≡ text) × (length text ≤ most_text) × IsUtf8 text
text_takes bytes text e =
    let g = test_ok (nat_le (length bytes) most_text && is_utf8 bytes) bytes text (length bytes) e in
    let both = and_parts (nat_le (length bytes) most_text) (is_utf8 bytes) g.0 in
    (g.1, rw (← g.1) (leb-true _ _ both.0), rw (← g.1) (IsUtf8-from_is_utf8 bytes both.1))

pub text_within : (bytes : List ℕ) → Within (λ _. 0) (length bytes) (text_at bytes)
text_within bytes = go (nat_le (length bytes) most_text && is_utf8 bytes)
  where
    go : (b : Bool) → Within (λ (_ : List ℕ). 0) (length bytes) (cond b (Ok bytes) (Err (length bytes)))
    go true = omega arith
    go false = omega arith

pub end_takes : (bytes : List ℕ) (x : Unit {0}) → end_at bytes ≡ Ok x → bytes ≡ []
end_takes [] x e = refl
end_takes (b ∷ bytes) x e = absurd cc

pub end_within : (bytes : List ℕ) → Within (λ _. 0) (length bytes) (end_at bytes)
end_within [] = omega arith
end_within (b ∷ bytes) = omega arith
