-- Each field of a plan is read as it is spelled.
use Rattle.std.specs.Prelude.{◌≡◌, ℕ, zero, suc, ◌+◌, ◌^◌, ◌<◌, ◌≤◌, Bool, true, false, cond, nat_lt, nat_le, ◌&&◌, List, [], ◌∷◌, ◌++◌, length, take, drop, Some, None, Ok, Err, All, IsUtf8, refl}
use Rattle.std.specs.Int.{w16, w32, w64, to_be_bytes}
use Rattle.std.specs.List.{concat}
use Rattle.std.specs.Str.{is_utf8}
use Rattle.std.proofs.Common.{sym, ap, subst, ◌∙◌, arith}
use Rattle.std.proofs.lemmas.Bool.{le-leb, leb-true, lt-ltb, ltb-true, ltb-false, le-ltb, and_parts, and_right, cond-false, false_from_ne_true}
use Rattle.std.proofs.lemmas.List.{take_at, drop_at, take-append-drop, length-append, length-take, length-drop}
use Rattle.std.proofs.lemmas.List.Elements.{All-nil, All-cons}
use Rattle.std.proofs.lemmas.Str.{IsUtf8-from_is_utf8, is_utf8-from_IsUtf8}
use Rattle.base_commands.specs.declared.command.Kind.{Kind}
use Rattle.base_commands.specs.declared.command.Kind.TheVariants.{Guarantee, Uniform, Since}
use Rattle.base_types.specs.declared.extent.Extent.{Extent}
use Rattle.base_types.specs.declared.fraction.Fraction.{Fraction}
use Rattle.base_types.specs.declared.time.Time.{Time}
use Rattle.base_types.specs.Times.{time_of}
use Rattle.base_types.proofs.TimeLemmas.{time_of-seconds}
use Rattle.journal_entries.specs.declared.place.Layout.{Layout}
use Rattle.journal_entries.specs.declared.place.Layout.TheVariants.{Flat, Blocks}
use Rattle.journal_entries.specs.declared.place.Place.{Place}
use Rattle.journal_entries.specs.Numbers.{fraction_of, extent_of}
use Rattle.journal_entries.specs.PlanSpelling.{layout_byte, kind_fields, IsDigest, IsWord}
use Rattle.journal_entries.specs.PlanBytes.{kind_bytes, segment_bytes}
use Rattle.journal_entries.specs.FieldReading.{number_at, time_at}
use Rattle.journal_entries.specs.PlanReading.{named_at, if_within, number_in, layout_at, kind_at, fraction_at, word_at, key_at, extent_at, digest_at, place_at, cut_at, segment_at}
use Rattle.base_types.proofs.Readings.{bind_ok, ok_is, Within, Within-more, Within-then}
use Rattle.journal_entries.proofs.Steps.{test_ok, guard_ok}
use Rattle.base_types.proofs.Bytes.{IsBytes, IsBytes-take, IsBytes-drop, wide16, wide32, wide64}
use Rattle.journal_entries.proofs.FieldLemmas.{Takes, seconds-time_of}
use Rattle.journal_entries.proofs.FieldCodec.{IsField, named, both}
use Rattle.journal_entries.proofs.NumberLemmas.{fraction_of-is, fraction_of-some, extent_of-is, extent_of-some}

-- ---- times, and numbers within bounds

pub time_field : IsField Time time_at (λ t. to_be_bytes w64 t.seconds) (λ _. Unit {0})
time_field = named Time w64 (2 ^ 64) wide64 time_of (λ t. t.seconds) (λ _. Unit {0})
    (λ n t lt e. (seconds-time_of n t e, tt))
    (λ t fits. (omega (arith, t.before_now), time_of-seconds t.seconds t.before_now))

within_some : (b : Bool) (x y : ℕ) → cond b (Some x) None ≡ Some y → (b ≡ true) × (y ≡ x)
within_some true x y e = (refl, cc)
within_some false x y e = absurd cc

within_told : (least most n x : ℕ) → if_within least most n ≡ Some x → (x ≡ n) × ((least ≤ x) × (x ≤ most))
within_told least most n x e =
    let s = within_some (nat_le least n && nat_le n most) n x e in
    let p = and_parts (nat_le least n) (nat_le n most) s.0 in
    (s.1, rw s.1 (leb-true least n p.0, leb-true n most p.1))

within_named : (least most x : ℕ) → least ≤ x → x ≤ most → if_within least most x ≡ Some x
within_named least most x a b = rw (le-leb least x a, le-leb x most b) refl

pub number_field : (least most : ℕ) → most < 2 ^ 32 → IsField ℕ (number_in least most) (λ n. to_be_bytes w32 n) (λ n. (least ≤ n) × (n ≤ most))
unfolding number_in
number_field least most lt = named ℕ w32 (2 ^ 32) wide32 (if_within least most) (λ n. n) (λ n. (least ≤ n) × (n ≤ most))
    (λ n x below e. within_told least most n x e)
    (λ x fits. (omega (arith, fits.1), within_named least most x fits.0 fits.1))

-- the number of the format that a mark has
pub mark_field : IsField ℕ (named_at w16 (if_within 2 2)) (λ n. to_be_bytes w16 n) (λ n. (2 ≤ n) × (n ≤ 2))
mark_field = named ℕ w16 (2 ^ 16) wide16 (if_within 2 2) (λ n. n) (λ n. (2 ≤ n) × (n ≤ 2))
    (λ n x below e. within_told 2 2 n x e)
    (λ x fits. (omega (arith, fits.1), within_named 2 2 x fits.0 fits.1))

-- ---- layout and kind

rest_of : (b : ℕ) (bytes : List ℕ) → IsBytes (b ∷ bytes) → IsBytes bytes
rest_of b bytes fits i = fits (suc i)

layout_takes : (bytes : List ℕ) (x : Layout × List ℕ) → IsBytes bytes → layout_at bytes ≡ Ok x → Takes bytes (layout_byte x.0 ∷ []) x.1 × Unit {0}
unfolding layout_at
layout_takes [] x fits e = absurd cc
layout_takes (zero ∷ bytes) x fits e = absurd cc
layout_takes (suc zero ∷ bytes) x fits e = subst (λ (y : Layout × List ℕ). Takes (1 ∷ bytes) (layout_byte y.0 ∷ []) y.1 × Unit {0}) (ok_is (Flat, bytes) x e) (record { parts = refl; rest_fits = rest_of 1 bytes fits }, tt)
layout_takes (suc (suc zero) ∷ bytes) x fits e = subst (λ (y : Layout × List ℕ). Takes (2 ∷ bytes) (layout_byte y.0 ∷ []) y.1 × Unit {0}) (ok_is (Blocks, bytes) x e) (record { parts = refl; rest_fits = rest_of 2 bytes fits }, tt)
layout_takes (suc (suc (suc n)) ∷ bytes) x fits e = absurd cc

layout_again : (l : Layout) (rest : List ℕ) → layout_at (layout_byte l ∷ rest) ≡ Ok (l, rest)
unfolding layout_at
layout_again Flat rest = refl
layout_again Blocks rest = refl

layout_within : (bytes : List ℕ) → Within (λ x. length x.1) (length bytes) (layout_at bytes)
unfolding layout_at
layout_within [] = omega arith
layout_within (zero ∷ bytes) = omega arith
layout_within (suc zero ∷ bytes) = omega arith
layout_within (suc (suc zero) ∷ bytes) = omega arith
layout_within (suc (suc (suc n)) ∷ bytes) = omega arith

pub layout_field : IsField Layout layout_at (λ l. layout_byte l ∷ []) (λ _. Unit {0})
layout_field = record { takes = layout_takes; again = λ l rest fits. layout_again l rest; within = layout_within }

kind_takes : (bytes : List ℕ) (x : Kind × List ℕ) → IsBytes bytes → kind_at bytes ≡ Ok x → Takes bytes (kind_bytes x.0) x.1 × Unit {0}
unfolding kind_at
kind_takes [] x fits e = absurd cc
kind_takes (zero ∷ bytes) x fits e = absurd cc
kind_takes (suc zero ∷ bytes) x fits e = subst (λ (y : Kind × List ℕ). Takes (1 ∷ bytes) (kind_bytes y.0) y.1 × Unit {0}) (ok_is (Guarantee, bytes) x e) (record { parts = refl; rest_fits = rest_of 1 bytes fits }, tt)
kind_takes (suc (suc zero) ∷ bytes) x fits e = subst (λ (y : Kind × List ℕ). Takes (2 ∷ bytes) (kind_bytes y.0) y.1 × Unit {0}) (ok_is (Uniform, bytes) x e) (record { parts = refl; rest_fits = rest_of 2 bytes fits }, tt)
kind_takes (suc (suc (suc zero)) ∷ bytes) x fits e =
    let t = bind_ok (time_at bytes) _ x e in
    let at = time_field.takes bytes t.0 (rest_of 3 bytes fits) t.1 in
    subst (λ (y : Kind × List ℕ). Takes (3 ∷ bytes) (kind_bytes y.0) y.1 × Unit {0}) (ok_is (Since t.0.0, t.0.1) x t.2) (record { parts = ap (λ (rest : List ℕ). 3 ∷ rest) at.0.parts; rest_fits = at.0.rest_fits }, tt)
kind_takes (suc (suc (suc (suc n))) ∷ bytes) x fits e = absurd cc

kind_again : (k : Kind) (rest : List ℕ) → kind_at (kind_bytes k ++ rest) ≡ Ok (k, rest)
unfolding kind_at
kind_again Guarantee rest = refl
kind_again Uniform rest = refl
kind_again (Since at) rest = rw (time_field.again at rest tt) refl

kind_within : (bytes : List ℕ) → Within (λ x. length x.1) (length bytes) (kind_at bytes)
unfolding kind_at
kind_within [] = omega arith
kind_within (zero ∷ bytes) = omega arith
kind_within (suc zero ∷ bytes) = omega arith
kind_within (suc (suc zero) ∷ bytes) = omega arith
kind_within (suc (suc (suc zero)) ∷ bytes) = Within-more (λ x. length x.1) (length bytes) (length (3 ∷ bytes)) _ (omega arith) (Within-then (λ x. length x.1) (λ x. length x.1) (length bytes) (time_at bytes) _ (time_field.within bytes) (λ t le. le))
kind_within (suc (suc (suc (suc n))) ∷ bytes) = omega arith

pub kind_is : (k : Kind) → concat (kind_fields k) ≡ kind_bytes k
kind_is Guarantee = refl
kind_is Uniform = refl
kind_is (Since at) = refl

pub kind_field : IsField Kind kind_at kind_bytes (λ _. Unit {0})
kind_field = record { takes = kind_takes; again = λ k rest fits. kind_again k rest; within = kind_within }

-- ---- the fraction

pub under_field : (over : ℕ) → IsField Fraction (named_at w32 (fraction_of over)) (λ f. to_be_bytes w32 f.under) (λ f. f.over ≡ over)
under_field over = named Fraction w32 (2 ^ 32) wide32 (fraction_of over) (λ f. f.under) (λ f. f.over ≡ over)
    (λ n f lt e. (let is = fraction_of-is over n f e in (is.1, is.0)))
    (λ f fits. (omega (arith, f.at_least_one, f.in_range), fraction_of-some over f.under f fits refl))

pub fraction_field : IsField Fraction fraction_at (λ f. to_be_bytes w32 f.over ++ to_be_bytes w32 f.under) (λ _. Unit {0})
unfolding fraction_at
fraction_field = both ℕ Fraction Fraction (λ over f. f) (number_in 1 4294967295) (λ n. to_be_bytes w32 n) (λ n. (1 ≤ n) × (n ≤ 4294967295))
    (λ over. named_at w32 (fraction_of over)) (λ f. to_be_bytes w32 f.under) (λ over f. f.over ≡ over)
    (λ f. to_be_bytes w32 f.over ++ to_be_bytes w32 f.under) (λ _. Unit {0})
    (number_field 1 4294967295 (omega arith)) under_field
    (λ over f fits same. (λ rest. ap (λ (n : ℕ). to_be_bytes w32 n ++ (to_be_bytes w32 f.under ++ rest)) same, tt))
    (λ f fits. (f.over, f, refl, (omega (arith, f.proper, f.at_least_one), omega (arith, f.in_range)), refl))

-- ---- the word

word_again : (word rest : List ℕ) (len : ℕ) → length word ≡ len → IsUtf8 word → word_at len (word ++ rest) ≡ Ok (word, rest)
word_again word rest len e utf8 =
    let long : nat_le len (length (word ++ rest)) ≡ true = le-leb len (length (word ++ rest)) (omega (arith, length-append word rest)) in
    rw (long, take_at word rest len e, drop_at word rest len e, is_utf8-from_IsUtf8 word utf8) refl

key_takes : (bytes : List ℕ) (x : List ℕ × List ℕ) → IsBytes bytes → key_at bytes ≡ Ok x → Takes bytes (length x.0 ∷ x.0) x.1 × IsWord x.0
unfolding key_at
key_takes [] x fits e = absurd cc
key_takes (len ∷ bytes) x fits e =
    let t = bind_ok (word_at len bytes) _ x e in
    let some = test_ok (nat_lt 0 (length t.0.0)) t.0 x (length bytes + 1) t.2 in
    let g = test_ok (nat_le len (length bytes) && is_utf8 (take len bytes)) (take len bytes, drop len bytes) t.0 (length bytes) t.1 in
    let p = and_parts (nat_le len (length bytes)) (is_utf8 (take len bytes)) g.0 in
    let long : len ≤ length bytes = leb-true len (length bytes) p.0 in
    let same : length (take len bytes) ≡ len = omega (arith, length-take len bytes) in
    let small : len < 256 = fits 0 in
    let least : 0 < length (take len bytes) = ltb-true 0 (length (take len bytes)) (subst (λ (y : List ℕ × List ℕ). nat_lt 0 (length y.0) ≡ true) (sym g.1) some.0) in
    subst (λ (y : List ℕ × List ℕ). Takes (len ∷ bytes) (length y.0 ∷ y.0) y.1 × IsWord y.0) (g.1 ∙ some.1) (
      record { parts = λ i. sym same i ∷ sym (take-append-drop len bytes) i; rest_fits = IsBytes-drop len bytes (rest_of len bytes fits) },
      (omega arith, omega arith, IsUtf8-from_is_utf8 (take len bytes) p.1),
    )

key_again : (word rest : List ℕ) → IsWord word → key_at (length word ∷ (word ++ rest)) ≡ Ok (word, rest)
unfolding key_at
key_again word rest fits = rw (word_again word rest (length word) refl fits.2, lt-ltb 0 (length word) fits.0) refl

pub word_within : (len : ℕ) (bytes : List ℕ) → Within (λ x. length x.1) (length bytes) (word_at len bytes)
word_within len bytes = go (nat_le len (length bytes) && is_utf8 (take len bytes))
  where
    go : (b : Bool) → Within (λ (x : List ℕ × List ℕ). length x.1) (length bytes) (cond b (Ok (take len bytes, drop len bytes)) (Err (length bytes)))
    go true = omega (arith, length-drop len bytes)
    go false = omega arith

key_within : (bytes : List ℕ) → Within (λ x. length x.1) (length bytes) (key_at bytes)
unfolding key_at
key_within [] = omega arith
key_within (len ∷ bytes) = Within-then (λ x. length x.1) (λ x. length x.1) (length (len ∷ bytes)) (word_at len bytes) _ (Within-more (λ x. length x.1) (length bytes) (length (len ∷ bytes)) _ (omega arith) (word_within len bytes)) (λ w le. go w (nat_lt 0 (length w.0)) le)
  where
    go : (w : List ℕ × List ℕ) (b : Bool) → length w.1 ≤ length (len ∷ bytes) → Within (λ (x : List ℕ × List ℕ). length x.1) (length (len ∷ bytes)) (cond b (Ok w) (Err (length bytes + 1)))
    go w true le = le
    go w false le = omega arith

pub key_field : IsField (List ℕ) key_at (λ word. length word ∷ word) IsWord
key_field = record { takes = key_takes; again = key_again; within = key_within }

-- ---- where a sublist lies

pub length_field : (first : ℕ) → IsField Extent (named_at w64 (extent_of first)) (λ e. to_be_bytes w64 e.bytes) (λ e. e.first ≡ first)
length_field first = named Extent w64 (2 ^ 64) wide64 (extent_of first) (λ e. e.bytes) (λ e. e.first ≡ first)
    (λ n x lt e. (let is = extent_of-is first n x e in (is.1, is.0)))
    (λ x fits. (x.sized, extent_of-some first x.bytes x fits refl))

pub extent_field : IsField Extent extent_at (λ e. to_be_bytes w32 e.first ++ to_be_bytes w64 e.bytes) (λ _. Unit {0})
unfolding extent_at
extent_field = both ℕ Extent Extent (λ first e. e) (number_in 0 268435456) (λ n. to_be_bytes w32 n) (λ n. (0 ≤ n) × (n ≤ 268435456))
    (λ first. named_at w64 (extent_of first)) (λ e. to_be_bytes w64 e.bytes) (λ first e. e.first ≡ first)
    (λ e. to_be_bytes w32 e.first ++ to_be_bytes w64 e.bytes) (λ _. Unit {0})
    (number_field 0 268435456 (omega arith)) length_field
    (λ first e fits same. (λ rest. ap (λ (n : ℕ). to_be_bytes w32 n ++ (to_be_bytes w64 e.bytes ++ rest)) same, tt))
    (λ e fits. (e.first, e, refl, (omega arith, omega (arith, e.in_pages)), refl))

all_bytes : (bytes : List ℕ) → IsBytes bytes → All (λ b. b < 256) bytes
all_bytes [] fits = All-nil (λ b. b < 256)
all_bytes (b ∷ bytes) fits = All-cons (λ c. c < 256) b bytes (fits 0) (all_bytes bytes (λ i. fits (suc i)))

digest_takes : (bytes : List ℕ) (x : List ℕ × List ℕ) → IsBytes bytes → digest_at bytes ≡ Ok x → Takes bytes x.0 x.1 × IsDigest x.0
unfolding digest_at
digest_takes bytes x fits e =
    let g = guard_ok (nat_lt (length bytes) 32) (take 32 bytes, drop 32 bytes) x (length bytes) e in
    let long : 32 ≤ length bytes = ltb-false (length bytes) 32 g.0 in
    subst (λ (y : List ℕ × List ℕ). Takes bytes y.0 y.1 × IsDigest y.0) g.1 (
      record { parts = sym (take-append-drop 32 bytes); rest_fits = IsBytes-drop 32 bytes fits },
      (omega (arith, length-take 32 bytes), all_bytes (take 32 bytes) (IsBytes-take 32 bytes fits)),
    )

digest_again : (digest rest : List ℕ) → IsDigest digest → digest_at (digest ++ rest) ≡ Ok (digest, rest)
unfolding digest_at
digest_again digest rest fits =
    let long : nat_lt (length (digest ++ rest)) 32 ≡ false = le-ltb (length (digest ++ rest)) 32 (omega (arith, fits.0, length-append digest rest)) in
    rw (long, take_at digest rest 32 fits.0, drop_at digest rest 32 fits.0) refl

digest_within : (bytes : List ℕ) → Within (λ x. length x.1) (length bytes) (digest_at bytes)
unfolding digest_at
digest_within bytes = go (nat_lt (length bytes) 32)
  where
    go : (b : Bool) → Within (λ (x : List ℕ × List ℕ). length x.1) (length bytes) (cond b (Err (length bytes)) (Ok (take 32 bytes, drop 32 bytes)))
    go true = omega arith
    go false = omega (arith, length-drop 32 bytes)

pub digest_field : IsField (List ℕ) digest_at (λ d. d) IsDigest
digest_field = record { takes = digest_takes; again = digest_again; within = digest_within }

abbrev pub place_bytes : Place → List ℕ
place_bytes p = to_be_bytes w32 p.extent.first ++ (to_be_bytes w64 p.extent.bytes ++ p.digest)

pub place_field : IsField Place place_at place_bytes (λ p. IsDigest p.digest)
unfolding place_at
place_field = both Extent (List ℕ) Place (λ e d. record { extent = e; digest = d }) extent_at (λ e. to_be_bytes w32 e.first ++ to_be_bytes w64 e.bytes) (λ _. Unit {0})
    (λ _. digest_at) (λ d. d) (λ _ d. IsDigest d) place_bytes (λ p. IsDigest p.digest)
    extent_field (λ _. digest_field)
    (λ e d fits digest. (λ rest. refl, digest))
    (λ p fits. (p.extent, p.digest, refl, tt, fits))

-- ---- segments

abbrev pub IsCut : ℕ → Time → Time → Type 0
IsCut least horizon cut = (least ≤ cut.seconds) × (cut.seconds < horizon.seconds)

cut_takes : (least : ℕ) (horizon : Time) (bytes : List ℕ) (x : Time × List ℕ) → IsBytes bytes → cut_at least horizon bytes ≡ Ok x → Takes bytes (to_be_bytes w64 x.0.seconds) x.1 × IsCut least horizon x.0
unfolding cut_at
cut_takes least horizon bytes x fits e =
    let t = bind_ok (time_at bytes) _ x e in
    let g = test_ok (nat_le least t.0.0.seconds && nat_lt t.0.0.seconds horizon.seconds) t.0 x (length bytes) t.2 in
    let p = and_parts (nat_le least t.0.0.seconds) (nat_lt t.0.0.seconds horizon.seconds) g.0 in
    subst (λ (y : Time × List ℕ). Takes bytes (to_be_bytes w64 y.0.seconds) y.1 × IsCut least horizon y.0) g.1
    ((time_field.takes bytes t.0 fits t.1).0, (leb-true least t.0.0.seconds p.0, ltb-true t.0.0.seconds horizon.seconds p.1))

cut_again : (least : ℕ) (horizon cut : Time) (rest : List ℕ) → IsCut least horizon cut → cut_at least horizon (to_be_bytes w64 cut.seconds ++ rest) ≡ Ok (cut, rest)
unfolding cut_at
cut_again least horizon cut rest fits = rw (time_field.again cut rest tt, le-leb least cut.seconds fits.0, lt-ltb cut.seconds horizon.seconds fits.1) refl

cut_within : (least : ℕ) (horizon : Time) (bytes : List ℕ) → Within (λ x. length x.1) (length bytes) (cut_at least horizon bytes)
unfolding cut_at
cut_within least horizon bytes =
    Within-then (λ x. length x.1) (λ x. length x.1) (length bytes) (time_at bytes) _ (time_field.within bytes) (λ t le. go t (nat_le least t.0.seconds && nat_lt t.0.seconds horizon.seconds) le)
  where
    go : (t : Time × List ℕ) (b : Bool) → length t.1 ≤ length bytes → Within (λ (x : Time × List ℕ). length x.1) (length bytes) (cond b (Ok t) (Err (length bytes)))
    go t true le = le
    go t false le = omega arith

pub cut_field : (least : ℕ) (horizon : Time) → IsField Time (cut_at least horizon) (λ cut. to_be_bytes w64 cut.seconds) (IsCut least horizon)
cut_field least horizon = record { takes = cut_takes least horizon; again = cut_again least horizon; within = cut_within least horizon }

abbrev pub IsSegment : ℕ → Time → Time × Place → Type 0
IsSegment least horizon s = IsCut least horizon s.0 × IsDigest s.1.digest

pub segment_field : (least : ℕ) (horizon : Time) → IsField (Time × Place) (segment_at least horizon) (λ s. segment_bytes s.0 s.1) (IsSegment least horizon)
unfolding segment_at
segment_field least horizon = both Time Place (Time × Place) (λ cut place. (cut, place)) (cut_at least horizon) (λ cut. to_be_bytes w64 cut.seconds) (IsCut least horizon)
    (λ _. place_at) place_bytes (λ _ p. IsDigest p.digest) (λ s. segment_bytes s.0 s.1) (IsSegment least horizon)
    (cut_field least horizon) (λ _. place_field)
    (λ cut place fits digest. (λ rest. refl, (fits, digest)))
    (λ s fits. (s.0, s.1, refl, fits.0, fits.1))

-- ---- what the code reads

pub fraction_read : (bytes rest behind : List ℕ) (over under : ℕ) (f : Fraction) → number_in 1 4294967295 bytes ≡ Ok (over, rest) → number_at w32 rest ≡ Ok (under, behind) → f.over ≡ over → f.under ≡ under
    → fraction_at bytes ≡ Ok (f, behind)
unfolding fraction_at
fraction_read bytes rest behind over under f a b o u = rw (a, b, fraction_of-some over under f o u) refl

pub extent_read : (bytes rest behind : List ℕ) (first len : ℕ) (x : Extent) → number_in 0 268435456 bytes ≡ Ok (first, rest) → number_at w64 rest ≡ Ok (len, behind) → x.first ≡ first → x.bytes ≡ len
    → extent_at bytes ≡ Ok (x, behind)
unfolding extent_at
extent_read bytes rest behind first len x a b f n = rw (a, b, extent_of-some first len x f n) refl

pub word_read : (len : ℕ) (bytes text front rest : List ℕ) → len ≤ length bytes → front ≡ take len bytes → rest ≡ drop len bytes → text ≡ front → IsUtf8 front → word_at len bytes ≡ Ok (text, rest)
word_read len bytes text front rest long f r t utf8 =
    rw (t, f, r, le-leb len (length bytes) long, is_utf8-from_IsUtf8 (take len bytes) (subst (λ (xs : List ℕ). IsUtf8 xs) f utf8)) refl

pub word_fails : (len : ℕ) (bytes front : List ℕ) → front ≡ take len bytes → ¬ (IsUtf8 front) → word_at len bytes ≡ Err (length bytes)
word_fails len bytes front f not_utf8 =
    let quiet : is_utf8 (take len bytes) ≡ false = false_from_ne_true (is_utf8 (take len bytes)) (λ e. not_utf8 (subst (λ (xs : List ℕ). IsUtf8 xs) (sym f) (IsUtf8-from_is_utf8 (take len bytes) e))) in
    cond-false _ _ _ (and_right (nat_le len (length bytes)) (is_utf8 (take len bytes)) quiet)
