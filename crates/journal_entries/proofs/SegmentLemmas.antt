-- Segments one after another: how they are read, and how their cuts ascend.
use Rattle.std.specs.Prelude.{◌≡◌, ℕ, zero, suc, ◌+◌, ◌-◌, ◌*◌, ◌<◌, ◌≤◌, List, [], ◌∷◌, ◌++◌, length, take, get_or, slice_index, Result, Ok, Err, All, refl}
use Rattle.std.specs.List.{concat}
use Rattle.std.specs.List.Sorted.{IsStrictlyIncreasing}
use Rattle.std.proofs.Common.{sym, ap, subst, ◌∙◌, arith, append_assoc}
use Rattle.std.proofs.lemmas.List.{append-nil, take_more, length-append, length-take}
use Rattle.std.proofs.lemmas.List.Elements.{All-nil, All-cons, All-head, All-tail}
use Rattle.base_types.specs.declared.time.Time.{Time}
use Rattle.journal_entries.specs.declared.place.Place.{Place}
use Rattle.journal_entries.specs.declared.fields.FieldError.{FieldError}
use Rattle.journal_entries.specs.declared.fields.FieldError.TheVariants.{Form, Memory}
use Rattle.journal_entries.specs.Fields.{Fails}
use Rattle.journal_entries.specs.PlanSpelling.{segments_fields, cut_seconds, IsDigest}
use Rattle.journal_entries.specs.PlanBytes.{segment_bytes, segments_bytes}
use Rattle.base_types.specs.Reading.{◌>>=◌}
use Rattle.journal_entries.specs.PlanReading.{segment_at, segments_at}
use Rattle.base_types.proofs.Readings.{ok_is}
use Rattle.journal_entries.proofs.FieldLemmas.{Takes}
use Rattle.journal_entries.proofs.FieldCodec.{IsField, both}
use Rattle.journal_entries.proofs.PlanFieldLemmas.{IsSegment, segment_field}

-- ---- cuts that ascend

-- the cuts ascend from this second on, and lie below the horizon
abbrev pub Ascend : ℕ → Time → List Time → Type 0
Ascend least horizon [] = Unit {0}
Ascend least horizon (cut ∷ cuts) = (least ≤ cut.seconds) × (cut.seconds < horizon.seconds) × Ascend (cut.seconds + 1) horizon cuts

pub increasing : (least : ℕ) (horizon : Time) (cuts : List Time) → Ascend least horizon cuts → IsStrictlyIncreasing (cut_seconds cuts horizon)
increasing least horizon [] a k l = absurd (omega (arith, l))
increasing least horizon (c ∷ []) a zero l = a.1
increasing least horizon (c ∷ []) a (suc k) l = absurd (omega (arith, l))
increasing least horizon (c ∷ d ∷ cuts) a zero l = omega (arith, a.2.0)
increasing least horizon (c ∷ d ∷ cuts) a (suc k) l =
    let e : suc (k + 1) ≡ suc k + 1 = omega arith in
    subst (λ i. slice_index (cut_seconds (c ∷ d ∷ cuts) horizon) (suc k) < slice_index (cut_seconds (c ∷ d ∷ cuts) horizon) i) e (increasing (c.seconds + 1) horizon (d ∷ cuts) a.2 k (omega (arith, l)))

behind_first : (x : ℕ) (xs : List ℕ) → IsStrictlyIncreasing (x ∷ xs) → IsStrictlyIncreasing xs
behind_first x xs up k m = let e : suc (k + 1) ≡ suc k + 1 = omega arith in subst (λ i. slice_index (x ∷ xs) (suc k) < slice_index (x ∷ xs) i) (sym e) (up (suc k) (omega (arith, m)))

below_horizon : (c horizon : Time) (cuts : List Time) → IsStrictlyIncreasing (cut_seconds (c ∷ cuts) horizon) → c.seconds < horizon.seconds
below_horizon c horizon [] up = up 0 (omega arith)
below_horizon c horizon (d ∷ cuts) up =
    let first : c.seconds < d.seconds = up 0 (omega arith) in
    let rest = below_horizon d horizon cuts (behind_first c.seconds (cut_seconds (d ∷ cuts) horizon) up) in
    omega arith

pub rising : (least : ℕ) (horizon : Time) (cuts : List Time) → least ≤ slice_index (cut_seconds cuts horizon) 0 → IsStrictlyIncreasing (cut_seconds cuts horizon) → Ascend least horizon cuts
rising least horizon [] le up = tt
rising least horizon (c ∷ []) le up = (le, below_horizon c horizon [] up, tt)
rising least horizon (c ∷ d ∷ cuts) le up =
    let first : c.seconds < d.seconds = up 0 (omega arith) in
    (le, below_horizon c horizon (d ∷ cuts) up, rising (c.seconds + 1) horizon (d ∷ cuts) (omega arith) (behind_first c.seconds (cut_seconds (d ∷ cuts) horizon) up))

-- ---- segments as one field

abbrev Segments : Type 0
Segments = List Time × List Place

abbrev pair : List Time → List Place → Segments
pair cuts places = (cuts, places)

abbrev put_first : Time × Place → Segments → Segments
put_first s others = (s.0 ∷ others.0, s.1 ∷ others.1)

pub record AreSegments (count least : ℕ) (horizon : Time) (s : List Time × List Place) : Type 0 where
  pub cuts : length s.0 ≡ count
  pub places : length s.1 ≡ count
  pub ascend : Ascend least horizon s.0
  pub digests : All (λ p. IsDigest p.digest) s.1

no_segments : (least : ℕ) (horizon : Time) (bytes : List ℕ) → AreSegments 0 least horizon (pair [] [])
no_segments least horizon bytes = record { cuts = refl; places = refl; ascend = tt; digests = All-nil (λ p. IsDigest p.digest) }

more_segments : (count least : ℕ) (horizon : Time) (s : Time × Place) (o : Segments) → IsSegment least horizon s → AreSegments count (s.0.seconds + 1) horizon o → AreSegments (suc count) least horizon (put_first s o)
more_segments count least horizon s o fits others = record {
  cuts = let e = others.cuts in omega arith;
  places = let e = others.places in omega arith;
  ascend = (fits.0.0, fits.0.1, others.ascend);
  digests = All-cons (λ p. IsDigest p.digest) s.1 o.1 fits.1 others.digests;
}

first_segment : (count least : ℕ) (horizon : Time) (cuts : List Time) (places : List Place) → AreSegments (suc count) least horizon (pair cuts places)
    → (s : Time × Place) × (o : Segments) × (put_first s o ≡ pair cuts places) × IsSegment least horizon s × AreSegments count (s.0.seconds + 1) horizon o
first_segment count least horizon [] places h = let e = h.cuts in absurd (omega arith)
first_segment count least horizon (c ∷ cuts) [] h = let e = h.places in absurd (omega arith)
first_segment count least horizon (c ∷ cuts) (p ∷ places) h =
    let e = h.cuts in
    let f = h.places in (
      (c, p),
      (cuts, places),
      refl,
      ((h.ascend.0, h.ascend.1), All-head (λ q. IsDigest q.digest) p places h.digests),
      record { cuts = omega arith; places = omega arith; ascend = h.ascend.2; digests = All-tail (λ q. IsDigest q.digest) p places h.digests },
    )

both_empty : (cuts : List Time) (places : List Place) → length cuts ≡ 0 → length places ≡ 0 → pair cuts places ≡ pair [] []
both_empty [] [] e f = refl
both_empty [] (p ∷ places) e f = absurd (omega (arith, f))
both_empty (c ∷ cuts) places e f = absurd (omega (arith, e))

none_again : (least : ℕ) (horizon : Time) (s : Segments) (rest : List ℕ) → AreSegments 0 least horizon s → segments_at 0 least horizon (segments_bytes s.0 s.1 ++ rest) ≡ Ok (s, rest)
unfolding segments_at
none_again least horizon s rest fits = subst (λ (z : Segments). segments_at 0 least horizon (segments_bytes z.0 z.1 ++ rest) ≡ Ok (z, rest)) (sym (both_empty s.0 s.1 fits.cuts fits.places)) refl

pub segments_field : (count least : ℕ) (horizon : Time) → IsField (List Time × List Place) (segments_at count least horizon) (λ s. segments_bytes s.0 s.1) (AreSegments count least horizon)
unfolding segments_at
segments_field zero least horizon = record {
  takes = λ bytes x fits e. subst (λ (y : Segments × List ℕ). Takes bytes (segments_bytes y.0.0 y.0.1) y.1 × AreSegments 0 least horizon y.0) (ok_is (([], []), bytes) x e) (record { parts = refl; rest_fits = fits }, no_segments least horizon bytes);
  again = none_again least horizon;
  within = λ bytes. omega arith;
}
segments_field (suc count) least horizon = both (Time × Place) Segments Segments put_first
    (segment_at least horizon) (λ s. segment_bytes s.0 s.1) (IsSegment least horizon)
    (λ s. segments_at count (s.0.seconds + 1) horizon) (λ o. segments_bytes o.0 o.1) (λ s o. AreSegments count (s.0.seconds + 1) horizon o)
    (λ c. segments_bytes c.0 c.1) (AreSegments (suc count) least horizon)
    (segment_field least horizon) (λ s. segments_field count (s.0.seconds + 1) horizon)
    (λ s o fits others. (λ rest. append_assoc (segment_bytes s.0 s.1) (segments_bytes o.0 o.1) rest, more_segments count least horizon s o fits others))
    (λ c fits. first_segment count least horizon c.0 c.1 fits)

-- ---- the loop that reads them

-- what was read before, and what is still read
abbrev pub with_front : List Time → List Place → Result ((List Time × List Place) × List ℕ) ℕ → Result ((List Time × List Place) × List ℕ) ℕ
with_front cuts places (Ok read) = Ok ((cuts ++ read.0.0, places ++ read.0.1), read.1)
with_front cuts places (Err left) = Err left

regroup : (cuts : List Time) (places : List Place) (s : Time × Place) (read : Result ((List Time × List Place) × List ℕ) ℕ)
    → with_front cuts places (read >>= λ o. Ok ((s.0 ∷ o.0.0, s.1 ∷ o.0.1), o.1)) ≡ with_front (cuts ++ s.0 ∷ []) (places ++ s.1 ∷ []) read
regroup cuts places s (Ok read) = λ i. Ok ((sym (append_assoc cuts (s.0 ∷ []) read.0.0) i, sym (append_assoc places (s.1 ∷ []) read.0.1) i), read.1)
regroup cuts places s (Err left) = refl

pub goes_on : (cuts : List Time) (places : List Place) (count i least : ℕ) (horizon : Time) (bytes : List ℕ) (cut : Time) (place : Place) (behind : List ℕ) (total : Result ((List Time × List Place) × List ℕ) ℕ)
    → i < count → segment_at least horizon bytes ≡ Ok ((cut, place), behind) → with_front cuts places (segments_at (count - i) least horizon bytes) ≡ total
    → with_front (cuts ++ cut ∷ []) (places ++ place ∷ []) (segments_at (count - (i + 1)) (cut.seconds + 1) horizon behind) ≡ total
unfolding segments_at
goes_on cuts places count i least horizon bytes cut place behind total lt h so_far =
    let k : count - i ≡ suc (count - (i + 1)) = omega arith in
    let one : with_front cuts places (segments_at (count - i) least horizon bytes) ≡ with_front (cuts ++ cut ∷ []) (places ++ place ∷ []) (segments_at (count - (i + 1)) (cut.seconds + 1) horizon behind) =
    rw (k, h) (regroup cuts places (cut, place) (segments_at (count - (i + 1)) (cut.seconds + 1) horizon behind)) in
    sym one ∙ so_far

pub ends : (e : FieldError) (cuts : List Time) (places : List Place) (count i least : ℕ) (horizon : Time) (bytes : List ℕ) (total : Result ((List Time × List Place) × List ℕ) ℕ)
    → i < count → Fails e (segment_at least horizon bytes) → with_front cuts places (segments_at (count - i) least horizon bytes) ≡ total → Fails e total
unfolding segments_at
ends Memory cuts places count i least horizon bytes total lt h so_far = tt
ends (Form left) cuts places count i least horizon bytes total lt h so_far =
    let k : count - i ≡ suc (count - (i + 1)) = omega arith in
    let one : with_front cuts places (segments_at (count - i) least horizon bytes) ≡ Err left = rw (k, h) refl in
    sym so_far ∙ one

pub is_done : (cuts : List Time) (places : List Place) (count i least : ℕ) (horizon : Time) (bytes : List ℕ) (total : Result ((List Time × List Place) × List ℕ) ℕ)
    → count ≤ i → with_front cuts places (segments_at (count - i) least horizon bytes) ≡ total → total ≡ Ok ((cuts, places), bytes)
unfolding segments_at
is_done cuts places count i least horizon bytes total le so_far =
    let k : count - i ≡ 0 = omega arith in
    let one : with_front cuts places (segments_at (count - i) least horizon bytes) ≡ Ok ((cuts, places), bytes) = rw k (λ j. Ok ((append-nil cuts j, append-nil places j), bytes)) in
    sym so_far ∙ one

-- ---- how they are spelled

pub segments_are : (cuts : List Time) (places : List Place) → concat (segments_fields cuts places) ≡ segments_bytes cuts places
segments_are [] places = refl
segments_are (c ∷ cuts) [] = refl
segments_are (c ∷ cuts) (p ∷ places) = ap (λ (xs : List ℕ). segment_bytes c p ++ xs) (segments_are cuts places)

segments_push : (cuts : List Time) (places : List Place) (cut : Time) (place : Place) → length places ≡ length cuts → segments_bytes (cuts ++ cut ∷ []) (places ++ place ∷ []) ≡ segments_bytes cuts places ++ segment_bytes cut place
segments_push [] [] cut place e = append-nil (segment_bytes cut place)
segments_push [] (p ∷ places) cut place e = absurd (omega (arith, e))
segments_push (c ∷ cuts) [] cut place e = absurd (omega (arith, e))
segments_push (c ∷ cuts) (p ∷ places) cut place e =
    ap (λ (xs : List ℕ). segment_bytes c p ++ xs) (segments_push cuts places cut place (omega (arith, e))) ∙ sym (append_assoc (segment_bytes c p) (segments_bytes cuts places) (segment_bytes cut place))

-- the bytes of one segment more
segments_more : (cuts : List Time) (places : List Place) (k : ℕ) (cut : Time) (place : Place) → k < length cuts → k < length places → cut ≡ get_or cuts k cut → place ≡ get_or places k place
    → segments_bytes (take (k + 1) cuts) (take (k + 1) places) ≡ segments_bytes (take k cuts) (take k places) ++ segment_bytes cut place
segments_more cuts places k cut place lt less c p =
    let a : take (k + 1) cuts ≡ take k cuts ++ cut ∷ [] = take_more cuts k cut lt ∙ ap (λ (x : Time). take k cuts ++ x ∷ []) (sym c) in
    let b : take (k + 1) places ≡ take k places ++ place ∷ [] = take_more places k place less ∙ ap (λ (x : Place). take k places ++ x ∷ []) (sym p) in
    (λ i. segments_bytes (a i) (b i)) ∙ segments_push (take k cuts) (take k places) cut place (omega (arith, length-take k cuts, length-take k places))

pub segments_written : {Y : Type 0} (cuts : List Time) (places : List Place) (yielded : List Y) (y : Y) (cut : Time) (place : Place) (old out new : List ℕ) → length yielded < length cuts → length yielded < length places
    → cut ≡ get_or cuts (length yielded) cut → place ≡ get_or places (length yielded) place → out ≡ old ++ segments_bytes (take (length yielded) cuts) (take (length yielded) places) → new ≡ out ++ segment_bytes cut place
    → new ≡ old ++ segments_bytes (take (length (yielded ++ y ∷ [])) cuts) (take (length (yielded ++ y ∷ [])) places)
segments_written cuts places yielded y cut place old out new lt less c p so_far more =
    let n : length (yielded ++ y ∷ []) ≡ length yielded + 1 = length-append yielded (y ∷ []) in
    let front = segments_bytes (take (length yielded) cuts) (take (length yielded) places) in
    rw n (more ∙ ap (λ (xs : List ℕ). xs ++ segment_bytes cut place) so_far ∙ append_assoc old front (segment_bytes cut place) ∙ ap (λ (xs : List ℕ). old ++ xs) (sym (segments_more cuts places (length yielded) cut place lt less c p)))

pub segments_length : (cuts : List Time) (places : List Place) → length places ≡ length cuts → All (λ p. IsDigest p.digest) places → length (segments_bytes cuts places) ≡ 52 * length cuts
segments_length [] [] e h = refl
segments_length [] (p ∷ places) e h = absurd (omega (arith, e))
segments_length (c ∷ cuts) [] e h = absurd (omega (arith, e))
segments_length (c ∷ cuts) (p ∷ places) e h =
    let d = (All-head (λ q. IsDigest q.digest) p places h).0 in
    let rest = segments_length cuts places (omega (arith, e)) (All-tail (λ q. IsDigest q.digest) p places h) in
    omega (arith, length-append (segment_bytes c p) (segments_bytes cuts places))
