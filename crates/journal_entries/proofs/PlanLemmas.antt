-- A plan that is read is spelled so, and what is spelled so is read.
use Rattle.std.specs.Prelude.{◌≡◌, ℕ, ◌^◌, ◌<◌, ◌≤◌, List, [], ◌∷◌, ◌++◌, length, Ok, refl}
use Rattle.std.specs.Int.{w32, w64, to_be_bytes}
use Rattle.std.proofs.Common.{sym, ap, subst, ◌∙◌, arith}
use Rattle.std.proofs.lemmas.List.{append-nil, length-append}
use Rattle.std.proofs.lemmas.List.Folds.{concat-append}
use Rattle.base_commands.specs.declared.command.Kind.{Kind}
use Rattle.base_commands.specs.declared.command.Kind.TheVariants.{Guarantee, Uniform, Since}
use Rattle.base_types.specs.declared.time.Time.{Time}
use Rattle.journal_entries.specs.declared.place.Place.{Place}
use Rattle.journal_entries.specs.declared.plan.PlanEntry.{PlanEntry}
use Rattle.journal_entries.specs.PlanSpelling.{most_segments, layout_byte, kind_fields, segments_fields, plan_spelling, IsWord, IsPlanEntry}
use Rattle.journal_entries.specs.PlanBytes.{kind_bytes, segments_bytes, plan_bytes, kind_length, plan_length}
use Rattle.journal_entries.specs.FieldReading.{time_at, end_at}
use Rattle.journal_entries.specs.PlanReading.{number_in, layout_at, kind_at, fraction_at, key_at, segments_at, plan_at}
use Rattle.base_types.proofs.Readings.{bind_ok, ok_is, Within, Within-next}
use Rattle.base_types.proofs.Bytes.{IsBytes}
use Rattle.journal_entries.proofs.FieldLemmas.{end_takes, end_within}
use Rattle.journal_entries.proofs.FieldCodec.{IsField}
use Rattle.journal_entries.proofs.PlanFieldLemmas.{time_field, number_field, layout_field, kind_is, kind_field, fraction_field, key_field}
use Rattle.journal_entries.proofs.SegmentLemmas.{increasing, rising, AreSegments, segments_field, segments_are, segments_length}

count_field : IsField ℕ (number_in 1 most_segments) (λ n. to_be_bytes w32 n) (λ n. (1 ≤ n) × (n ≤ most_segments))
count_field = number_field 1 most_segments (omega arith)

-- ---- the bytes of the fields

spelling_is : (p : PlanEntry) → plan_spelling p ≡ plan_bytes p
unfolding plan_spelling plan_bytes
spelling_is p =
    let behind : List (List ℕ) = to_be_bytes w32 p.fraction.over ∷ to_be_bytes w32 p.fraction.under ∷ to_be_bytes w64 p.horizon.seconds
    ∷ (length p.word ∷ []) ∷ p.word ∷ to_be_bytes w32 (length p.cuts) ∷ segments_fields p.cuts p.places in
    let front = λ (kind segments : List ℕ). 3 ∷ layout_byte p.layout ∷ (kind ++ (to_be_bytes w32 p.fraction.over ++ (to_be_bytes w32 p.fraction.under ++ (to_be_bytes w64 p.horizon.seconds
    ++ (length p.word ∷ (p.word ++ (to_be_bytes w32 (length p.cuts) ++ segments))))))) in
    ap (λ (xs : List ℕ). 3 ∷ layout_byte p.layout ∷ xs) (concat-append (kind_fields p.kind) behind) ∙ (λ i. front (kind_is p.kind i) (segments_are p.cuts p.places i))

-- ---- what is read is spelled so

-- fields one behind the other are the plan's spelling
spelled_so : (p : PlanEntry) (b0 b1 b2 b3 b4 b5 b6 b7 : List ℕ) (count : ℕ) → length p.cuts ≡ count → b0 ≡ layout_byte p.layout ∷ b1 → b1 ≡ kind_bytes p.kind ++ b2
    → b2 ≡ to_be_bytes w32 p.fraction.over ++ (to_be_bytes w32 p.fraction.under ++ b3) → b3 ≡ to_be_bytes w64 p.horizon.seconds ++ b4 → b4 ≡ length p.word ∷ (p.word ++ b5) → b5 ≡ to_be_bytes w32 count ++ b6
    → b6 ≡ segments_bytes p.cuts p.places ++ b7 → b7 ≡ [] → 3 ∷ b0 ≡ plan_spelling p
unfolding plan_bytes
spelled_so p b0 b1 b2 b3 b4 b5 b6 b7 count len layout kind fraction horizon word counted segments end =
    let segs = segments_bytes p.cuts p.places in
    let r6 : b6 ≡ segs = segments ∙ ap (λ (xs : List ℕ). segs ++ xs) end ∙ append-nil segs in
    let r5 = counted ∙ (λ i. to_be_bytes w32 (sym len i) ++ r6 i) in
    let r4 = word ∙ ap (λ (xs : List ℕ). length p.word ∷ (p.word ++ xs)) r5 in
    let r3 = horizon ∙ ap (λ (xs : List ℕ). to_be_bytes w64 p.horizon.seconds ++ xs) r4 in
    let r2 = fraction ∙ ap (λ (xs : List ℕ). to_be_bytes w32 p.fraction.over ++ (to_be_bytes w32 p.fraction.under ++ xs)) r3 in
    let r1 = kind ∙ ap (λ (xs : List ℕ). kind_bytes p.kind ++ xs) r2 in
    ap (λ (xs : List ℕ). 3 ∷ xs) layout ∙ ap (λ (xs : List ℕ). 3 ∷ layout_byte p.layout ∷ xs) r1 ∙ sym (spelling_is p)

fits_so : (p : PlanEntry) (count : ℕ) → IsWord p.word → (1 ≤ count) × (count ≤ most_segments) → AreSegments count 0 p.horizon (p.cuts, p.places) → IsPlanEntry p
fits_so p count word within segments = record {
  well_cut = record {
    some = subst (λ (n : ℕ). 1 ≤ n) (sym segments.cuts) within.0;
    most = subst (λ (n : ℕ). n ≤ most_segments) (sym segments.cuts) within.1;
    places = segments.places ∙ sym segments.cuts;
    ascend = increasing 0 p.horizon p.cuts segments.ascend;
  };
  word = word;
  digests = segments.digests;
}

pub plan_takes : (bytes : List ℕ) (p : PlanEntry) → IsBytes bytes → plan_at bytes ≡ Ok p → IsPlanEntry p × (3 ∷ bytes ≡ plan_spelling p)
unfolding plan_at
plan_takes bytes p fits r =
    let a = bind_ok (layout_at bytes) _ p r in
    let b = bind_ok (kind_at a.0.1) _ p a.2 in
    let c = bind_ok (fraction_at b.0.1) _ p b.2 in
    let d = bind_ok (time_at c.0.1) _ p c.2 in
    let e = bind_ok (key_at d.0.1) _ p d.2 in
    let f = bind_ok (number_in 1 most_segments e.0.1) _ p e.2 in
    let g = bind_ok (segments_at f.0.0 0 d.0.0 f.0.1) _ p f.2 in
    let h = bind_ok (end_at g.0.1) _ p g.2 in
    let layout = layout_field.takes bytes a.0 fits a.1 in
    let kind = kind_field.takes a.0.1 b.0 layout.0.rest_fits b.1 in
    let fraction = fraction_field.takes b.0.1 c.0 kind.0.rest_fits c.1 in
    let horizon = time_field.takes c.0.1 d.0 fraction.0.rest_fits d.1 in
    let word = key_field.takes d.0.1 e.0 horizon.0.rest_fits e.1 in
    let count = count_field.takes e.0.1 f.0 word.0.rest_fits f.1 in
    let segments = (segments_field f.0.0 0 d.0.0).takes f.0.1 g.0 count.0.rest_fits g.1 in
    let end = end_takes g.0.1 h.0 h.1 in
    let plan : PlanEntry = record { word = e.0.0; layout = a.0.0; kind = b.0.0; fraction = c.0.0; horizon = d.0.0; cuts = g.0.0.0; places = g.0.0.1 } in
    subst (λ (y : PlanEntry). IsPlanEntry y × (3 ∷ bytes ≡ plan_spelling y)) (ok_is plan p h.2) (
      fits_so plan f.0.0 word.1 count.1 segments.1,
      spelled_so plan bytes a.0.1 b.0.1 c.0.1 d.0.1 e.0.1 f.0.1 g.0.1 f.0.0 segments.1.cuts layout.0.parts kind.0.parts fraction.0.parts horizon.0.parts word.0.parts count.0.parts segments.0.parts end,
    )

-- ---- what is spelled so is read

-- a spelling is the tag, and bytes that are read as the plan
pub plan_again : (p : PlanEntry) → IsPlanEntry p → (bytes : List ℕ) × (plan_spelling p ≡ 3 ∷ bytes) × (plan_at bytes ≡ Ok p)
unfolding plan_at plan_bytes
plan_again p fits =
    let cut = fits.well_cut in
    let segs = segments_bytes p.cuts p.places in
    let counted = to_be_bytes w32 (length p.cuts) ++ segs in
    let word = length p.word ∷ (p.word ++ counted) in
    let horizon = to_be_bytes w64 p.horizon.seconds ++ word in
    let fraction = to_be_bytes w32 p.fraction.over ++ (to_be_bytes w32 p.fraction.under ++ horizon) in
    let are : AreSegments (length p.cuts) 0 p.horizon (p.cuts, p.places) = record {
      cuts = refl;
      places = cut.places;
      ascend = rising 0 p.horizon p.cuts (omega arith) cut.ascend;
      digests = fits.digests;
    } in
    let read : segments_at (length p.cuts) 0 p.horizon segs ≡ Ok ((p.cuts, p.places), []) =
    ap (segments_at (length p.cuts) 0 p.horizon) (sym (append-nil segs)) ∙ (segments_field (length p.cuts) 0 p.horizon).again (p.cuts, p.places) [] are in
    let bytes = layout_byte p.layout ∷ (kind_bytes p.kind ++ fraction) in
    let again : plan_at bytes ≡ Ok p =
    rw (
      layout_field.again p.layout (kind_bytes p.kind ++ fraction) tt,
      kind_field.again p.kind fraction tt,
      fraction_field.again p.fraction horizon tt,
      time_field.again p.horizon word tt,
      key_field.again p.word counted fits.word,
      count_field.again (length p.cuts) segs (cut.some, cut.most),
      read,
    ) refl in
    (bytes, spelling_is p, again)

-- ---- where it fails

pub plan_within : (bytes : List ℕ) → Within (λ _. 0) (length bytes) (plan_at bytes)
unfolding plan_at
plan_within bytes =
    Within-next (λ x. length x.1) (λ _. 0) (length bytes) (layout_at bytes) _ (layout_field.within bytes) (λ a.
    Within-next (λ x. length x.1) (λ _. 0) (length a.1) (kind_at a.1) _ (kind_field.within a.1) (λ b.
    Within-next (λ x. length x.1) (λ _. 0) (length b.1) (fraction_at b.1) _ (fraction_field.within b.1) (λ c.
    Within-next (λ x. length x.1) (λ _. 0) (length c.1) (time_at c.1) _ (time_field.within c.1) (λ d.
    Within-next (λ x. length x.1) (λ _. 0) (length d.1) (key_at d.1) _ (key_field.within d.1) (λ e.
    Within-next (λ x. length x.1) (λ _. 0) (length e.1) (number_in 1 most_segments e.1) _ (count_field.within e.1) (λ f.
    Within-next (λ x. length x.1) (λ _. 0) (length f.1) (segments_at f.0 0 d.0 f.1) _ ((segments_field f.0 0 d.0).within f.1) (λ g.
    Within-next (λ _. 0) (λ _. 0) (length g.1) (end_at g.1) _ (end_within g.1) (λ h. omega arith))))))))

-- ---- how long it is

kind_bytes-length : (k : Kind) → length (kind_bytes k) ≡ kind_length k
kind_bytes-length Guarantee = refl
kind_bytes-length Uniform = refl
kind_bytes-length (Since at) = refl

pub spelling_length : (p : PlanEntry) → IsPlanEntry p → length (plan_spelling p) ≡ plan_length p
unfolding plan_bytes
spelling_length p fits =
    let segs = segments_bytes p.cuts p.places in
    let counted = to_be_bytes w32 (length p.cuts) ++ segs in
    let front = to_be_bytes w32 p.fraction.over ++ (to_be_bytes w32 p.fraction.under ++ (to_be_bytes w64 p.horizon.seconds ++ (length p.word ∷ (p.word ++ counted)))) in
    ap length (spelling_is p) ∙ omega (arith, length-append (kind_bytes p.kind) front, length-append p.word counted, kind_bytes-length p.kind, segments_length p.cuts p.places fits.well_cut.places fits.digests)

kind_short : (k : Kind) → kind_length k ≤ 9
kind_short Guarantee = omega arith
kind_short Uniform = omega arith
kind_short (Since at) = omega arith

kind_some : (k : Kind) → 1 ≤ kind_length k
kind_some Guarantee = omega arith
kind_some Uniform = omega arith
kind_some (Since at) = omega arith

-- a plan's length fits a record of the journal
pub plan_short : (p : PlanEntry) → IsPlanEntry p → length (plan_spelling p) < 2 ^ 32
plan_short p fits = omega (arith, spelling_length p fits, kind_short p.kind, fits.word.1, fits.well_cut.most)

pub plan_long : (p : PlanEntry) → IsPlanEntry p → 77 ≤ length (plan_spelling p)
plan_long p fits = omega (arith, spelling_length p fits, kind_some p.kind, fits.word.0, fits.well_cut.some)

-- ---- what is written

-- what was written is the spelling of a plan, of as many bytes
pub record IsWritten (p : PlanEntry) (out : List ℕ) : Type 0 where
  pub same : out ≡ plan_spelling p
  pub len : length out ≡ plan_length p
  pub at_least : 77 ≤ length out
  pub at_most : length out < 2 ^ 32

pub written : (p : PlanEntry) (none front out : List ℕ) (cuts : List Time) (places : List Place) → IsPlanEntry p
    → cuts ≡ p.cuts → places ≡ p.places → none ≡ [] → front ++ segments_bytes p.cuts p.places ≡ none ++ plan_bytes p → out ≡ front ++ segments_bytes cuts places → IsWritten p out
written p none front out cuts places fits c d n f o =
    let same : out ≡ plan_spelling p = o ∙ (λ i. front ++ segments_bytes (c i) (d i)) ∙ f ∙ ap (λ (xs : List ℕ). xs ++ plan_bytes p) n ∙ sym (spelling_is p) in
    let long = plan_long p fits in
    let short = plan_short p fits in
    let as_long = ap (λ (xs : List ℕ). length xs) same in
    record { same = same; len = as_long ∙ spelling_length p fits; at_least = omega arith; at_most = omega arith }
