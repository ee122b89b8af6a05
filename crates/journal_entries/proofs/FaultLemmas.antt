-- Where reading an entry fails is where its bytes are at fault.
use Rattle.std.specs.Prelude.{◌≡◌, ◌⊎◌, ℕ, zero, suc, ◌+◌, ◌-◌, ◌<◌, ◌≤◌, List, [], ◌∷◌, ◌++◌, length, take, drop, Result, Ok, Err, refl}
use Rattle.std.specs.Int.{w16, w32, w64, to_be_bytes}
use Rattle.std.specs.List.{concat}
use Rattle.std.proofs.Common.{sym, ap, subst, ◌∙◌, arith, inl, inr}
use Rattle.std.proofs.lemmas.Bool.{cases_order}
use Rattle.std.proofs.lemmas.List.{take_at, drop_at, take-append-drop, length-append, length-drop}
use Rattle.base_types.specs.declared.fraction.Fraction.{Fraction}
use Rattle.base_types.specs.declared.time.Time.{Time}
use Rattle.base_commands.specs.declared.command.Kind.{Kind}
use Rattle.base_commands.specs.declared.command.Kind.TheVariants.{Guarantee}
use Rattle.journal_entries.specs.declared.entry.Entry.{Entry}
use Rattle.journal_entries.specs.declared.entry.Entry.TheVariants.{Arrive, Delete, Planned, Format, Batch}
use Rattle.journal_entries.specs.declared.act.Act.{Act}
use Rattle.journal_entries.specs.declared.act.Act.TheVariants as acts
use Rattle.journal_entries.specs.Acts.{alone, IsAct}
use Rattle.journal_entries.specs.declared.place.Layout.{Layout}
use Rattle.journal_entries.specs.declared.place.Place.{Place}
use Rattle.journal_entries.specs.declared.plan.PlanEntry.{PlanEntry}
use Rattle.journal_entries.specs.PlanSpelling.{most_segments, layout_byte, kind_fields, segments_fields, plan_fields, IsWord}
use Rattle.journal_entries.specs.PlanBytes.{kind_bytes, segments_bytes}
use Rattle.journal_entries.specs.Spelling.{spelling, IsEntry}
use Rattle.journal_entries.specs.Faults.{fields, IsBegunPlan, IsBegun, Begins, IsFault}
use Rattle.base_types.specs.Reading.{◌>>=◌}
use Rattle.journal_entries.specs.FieldReading.{time_at, end_at}
use Rattle.journal_entries.specs.PlanReading.{named_at, if_within, number_in, layout_at, kind_at, fraction_at, key_at, segments_at, plan_at}
use Rattle.journal_entries.specs.Reading.{arrive_at, delete_at, batch_at, format_at, entry_at}
use Rattle.base_types.proofs.Bytes.{IsBytes}
use Rattle.base_types.proofs.Readings.{Within, Within-err, Within-then}
use Rattle.journal_entries.proofs.Steps.{err_is, made_err}
use Rattle.journal_entries.proofs.FieldLemmas.{end_within}
use Rattle.journal_entries.proofs.SegmentLemmas.{increasing, rising, AreSegments, segments_field, segments_are}
use Rattle.journal_entries.proofs.ActLemmas.{rest_fits}
use Rattle.journal_entries.proofs.BatchStops.{end_fails, arrive_stops, delete_stops, arrive_passes, delete_passes, acts_stop, number_passes, acts_pass}
use Rattle.journal_entries.proofs.Stops.{InFront, none, more_in_front, IsStopped, Of, Then, renamed, made, after_any, closed}
use Rattle.journal_entries.proofs.FieldStops.{time_0, time_front, number_front, mark_front, layout_front, kind_front, fraction_fields, fraction_front, key_fields, word_1, key_front, AreBegun, OfSegments, no_segments, segments_stopped}
use Rattle.journal_entries.proofs.EntryLemmas.{entry_takes, entry_within, entry_left, entry_none}

-- ---- the mark, from behind the tag

abbrev OfMark : List (List ℕ) → Type 0
OfMark fs = fs ≡ (0 ∷ 2 ∷ []) ∷ []

abbrev OfNumber : List (List ℕ) → Type 0
OfNumber = Of (λ n. to_be_bytes w16 n ∷ []) (λ n. (2 ≤ n) × (n ≤ 2))

number_is : (fs : List (List ℕ)) → OfNumber fs → OfMark fs
number_is fs f = let two : f.0 ≡ 2 = omega (arith, f.1.0, f.1.1) in f.2 ∙ ap (λ (n : ℕ). to_be_bytes w16 n ∷ []) two

is_number : (fs : List (List ℕ)) → OfMark fs → OfNumber fs
is_number fs f = (2, (omega arith, omega arith), f)

mark_stopped : IsStopped Entry (λ _. 0) format_at OfMark
unfolding format_at
mark_stopped = renamed Entry (λ _. 0) format_at OfNumber OfMark number_is is_number
    (closed ℕ (Unit {0}) Entry (named_at w16 (if_within 2 2)) (λ n. to_be_bytes w16 n) (λ n. (2 ≤ n) × (n ≤ 2)) OfNumber end_at (λ n end. Format)
    mark_front.field mark_front.stopped (λ n fit. (to_be_bytes w16 n ∷ [], (n, fit, refl), mark_front.same n)) end_within end_fails)

-- ---- a plan, from behind the tag

abbrev OfCount : Time → List (List ℕ) → Type 0
OfCount horizon = Then (λ n. to_be_bytes w32 n ∷ []) (λ n. (1 ≤ n) × (n ≤ most_segments)) (λ n. OfSegments n 0 horizon)

abbrev OfWord : Time → List (List ℕ) → Type 0
OfWord horizon = Then key_fields IsWord (λ _. OfCount horizon)

abbrev OfHorizon : List (List ℕ) → Type 0
OfHorizon = Then (λ (t : Time). to_be_bytes w64 t.seconds ∷ []) (λ _. Unit {0}) OfWord

abbrev OfFraction : List (List ℕ) → Type 0
OfFraction = Then fraction_fields (λ _. Unit {0}) (λ _. OfHorizon)

abbrev OfKind : List (List ℕ) → Type 0
OfKind = Then kind_fields (λ _. Unit {0}) (λ _. OfFraction)

abbrev OfLayout : List (List ℕ) → Type 0
OfLayout = Then (λ (l : Layout). (layout_byte l ∷ []) ∷ []) (λ _. Unit {0}) (λ _. OfKind)

-- some fields of each
some_segments : (count : ℕ) (horizon : Time) → (fs : List (List ℕ)) × OfSegments count 0 horizon fs
some_segments count horizon = ([], (([], []), no_segments count 0 horizon, refl))

some_count : (horizon : Time) → (fs : List (List ℕ)) × OfCount horizon fs
some_count horizon = let s = some_segments 1 horizon in (_, (1, (omega arith, omega arith), s.0, s.1, refl))

some_word : (horizon : Time) → (fs : List (List ℕ)) × OfWord horizon fs
some_word horizon = let s = some_count horizon in (_, (word_1.0, word_1.1, s.0, s.1, refl))

some_horizon : (fs : List (List ℕ)) × OfHorizon fs
some_horizon = let s = some_word time_0 in (_, (time_0, tt, s.0, s.1, refl))

fraction_1 : Fraction
fraction_1 = record { over = 1; under = 1; proper = omega arith; at_least_one = omega arith; in_range = omega arith }

some_fraction : (fs : List (List ℕ)) × OfFraction fs
some_fraction = let s = some_horizon in (_, (fraction_1, tt, s.0, s.1, refl))

some_kind : (fs : List (List ℕ)) × OfKind fs
some_kind = let s = some_fraction in (_, (Guarantee, tt, s.0, s.1, refl))

-- what is read behind each
abbrev read_segments : Layout → Kind → Fraction → Time → List ℕ → ℕ → List ℕ → Result PlanEntry ℕ
read_segments layout kind fraction horizon word count bytes = segments_at count 0 horizon bytes >>= λ s. end_at s.1 >>= λ end.
    Ok (record { word = word; layout = layout; kind = kind; fraction = fraction; horizon = horizon; cuts = s.0.0; places = s.0.1 })

abbrev read_count : Layout → Kind → Fraction → Time → List ℕ → List ℕ → Result PlanEntry ℕ
read_count layout kind fraction horizon word bytes = number_in 1 most_segments bytes >>= λ count. read_segments layout kind fraction horizon word count.0 count.1

abbrev read_word : Layout → Kind → Fraction → Time → List ℕ → Result PlanEntry ℕ
read_word layout kind fraction horizon bytes = key_at bytes >>= λ word. read_count layout kind fraction horizon word.0 word.1

abbrev read_horizon : Layout → Kind → Fraction → List ℕ → Result PlanEntry ℕ
read_horizon layout kind fraction bytes = time_at bytes >>= λ horizon. read_word layout kind fraction horizon.0 horizon.1

abbrev read_fraction : Layout → Kind → List ℕ → Result PlanEntry ℕ
read_fraction layout kind bytes = fraction_at bytes >>= λ fraction. read_horizon layout kind fraction.0 fraction.1

abbrev read_kind : Layout → List ℕ → Result PlanEntry ℕ
read_kind layout bytes = kind_at bytes >>= λ kind. read_fraction layout kind.0 kind.1

are_begun : (count : ℕ) (horizon : Time) (s : List Time × List Place) → AreSegments count 0 horizon s → AreBegun count 0 horizon s
are_begun count horizon s a = record { cuts = omega (arith, a.cuts); places = a.places ∙ sym a.cuts; ascend = a.ascend; digests = a.digests }

segments_last : (layout : Layout) (kind : Kind) (fraction : Fraction) (horizon : Time) (word : List ℕ) (count : ℕ) → IsStopped PlanEntry (λ _. 0) (read_segments layout kind fraction horizon word count) (OfSegments count 0 horizon)
segments_last layout kind fraction horizon word count = closed (List Time × List Place) (Unit {0}) PlanEntry (segments_at count 0 horizon) (λ s. segments_bytes s.0 s.1) (AreSegments count 0 horizon) (OfSegments count 0 horizon) end_at
    (λ s end. record { word = word; layout = layout; kind = kind; fraction = fraction; horizon = horizon; cuts = s.0; places = s.1 })
    (segments_field count 0 horizon) (segments_stopped count 0 horizon)
    (λ s fit. (segments_fields s.0 s.1, (s, are_begun count horizon s fit, refl), segments_are s.0 s.1))
    end_within end_fails

count_last : (layout : Layout) (kind : Kind) (fraction : Fraction) (horizon : Time) (word : List ℕ) → IsStopped PlanEntry (λ _. 0) (read_count layout kind fraction horizon word) (OfCount horizon)
count_last layout kind fraction horizon word = after_any ℕ PlanEntry (λ _. 0) (number_in 1 most_segments) (λ n. to_be_bytes w32 n) (λ n. to_be_bytes w32 n ∷ []) (λ n. (1 ≤ n) × (n ≤ most_segments))
    (read_segments layout kind fraction horizon word) (λ n. OfSegments n 0 horizon) (number_front 1 most_segments (omega arith) (omega arith)) (segments_last layout kind fraction horizon word) (λ n. some_segments n horizon)

word_last : (layout : Layout) (kind : Kind) (fraction : Fraction) (horizon : Time) → IsStopped PlanEntry (λ _. 0) (read_word layout kind fraction horizon) (OfWord horizon)
word_last layout kind fraction horizon = after_any (List ℕ) PlanEntry (λ _. 0) key_at (λ word. length word ∷ word) key_fields IsWord
    (read_count layout kind fraction horizon) (λ _. OfCount horizon) key_front (count_last layout kind fraction horizon) (λ _. some_count horizon)

horizon_last : (layout : Layout) (kind : Kind) (fraction : Fraction) → IsStopped PlanEntry (λ _. 0) (read_horizon layout kind fraction) OfHorizon
horizon_last layout kind fraction = after_any Time PlanEntry (λ _. 0) time_at (λ t. to_be_bytes w64 t.seconds) (λ t. to_be_bytes w64 t.seconds ∷ []) (λ _. Unit {0})
    (read_word layout kind fraction) OfWord time_front (word_last layout kind fraction) some_word

fraction_last : (layout : Layout) (kind : Kind) → IsStopped PlanEntry (λ _. 0) (read_fraction layout kind) OfFraction
fraction_last layout kind = after_any Fraction PlanEntry (λ _. 0) fraction_at (λ f. to_be_bytes w32 f.over ++ to_be_bytes w32 f.under) fraction_fields (λ _. Unit {0})
    (read_horizon layout kind) (λ _. OfHorizon) fraction_front (horizon_last layout kind) (λ _. some_horizon)

kind_last : (layout : Layout) → IsStopped PlanEntry (λ _. 0) (read_kind layout) OfKind
kind_last layout = after_any Kind PlanEntry (λ _. 0) kind_at kind_bytes kind_fields (λ _. Unit {0})
    (read_fraction layout) (λ _. OfFraction) kind_front (fraction_last layout) (λ _. some_fraction)

layout_last : IsStopped PlanEntry (λ _. 0) plan_at OfLayout
unfolding plan_at
layout_last = after_any Layout PlanEntry (λ _. 0) layout_at (λ l. layout_byte l ∷ []) (λ l. (layout_byte l ∷ []) ∷ []) (λ _. Unit {0})
    read_kind (λ _. OfKind) layout_front kind_last (λ _. some_kind)

-- the fields of a plan that is begun, behind its tag
abbrev OfPlan : List (List ℕ) → Type 0
OfPlan fs = (count : ℕ) × (p : PlanEntry) × IsBegunPlan count p × (fs ≡ drop 1 (plan_fields count p))

plan_of : (fs : List (List ℕ)) → OfLayout fs → OfPlan fs
plan_of fs l =
    let k = l.3 in
    let f = k.3 in
    let h = f.3 in
    let w = h.3 in
    let c = w.3 in
    let s = c.3 in
    let p : PlanEntry = record { word = w.0; layout = l.0; kind = k.0; fraction = f.0; horizon = h.0; cuts = s.0.0; places = s.0.1 } in
    let begun : IsBegunPlan c.0 p = record {
      some = c.1.0;
      most = c.1.1;
      cuts = s.1.cuts;
      places = s.1.places;
      ascend = increasing 0 h.0 s.0.0 s.1.ascend;
      word = w.1;
      digests = s.1.digests;
    } in
    let behind_count = c.4 ∙ ap (λ (gs : List (List ℕ)). to_be_bytes w32 c.0 ∷ gs) s.2 in
    let behind_word = w.4 ∙ ap (λ (gs : List (List ℕ)). key_fields w.0 ++ gs) behind_count in
    let behind_horizon = h.4 ∙ ap (λ (gs : List (List ℕ)). to_be_bytes w64 h.0.seconds ∷ gs) behind_word in
    let behind_fraction = f.4 ∙ ap (λ (gs : List (List ℕ)). fraction_fields f.0 ++ gs) behind_horizon in
    let behind_kind = k.4 ∙ ap (λ (gs : List (List ℕ)). kind_fields k.0 ++ gs) behind_fraction in
    (c.0, p, begun, l.4 ∙ ap (λ (gs : List (List ℕ)). (layout_byte l.0 ∷ []) ∷ gs) behind_kind)

layout_of : (fs : List (List ℕ)) → OfPlan fs → OfLayout fs
layout_of fs f =
    let count = f.0 in
    let p = f.1 in
    let b = f.2 in
    let begun : AreBegun count 0 p.horizon (p.cuts, p.places) = record { cuts = b.cuts; places = b.places; ascend = rising 0 p.horizon p.cuts (omega arith) b.ascend; digests = b.digests } in
    let segments : OfSegments count 0 p.horizon (segments_fields p.cuts p.places) = ((p.cuts, p.places), begun, refl) in
    let counted : OfCount p.horizon (to_be_bytes w32 count ∷ segments_fields p.cuts p.places) = (count, (b.some, b.most), _, segments, refl) in
    let word : OfWord p.horizon (key_fields p.word ++ to_be_bytes w32 count ∷ segments_fields p.cuts p.places) = (p.word, b.word, _, counted, refl) in
    let horizon : OfHorizon (to_be_bytes w64 p.horizon.seconds ∷ (key_fields p.word ++ to_be_bytes w32 count ∷ segments_fields p.cuts p.places)) = (p.horizon, tt, _, word, refl) in
    let fraction : OfFraction (fraction_fields p.fraction ++ to_be_bytes w64 p.horizon.seconds ∷ (key_fields p.word ++ to_be_bytes w32 count ∷ segments_fields p.cuts p.places)) = (p.fraction, tt, _, horizon, refl) in
    let kind : OfKind (kind_fields p.kind ++ (fraction_fields p.fraction ++ to_be_bytes w64 p.horizon.seconds ∷ (key_fields p.word ++ to_be_bytes w32 count ∷ segments_fields p.cuts p.places))) = (p.kind, tt, _, fraction, refl) in
    (p.layout, tt, _, kind, f.3)

plan_stopped : IsStopped PlanEntry (λ _. 0) plan_at OfPlan
plan_stopped = renamed PlanEntry (λ _. 0) plan_at OfLayout OfPlan plan_of layout_of layout_last

-- ---- an entry

abbrev OfEntry : List (List ℕ) → Type 0
OfEntry fs = (count : ℕ) × (e : Entry) × IsBegun count e × (fs ≡ fields count e)

-- so many bytes are left behind a front with which an entry begins
record IsStopping (bytes : List ℕ) (left : ℕ) : Type 0 where
  front : List ℕ
  rest : List ℕ
  parts : bytes ≡ front ++ rest
  left_is : length rest ≡ left
  begins : Begins front rest

by_fields : (fs : List (List ℕ)) (bytes : List ℕ) (left : ℕ) → OfEntry fs → InFront fs bytes left → IsStopping bytes left
by_fields fs bytes left f front = record {
  front = concat front.whole;
  rest = front.rest;
  parts = front.parts;
  left_is = front.left_is;
  begins = inl (record {
    entry = f.1;
    count = f.0;
    begun = f.2;
    whole = length front.whole;
    are = ap concat (ap (take (length front.whole)) (sym f.3 ∙ sym front.split) ∙ take_at front.whole front.more (length front.whole) refl);
  });
}

no_tag : (bytes : List ℕ) (left : ℕ) → left ≡ length bytes → IsStopping bytes left
no_tag bytes left e = let fs = fields 0 (Delete (record { 0 = 0 }) time_0) in by_fields fs bytes left (0, Delete (record { 0 = 0 }) time_0, (omega arith, time_0.before_now), refl) (none fs bytes left e)

behind_tag : (tag left : ℕ) (fs : List (List ℕ)) (bytes : List ℕ) → OfEntry ((tag ∷ []) ∷ fs) → InFront fs bytes left → IsStopping (tag ∷ bytes) left
behind_tag tag left fs bytes f front = by_fields ((tag ∷ []) ∷ fs) (tag ∷ bytes) left f (more_in_front ((tag ∷ []) ∷ []) fs (tag ∷ bytes) bytes left refl front)

planned_stopped : IsStopped Entry (λ _. 0) (λ bytes. plan_at bytes >>= λ plan. Ok (Planned plan)) OfPlan
planned_stopped = made PlanEntry Entry (λ _. 0) (λ _. 0) plan_at OfPlan (λ plan. Planned plan) (λ plan. omega arith) plan_stopped

-- an act that is an entry of its own
alone_stops : (tag : ℕ) (a : Act) (bytes : List ℕ) (left : ℕ) → IsAct a → InFront (fields 0 (alone a)) (tag ∷ bytes) left → IsStopping (tag ∷ bytes) left
alone_stops tag (acts.Arrive doc at text) bytes left fit front = by_fields _ (tag ∷ bytes) left (0, Arrive doc at text, fit, refl) front
alone_stops tag (acts.Delete doc at) bytes left fit front = by_fields _ (tag ∷ bytes) left (0, Delete doc at, fit, refl) front

-- a batch: its number of acts isn't whole or not allowed, or it stops among the acts
batch_stops : (bytes : List ℕ) (left : ℕ) → IsBytes bytes → batch_at bytes ≡ Err left → IsStopping (4 ∷ bytes) left
batch_stops bytes left fits e = elim (acts_stop bytes left fits e) [
  | inl here ↦ behind_tag 4 left (to_be_bytes w32 1 ∷ []) bytes (1, Batch [], (omega arith, omega arith), refl) (none (to_be_bytes w32 1 ∷ []) bytes left here)
  | inr s ↦ record { front = s.front; rest = s.rest; parts = s.parts; left_is = s.left_is; begins = inr s.begins }
]

entry_stops : (bytes : List ℕ) (left : ℕ) → IsBytes bytes → entry_at bytes ≡ Err left → IsStopping bytes left
unfolding entry_at
entry_stops [] left fits e = no_tag [] left (sym (err_is Entry 0 left e))
entry_stops (zero ∷ bytes) left fits e = let h = err_is Entry (length bytes + 1) left e in no_tag (0 ∷ bytes) left (omega (arith, h))
entry_stops (suc zero ∷ bytes) left fits e =
    let s = arrive_stops bytes left (rest_fits 1 bytes fits) (made_err Act Entry (arrive_at bytes) alone left e) in alone_stops 1 s.0 bytes left s.1 s.2
entry_stops (suc (suc zero) ∷ bytes) left fits e =
    let s = delete_stops bytes left (rest_fits 2 bytes fits) (made_err Act Entry (delete_at bytes) alone left e) in alone_stops 2 s.0 bytes left s.1 s.2
entry_stops (suc (suc (suc zero)) ∷ bytes) left fits e =
    let s = planned_stopped.stops bytes left (rest_fits 3 bytes fits) e in
    behind_tag 3 left s.0 bytes (s.1.0, Planned s.1.1, s.1.2, ap (λ (fs : List (List ℕ)). (3 ∷ []) ∷ fs) s.1.3) s.2
entry_stops (suc (suc (suc (suc zero))) ∷ bytes) left fits e = batch_stops bytes left (rest_fits 4 bytes fits) (made_err (List Act) Entry (batch_at bytes) (λ batch. Batch batch) left e)
entry_stops (suc (suc (suc (suc (suc zero)))) ∷ bytes) left fits e =
    let s = mark_stopped.stops bytes left (rest_fits 5 bytes fits) e in
    behind_tag 5 left s.0 bytes (0, Format, tt, ap (λ (fs : List (List ℕ)). (5 ∷ []) ∷ fs) s.1) s.2
entry_stops (suc (suc (suc (suc (suc (suc tag))))) ∷ bytes) left fits e = let h = err_is Entry (length bytes + 1) left e in no_tag (suc (suc (suc (suc (suc (suc tag))))) ∷ bytes) left (omega (arith, h))

-- what is read behind whole fields
made_entry : {A : Type 0} (make : A → Entry) (n : ℕ) (r : Result A ℕ) → Within (λ _. 0) n r → Within (λ (_ : Entry). 0) n (r >>= λ a. Ok (make a))
made_entry make n r within = Within-then (λ _. 0) (λ _. 0) n r _ within (λ a le. omega arith)

alone_passes : (a : Act) (whole : ℕ) (after : List ℕ) → IsAct a → Within (λ _. 0) (length after) (entry_at (concat (take whole (fields 0 (alone a))) ++ after))
unfolding entry_at
alone_passes a zero after fit = entry_within after
alone_passes (acts.Arrive doc at text) (suc whole) after fit = made_entry alone (length after) _ (arrive_passes (doc, at) whole after fit.0)
alone_passes (acts.Delete doc at) (suc whole) after fit = made_entry alone (length after) _ (delete_passes (doc, at) whole after fit.0)

fields_pass : (count : ℕ) (e : Entry) (whole : ℕ) (after : List ℕ) → IsBegun count e → Within (λ _. 0) (length after) (entry_at (concat (take whole (fields count e)) ++ after))
unfolding entry_at
fields_pass count e zero after begun = entry_within after
fields_pass count (Arrive doc at text) (suc whole) after begun = alone_passes (acts.Arrive doc at text) (suc whole) after begun
fields_pass count (Delete doc at) (suc whole) after begun = alone_passes (acts.Delete doc at) (suc whole) after begun
fields_pass count (Planned plan) (suc whole) after begun =
    let fs = drop 1 (plan_fields count plan) in planned_stopped.passes (take whole fs) (drop whole fs) after (count, plan, begun, take-append-drop whole fs)
fields_pass count Format (suc whole) after begun = mark_stopped.passes (take whole ((0 ∷ 2 ∷ []) ∷ [])) (drop whole ((0 ∷ 2 ∷ []) ∷ [])) after (take-append-drop whole ((0 ∷ 2 ∷ []) ∷ []))
fields_pass count (Batch batch) (suc whole) after begun = made_entry (λ b. Batch b) (length after) _ (number_passes count whole after begun)

entry_passes : (front after : List ℕ) → Begins front after → Within (λ _. 0) (length after) (entry_at (front ++ after))
unfolding entry_at
entry_passes front after (inl b) = subst (λ (xs : List ℕ). Within (λ _. 0) (length after) (entry_at (xs ++ after))) b.are (fields_pass b.count b.entry b.whole after b.begun)
entry_passes front after (inr b) =
    subst (λ (xs : List ℕ). Within (λ _. 0) (length after) (entry_at (xs ++ after))) b.are (made_entry (λ (batch : List Act). Batch batch) (length after) _ (acts_pass after b))

-- ---- the fault

-- bytes that begin an entry are read up to their end at least
begun_is_read : (bytes : List ℕ) (left n : ℕ) → entry_at bytes ≡ Err left → n ≤ length bytes → Begins (take n bytes) (drop n bytes) → n ≤ length bytes - left
begun_is_read bytes left n e le b =
    let same = take-append-drop n bytes in
    let few = Within-err (λ (_ : Entry). 0) (length (drop n bytes)) (entry_at (take n bytes ++ drop n bytes)) left (entry_passes (take n bytes) (drop n bytes) b) (ap entry_at same ∙ e) in
    omega (arith, few, entry_left bytes left e, length-drop n bytes)

-- where reading stops is the fault
pub fault_at : (bytes : List ℕ) (left : ℕ) → IsBytes bytes → entry_at bytes ≡ Err left → IsFault bytes (length bytes - left)
fault_at bytes left fits e =
    let s = entry_stops bytes left fits e in
    let at = length bytes - left in
    let place : at ≡ length s.front = omega (arith, ap length s.parts, length-append s.front s.rest, s.left_is) in
    let front : take at bytes ≡ s.front = ap (take at) s.parts ∙ take_at s.front s.rest at (sym place) in
    let rest : drop at bytes ≡ s.rest = ap (drop at) s.parts ∙ drop_at s.front s.rest at (sym place) in
    record {
      within = omega arith;
      begins = rw (front, rest) s.begins;
      longest = λ n lt le b. (let no = begun_is_read bytes left n e le b in omega arith);
      misspelled = λ x ranges. entry_none bytes left x e ranges;
    }

-- bytes that spell nothing have a fault
pub a_fault : (bytes : List ℕ) → IsBytes bytes → ((e : Entry) → IsEntry e → bytes ≡ spelling e → ⊥) → (at : ℕ) × IsFault bytes at
a_fault bytes fits nothing = go (entry_at bytes) refl
  where
    go : (r : Result Entry ℕ) → entry_at bytes ≡ r → (at : ℕ) × IsFault bytes at
    go (Ok e) is = let found = entry_takes bytes e fits is in absurd (nothing e found.0 found.1)
    go (Err left) is = (length bytes - left, fault_at bytes left fits is)

-- and one alone
pub one_fault : (bytes : List ℕ) (a b : ℕ) → IsFault bytes a → IsFault bytes b → a ≡ b
one_fault bytes a b f g = go (cases_order a b)
  where
    go : (a ≡ b) ⊎ ((a < b) ⊎ (b < a)) → a ≡ b
    go (inl same) = same
    go (inr (inl less)) = absurd (f.longest b less g.within g.begins)
    go (inr (inr less)) = absurd (g.longest a less f.within f.begins)
