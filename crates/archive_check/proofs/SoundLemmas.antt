-- The verdict on an image that stands for a history is the history's.
use Rattle.std.proofs.Common.{◌≡◌, ℕ, List, [], ◌∷◌, ◌++◌, length, map, All, Option, refl, ap, sym, subst, ◌∙◌, arith}
use Rattle.std.proofs.lemmas.List.Elements.{All-nil, All-cons, All-head, All-tail, All-append}
use Rattle.std.specs.List.Sorted.{IsPermutation}
use Rattle.std.proofs.lemmas.List.Sorted.{All-permutation, length_permutation, sum_by-IsPermutation}
use Rattle.machine_model.specs.Areas.{Bytes}
use Rattle.base_types.specs.declared.text_place.TextPlace.{TextPlace}
use Rattle.base_types.specs.declared.posting.Posting.{Posting}
use Rattle.base_commands.specs.declared.command.Kind.{Kind}
use Rattle.lists_postings.specs.Lists.{sublist}
use Rattle.lists_postings.proofs.Clipping.{one_list_of}
use Rattle.pages_area.specs.Ranges.{bytes_in}
use Rattle.lists_versions.specs.declared.change.Change.{Change}
use Rattle.lists_index.specs.Words.{words_in}
use Rattle.plans_kinds.specs.Plans.{IsFitFor, IsLeastPlan}
use Rattle.journal_entries.specs.Acts.{IsAct}
use Rattle.journal_entries.specs.declared.act.Act.{Act}
use Rattle.journal_entries.specs.declared.act.Act.TheVariants as batched
use Rattle.journal_entries.specs.declared.entry.Entry.{Entry}
use Rattle.journal_entries.specs.declared.entry.Entry.TheVariants.{Arrive, Delete, Planned, Format, Batch}
use Rattle.journal_entries.specs.declared.place.Layout.{Layout}
use Rattle.journal_entries.specs.declared.place.Place.{Place}
use Rattle.journal_entries.specs.declared.plan.PlanEntry.{PlanEntry}
use Rattle.pages_checked.specs.Layouts.{spelling_in}
use Rattle.pages_sublists.specs.Preparing.{spellings}
use Rattle.pages_sublists.specs.Segments.{seconds, next_cut, EachSegment, HoldsSublist}
use Rattle.model_archive.specs.declared.stored.StoredPlan.{StoredPlan}
use Rattle.model_archive.specs.declared.verdict.Verdict.{Verdict}
use Rattle.model_archive.specs.declared.verdict.Verdict.TheVariants.{Sound, Differs, NotLeast, BadText}
use Rattle.model_archive.specs.Answers.{frequency_at}
use Rattle.model_archive.specs.Histories.{History, acts, change_by, changes}
use Rattle.model_archive.specs.Holding.{HoldsPlan}
use Rattle.model_archive.specs.Legal.{MayBePlanned, MayCome, EachMayCome, IsLoadable}
use Rattle.model_archive.specs.Planning.{IsListUpTo}
use Rattle.model_archive.specs.Plans.{live_plans}
use Rattle.model_archive.specs.Stands.{Stands}
use Rattle.model_archive.specs.Verifying.{TakesLeast, Judges}
use Rattle.model_archive.proofs.VerifyLemmas.{all_at, good_is_sound}
use Rattle.model_archive.proofs.LiveLemmas.{live_planned}
use Rattle.archive_entries.proofs.PlaceLemmas.{texts_are}
use Rattle.archive_entries.proofs.IndexLemmas.{words_are}
use Rattle.model_archive.specs.Orders.{AreByNumber}
use Rattle.archive_check.specs.Verdicts.{with_texts, IsText, IsSound, HasDifference, Says, Tells, IsVerdict, found_in, wanted_of}
use Rattle.archive_check.specs.Checked.{IsChecked}
use Rattle.archive_check.specs.Laws.{WhatStandsIsVerified, WhatStandsIsSound, ANewArchiveIsSound}
use Rattle.model_archive.proofs.OrderLemmas.{are_moved}
use Rattle.archive_check.proofs.LawLemmas.{not_the_same, bad_unread, verdicts_are_one}

-- ---- a history that loads

-- its texts are UTF-8
act_text : (act : Act) → IsAct act → IsText (change_by act)
act_text (batched.Arrive doc at text) ranges = ranges.3
act_text (batched.Delete doc at) ranges = tt

batch_texts : (batch : List Act) → All IsAct batch → All IsText (map change_by batch)
batch_texts [] each = All-nil IsText
batch_texts (act ∷ batch) each = All-cons IsText (change_by act) (map change_by batch) (act_text act (All-head IsAct act batch each)) (batch_texts batch (All-tail IsAct act batch each))

entry_text : (before : History) (e : Entry) → MayCome IsFitFor before e → All IsText (acts e)
entry_text before (Arrive doc at text) may = All-cons IsText _ [] may.ranges.3 (All-nil IsText)
entry_text before (Delete doc at) may = All-cons IsText _ [] tt (All-nil IsText)
entry_text before (Planned plan) may = All-nil IsText
entry_text before Format may = All-nil IsText
entry_text before (Batch batch) may = batch_texts batch may.ranges.each

texts_good : (before h : History) → EachMayCome IsFitFor before h → All IsText (changes h)
texts_good before [] each = All-nil IsText
texts_good before (e ∷ h) each = All-append IsText (acts e) (changes h) (entry_text before e each.0) (texts_good (before ++ e ∷ []) h each.1)

-- places that hold sublists hold the bytes that are wanted
found_wanted : (layout : Layout) (list : List Posting) (pages : List ℕ) (cuts : List ℕ) (h : ℕ) (places : List Place) → EachSegment (HoldsSublist layout list pages) cuts h places
    → map (λ place. bytes_in place.extent pages) places ≡ spellings layout list cuts h
found_wanted layout list pages [] h [] each = refl
found_wanted layout list pages [] h (p ∷ places) each = absurd each
found_wanted layout list pages (f ∷ cuts) h [] each = absurd each
found_wanted layout list pages (f ∷ cuts) h (p ∷ places) each =
    ap (λ (b : List ℕ). b ∷ map (λ place. bytes_in place.extent pages) places) each.0.bytes ∙ ap (λ (l : List (List ℕ)). spelling_in layout (sublist f (next_cut cuts h) list) ∷ l) (found_wanted layout list pages cuts h places each.1)

-- ---- an image that stands for it

-- the verdict by the texts of the history
told_by : (h : History) (image : Bytes) (verdict : Verdict) → Stands h image → IsChecked h image verdict → Tells verdict (changes h) image.pages (live_plans h)
told_by h image verdict stands checked =
    let T : List (Change (List ℕ)) → Type 0 = λ texts. Tells verdict texts image.pages (live_plans h) in
    subst T (texts_are image.journal h checked.0 stands.spelled checked.1) checked.2

-- a plan that is sound is a least one, if it has to be
sound_spare : (h : History) (pages : List ℕ) (plan : PlanEntry) → MayBePlanned IsFitFor h plan → IsSound (changes h) pages plan → TakesLeast h plan
sound_spare h pages plan may sound = λ guarantee list is.
    let f = λ (d t : ℕ). frequency_at h plan.word (record { 0 = d }) t in
    let mine : IsListUpTo h plan.word plan.horizon.seconds sound.list = record { ordered = sound.planned.ordered; coalesced = sound.planned.coalesced; inside = sound.planned.inside; same = sound.planned.same } in
    let same = one_list_of f 0 plan.horizon.seconds may.list sound.list may.list_is mine in
    let K : Kind → Type 0 = λ k. IsFitFor k sound.list plan.fraction plan.cuts plan.horizon.seconds in
    let fit = subst K guarantee (subst (λ (l : List Posting). IsFitFor plan.kind l plan.fraction plan.cuts plan.horizon.seconds) same may.suits) in
    subst (λ (l : List Posting). IsLeastPlan l plan.fraction plan.cuts plan.horizon.seconds) (one_list_of f 0 plan.horizon.seconds sound.list list mine is) (sound.least (guarantee, fit))

each_spare : (h : History) (pages : List ℕ) (plans : List StoredPlan) → All (λ s. MayBePlanned IsFitFor h s.plan) plans → All (λ s. IsSound (changes h) pages s.plan) plans → All (λ s. TakesLeast h s.plan) plans
each_spare h pages [] may sound = All-nil (λ s. TakesLeast h s.plan)
each_spare h pages (s ∷ plans) may sound =
    let M : StoredPlan → Type 0 = λ t. MayBePlanned IsFitFor h t.plan in
    let S : StoredPlan → Type 0 = λ t. IsSound (changes h) pages t.plan in
    All-cons (λ t. TakesLeast h t.plan) s plans (sound_spare h pages s.plan (All-head M s plans may) (All-head S s plans sound)) (each_spare h pages plans (All-tail M s plans may) (All-tail S s plans sound))

-- what holds of a list holds of its front
all_front : (P : StoredPlan → Type 0) (front back : List StoredPlan) → All P (front ++ back) → All P front
all_front P [] back all = All-nil P
all_front P (s ∷ front) back all = All-cons P s front (All-head P s (front ++ back) all) (all_front P front back (All-tail P s (front ++ back) all))

-- where the pages hold a plan, its bytes don't differ
held_same : (h : History) (pages : List ℕ) (plan : PlanEntry) (word : List ℕ) (segment place : ℕ) (found wanted : Option ℕ) → HoldsPlan h pages plan → HasDifference word segment place found wanted (changes h) pages plan → ⊥
held_same h pages plan word segment place found wanted held d =
    let mine : IsListUpTo h plan.word plan.horizon.seconds d.list = record { ordered = d.planned.ordered; coalesced = d.planned.coalesced; inside = d.planned.inside; same = d.planned.same } in
    let same = one_list_of (λ c t. frequency_at h plan.word (record { 0 = c }) t) 0 plan.horizon.seconds held.list d.list held.list_is mine in
    not_the_same (found_in pages plan) (wanted_of plan d.list) segment place found wanted d.differs
    (found_wanted plan.layout held.list pages (seconds plan.cuts) plan.horizon.seconds plan.places held.each ∙ ap (wanted_of plan) same)

judges : (h : History) (pages : List ℕ) (ordered : List StoredPlan) (verdict : Verdict) → IsLoadable h → IsPermutation (live_plans h) ordered → All (λ s. HoldsPlan h pages s.plan) (live_plans h)
    → Says verdict (changes h) pages ordered → Judges h ordered verdict
judges h pages ordered (Sound words segments) loads moved held all =
    let may = All-permutation (λ (s : StoredPlan). MayBePlanned IsFitFor h s.plan) (live_plans h) ordered moved (live_planned IsFitFor h loads) in (
      each_spare h pages ordered may all.sound,
      all.words_are ∙ length_permutation (live_plans h) ordered moved,
      all.segments_are ∙ sum_by-IsPermutation (λ (s : StoredPlan). length s.plan.cuts) (live_plans h) ordered moved,
    )
judges h pages ordered (NotLeast word taken least) loads moved held first =
    let M : StoredPlan → Type 0 = λ s. MayBePlanned IsFitFor h s.plan in
    let may = subst (λ (l : List StoredPlan). All M l) first.plans_are (All-permutation M (live_plans h) ordered moved (live_planned IsFitFor h loads)) in
    let there = first.there in
    record {
      front = first.front;
      stored = first.stored;
      back = first.back;
      plans_are = first.plans_are;
      spare = each_spare h pages first.front (all_front M first.front (first.stored ∷ first.back) may) first.sound;
      word_is = there.word_is;
      there = record {
        guarantee = there.asked.0;
        list = there.list;
        list_is = record { ordered = there.planned.ordered; coalesced = there.planned.coalesced; inside = there.planned.inside; same = there.planned.same };
        taken_is = there.taken_is;
        least_is = there.least_is;
        more = there.more;
      };
    }
judges h pages ordered (Differs word segment place found wanted) loads moved held first =
    let H : StoredPlan → Type 0 = λ s. HoldsPlan h pages s.plan in
    let here = all_at H first.front first.back first.stored (subst (λ (l : List StoredPlan). All H l) first.plans_are (All-permutation H (live_plans h) ordered moved held)) in
    absurd (held_same h pages first.stored.plan word segment place found wanted here first.there)
judges h pages ordered (BadText doc at) loads moved held bad = absurd (bad_unread (changes h) doc at bad.1 (texts_good [] h loads))

pub stands_verified : WhatStandsIsVerified
stands_verified h image verdict stands checked =
    let (ordered, put, says) = told_by h image verdict stands checked in
    let by_words = subst (λ (words : List (List ℕ)). AreByNumber words (live_plans h) ordered) (sym (words_are h)) put in
    (ordered, by_words, judges h image.pages ordered verdict stands.loadable (are_moved (words_in (changes h)) (live_plans h) ordered put) stands.held.each says)

pub stands_sound : WhatStandsIsSound
stands_sound h image verdict legal stands checked = good_is_sound h verdict legal (stands_verified h image verdict stands checked)

-- ---- a new archive

none_told : (image : Bytes) (cs : List (Change TextPlace)) → IsVerdict image.journal cs image.pages [] (Sound 0 0)
none_told image cs =
    let texts = with_texts image.journal cs in
    let words = words_in texts in
    let S : StoredPlan → Type 0 = λ s. IsSound texts image.pages s.plan in
    ([], record { ascending = λ i j d le lt. absurd (omega (arith, lt)); same = λ n. refl }, record { utf8 = λ some. absurd (omega (arith, some)); sound = All-nil S; words_are = refl; segments_are = refl })

pub new_sound : ANewArchiveIsSound
new_sound image = (
  ([], refl, none_told image []),
  λ verdict checked. verdicts_are_one image.journal checked.0 image.pages [] verdict (Sound 0 0) checked.2 (none_told image checked.0),
)
