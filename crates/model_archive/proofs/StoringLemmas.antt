-- A plan that is to be stored has an outcome, which leads from a legal history to a legal one.
use Rattle.std.proofs.Common.{◌≡◌, ◌⊎◌, ℕ, zero, suc, ◌/◌, ◌%◌, ◌<◌, ◌≤◌, Bool, true, false, if◌then◌else◌, nat_le, bytes_eq, List, [], ◌∷◌, ◌++◌, length, All, Option, Some, None, inl, inr, refl, ap, sym, subst, ◌∙◌, arith, chars}
use Rattle.std.specs.List.{AllZip}
use Rattle.std.specs.Option.{option_map}
use Rattle.std.specs.Prelude.{unwrap_or, slice_index}
use Rattle.std.specs.Str.{is_utf8}
use Rattle.std.specs.Int.{w32, to_be_bytes}
use Rattle.std.proofs.lemmas.Bool.{and_parts, leb-true}
use Rattle.std.proofs.lemmas.List.{length-map}
use Rattle.std.proofs.lemmas.Str.{IsUtf8-from_is_utf8}
use Rattle.std.proofs.lemmas.List.Elements.{All-nil, All-cons, All-append, All-head, All-weaker}
use Rattle.sha2.specs.Sha256.{sha256, digest_bytes, final_hash, initial_hash_256}
use Rattle.sha2.proofs.Facts256.{length-sha256}
use Rattle.base_types.specs.Limits.{limit_of}
use Rattle.base_types.specs.declared.extent.Extent.{Extent}
use Rattle.base_types.specs.declared.fraction.Fraction.{Fraction}
use Rattle.base_types.specs.declared.posting.Posting.{Posting}
use Rattle.base_types.specs.declared.time.Time.{Time}
use Rattle.base_types.specs.declared.which.Which.TheVariants.{Pages}
use Rattle.text_words.specs.Terms.{one_term, only_term, term_of, is_key, key, runs}
use Rattle.pages_area.specs.Placing.{ArePlaced, HaveNoRoom}
use Rattle.pages_area.proofs.PlacingLemmas.{placed_or_not}
use Rattle.journal_entries.specs.declared.entry.Entry.TheVariants as entries
use Rattle.journal_entries.specs.declared.place.Layout.{Layout}
use Rattle.journal_entries.specs.declared.place.Layout.TheVariants.{Blocks}
use Rattle.journal_entries.specs.declared.place.Place.{Place}
use Rattle.journal_entries.specs.declared.entry.Entry.{Entry}
use Rattle.journal_entries.specs.declared.plan.PlanEntry.{PlanEntry}
use Rattle.journal_entries.specs.PlanSpelling.{IsWord, IsDigest}
use Rattle.pages_sublists.specs.Preparing.{IsFor, extents, sizes, spellings}
use Rattle.pages_sublists.specs.Segments.{seconds}
use Rattle.pages_sublists.proofs.PlaceLemmas.{lowest_none}
use Rattle.pages_sublists.proofs.WriteLemmas.{as_many}
use Rattle.base_commands.specs.declared.command.Kind.{Kind}
use Rattle.base_commands.specs.declared.command.Kind.TheVariants.{Guarantee}
use Rattle.plans_kinds.specs.Plans.{IsNarrow, IsGoodPlan, IsCostOf, plan_space}
use Rattle.plans_kinds.proofs.GoodLemmas.{good_is_fit, each_has_a_good_plan, each_has_a_cost, good_are_short, fit_well_cut}
use Rattle.lists_versions.specs.Changes.{last_time}
use Rattle.model_archive.specs.declared.refusal.Refusal.{Refusal}
use Rattle.model_archive.specs.declared.refusal.Refusal.TheVariants as refusals
use Rattle.model_archive.specs.Histories.{History, changes, entry_refusal}
use Rattle.model_archive.specs.Legal.{IsFair, IsLegalEntry, MayBeStored}
use Rattle.model_archive.specs.Planning.{last_second, IsListUpTo}
use Rattle.model_archive.specs.Steps.{Reply, Refused, Planned, Declines, Idles, AddsPlan, TakesOn, TakesPlaces, ChoosesPlan, StoresPlan, ByWord, OfStill, OfIdle, Begins, Plans, in_blocks, spelled_key, full_journal}
use Rattle.model_archive.specs.Runs.{Outcome}
use Rattle.model_archive.specs.Worlds.{Job, World, taken_in}
use Rattle.model_archive.proofs.LiveLemmas.{later_push, list_later}
use Rattle.model_archive.proofs.PlanningLemmas.{of_phrase}

-- ---- ranges

-- the bytes of a digest
word_bytes : (n : ℕ) → All (λ b. b < 256) (to_be_bytes w32 n)
word_bytes n =
    let P : ℕ → Type 0 = λ b. b < 256 in
    let a = n / 16777216 % 256 in
    let b = n / 65536 % 256 in
    let c = n / 256 % 256 in
    let d = n % 256 in
    All-cons P a (b ∷ c ∷ d ∷ []) (omega arith) (All-cons P b (c ∷ d ∷ []) (omega arith) (All-cons P c (d ∷ []) (omega arith) (All-cons P d [] (omega arith) (All-nil P))))

digest_words : (h : List ℕ) (n : ℕ) → All (λ b. b < 256) (digest_bytes h n)
unfolding digest_bytes
digest_words h zero = All-nil (λ b. b < 256)
digest_words h (suc n) = All-append (λ b. b < 256) (digest_bytes h n) (to_be_bytes w32 (slice_index h n)) (digest_words h n) (word_bytes (slice_index h n))

pub sha_digest : (m : List ℕ) → IsDigest (sha256 m)
unfolding sha256
sha_digest m = (length-sha256 m, digest_words (final_hash initial_hash_256 m) 8)

for_digests : (places : List Place) (all : List (List ℕ)) → AllZip IsFor places all → All (λ (place : Place). IsDigest place.digest) places
for_digests [] [] zip = All-nil (λ (place : Place). IsDigest place.digest)
for_digests [] (bytes ∷ all) zip = absurd zip
for_digests (p ∷ places) [] zip = absurd zip
for_digests (p ∷ places) (bytes ∷ all) zip =
    All-cons (λ (place : Place). IsDigest place.digest) p places (let D : List ℕ → Type 0 = λ d. IsDigest d in subst D (sym zip.0.digest) (sha_digest bytes)) (for_digests places all zip.1)

pub spellings_long : (layout : Layout) (list : List Posting) (cuts : List ℕ) (h : ℕ) → length (spellings layout list cuts h) ≡ length cuts
spellings_long layout list [] h = refl
spellings_long layout list (f ∷ cuts) h = ap suc (spellings_long layout list cuts h)

-- a key that is spelled is a word
of_term : (run word : List ℕ) → term_of run ≡ Some word → is_key word ≡ true
of_term run word is = go (is_key (key run)) refl is
  where
    go : (b : Bool) → is_key (key run) ≡ b → (if b then Some (key run) else None) ≡ Some word → is_key word ≡ true
    go true same some = (let one : key run ≡ word = cc in ap is_key (sym one) ∙ same)
    go false same some = absurd cc

of_runs : (found : List (List ℕ)) (word : List ℕ) → only_term found ≡ Some word → is_key word ≡ true
of_runs [] word is = absurd cc
of_runs (run ∷ []) word is = of_term run word is
of_runs (run ∷ other ∷ found) word is = absurd cc

of_spelled : (o : Option (List ℕ)) (word : List ℕ) → spelled_key o ≡ Some word → (o ≡ Some word) × (is_utf8 word ≡ true)
of_spelled None word is = absurd cc
of_spelled (Some k) word is = go (is_utf8 k) refl is
  where
    go : (b : Bool) → is_utf8 k ≡ b → (if b then Some k else None) ≡ Some word → (Some k ≡ Some word) × (is_utf8 word ≡ true)
    go true same some = (some, (let one : k ≡ word = cc in ap is_utf8 (sym one) ∙ same))
    go false same some = absurd cc

pub spelled_word : (phrase word : List ℕ) → spelled_key (one_term phrase) ≡ Some word → IsWord word
spelled_word phrase word is =
    let (term, utf8) = of_spelled (one_term phrase) word is in
    let long = and_parts (nat_le 1 (length word)) (nat_le (length word) 255) (of_runs (runs (chars phrase)) word term) in
    (leb-true 1 (length word) long.0, leb-true (length word) 255 long.1, IsUtf8-from_is_utf8 word utf8)

-- ---- an entry of a plan

pub plan_legal : (h : History) (word : List ℕ) (kind : Kind) (factor : Fraction) (horizon : Time) (cuts : List Time) (places : List Place) (list : List Posting) → IsWord word → horizon.seconds ≡ last_second h
    → IsListUpTo h word (last_second h) list → 0 < length list → IsGoodPlan kind list factor cuts horizon.seconds
    → AllZip IsFor places (spellings Blocks list (seconds cuts) horizon.seconds) → IsLegalEntry h (entries.Planned (in_blocks word kind factor horizon cuts places))
plan_legal h word kind factor horizon cuts places list is_word last is some good zip =
    let all = spellings Blocks list (seconds cuts) horizon.seconds in
    let U : ℕ → Type 0 = λ n. IsListUpTo h word n list in
    let cut = fit_well_cut kind list factor cuts horizon (good_is_fit kind list factor cuts horizon good) in
    record {
      ranges = record {
        well_cut = record {
          some = cut.0;
          most = good_are_short kind list factor cuts horizon good;
          places = omega (arith, as_many places all zip, spellings_long Blocks list (seconds cuts) horizon.seconds, length-map cuts (λ (t : Time). t.seconds));
          ascend = cut.2;
        };
        word = is_word;
        digests = for_digests places all zip;
      };
      allowed = refl;
      planned = record { past = omega (arith, last); list = list; list_is = subst U (sym last) is; some = some; suits = good };
    }

-- ---- what is stored, or not

-- placed parts are places, with the digests of what is to lie there
digested : (taken : List Extent) (all : List (List ℕ)) (es : List Extent) → ArePlaced taken (sizes all) es → (places : List Place) × ((extents places ≡ es) × AllZip IsFor places all)
digested taken [] [] p = ([], (refl, tt))
digested taken [] (e ∷ es) p = absurd p
digested taken (bytes ∷ all) [] p = absurd p
digested taken (bytes ∷ all) (e ∷ es) p =
    let (places, (same, zip)) = digested (e ∷ taken) all es p.2 in (
      record { extent = e; digest = sha256 bytes } ∷ places,
      (ap (λ (l : List Extent). e ∷ l) same, (record { size = p.0; digest = refl; empty = λ none. lowest_none taken (length bytes) e.first (omega (arith, none, p.0)) p.1 }, zip)),
    )

adds_plan_outcome : (h : History) (plan : PlanEntry) (refusal : Option Refusal) (list : List Posting) (cost : Option ℕ) → IsCostOf plan.kind list plan.cuts plan.horizon.seconds cost
    → (outcome : Outcome Reply History) × AddsPlan h plan refusal list outcome.reply outcome.next
adds_plan_outcome h plan None list cost costs = (
  record {
    reply = Planned (record {
      length = length (h ++ entries.Planned plan ∷ []);
      segments = length plan.cuts;
      space = plan_space list plan.cuts plan.horizon.seconds;
      full = length list;
      horizon = plan.horizon;
      cost = cost;
    });
    next = h ++ entries.Planned plan ∷ [];
  },
  (refl, (cost, costs, refl)),
)
adds_plan_outcome h plan (Some why) list cost costs = (record { reply = Refused why; next = h }, (refl, refl))

-- the last time, where there is a time before it
last_is : (h : History) → 0 < last_second h → (t : Time) × (t.seconds ≡ last_second h)
last_is h some = go (last_time (changes h)) some
  where
    go : (o : Option Time) → 0 < unwrap_or (option_map (λ (t : Time). t.seconds) o) 0 → (t : Time) × (t.seconds ≡ unwrap_or (option_map (λ (t : Time). t.seconds) o) 0)
    go None some = absurd (omega (arith, some))
    go (Some t) some = (t, refl)

-- a list with a posting ends behind the first second
pub list_behind : (list : List Posting) (h : ℕ) → 0 < length list → All (λ p. (0 ≤ p.span.from) × (p.span.to ≤ h)) list → 0 < h
list_behind [] h some inside = absurd (omega (arith, some))
list_behind (p ∷ list) h some inside =
    let here = All-head (λ (q : Posting). (0 ≤ q.span.from) × (q.span.to ≤ h)) p list inside in
    let order : p.span.from < p.span.to = p.span.ordered in
    omega (arith, here.1, order)

-- whatever comes of a plan that is placed, and of one for which there is no room, something does
module _ {O : Type 0} (Refuses : O → Refusal → Type 0) (GoesOn : O → PlanEntry → Type 0) (refuses : (why : Refusal) → (o : O) × Refuses o why) where
  places_outcome : (job : Option Job) (h : History) (word : List ℕ) (kind : Kind) (factor : Fraction) (horizon : Time) (cuts : List Time) (list : List Posting)
      → ((places : List Place) → (o : O) × GoesOn o (in_blocks word kind factor horizon cuts places)) → (o : O) × TakesPlaces job h word kind factor horizon cuts list (Refuses o) (GoesOn o)
  places_outcome job h word kind factor horizon cuts list on = go (placed_or_not (taken_in job h) (sizes all))
    where
      all : List (List ℕ)
      all = spellings Blocks list (seconds cuts) horizon.seconds

      go : ((es : List Extent) × ArePlaced (taken_in job h) (sizes all) es) ⊎ HaveNoRoom (taken_in job h) (sizes all) → (o : O) × TakesPlaces job h word kind factor horizon cuts list (Refuses o) (GoesOn o)
      go (inr none) = let (o, is) = refuses (refusals.Full Pages (limit_of Pages)) in (o, inl (none, is))
      go (inl (es, placed)) =
          let (places, (same, zip)) = digested (taken_in job h) all es placed in
          let (o, is) = on places in
          let A : List Extent → Type 0 = λ l. ArePlaced (taken_in job h) (sizes all) l in
          (o, inr (places, subst A (sym same) placed, zip, is))

  pub chooses_outcome : (job : Option Job) (h : History) (kind : Kind) (factor : Fraction) (word : List ℕ) (list : List Posting) → IsListUpTo h word (last_second h) list → 0 < length list
      → (kind ≡ Guarantee → IsNarrow list (last_second h))
      → ((horizon : Time) (cuts : List Time) (places : List Place) → IsGoodPlan kind list factor cuts horizon.seconds → (o : O) × GoesOn o (in_blocks word kind factor horizon cuts places))
      → (o : O) × ChoosesPlan job h kind factor word list (Refuses o) (GoesOn o)
  chooses_outcome job h kind factor word list is some narrow on =
      let (horizon, last) = last_is h (list_behind list (last_second h) some is.inside) in
      let early : All (λ (p : Posting). p.span.to ≤ horizon.seconds) list =
      All-weaker (λ (p : Posting). (0 ≤ p.span.from) × (p.span.to ≤ last_second h)) (λ (p : Posting). p.span.to ≤ horizon.seconds) (λ p in_it. omega (arith, in_it.1, last)) list is.inside in
      let N : ℕ → Type 0 = λ n. IsNarrow list n in
      let (cuts, good) = each_has_a_good_plan kind list factor horizon some early (λ e. subst N (sym last) (narrow e)) in
      let (o, stores) = places_outcome job h word kind factor horizon cuts list (λ places. on horizon cuts places good) in
      (o, record { horizon = horizon; horizon_is = last; cuts = cuts; good = good; stores = stores })

  -- also where a plan that is being written comes between
  still_outcome : (job : Option Job) (word : List ℕ) (Rest : O → Type 0) → ((o : O) × Rest o) → (o : O) × OfStill job word (Refuses o) (Rest o)
  still_outcome None word Rest rest = rest
  still_outcome (Some job) word Rest rest = go (bytes_eq job.plan.word word)
    where
      go : (b : Bool) → (o : O) × ByWord b (Refuses o refusals.Busy) (Rest o)
      go true = refuses refusals.Busy
      go false = rest

  pub idle_outcome : (job : Option Job) (word : List ℕ) (Rest : O → Type 0) → ((o : O) × Rest o) → (o : O) × OfIdle job word (Refuses o) (Rest o)
  idle_outcome None word Rest rest = rest
  idle_outcome (Some job) word Rest rest = go (bytes_eq job.plan.word word)
    where
      go : (b : Bool) → (o : O) × ByWord b (Refuses o refusals.Busy) (Refuses o refusals.OneJob)
      go true = refuses refusals.Busy
      go false = refuses refusals.OneJob

pub plan_outcome : (job : Option Job) (h : History) (kind : Kind) (factor : Fraction) (word : List ℕ) (list : List Posting) → IsListUpTo h word (last_second h) list → 0 < length list
    → (kind ≡ Guarantee → IsNarrow list (last_second h))
    → (outcome : Outcome Reply History) × OfStill job word (λ why. Declines h why outcome.reply outcome.next) (StoresPlan job h kind factor word list outcome.reply outcome.next)
plan_outcome job h kind factor word list is some narrow =
    let D : Outcome Reply History → Refusal → Type 0 = λ o why. Declines h why o.reply o.next in
    let A : Outcome Reply History → PlanEntry → Type 0 = λ o plan. AddsPlan h plan (full_journal h (entries.Planned plan)) list o.reply o.next in
    let declines : (why : Refusal) → (o : Outcome Reply History) × D o why = λ why. (record { reply = Refused why; next = h }, (refl, refl)) in
    still_outcome D A declines job word (λ o. StoresPlan job h kind factor word list o.reply o.next)
    (chooses_outcome D A declines job h kind factor word list is some narrow
    (λ horizon cuts places good.
    let (cost, costs) = each_has_a_cost kind list factor cuts horizon good in
    let plan = in_blocks word kind factor horizon cuts places in
    adds_plan_outcome h plan (full_journal h (entries.Planned plan)) list cost costs))

takes_on_outcome : (w : World) (plan : PlanEntry) (refusal : Option Refusal) (list : List Posting) → (outcome : Outcome Reply World) × TakesOn w plan refusal list outcome.reply outcome.next
takes_on_outcome w plan None list = (record { reply = _; next = _ }, (refl, refl))
takes_on_outcome w plan (Some why) list = (record { reply = Refused why; next = w }, (refl, refl))

pub begin_outcome : (w : World) (factor : Fraction) (word : List ℕ) (list : List Posting) → IsListUpTo w.history word (last_second w.history) list → 0 < length list → IsNarrow list (last_second w.history)
    → (outcome : Outcome Reply World) × OfIdle w.job word (λ why. Idles w why outcome.reply outcome.next)
    (ChoosesPlan w.job w.history Guarantee factor word list (λ why. Idles w why outcome.reply outcome.next) (λ plan. TakesOn w plan (full_journal w.history (entries.Planned plan)) list outcome.reply outcome.next))
begin_outcome w factor word list is some narrow =
    let D : Outcome Reply World → Refusal → Type 0 = λ o why. Idles w why o.reply o.next in
    let A : Outcome Reply World → PlanEntry → Type 0 = λ o plan. TakesOn w plan (full_journal w.history (entries.Planned plan)) list o.reply o.next in
    let declines : (why : Refusal) → (o : Outcome Reply World) × D o why = λ why. (record { reply = Refused why; next = w }, (refl, refl)) in
    idle_outcome D A declines w.job word (λ o. ChoosesPlan w.job w.history Guarantee factor word list (D o) (A o))
    (chooses_outcome D A declines w.job w.history Guarantee factor word list is some (λ e. narrow)
    (λ horizon cuts places good. (let plan = in_blocks word Guarantee factor horizon cuts places in takes_on_outcome w plan (full_journal w.history (entries.Planned plan)) list)))

-- ---- what is stored is legal

unchanged : (P : History → Type 0) (old new : History) → new ≡ old → P old → P new
unchanged P old new same is = subst P (sym same) is

-- whatever a plan that is chosen is, it is legal: so what holds where it is refused, and where it goes on, holds
chosen_keeps : (C : Type 0) (Refuses : Refusal → Type 0) (GoesOn : PlanEntry → Type 0) → ((why : Refusal) → Refuses why → C)
    → (job : Option Job) (h : History) (kind : Kind) (factor : Fraction) (phrase word : List ℕ) (list : List Posting) → ((plan : PlanEntry) → IsLegalEntry h (entries.Planned plan) → GoesOn plan → C)
    → spelled_key (one_term phrase) ≡ Some word → IsListUpTo h word (last_second h) list → 0 < length list → ChoosesPlan job h kind factor word list Refuses GoesOn → C
chosen_keeps C Refuses GoesOn refused job h kind factor phrase word list on term is some s = elim s.stores [
  | inl full ↦ refused (refusals.Full Pages (limit_of Pages)) full.1
  | inr fits ↦
      let (places, placed, zip, adds) = fits in
      on (in_blocks word kind factor s.horizon s.cuts places) (plan_legal h word kind factor s.horizon s.cuts places list (spelled_word phrase word term) s.horizon_is is some s.good zip) adds
]

-- what holds where a plan is refused, and where it isn't, holds beside a plan that is being written
pub still_keeps : (C : Type 0) (Refuses : Refusal → Type 0) (Rest : Type 0) → ((why : Refusal) → Refuses why → C) → (Rest → C) → (job : Option Job) (word : List ℕ) → OfStill job word Refuses Rest → C
still_keeps C Refuses Rest refused rest None word of = rest of
still_keeps C Refuses Rest refused rest (Some job) word of = go (bytes_eq job.plan.word word) of
  where
    go : (b : Bool) → ByWord b (Refuses refusals.Busy) Rest → C
    go true is = refused refusals.Busy is
    go false is = rest is

pub idle_keeps : (C : Type 0) (Refuses : Refusal → Type 0) (Rest : Type 0) → ((why : Refusal) → Refuses why → C) → (Rest → C) → (job : Option Job) (word : List ℕ) → OfIdle job word Refuses Rest → C
idle_keeps C Refuses Rest refused rest None word of = rest of
idle_keeps C Refuses Rest refused rest (Some job) word of = go (bytes_eq job.plan.word word) of
  where
    go : (b : Bool) → ByWord b (Refuses refusals.Busy) (Refuses refusals.OneJob) → C
    go true is = refused refusals.Busy is
    go false is = refused refusals.OneJob is

-- what is so of a history, and stays so with a legal entry more, is so of what a plan leads to
pub plans_keep : (P : History → Type 0) → ((h : History) (e : Entry) → P h → IsLegalEntry h e → P (h ++ e ∷ []))
    → (job : Option Job) (h : History) (phrase : List ℕ) (kind : Kind) (factor : Fraction) (reply : Reply) (next : History) → P h → Plans job h phrase kind factor reply next → P next
plans_keep P push job h phrase kind factor reply next legal =
    of_phrase kind h (P next) D (λ word list. OfStill job word D (StoresPlan job h kind factor word list reply next)) (spelled_key (one_term phrase)) declined
    (λ word list term is some of. still_keeps (P next) D (StoresPlan job h kind factor word list reply next) declined
    (λ stores. chosen_keeps (P next) D (A list) declined job h kind factor phrase word list (λ plan entry. added plan (full_journal h (entries.Planned plan)) list entry) term is some stores) job word of)
  where
    D : Refusal → Type 0
    D why = Declines h why reply next

    A : List Posting → PlanEntry → Type 0
    A list plan = AddsPlan h plan (full_journal h (entries.Planned plan)) list reply next

    declined : (why : Refusal) → Declines h why reply next → P next
    declined why declines = unchanged P h next declines.0 legal

    added : (plan : PlanEntry) (refusal : Option Refusal) (list : List Posting) → IsLegalEntry h (entries.Planned plan) → AddsPlan h plan refusal list reply next → P next
    added plan None list entry adds = subst P (sym adds.0) (push h (entries.Planned plan) legal entry)
    added plan (Some why) list entry adds = unchanged P h next adds.0 legal

-- ---- a plan that is being written

-- it could be stored behind one entry more
pub job_later : (h : History) (e : Entry) (job : Option Job) → entry_refusal h e ≡ None → MayBeStored h job → MayBeStored (h ++ e ∷ []) job
job_later h e None allowed may = tt
job_later h e (Some job) allowed legal =
    let later = later_push h e allowed in
    let may = legal.planned in
    record {
      ranges = legal.ranges;
      allowed = refl;
      planned = record {
        past = omega (arith, may.past, later.last);
        list = may.list;
        list_is = list_later h (h ++ e ∷ []) job.plan.word job.plan.horizon.seconds may.list later may.past may.list_is;
        some = may.some;
        suits = may.suits;
      };
    }

-- so a state stays fair where a legal entry comes behind it, or a plan is begun
pub begins_keep : (P : History → Type 0) (w : World) (phrase : List ℕ) (factor : Fraction) (reply : Reply) (next : World) → IsFair P w → Begins w phrase factor reply next → IsFair P next
begins_keep P w phrase factor reply next fair =
    of_phrase Guarantee w.history (IsFair P next) D (λ word list. OfIdle w.job word D (ChoosesPlan w.job w.history Guarantee factor word list D (A list))) (spelled_key (one_term phrase)) declined
    (λ word list term is some of. idle_keeps (IsFair P next) D (ChoosesPlan w.job w.history Guarantee factor word list D (A list)) declined
    (λ chooses. chosen_keeps (IsFair P next) D (A list) declined w.job w.history Guarantee factor phrase word list (λ plan entry. taken_on plan (full_journal w.history (entries.Planned plan)) list entry) term is some chooses) w.job word of)
  where
    D : Refusal → Type 0
    D why = Idles w why reply next

    A : List Posting → PlanEntry → Type 0
    A list plan = TakesOn w plan (full_journal w.history (entries.Planned plan)) list reply next

    declined : (why : Refusal) → Idles w why reply next → IsFair P next
    declined why idles = subst (IsFair P) (sym idles.0) fair

    taken_on : (plan : PlanEntry) (refusal : Option Refusal) (list : List Posting) → IsLegalEntry w.history (entries.Planned plan) → TakesOn w plan refusal list reply next → IsFair P next
    taken_on plan None list entry takes = subst (IsFair P) (sym takes.0) (record { history = fair.history; job = entry })
    taken_on plan (Some why) list entry takes = subst (IsFair P) (sym takes.0) fair
