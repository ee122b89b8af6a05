-- Each step of the abstract archive, and each stint, leads from a state that can be followed to such a one.
use Rattle.std.proofs.Common.{◌≡◌, ℕ, zero, suc, ◌≤◌, Bool, true, false, nat_lt, bytes_eq, List, [], ◌∷◌, ◌++◌, length, All, Option, Some, None, inl, inr, refl, sym, subst, arith}
use Rattle.std.specs.List.{AllZip, flat_map}
use Rattle.std.specs.Option.{option_map}
use Rattle.std.specs.Prelude.{IfSome}
use Rattle.std.proofs.lemmas.Bool.{ltb-false}
use Rattle.std.proofs.lemmas.List.Elements.{All-head, All-tail}
use Rattle.base_types.specs.Limits.{limit_of}
use Rattle.base_types.specs.declared.fraction.Fraction.{Fraction}
use Rattle.base_types.specs.declared.posting.Posting.{Posting}
use Rattle.base_types.specs.declared.time.Time.{Time}
use Rattle.base_types.specs.declared.which.Which.TheVariants.{Journal, Pages}
use Rattle.base_commands.specs.Batches.{texts_bytes}
use Rattle.base_commands.specs.Documents.{HasDocument}
use Rattle.base_commands.specs.declared.batch.BatchItem.{BatchItem}
use Rattle.base_commands.specs.declared.batch.BatchItems.{BatchItems}
use Rattle.base_commands.specs.declared.batch.BatchItems.TheVariants.{Items, TooLong}
use Rattle.base_commands.specs.declared.command.Command.{Command}
use Rattle.base_commands.specs.declared.command.Command.TheVariants as commands
use Rattle.base_commands.specs.declared.command.Item.{Item}
use Rattle.base_commands.specs.declared.command.Item.TheVariants as items
use Rattle.base_commands.specs.declared.command.Kind.{Kind}
use Rattle.base_commands.specs.declared.command.Kind.TheVariants.{Guarantee, Uniform, Since}
use Rattle.base_commands.specs.declared.text.Text.TheVariants as texts
use Rattle.lists_versions.specs.Tests.{first_of, when}
use Rattle.pages_area.specs.Placing.{ArePlaced}
use Rattle.pages_area.specs.Taken.{AreApart}
use Rattle.journal_entries.specs.declared.entry.Entry.{Entry}
use Rattle.journal_entries.specs.declared.entry.Entry.TheVariants as entries
use Rattle.journal_entries.specs.declared.place.Layout.TheVariants.{Blocks}
use Rattle.journal_entries.specs.declared.place.Place.{Place}
use Rattle.journal_entries.specs.declared.plan.PlanEntry.{PlanEntry}
use Rattle.pages_sublists.specs.Preparing.{IsFor, extents, sizes, spellings}
use Rattle.pages_sublists.specs.Segments.{seconds}
use Rattle.plans_kinds.specs.Plans.{IsGoodPlan}
use Rattle.plans_share.specs.declared.asked.Asking.{Asking}
use Rattle.text_words.specs.Terms.{one_term}
use Rattle.model_archive.specs.declared.refusal.Refusal.{Refusal}
use Rattle.model_archive.specs.declared.refusal.Refusal.TheVariants as refusals
use Rattle.model_archive.specs.Histories.{History, end_of, entry_refusal, long_batch, old_format}
use Rattle.model_archive.specs.Legal.{IsFair, IsLegal, MayBePlanned, MayBeStored}
use Rattle.model_archive.specs.Planning.{IsListUpTo, OfPhrase, OfWidth, last_second}
use Rattle.model_archive.specs.Plans.{live_extents, live_plans, plan_of}
use Rattle.model_archive.specs.Runs.{AfterStint, AreStints, IsRun, IsRunWith, Outcome, state_after}
use Rattle.model_archive.specs.Standing.{last_state}
use Rattle.model_archive.specs.Steps.{Adds, AddsBatch, AddsPlan, Batches, Begins, ByWord, CarriesOut, Cause, ChoosesPlan, Declines, Finishes, Idles, OfIdle, OfStill, Plans, Reply, Step, StoresPlan, TakesOn, Works, WorksAt, WorksOn, act_of, arrival_refusal, bad_text, batch_cause, deletion_refusal, first_other, for_all, full_journal, in_blocks, items_cause, mark_refusal, spelled_key, stint_pages, too_long}
use Rattle.model_archive.specs.Worlds.{Job, World, at_work, job_extents, taken_in, world_of}
use Rattle.model_archive.proofs.BatchLemmas.{none_found, none_mapped}
use Rattle.model_archive.proofs.CertifyingLemmas.{live_has}
use Rattle.model_archive.proofs.HistoryLemmas.{legal-middle}
use Rattle.model_archive.proofs.LiveLemmas.{live_planned}
use Rattle.model_archive.proofs.OutcomeLemmas.{step_legal}
use Rattle.model_archive.proofs.RunLemmas.{state_after_all}
use Rattle.model_archive.proofs.StoringLemmas.{idle_keeps}
use Rattle.model_follow.specs.Following.{Had, Took}
use Rattle.model_follow.specs.Laws.{FollowersCanBeFollowed, RunsCanBeFollowed, SamplesCanBeFollowed, StepsCanBeFollowed, StintsCanBeFollowed}
use Rattle.model_follow.specs.Taking.{CanBeFollowed, IfJobPlaced, IfPlaced, IsPlacedApart, KeepsUp}
use Rattle.model_follow.proofs.JobLemmas.{IfBeside, IsOther, apart_without, job_on, taken_apart}
use Rattle.model_follow.proofs.PlacedLemmas.{followed_apart, followed_legal, followed_push, placed_apart}

-- where no test finds a cause, the last finds none
last_none : {W : Type 0} (tests : List (Option W)) (o : Option W) → first_of (tests ++ o ∷ []) ≡ None → o ≡ None
last_none [] o none = (none_found o [] none).0
last_none (t ∷ tests) o none = last_none tests o (none_found t (tests ++ o ∷ []) none).1

has_room : (h : History) (e : Entry) → full_journal h e ≡ None → end_of (h ++ e ∷ []) ≤ limit_of Journal
has_room h e none = go (nat_lt (limit_of Journal) (end_of (h ++ e ∷ []))) refl none
  where
    go : (b : Bool) → nat_lt (limit_of Journal) (end_of (h ++ e ∷ [])) ≡ b → when b (refusals.Full Journal (limit_of Journal)) ≡ None → end_of (h ++ e ∷ []) ≤ limit_of Journal
    go true same none = absurd cc
    go false same none = ltb-false (limit_of Journal) (end_of (h ++ e ∷ [])) same

-- a history that can be followed, behind which the places of a plan that is being written can be taken
abbrev pub Both : Option Job → History → Type 0
Both job h = CanBeFollowed h × IfJobPlaced h job

-- a step that changes nothing, or adds a legal entry for which there is room
stays : (job : Option Job) (h next : History) → next ≡ h → Both job h → Both job next
stays job h next same can = subst (Both job) (sym same) can

added : (job : Option Job) (h next : History) (e : Entry) → next ≡ h ++ e ∷ [] → MayBeStored h job → Both job h → IsLegal next → IfPlaced h e → IfBeside h job e → full_journal h e ≡ None → Both job next
added job h next e same stored can legal placed beside none =
    let one = (legal-middle h e [] (subst IsLegal same legal)).1 in
    subst (Both job) (sym same)
    (followed_push h e can.0 (record { legal = one; placed = placed; fits = has_room h e none }), job_on h e job one.allowed beside stored can.1)

adds : (job : Option Job) (h : History) (e : Entry) (o : Option Refusal) (reply : Reply) (next : History) → (o ≡ None → full_journal h e ≡ None) → IfPlaced h e → IfBeside h job e → MayBeStored h job → Both job h → IsLegal next
    → Adds h e o reply next → Both job next
adds job h e None reply next room placed beside stored can legal step = added job h next e step.0 stored can legal placed beside (room refl)
adds job h e (Some why) reply next room placed beside stored can legal step = stays job h next step.0 can

adds_batch : (job : Option Job) (h : History) (e : Entry) (o : Option Cause) (reply : Reply) (next : History) → (o ≡ None → full_journal h e ≡ None) → IfPlaced h e → IfBeside h job e → MayBeStored h job → Both job h
    → IsLegal next → AddsBatch h e o reply next → Both job next
adds_batch job h e None reply next room placed beside stored can legal step = added job h next e step.0 stored can legal placed beside (room refl)
adds_batch job h e (Some cause) reply next room placed beside stored can legal step = stays job h next step.0 can

batch_room : (h : History) (batch : List BatchItem) → batch_cause h batch ≡ None → full_journal h (entries.Batch (flat_map act_of batch)) ≡ None
batch_room h batch none =
    none_mapped _ (full_journal h (entries.Batch (flat_map act_of batch)))
    (last_none (for_all (old_format h) ∷ for_all (long_batch (texts_bytes batch)) ∷ for_all (option_map (λ index. refusals.BatchLine index) (first_other 1 batch)) ∷ items_cause h 1 batch ∷ [])
    (for_all (full_journal h (entries.Batch (flat_map act_of batch)))) none)

-- ---- plans

-- what follows from each refusal, and from what goes on, follows from the tests of a phrase
of_phrase : (kind : Kind) (h : History) (Q : Type 0) (Refuses : Refusal → Type 0) (GoesOn : List ℕ → List Posting → Type 0) (key : Option (List ℕ)) → ((why : Refusal) → Refuses why → Q)
    → ((word : List ℕ) (list : List Posting) → IsListUpTo h word (last_second h) list → GoesOn word list → Q) → OfPhrase kind h key Refuses GoesOn → Q
of_phrase kind h Q Refuses GoesOn None refused goes of = refused refusals.NotOneTerm of
of_phrase kind h Q Refuses GoesOn (Some word) refused goes (inl unknown) = refused refusals.UnknownWord unknown.1
of_phrase kind h Q Refuses GoesOn (Some word) refused goes (inr (known, ([], is, why))) = refused refusals.NothingSealed why
of_phrase kind h Q Refuses GoesOn (Some word) refused goes (inr (known, (p ∷ list, is, of))) = go kind of
  where
    go : (k : Kind) → OfWidth k (last_second h) (p ∷ list) Refuses (GoesOn word (p ∷ list)) → Q
    go Guarantee (times, are, inl wide) = refused (refusals.TooWide (length times)) wide.1
    go Guarantee (times, are, inr narrow) = goes word (p ∷ list) is narrow.1
    go Uniform on = goes word (p ∷ list) is on
    go (Since at) on = goes word (p ∷ list) is on

-- and from those of a word of which a plan may be under way
still : (Q : Type 0) (Refuses : Refusal → Type 0) (Rest : Type 0) → ((why : Refusal) → Refuses why → Q) → (job : Option Job) (word : List ℕ) → (IsOther job word → Rest → Q) → OfStill job word Refuses Rest → Q
still Q Refuses Rest refused None word rest of = rest tt of
still Q Refuses Rest refused (Some job) word rest of = go (bytes_eq job.plan.word word) refl of
  where
    go : (b : Bool) → bytes_eq job.plan.word word ≡ b → ByWord b (Refuses refusals.Busy) Rest → Q
    go true same is = refused refusals.Busy is
    go false same is = rest same is

-- the live plans' horizons lie at or before the last time
not_later : (h : History) (word : List ℕ) (horizon : ℕ) → CanBeFollowed h → horizon ≡ last_second h → IfSome (plan_of h word) (λ live. live.horizon.seconds ≤ horizon)
not_later h word horizon can same = go (plan_of h word) (λ plan is. live_has (λ p. MayBePlanned IsGoodPlan h p) (λ stored. bytes_eq stored.plan.word word) (live_plans h) plan (live_planned IsGoodPlan h (followed_legal h can)) is)
  where
    go : (o : Option PlanEntry) → ((plan : PlanEntry) → o ≡ Some plan → MayBePlanned IsGoodPlan h plan) → IfSome o (λ live. live.horizon.seconds ≤ horizon)
    go None may = tt
    go (Some plan) may = omega (arith, (may plan refl).past, same)

-- all that is taken, and the places of a plan that takes the lowest free runs, are apart
all_apart : (job : Option Job) (h : History) (bytes : List (List ℕ)) (places : List Place) → Both job h → ArePlaced (taken_in job h) (sizes bytes) (extents places) → AreApart (extents places ++ taken_in job h)
all_apart job h bytes places can placed = placed_apart (taken_in job h) (sizes bytes) (extents places) (taken_apart h job (followed_apart h can.0) can.1) placed

chosen : (job : Option Job) (h : History) (word : List ℕ) (kind : Kind) (factor : Fraction) (horizon : Time) (cuts : List Time) (places : List Place) (list : List Posting) → Both job h
    → IsListUpTo h word (last_second h) list → horizon.seconds ≡ last_second h → ArePlaced (taken_in job h) (sizes (spellings Blocks list (seconds cuts) horizon.seconds)) (extents places)
    → AllZip IsFor places (spellings Blocks list (seconds cuts) horizon.seconds) → IsPlacedApart h (in_blocks word kind factor horizon cuts places)
chosen job h word kind factor horizon cuts places list can is same placed zip =
    let U : ℕ → Type 0 = λ n. IsListUpTo h word n list in
    record {
      list = list;
      list_is = subst U (sym same) is;
      each = zip;
      apart = apart_without (extents places) (job_extents job) (live_extents h) (all_apart job h (spellings Blocks list (seconds cuts) horizon.seconds) places can placed);
      later = not_later h word horizon.seconds can.0 same;
    }

plans : (job : Option Job) (h : History) (phrase : List ℕ) (kind : Kind) (factor : Fraction) (reply : Reply) (next : History) → MayBeStored h job → Both job h → IsLegal next → Plans job h phrase kind factor reply next → Both job next
plans job h phrase kind factor reply next waits can legal =
    of_phrase kind h (Both job next) (λ why. Declines h why reply next) (λ word list. OfStill job word (λ why. Declines h why reply next) (StoresPlan job h kind factor word list reply next))
    (spelled_key (one_term phrase)) declined
    (λ word list is of. still (Both job next) (λ why. Declines h why reply next) (StoresPlan job h kind factor word list reply next) declined job word (λ other stores. stored word list is other stores) of)
  where
    declined : (why : Refusal) → Declines h why reply next → Both job next
    declined why declines = stays job h next declines.0 can

    adds_plan : (plan : PlanEntry) (o : Option Refusal) (list : List Posting) → (o ≡ None → full_journal h (entries.Planned plan) ≡ None) → IsPlacedApart h plan → IfBeside h job (entries.Planned plan) → AddsPlan h plan o list reply next
        → Both job next
    adds_plan plan None list room placed beside step = added job h next (entries.Planned plan) step.0 waits can legal placed beside (room refl)
    adds_plan plan (Some why) list room placed beside step = stays job h next step.0 can

    stored : (word : List ℕ) (list : List Posting) → IsListUpTo h word (last_second h) list → IsOther job word → StoresPlan job h kind factor word list reply next → Both job next
    stored word list is other s = elim s.stores [
      | inl full ↦ declined (refusals.Full Pages (limit_of Pages)) full.1
      | inr fits ↦
          let (places, placed, zip, step) = fits in
          let plan = in_blocks word kind factor s.horizon s.cuts places in
          adds_plan plan (full_journal h (entries.Planned plan)) list (λ none. none) (chosen job h word kind factor s.horizon s.cuts places list can is s.horizon_is placed zip)
          (all_apart job h (spellings Blocks list (seconds s.cuts) s.horizon.seconds) places can placed, other) step
    ]

-- a plan is begun
abbrev pub BothIn : World → Type 0
BothIn world = Both world.job world.history

-- what is chosen is taken on, or there is no room for it
abbrev pub Chooses : World → List ℕ → Fraction → List Posting → Reply → World → Type 0
Chooses old word factor list reply new = ChoosesPlan old.job old.history Guarantee factor word list (λ why. Idles old why reply new)
    (λ plan. TakesOn old plan (full_journal old.history (entries.Planned plan)) list reply new)

begins : (old : World) (phrase : List ℕ) (factor : Fraction) (reply : Reply) (new : World) → BothIn old → Begins old phrase factor reply new → BothIn new
begins old phrase factor reply new can =
    of_phrase Guarantee old.history (BothIn new) (λ why. Idles old why reply new) (λ word list. OfIdle old.job word (λ why. Idles old why reply new) (Chooses old word factor list reply new))
    (spelled_key (one_term phrase)) idles
    (λ word list is of. idle_keeps (BothIn new) (λ why. Idles old why reply new) (Chooses old word factor list reply new) idles (λ s. begun word list is s) old.job word of)
  where
    idles : (why : Refusal) → Idles old why reply new → BothIn new
    idles why is = subst BothIn (sym is.0) can

    takes_on : (plan : PlanEntry) (o : Option Refusal) (list : List Posting) → IsPlacedApart old.history plan → TakesOn old plan o list reply new → BothIn new
    takes_on plan None list placed step = subst BothIn (sym step.0) (can.0, placed)
    takes_on plan (Some why) list placed step = subst BothIn (sym step.0) can

    begun : (word : List ℕ) (list : List Posting) → IsListUpTo old.history word (last_second old.history) list → Chooses old word factor list reply new → BothIn new
    begun word list is s = elim s.stores [
      | inl full ↦ idles (refusals.Full Pages (limit_of Pages)) full.1
      | inr fits ↦
          let (places, placed, zip, step) = fits in
          let plan = in_blocks word Guarantee factor s.horizon s.cuts places in
          takes_on plan (full_journal old.history (entries.Planned plan)) list (chosen old.job old.history word Guarantee factor s.horizon s.cuts places list can is s.horizon_is placed zip) step
    ]

-- ---- items

batches : (job : Option Job) (h : History) (batch : BatchItems) (reply : Reply) (next : History) → MayBeStored h job → Both job h → IsLegal next → Batches h batch reply next → Both job next
batches job h (Items batch) reply next stored can legal step = adds_batch job h (entries.Batch (flat_map act_of batch)) (batch_cause h batch) reply next (batch_room h batch) tt tt stored can legal step
batches job h (TooLong bytes) reply next stored can legal step = stays job h next step.0 can

command : (asked : List Asking) (job : Option Job) (h : History) (c : Command) (reply : Reply) (next : History) → MayBeStored h job → Both job h → IsLegal next → CarriesOut asked job h c reply next → Both job next
command asked job h (commands.Arrive doc at (texts.Bytes text)) reply next stored can legal step =
    let e = entries.Arrive doc at text in
    adds job h e (arrival_refusal h doc at text) reply next (λ none. last_none (too_long text ∷ bad_text text ∷ entry_refusal h e ∷ []) (full_journal h e) none) tt tt stored can legal step
command asked job h (commands.Arrive doc at (texts.TooLong bytes)) reply next stored can legal step = stays job h next step.0 can
command asked job h (commands.Delete doc at) reply next stored can legal step =
    let e = entries.Delete doc at in
    adds job h e (deletion_refusal h doc at) reply next (λ none. last_none (entry_refusal h e ∷ []) (full_journal h e) none) tt tt stored can legal step
command asked job h commands.Format reply next stored can legal step =
    adds job h entries.Format (mark_refusal h) reply next (λ none. last_none (entry_refusal h entries.Format ∷ []) (full_journal h entries.Format) none) tt tt stored can legal step
command asked job h (commands.Batch batch) reply next stored can legal step = batches job h batch reply next stored can legal step
command asked job h (commands.Plan word kind fraction) reply next stored can legal step = plans job h word kind fraction reply next stored can legal step
command asked job h (commands.Find at expr) reply next stored can legal step = stays job h next step.0 can
command asked job h (commands.Top count at expr) reply next stored can legal step = stays job h next step.0 can
command asked job h (commands.Approx word tolerance) reply next stored can legal step = stays job h next step.0 can
command asked job h (commands.Rough tolerance at expr) reply next stored can legal step = stays job h next step.0 can
command asked job h (commands.Best count at expr) reply next stored can legal step = stays job h next step.0 can
command asked job h (commands.Show doc at) reply next stored can legal step = stays job h next step.0 can
command asked job h (commands.Propose word fraction) reply next stored can legal step = stays job h next step.0 can
command asked job h (commands.Between span expr) reply next stored can legal step = stays job h next step.0 can
command asked job h (commands.Certificate word) reply next stored can legal step = stays job h next step.0 can
command asked job h commands.Verify reply next stored can legal step = stays job h next step.0 can
command asked job h (commands.Share factor words) reply next stored can legal step = stays job h next step.0 can
command asked job h other reply next stored can legal step = stays job h next step.0 can

both_step : (old : World) (item : Item) (reply : Reply) (new : World) → KeepsUp old → IsLegal new.history → Step old item reply new → BothIn new
both_step old (items.Command (commands.Begin word fraction)) reply new keeps legal step = begins old word fraction reply new (keeps.history, keeps.placed) step
both_step old (items.Command c) reply new keeps legal step =
    let J : Option Job → Type 0 = λ job. Both job new.history in
    subst J (sym step.2) (command old.asked old.job old.history c reply new.history keeps.stored (keeps.history, keeps.placed) legal step.0)
both_step old items.Line reply new keeps legal step = subst BothIn (sym step.0) (keeps.history, keeps.placed)

pub steps : StepsCanBeFollowed
steps old item reply new keeps has step =
    let fair : IsFair IsLegal new = step_legal old item reply new (record { history = followed_legal old.history keeps.history; job = keeps.stored }) has step in
    let both : BothIn new = both_step old item reply new keeps fair.history step in
    record { history = both.0; stored = fair.job; placed = both.1 }

-- ---- stints

pub stints : StintsCanBeFollowed
stints old reply new keeps works = go old.job keeps.stored keeps.placed works
  where
    finishes : (job : Job) (o : Option Refusal) → full_journal old.history (entries.Planned job.plan) ≡ o → MayBeStored old.history (Some job) → IfJobPlaced old.history (Some job) → Finishes old job o reply new → KeepsUp new
    finishes job None room stored placed f =
        subst KeepsUp (sym f.0) (record {
          history = followed_push old.history (entries.Planned job.plan) keeps.history (record { legal = stored; placed = placed; fits = has_room old.history (entries.Planned job.plan) room });
          stored = tt;
          placed = tt;
        })
    finishes job (Some why) room stored placed f = subst KeepsUp (sym f.0) (record { history = keeps.history; stored = tt; placed = tt })

    by : (b : Bool) (job : Job) → MayBeStored old.history (Some job) → IfJobPlaced old.history (Some job) → WorksOn b old job reply new → KeepsUp new
    by true job stored placed is = subst KeepsUp (sym is.0) (record { history = keeps.history; stored = stored; placed = placed })
    by false job stored placed is = finishes job (full_journal old.history (entries.Planned job.plan)) refl stored placed is

    go : (o : Option Job) → MayBeStored old.history o → IfJobPlaced old.history o → WorksAt old o reply new → KeepsUp new
    go None stored placed works = absurd works
    go (Some job) stored placed works = by (nat_lt stint_pages job.left) job stored placed works

-- ---- runs

begun : (h : History) → CanBeFollowed h → KeepsUp (world_of h)
begun h can = record { history = can; stored = tt; placed = tt }

-- behind an item, a stint comes or none
behind : (b : Bool) (next : World) (outcomes : List (Outcome Reply World)) (Rest : World → List (Outcome Reply World) → Type 0) → KeepsUp next
    → ((s : World) (rest : List (Outcome Reply World)) → KeepsUp s → Rest s rest → (j : ℕ) → KeepsUp (state_after s rest j)) → AfterStint Works b next outcomes Rest → (j : ℕ) → KeepsUp (state_after next outcomes j)
behind false next outcomes Rest keeps on is j = on next outcomes keeps is j
behind true next [] Rest keeps on is j = absurd is
behind true next (work ∷ outcomes) Rest keeps on is zero = keeps
behind true next (work ∷ outcomes) Rest keeps on is (suc j) = on work.next outcomes (stints next work.reply work.next keeps is.0) is.1 j

run_with : (world : World) (list : List Item) (outcomes : List (Outcome Reply World)) → KeepsUp world → All HasDocument list → IsRunWith Step Works at_work world list outcomes → (j : ℕ) → KeepsUp (state_after world outcomes j)
run_with world list outcomes keeps has run zero = keeps
run_with world [] [] keeps has run (suc j) = keeps
run_with world [] (o ∷ outcomes) keeps has run (suc j) = absurd cc
run_with world (item ∷ list) [] keeps has run (suc j) = absurd run
run_with world (item ∷ list) (o ∷ outcomes) keeps has run (suc j) =
    behind (at_work world) o.next outcomes (λ s rest. IsRunWith Step Works at_work s list rest) (steps world item o.reply o.next keeps (All-head HasDocument item list has) run.0)
    (λ s rest good is k. run_with s list rest good (All-tail HasDocument item list has) is k) run.1 j

all_stints : (world : World) (outcomes : List (Outcome Reply World)) → KeepsUp world → AreStints Works world outcomes → (j : ℕ) → KeepsUp (state_after world outcomes j)
all_stints world outcomes keeps are zero = keeps
all_stints world [] keeps are (suc j) = keeps
all_stints world (work ∷ outcomes) keeps are (suc j) = all_stints work.next outcomes (stints world work.reply work.next keeps are.0) are.1 j

-- outcomes in a row
in_row : (world : World) (outcomes further : List (Outcome Reply World)) → ((j : ℕ) → KeepsUp (state_after world outcomes j)) → ((j : ℕ) → KeepsUp (state_after (last_state world outcomes) further j))
    → (j : ℕ) → KeepsUp (state_after world (outcomes ++ further) j)
in_row world [] further one two j = two j
in_row world (o ∷ outcomes) further one two zero = one zero
in_row world (o ∷ outcomes) further one two (suc j) = in_row o.next outcomes further (λ k. one (suc k)) two j

pub runs : RunsCanBeFollowed
runs h list by_items closing can has run closes j =
    let each : (k : ℕ) → KeepsUp (state_after (world_of h) by_items k) = run_with (world_of h) list by_items (begun h can) has run in
    let last : KeepsUp (last_state (world_of h) by_items) = subst KeepsUp (state_after_all (world_of h) by_items) (each (length by_items)) in
    (in_row (world_of h) by_items closing each (all_stints (last_state (world_of h) by_items) closing last closes) j).history

plain : (world : World) (list : List Item) (outcomes : List (Outcome Reply World)) → KeepsUp world → All HasDocument list → IsRun Step world list outcomes → (j : ℕ) → KeepsUp (state_after world outcomes j)
plain world list outcomes keeps has run zero = keeps
plain world [] [] keeps has run (suc j) = keeps
plain world (item ∷ list) (o ∷ outcomes) keeps has run (suc j) =
    plain o.next list outcomes (steps world item o.reply o.next keeps (All-head HasDocument item list has) run.0) (All-tail HasDocument item list has) run.1 j
plain world [] (o ∷ outcomes) keeps has run (suc j) = absurd run
plain world (item ∷ list) [] keeps has run (suc j) = absurd run

pub samples : SamplesCanBeFollowed
samples h list outcomes can has run j = (plain (world_of h) list outcomes (begun h can) has run j).history

pub followers : FollowersCanBeFollowed
followers old new p (Had number) can step = subst CanBeFollowed (sym step.2) can
followers old new p (Took number) can step =
    let taken = step.2 in
    subst CanBeFollowed (sym taken.3) (followed_push old taken.0 can taken.2)
