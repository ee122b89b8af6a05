-- Where the pages hold what the history's plans need, a step by what reads give is the abstract archive's.
use Rattle.std.proofs.Common.{◌≡◌, ◌⊎◌, ℕ, ◌+◌, ◌^◌, List, [], ◌∷◌, ◌++◌, Bool, true, false, is_some, nat_lt, Option, Some, None, Result, Ok, Err, inl, inr, refl, ap, sym, subst, ◌∙◌}
use Rattle.std.specs.List.{flat_map}
use Rattle.machine_model.specs.Areas.{Bytes}
use Rattle.machine_model.specs.States.{DiskState}
use Rattle.journal_gates.specs.Spelled.{Spells}
use Rattle.base_types.specs.declared.time.Span.{Span}
use Rattle.base_types.specs.declared.time.Time.{Time}
use Rattle.base_types.specs.declared.tolerance.Tolerance.{Tolerance}
use Rattle.base_types.specs.declared.fraction.Fraction.{Fraction}
use Rattle.base_types.specs.declared.posting.Posting.{Posting}
use Rattle.pages_area.specs.Taken.{AreApart}
use Rattle.text_words.specs.Terms.{one_term}
use Rattle.plans_kinds.specs.Plans.{IsFitFor}
use Rattle.base_commands.specs.Documents.{HasDocument}
use Rattle.base_commands.specs.declared.command.Command.{Command}
use Rattle.base_commands.specs.declared.command.Command.TheVariants as commands
use Rattle.base_commands.specs.declared.command.Item.{Item}
use Rattle.base_commands.specs.declared.command.Item.TheVariants as items
use Rattle.base_commands.specs.declared.count.BestCount.{BestCount}
use Rattle.base_commands.specs.declared.count.TopCount.{TopCount}
use Rattle.base_commands.specs.declared.command.Kind.{Kind}
use Rattle.base_commands.specs.declared.command.Kind.TheVariants.{Guarantee, Uniform, Since}
use Rattle.base_commands.specs.declared.batch.BatchItems.TheVariants as batches
use Rattle.base_commands.specs.declared.text.Text.TheVariants as texts
use Rattle.query_lang.specs.Chains.{asks_for_any}
use Rattle.query_lang.specs.Grammar.{Query}
use Rattle.journal_entries.specs.declared.entry.Entry.{Entry}
use Rattle.journal_entries.specs.declared.entry.Entry.TheVariants as entries
use Rattle.journal_entries.specs.declared.plan.PlanEntry.{PlanEntry}
use Rattle.model_archive.specs.declared.refusal.Refusal.{Refusal}
use Rattle.model_archive.specs.declared.verdict.Verdict.{Verdict}
use Rattle.model_archive.specs.Histories.{History, text_at}
use Rattle.model_archive.specs.Holding.{HoldsPlan, HoldsPlans}
use Rattle.model_archive.specs.Legal.{IsFair, IsLoadable, MayBeStored}
use Rattle.model_archive.specs.Planning.{OfBoundaries, OfList, OfPhrase, OfWidth, last_second}
use Rattle.model_archive.specs.Plans.{live_extents}
use Rattle.model_archive.specs.Stands.{EachStands, Stands, bodies_of}
use Rattle.model_archive.specs.Verifying.{Verifies}
use Rattle.model_archive.proofs.HeldBestLemmas.{best_undamaged}
use Rattle.model_archive.specs.Steps.{Reply, Verified, Version, Bests, Cause, Adds, AddsBatch, AddsPlan, Approximates, CarriesOut, Certifies, Declines, Finishes, OfStill, Proposes, Shares, Step, StoresPlan, Works, WorksAt, WorksOn, act_of, arrival_refusal, batch_cause, deletion_refusal, mark_refusal, full_journal, in_blocks, spelled_key, stint_pages}
use Rattle.model_archive.specs.Sharing.{Notes}
use Rattle.model_archive.specs.Worlds.{Job, World, world_of}
use Rattle.plans_share.specs.declared.asked.Asking.{Asking}
use Rattle.model_archive.proofs.ChosenLemmas.{held_undamaged, made_at, made_over}
use Rattle.model_archive.proofs.RoughMade.{made_rough}
use Rattle.model_archive.proofs.HistoryLemmas.{loadable-middle}
use Rattle.model_archive.proofs.HoldLemmas.{held_alike, held_push, held_with}
use Rattle.model_archive.proofs.OutcomeLemmas.{command_keeps, command_later, loads_more, stint_loads}
use Rattle.pages_sublists.specs.declared.why.Damage.{Damage}
use Rattle.archive_check.proofs.SoundLemmas.{stands_verified}
use Rattle.model_archive.proofs.SpeakLemmas.{Speaks, approximates_speak, begins_speak, begun_works, carries_speak, certifies_speak, proposes_speak, says, shares_speak}
use Rattle.model_archive.proofs.StoringLemmas.{begins_keep, still_keeps}
use Rattle.model_archive.proofs.StandsLemmas.{spells_one_history}
use Rattle.archive_hand.specs.Jobs.{IsUnderWay, plain_job}
use Rattle.archive_hand.specs.declared.job.Job.{Job as HandJob}
use Rattle.archive_hand.specs.States.{ArchiveState, AreInStep, AreInStepBy}
use Rattle.archive_hand.specs.Stored.{Store, Answers, AnswersBest, AsksOf, Changes, MakesAt, MakesBest, MakesOver, MakesRough, MakesTop, ReadsOn, Spoils, StandsBy, Stocks, StoreStep, StoreStint, is_at_work, world_by}
use Rattle.archive_hand.proofs.ByReadsLemmas.{stands_by}
use Rattle.archive_hand.proofs.PhraseLemmas.{map_phrase}

-- what is stored stands for its history: a load accepts that, the pages hold what its live plans need, and a plan that is being written could be stored
pub record IsStanding (s : Store) : Type 0 where
  pub loadable : IsLoadable s.history
  pub may : MayBeStored s.history s.job
  pub held : HoldsPlans s.history s.pages

-- so each image that stands for it stands for the history
pub stands_standing : (s : Store) (image : Bytes) → IsStanding s → StandsBy s image → Stands s.history image
stands_standing s image standing stands = record { spelled = stands.spelled; loadable = standing.loadable; held = held_alike s.history s.pages image.pages stands.same standing.held }

-- ---- an archive and its disk that are in step with a history

-- what is being written waits behind it
pub may_by : (d : DiskState) (a : ArchiveState) (s : Store) → AreInStepBy d a s → MayBeStored s.history s.job
may_by d a s in_step = subst (MayBeStored s.history) in_step.job_is (go a.job in_step.stands.under_way)
  where
    go : (o : Option HandJob) → IsUnderWay s.history a.shelf.room o → MayBeStored s.history (plain_job o)
    go None waits = tt
    go (Some job) waits = waits.storable.entry

pub in_step_standing : (d : DiskState) (a : ArchiveState) (w : World) → (in_step : AreInStep d a w) → IsStanding in_step.store
in_step_standing d a w in_step = record {
  loadable = in_step.by_reads.stands.loadable;
  may = may_by d a in_step.store in_step.by_reads;
  held = subst (λ (x : World). HoldsPlans x.history in_step.store.pages) (sym in_step.world_is) in_step.held;
}

pub in_step_by : (d : DiskState) (a : ArchiveState) (s : Store) → AreInStepBy d a s → IsStanding s → AreInStep d a (world_by s)
in_step_by d a s in_step standing = record { store = s; world_is = refl; by_reads = in_step; held = standing.held }

-- a load accepts the history, and what is being written could be stored behind it
pub in_step_fair : (d : DiskState) (a : ArchiveState) (w : World) → AreInStep d a w → IsFair IsLoadable w
in_step_fair d a w in_step = subst (IsFair IsLoadable) in_step.world_is (record { history = in_step.by_reads.stands.loadable; job = may_by d a in_step.store in_step.by_reads })

-- each image stands for the history
pub in_step_stands : (d : DiskState) (a : ArchiveState) (w : World) → AreInStep d a w → EachStands d w.history
in_step_stands d a w in_step = λ image allowed.
    subst (λ (x : World). Stands x.history image) in_step.world_is (stands_standing in_step.store image (in_step_standing d a w in_step) (stands_by d a in_step.store in_step.by_reads image allowed))

-- after a load of bytes that stand for the history
pub loaded_in_step : (d : DiskState) (a : ArchiveState) (h : History) (old : Bytes) → (s : Store) × (AreInStepBy d a s × Spells old.journal (bodies_of s.history) × (s.pages ≡ old.pages) × (s.asked ≡ []) × (s.job ≡ None)) → Stands h old → AreInStep d a (world_of h)
loaded_in_step d a h old (s, (in_step, spelled, pages, unasked, idle)) stands = record {
  store = s;
  world_is = λ i. record { history = spells_one_history old.journal s.history h spelled in_step.stands.loadable stands.spelled stands.loadable i; asked = unasked i; job = idle i };
  by_reads = in_step;
  held = subst (λ (ps : List ℕ). HoldsPlans h ps) (sym pages) stands.held;
}

-- ---- an item adds one entry at most

abbrev IsMore : History → History → Type 0
IsMore old new = (new ≡ old) ⊎ ((e : Entry) × (new ≡ old ++ e ∷ []))

boundaries_of : (h : ℕ) (list : List Posting) (G : Type 0) → OfBoundaries h list (λ why. G) G → G
boundaries_of h list G (times, are, inl (wide, of)) = of
boundaries_of h list G (times, are, inr (narrow, of)) = of

width_of : (kind : Kind) (h : ℕ) (list : List Posting) (G : Type 0) → OfWidth kind h list (λ why. G) G → G
width_of Guarantee h list G of = boundaries_of h list G of
width_of Uniform h list G of = of
width_of (Since at) h list G of = of

list_of : (kind : Kind) (h : ℕ) (list : List Posting) (G : Type 0) → OfList kind h list (λ why. G) G → G
list_of kind h [] G of = of
list_of kind h (p ∷ list) G of = width_of kind h (p ∷ list) G of

phrase_of : (kind : Kind) (h : History) (key : Option (List ℕ)) (G : Type 0) → OfPhrase kind h key (λ why. G) (λ word list. G) → G
phrase_of kind h None G of = of
phrase_of kind h (Some word) G (inl (unknown, of)) = of
phrase_of kind h (Some word) G (inr (known, (list, is, of))) = list_of kind (last_second h) list G of

plan_more : (h : History) (plan : PlanEntry) (refusal : Option Refusal) (list : List Posting) (reply : Reply) (next : History) → AddsPlan h plan refusal list reply next → IsMore h next
plan_more h plan None list reply next adds = inr (entries.Planned plan, adds.0)
plan_more h plan (Some why) list reply next declines = inl declines.0

stored_more : (job : Option Job) (h : History) (kind : Kind) (factor : Fraction) (word : List ℕ) (list : List Posting) (reply : Reply) (next : History) → StoresPlan job h kind factor word list reply next → IsMore h next
stored_more job h kind factor word list reply next s = elim s.stores [
  | inl full ↦ inl full.1.0
  | inr fits ↦
      let (places, placed, zip, adds) = fits in
      let plan = in_blocks word kind factor s.horizon s.cuts places in
      plan_more h plan (full_journal h (entries.Planned plan)) list reply next adds
]

adds_more : (h : History) (e : Entry) (refusal : Option Refusal) (reply : Reply) (next : History) → Adds h e refusal reply next → IsMore h next
adds_more h e None reply next adds = inr (e, adds.0)
adds_more h e (Some why) reply next adds = inl adds.0

batch_more : (h : History) (e : Entry) (cause : Option Cause) (reply : Reply) (next : History) → AddsBatch h e cause reply next → IsMore h next
batch_more h e None reply next adds = inr (e, adds.0)
batch_more h e (Some cause) reply next adds = inl adds.0

command_more : (asked : List Asking) (job : Option Job) (h : History) (c : Command) (reply : Reply) (next : History) → CarriesOut asked job h c reply next → IsMore h next
command_more asked job h (commands.Arrive doc at (texts.Bytes text)) reply next step = adds_more h (entries.Arrive doc at text) (arrival_refusal h doc at text) reply next step
command_more asked job h (commands.Arrive doc at (texts.TooLong bytes)) reply next step = inl step.0
command_more asked job h (commands.Delete doc at) reply next step = adds_more h (entries.Delete doc at) (deletion_refusal h doc at) reply next step
command_more asked job h (commands.Batch (batches.Items items)) reply next step = batch_more h (entries.Batch (flat_map act_of items)) (batch_cause h items) reply next step
command_more asked job h (commands.Batch (batches.TooLong bytes)) reply next step = inl step.0
command_more asked job h commands.Format reply next step = adds_more h entries.Format (mark_refusal h) reply next step
command_more asked job h (commands.Plan phrase kind factor) reply next step =
    phrase_of kind h (spelled_key (one_term phrase)) (IsMore h next)
    (map_phrase kind h (spelled_key (one_term phrase)) (λ why. Declines h why reply next) (λ why. IsMore h next) (λ word list. OfStill job word (λ why. Declines h why reply next) (StoresPlan job h kind factor word list reply next)) (λ word list. IsMore h next)
    (λ why declines. inl declines.0)
    (λ word list of. still_keeps (IsMore h next) (λ why. Declines h why reply next) (StoresPlan job h kind factor word list reply next) (λ why declines. inl declines.0) (stored_more job h kind factor word list reply next) job word of) step)
command_more asked job h (commands.Share factor words) reply next step = inl step.0
command_more asked job h other reply next step = inl step.0

-- and so does a stint
finishes_more : (w next : World) (job : Job) (refusal : Option Refusal) (reply : Reply) → Finishes w job refusal reply next → IsMore w.history next.history
finishes_more w next job None reply is = inr (entries.Planned job.plan, ap (λ (x : World). x.history) is.0)
finishes_more w next job (Some why) reply is = inl (ap (λ (x : World). x.history) is.0)

works_more : (w next : World) (reply : Reply) → Works w reply next → IsMore w.history next.history
works_more w next reply works = go w.job works
  where
    by : (b : Bool) (job : Job) → WorksOn b w job reply next → IsMore w.history next.history
    by true job is = inl (ap (λ (x : World). x.history) is.0)
    by false job is = finishes_more w next job (full_journal w.history (entries.Planned job.plan)) reply is

    go : (o : Option Job) → WorksAt w o reply next → IsMore w.history next.history
    go None works = absurd works
    go (Some job) works = by (nat_lt stint_pages job.left) job works

-- ---- what is stored goes on standing

held_next : (s next : Store) → IsStanding s → Stocks s next → IsLoadable next.history → IsMore s.history next.history → HoldsPlans next.history next.pages
held_next s next standing stocks loads (inl same) = subst (λ (h : History). HoldsPlans h next.pages) (sym same) (held_alike s.history s.pages next.pages stocks.same standing.held)
held_next s next standing stocks loads (inr (e, is)) = subst (λ (h : History). HoldsPlans h next.pages) (sym is) (go e is)
  where
    now : HoldsPlans s.history next.pages
    now = held_alike s.history s.pages next.pages stocks.same standing.held

    go : (e : Entry) → next.history ≡ s.history ++ e ∷ [] → HoldsPlans (s.history ++ e ∷ []) next.pages
    go (entries.Arrive doc at text) is = held_push IsFitFor s.history (entries.Arrive doc at text) next.pages tt standing.loadable (loadable-middle s.history (entries.Arrive doc at text) [] (subst IsLoadable is loads)).1.allowed now
    go (entries.Delete doc at) is = held_push IsFitFor s.history (entries.Delete doc at) next.pages tt standing.loadable (loadable-middle s.history (entries.Delete doc at) [] (subst IsLoadable is loads)).1.allowed now
    go (entries.Batch batch) is = held_push IsFitFor s.history (entries.Batch batch) next.pages tt standing.loadable (loadable-middle s.history (entries.Batch batch) [] (subst IsLoadable is loads)).1.allowed now
    go entries.Format is = held_push IsFitFor s.history entries.Format next.pages tt standing.loadable (loadable-middle s.history entries.Format [] (subst IsLoadable is loads)).1.allowed now
    go (entries.Planned plan) is = held_with IsFitFor s.history plan next.pages standing.loadable (subst (λ (h : History). AreApart (live_extents h)) is stocks.apart) now (subst (λ (h : History). HoldsPlan h next.pages plan) is (stocks.held plan is))

-- a step that leaves the history and the pages
same_next : (s next : Store) → next.history ≡ s.history → next.pages ≡ s.pages → MayBeStored next.history next.job → IsStanding s → IsStanding next
same_next s next history pages may standing = record {
  loadable = subst IsLoadable (sym history) standing.loadable;
  may = may;
  held = subst (λ (h : History). HoldsPlans h next.pages) (sym history) (subst (λ (ps : List ℕ). HoldsPlans s.history ps) (sym pages) standing.held);
}

-- what a question leaves
abbrev Leaves : Store → Store → Type 0
Leaves s next = (next.history ≡ s.history) × (next.pages ≡ s.pages) × (next.asked ≡ s.asked) × (next.job ≡ s.job)

leaves_all : (s t next : Store) → next ≡ t → Leaves s t → Leaves s next
leaves_all s t next same leaves = subst (Leaves s) (sym same) leaves

asks_same : (s next : Store) (a b : ℕ) (r : Result Query ℕ) → AsksOf s a b r next → Leaves s next
asks_same s next a b (Ok query) is = leaves_all s _ next is (refl, refl, refl, refl)
asks_same s next a b (Err place) is = leaves_all s _ next is (refl, refl, refl, refl)

leaves_may : (s next : Store) → Leaves s next → IsStanding s → IsStanding next
leaves_may s next same standing =
    same_next s next same.0 same.1 (subst (λ (h : History). MayBeStored h next.job) (sym same.0) (subst (λ (o : Option Job). MayBeStored s.history o) (sym same.3) standing.may)) standing

noted_may : (s next : Store) → Leaves s (record next { asked = s.asked }) → IsStanding s → IsStanding next
noted_may s next same standing =
    same_next s next same.0 same.1 (subst (λ (h : History). MayBeStored h next.job) (sym same.0) (subst (λ (o : Option Job). MayBeStored s.history o) (sym same.3) standing.may)) standing

-- ---- the step

-- what becomes of a store by an item
abbrev Goes : Store → Item → Reply → Store → Type 0
Goes s item reply next = Step (world_by s) item reply (world_by next) × IsStanding next

-- a command that isn't noted, and is carried out
changed : (s next : Store) (c : Command) (reply : Reply) → IsStanding s → HasDocument (items.Command c) → Notes s.asked c next.asked → Changes s c reply next
    → (CarriesOut s.asked s.job s.history c reply next.history × Notes s.asked c next.asked × (next.job ≡ s.job)) × IsStanding next
changed s next c reply standing range noted (carries, still, stocks) =
    let loads = command_keeps IsLoadable loads_more s.asked s.job s.history c reply next.history standing.loadable range carries in
    ((carries, noted, still), record { loadable = loads; may = subst (λ (o : Option Job). MayBeStored next.history o) (sym still) (command_later s.asked s.job s.history c reply next.history s.job range carries standing.may); held = held_next s next standing stocks loads (command_more s.asked s.job s.history c reply next.history carries) })

found : (s : Store) (at : Time) (expr : List ℕ) (reply : Reply) (next : Store) → IsStanding s → StoreStep s (items.Command (commands.Find at expr)) reply next → Goes s (items.Command (commands.Find at expr)) reply next
found s at expr reply next standing ((Ok query, read, (rows, count, made, is), asks), noted) =
    let same = asks_same s (record next { asked = s.asked }) at.seconds (at.seconds + 1) (Ok query) asks in
    let stands = made_at s.history s.pages at.seconds query rows count standing.loadable standing.held at.before_now made in
    (((same.0, (Ok query, read, (rows, count, stands.0, stands.1, is))), noted, same.3), noted_may s next same standing)
found s at expr reply next standing ((Err place, read, is, asks), noted) =
    let same = asks_same s (record next { asked = s.asked }) at.seconds (at.seconds + 1) (Err place) asks in (((same.0, (Err place, read, is)), noted, same.3), noted_may s next same standing)

topped : (s : Store) (count : TopCount) (at : Time) (expr : List ℕ) (reply : Reply) (next : Store) → IsStanding s → StoreStep s (items.Command (commands.Top count at expr)) reply next
    → Goes s (items.Command (commands.Top count at expr)) reply next
topped s count at expr reply next standing (Ok query, read, (rows, number, made, is), asks) =
    let same = asks_same s next at.seconds (at.seconds + 1) (Ok query) asks in
    let stands = made_at s.history s.pages at.seconds query rows number standing.loadable standing.held at.before_now made in
    (((same.0, (Ok query, read, (rows, number, stands.0, stands.1, is))), same.2, same.3), leaves_may s next same standing)
topped s count at expr reply next standing (Err place, read, is, asks) =
    let same = asks_same s next at.seconds (at.seconds + 1) (Err place) asks in (((same.0, (Err place, read, is)), same.2, same.3), leaves_may s next same standing)

neared : (s : Store) (tolerance : Tolerance) (at : Time) (expr : List ℕ) (reply : Reply) (next : Store) → IsStanding s → StoreStep s (items.Command (commands.Rough tolerance at expr)) reply next
    → Goes s (items.Command (commands.Rough tolerance at expr)) reply next
neared s tolerance at expr reply next standing (Ok query, read, (rows, count, made, is), asks) =
    let same = asks_same s next 0 (2 ^ 40) (Ok query) asks in
    let stands = made_rough s.history s.pages tolerance at.seconds query rows count standing.loadable standing.held made in
    (((same.0, (Ok query, read, (rows, count, stands.0, stands.1, is))), same.2, same.3), leaves_may s next same standing)
neared s tolerance at expr reply next standing (Err place, read, is, asks) =
    let same = asks_same s next 0 (2 ^ 40) (Err place) asks in (((same.0, (Err place, read, is)), same.2, same.3), leaves_may s next same standing)

bested : (s : Store) (count : BestCount) (at : Time) (expr : List ℕ) (b : Bool) (reply : Reply) (next : Store) → IsStanding s → AnswersBest b s count at expr reply next → Leaves s next × Bests b s.history count at expr reply
bested s count at expr true reply next standing (Ok query, read, (told, made), asks) = (asks_same s next at.seconds (at.seconds + 1) (Ok query) asks, (Ok query, read, made standing.held))
bested s count at expr true reply next standing (Err place, read, is, asks) = (asks_same s next at.seconds (at.seconds + 1) (Err place) asks, (Err place, read, is))
bested s count at expr false reply next standing (same, replied) = (leaves_all s s next same (refl, refl, refl, refl), replied)

best_leaves : (b : Bool) (s : Store) (count : BestCount) (at : Time) (expr : List ℕ) (reply : Reply) (next : Store) → AnswersBest b s count at expr reply next → next.job ≡ s.job
best_leaves true s count at expr reply next (query, read, replied, asks) = (asks_same s next at.seconds (at.seconds + 1) query asks).3
best_leaves false s count at expr reply next (same, replied) = ap (λ (x : Store). x.job) same

spanned : (s : Store) (span : Span) (expr : List ℕ) (reply : Reply) (next : Store) → IsStanding s → StoreStep s (items.Command (commands.Between span expr)) reply next → Goes s (items.Command (commands.Between span expr)) reply next
spanned s span expr reply next standing (Ok query, read, (rows, count, made, is), asks) =
    let same = asks_same s next span.from span.to (Ok query) asks in
    let stands = made_over s.history s.pages span.from span.to query rows count standing.loadable standing.held span.in_time made in
    (((same.0, (Ok query, read, (rows, count, stands.0, stands.1, is))), same.2, same.3), leaves_may s next same standing)
spanned s span expr reply next standing (Err place, read, is, asks) =
    let same = asks_same s next span.from span.to (Err place) asks in (((same.0, (Err place, read, is)), same.2, same.3), leaves_may s next same standing)

-- a question that changes nothing, or nothing but how much was read
asked : (s next : Store) (T : Type 0) → Leaves s next → T → IsStanding s → (((next.history ≡ s.history) × T) × (next.asked ≡ s.asked) × (next.job ≡ s.job)) × IsStanding next
asked s next T same is standing = (((same.0, is), same.2, same.3), leaves_may s next same standing)

same_all : (s next : Store) → next ≡ s → Leaves s next
same_all s next same = leaves_all s s next same (refl, refl, refl, refl)

reads_all : (s next : Store) → ReadsOn s next → Leaves s next
reads_all s next reads = leaves_all s _ next reads (refl, refl, refl, refl)

begun : (s : Store) (word : List ℕ) (factor : Fraction) (reply : Reply) (next : Store) → IsStanding s → StoreStep s (items.Command (commands.Begin word factor)) reply next → Goes s (items.Command (commands.Begin word factor)) reply next
begun s word factor reply next standing (begins, same) =
    let fair = begins_keep IsLoadable (world_by s) word factor reply (world_by next) (record { history = standing.loadable; job = standing.may }) begins in
    (begins, same_next s next (ap (λ (x : Store). x.history) same) (ap (λ (x : Store). x.pages) same) fair.job standing)

pub step_standing : (s : Store) (item : Item) (reply : Reply) (next : Store) → IsStanding s → HasDocument item → StoreStep s item reply next → Step (world_by s) item reply (world_by next) × IsStanding next
step_standing s (items.Command (commands.Arrive doc at text)) reply next standing range changes = changed s next (commands.Arrive doc at text) reply standing range changes.2.asked changes
step_standing s (items.Command (commands.Delete doc at)) reply next standing range changes = changed s next (commands.Delete doc at) reply standing range changes.2.asked changes
step_standing s (items.Command commands.Format) reply next standing range changes = changed s next commands.Format reply standing range changes.2.asked changes
step_standing s (items.Command (commands.Batch batch)) reply next standing range changes = changed s next (commands.Batch batch) reply standing range changes.2.asked changes
step_standing s (items.Command (commands.Plan word kind fraction)) reply next standing range changes = changed s next (commands.Plan word kind fraction) reply standing range changes.2.asked changes
step_standing s (items.Command (commands.Find at expr)) reply next standing range step = found s at expr reply next standing step
step_standing s (items.Command (commands.Top count at expr)) reply next standing range step = topped s count at expr reply next standing step
step_standing s (items.Command (commands.Rough tolerance at expr)) reply next standing range step = neared s tolerance at expr reply next standing step
step_standing s (items.Command (commands.Between span expr)) reply next standing range step = spanned s span expr reply next standing step
step_standing s (items.Command (commands.Begin word factor)) reply next standing range step = begun s word factor reply next standing step
step_standing s (items.Command (commands.Approx word tolerance)) reply next standing range (same, is) = asked s next (Approximates s.history word tolerance reply) (same_all s next same) is standing
step_standing s (items.Command (commands.Best count at expr)) reply next standing range step =
    let best = bested s count at expr (asks_for_any expr) reply next standing step in asked s next (Bests (asks_for_any expr) s.history count at expr reply) best.0 best.1 standing
step_standing s (items.Command (commands.Show doc at)) reply next standing range (reads, is) = asked s next (reply ≡ Version (text_at s.history doc at.seconds)) (reads_all s next reads) is standing
step_standing s (items.Command (commands.Propose word fraction)) reply next standing range (same, is) = asked s next (Proposes s.history word fraction reply) (same_all s next same) is standing
step_standing s (items.Command (commands.Certificate word)) reply next standing range (same, certifies) = asked s next (Certifies s.history word reply) (same_all s next same) certifies standing
step_standing s (items.Command (commands.Share factor words)) reply next standing range (same, shares) = asked s next (Shares s.asked s.history words factor.fraction reply) (same_all s next same) shares standing
step_standing s (items.Command commands.Verify) reply next standing range (reads, (journal, verdict, spelled, checked, is)) =
    let image : Bytes = record { journal = journal; pages = s.pages } in
    let verifies = stands_verified s.history image verdict (record { spelled = spelled; loadable = standing.loadable; held = standing.held }) checked in
    asked s next ((verdict : Verdict) × Verifies s.history verdict × (reply ≡ Verified verdict)) (reads_all s next reads) (verdict, verifies, is) standing
step_standing s items.Line reply next standing range (same, is) = ((ap world_by same, is), leaves_may s next (same_all s next same) standing)

-- each item is answered, whatever lies in Pages
replied_so : (Makes : Query → Reply → Type 0) → ((query : Query) (reply : Reply) → Makes query reply → Speaks reply) → (s : Store) (a b : ℕ) (text : List ℕ) (reply : Reply) (next : Store) → Answers Makes s a b text reply next → Speaks reply
replied_so Makes each s a b text reply next (Ok query, read, makes, asks) = each query reply makes
replied_so Makes each s a b text reply next (Err place, read, is, asks) = says reply _ is tt

best_speaks : (b : Bool) (s : Store) (count : BestCount) (at : Time) (text : List ℕ) (reply : Reply) (next : Store) → AnswersBest b s count at text reply next → Speaks reply
best_speaks true s count at text reply next is = replied_so (MakesBest s count at) (λ query reply by. says reply _ by.0.4 tt) s at.seconds (at.seconds + 1) text reply next is
best_speaks false s count at text reply next (same, (Ok query, read, is)) = says reply _ is tt
best_speaks false s count at text reply next (same, (Err place, read, is)) = says reply _ is tt

pub store_speaks : (s : Store) (item : Item) (reply : Reply) (next : Store) → StoreStep s item reply next → Speaks reply
store_speaks s (items.Command (commands.Arrive doc at text)) reply next is = carries_speak s.asked s.job s.history (commands.Arrive doc at text) reply next.history is.0
store_speaks s (items.Command (commands.Delete doc at)) reply next is = carries_speak s.asked s.job s.history (commands.Delete doc at) reply next.history is.0
store_speaks s (items.Command commands.Format) reply next is = carries_speak s.asked s.job s.history commands.Format reply next.history is.0
store_speaks s (items.Command (commands.Batch batch)) reply next is = carries_speak s.asked s.job s.history (commands.Batch batch) reply next.history is.0
store_speaks s (items.Command (commands.Plan word kind fraction)) reply next is = carries_speak s.asked s.job s.history (commands.Plan word kind fraction) reply next.history is.0
store_speaks s (items.Command (commands.Find at expr)) reply next is = replied_so (MakesAt s at) (λ query reply by. says reply _ by.3 tt) s at.seconds (at.seconds + 1) expr reply (record next { asked = s.asked }) is.0
store_speaks s (items.Command (commands.Top count at expr)) reply next is = replied_so (MakesTop s count at) (λ query reply by. says reply _ by.3 tt) s at.seconds (at.seconds + 1) expr reply next is
store_speaks s (items.Command (commands.Rough tolerance at expr)) reply next is = replied_so (MakesRough s tolerance at) (λ query reply by. says reply _ by.3 tt) s 0 (2 ^ 40) expr reply next is
store_speaks s (items.Command (commands.Between span expr)) reply next is = replied_so (MakesOver s span) (λ query reply by. says reply _ by.3 tt) s span.from span.to expr reply next is
store_speaks s (items.Command (commands.Begin word factor)) reply next is = begins_speak (world_by s) word factor reply (world_by next) is.0
store_speaks s (items.Command (commands.Approx word tolerance)) reply next is = approximates_speak s.history word tolerance reply is.1
store_speaks s (items.Command (commands.Best count at expr)) reply next is = best_speaks (asks_for_any expr) s count at expr reply next is
store_speaks s (items.Command (commands.Show doc at)) reply next is = says reply _ is.1 tt
store_speaks s (items.Command (commands.Propose word fraction)) reply next is = proposes_speak s.history word fraction reply is.1
store_speaks s (items.Command (commands.Certificate word)) reply next is = certifies_speak s.history word reply is.1
store_speaks s (items.Command (commands.Share factor words)) reply next is = shares_speak s.asked s.history words factor.fraction reply is.1
store_speaks s (items.Command commands.Verify) reply next is = says reply _ is.1.4 tt
store_speaks s items.Line reply next is = says reply _ is.1 tt

-- and no item ends the work on a plan
pub works_on_by : (s : Store) (item : Item) (reply : Reply) (next : Store) → StoreStep s item reply next → is_at_work s ≡ true → is_at_work next ≡ true
works_on_by s (items.Command (commands.Begin word factor)) reply next is working = begun_works (world_by s) word factor reply (world_by next) is.0 working
works_on_by s (items.Command (commands.Arrive doc at text)) reply next is working = ap is_some is.1 ∙ working
works_on_by s (items.Command (commands.Delete doc at)) reply next is working = ap is_some is.1 ∙ working
works_on_by s (items.Command commands.Format) reply next is working = ap is_some is.1 ∙ working
works_on_by s (items.Command (commands.Batch batch)) reply next is working = ap is_some is.1 ∙ working
works_on_by s (items.Command (commands.Plan word kind fraction)) reply next is working = ap is_some is.1 ∙ working
works_on_by s (items.Command (commands.Find at expr)) reply next is working = let (query, read, replied, asks) = is.0 in ap is_some (asks_same s (record next { asked = s.asked }) at.seconds (at.seconds + 1) query asks).3 ∙ working
works_on_by s (items.Command (commands.Top count at expr)) reply next (query, read, replied, asks) working = ap is_some (asks_same s next at.seconds (at.seconds + 1) query asks).3 ∙ working
works_on_by s (items.Command (commands.Rough tolerance at expr)) reply next (query, read, replied, asks) working = ap is_some (asks_same s next 0 (2 ^ 40) query asks).3 ∙ working
works_on_by s (items.Command (commands.Between span expr)) reply next (query, read, replied, asks) working = ap is_some (asks_same s next span.from span.to query asks).3 ∙ working
works_on_by s (items.Command (commands.Best count at expr)) reply next is working = ap is_some (best_leaves (asks_for_any expr) s count at expr reply next is) ∙ working
works_on_by s (items.Command (commands.Approx word tolerance)) reply next is working = ap is_some (same_all s next is.0).3 ∙ working
works_on_by s (items.Command (commands.Show doc at)) reply next is working = ap is_some (reads_all s next is.0).3 ∙ working
works_on_by s (items.Command (commands.Propose word fraction)) reply next is working = ap is_some (same_all s next is.0).3 ∙ working
works_on_by s (items.Command (commands.Certificate word)) reply next is working = ap is_some (same_all s next is.0).3 ∙ working
works_on_by s (items.Command (commands.Share factor words)) reply next is working = ap is_some (same_all s next is.0).3 ∙ working
works_on_by s (items.Command commands.Verify) reply next is working = ap is_some (reads_all s next is.0).3 ∙ working
works_on_by s items.Line reply next is working = ap is_some (same_all s next is.0).3 ∙ working

-- a stint of the work on a plan
pub stint_standing : (s : Store) (reply : Reply) (next : Store) → IsStanding s → StoreStint s reply next → Works (world_by s) reply (world_by next) × IsStanding next
stint_standing s reply next standing (works, stocks) =
    let fair = stint_loads (world_by s) (world_by next) reply (record { history = standing.loadable; job = standing.may }) works in
    (works, record { loadable = fair.history; may = fair.job; held = held_next s next standing stocks fair.history (works_more (world_by s) (world_by next) reply works) })

-- and nothing is damaged of what is read for an item
pub spoiled_never : (s : Store) (item : Item) (damage : Damage) → IsStanding s → Spoils s item damage → ⊥
spoiled_never s (items.Command (commands.Find at expr)) damage standing spoils =
    held_undamaged s.history s.pages spoils.first.word at.seconds (at.seconds + 1) damage standing.loadable standing.held spoils.first.damaged
spoiled_never s (items.Command (commands.Top count at expr)) damage standing spoils =
    held_undamaged s.history s.pages spoils.first.word at.seconds (at.seconds + 1) damage standing.loadable standing.held spoils.first.damaged
spoiled_never s (items.Command (commands.Rough tolerance at expr)) damage standing spoils =
    held_undamaged s.history s.pages spoils.first.word 0 (2 ^ 40) damage standing.loadable standing.held spoils.first.damaged
spoiled_never s (items.Command (commands.Best count at expr)) damage standing spoils = best_undamaged s.history s.pages at.seconds expr damage standing.loadable standing.held spoils
spoiled_never s (items.Command (commands.Between span expr)) damage standing spoils =
    held_undamaged s.history s.pages spoils.first.word span.from span.to damage standing.loadable standing.held spoils.first.damaged
spoiled_never s other damage standing spoils = spoils
