-- Going over entries: one entry more, and one that is refused.
use Rattle.std.proofs.Common.{◌≡◌, ℕ, ◌+◌, ◌<◌, ◌≤◌, ◌^◌, Bool, true, false, nat_lt, IsTrue, ◌↔◌, List, [], ◌∷◌, ◌++◌, length, map, sum_by, unwrap_or, Option, Some, None, IsSome, Result, Ok, Err, OnOk, inr, refl, ap, subst, sym, ◌∙◌, arith, append_assoc, append-nil}
use Rattle.machine_model.specs.States.{DiskState}
use Rattle.machine_model.specs.Calls.{OnlyReads}
use Rattle.journal_gates.specs.declared.head.Head.{Head}
use Rattle.journal_gates.specs.Records.{front}
use Rattle.journal_gates.specs.Heads.{heads_of}
use Rattle.journal_gates.specs.Spelled.{Spells}
use Rattle.journal_gates.specs.Bodies.{BodiesState, body_at, AreBehind, AreLeft}
use Rattle.journal_gates.proofs.BodyLemmas.{left_none}
use Rattle.base_types.specs.declared.ids.DocId.{DocId}
use Rattle.base_types.specs.declared.time.Time.{Time}
use Rattle.base_types.specs.declared.text_place.TextPlace.{TextPlace}
use Rattle.lists_versions.specs.declared.change.Change.{Change}
use Rattle.lists_versions.specs.declared.refusal.VersionRefusal.{VersionRefusal}
use Rattle.lists_versions.specs.Refusals.{arrive_refusal, change_refusal, delete_refusal}
use Rattle.journal_entries.specs.Acts.{act_length, alone, IsBatch}
use Rattle.journal_entries.specs.declared.act.Act.{Act}
use Rattle.journal_entries.specs.Spelling.{spelling, IsEntry}
use Rattle.journal_entries.specs.declared.entry.Entry.{Entry}
use Rattle.journal_entries.specs.declared.entry.Entry.TheVariants.{Arrive, Delete, Planned, Format, Batch}
use Rattle.std.specs.Option.{option_map}
use Rattle.model_archive.specs.Refusals.{refusal_of}
use Rattle.lists_versions.specs.Tests.{first_of}
use Rattle.lists_index.specs.Words.{words_in}
use Rattle.lists_index.specs.Indexing.{ComesLater}
use Rattle.lists_index.specs.Loads.{Loaded, AreLoaded}
use Rattle.model_archive.specs.declared.refusal.Refusal.{Refusal}
use Rattle.model_archive.specs.declared.refusal.Refusal.TheVariants.{HasFormat}
use Rattle.model_archive.specs.declared.stored.StoredPlan.{StoredPlan}
use Rattle.model_archive.specs.Histories.{History, acts, changes, singles, end_of, entry_refusal, is_mark, is_marked, old_format, long_batch, most_batch}
use Rattle.model_archive.specs.Legal.{EachAllowed, MayBePlanned}
use Rattle.model_archive.proofs.BatchLemmas.{none_found, allowed_behind, batch_allowed, batch_changes, batch_may}
use Rattle.model_archive.proofs.LiveLemmas.{allowed_push}
use Rattle.model_archive.proofs.StoringLemmas.{list_behind}
use Rattle.archive_entries.specs.Texts.{bare, nothing}
use Rattle.plans_kinds.specs.Plans.{IsFitFor}
use Rattle.journal_entries.specs.declared.plan.PlanEntry.{PlanEntry}
use Rattle.lists_versions.specs.Changes.{last_time, mapped}
use Rattle.lists_versions.proofs.Mapped.{last_time-mapped}
use Rattle.std.proofs.lemmas.Bool.{lt-ltb}
use Rattle.std.proofs.lemmas.List.{map-append}
use Rattle.std.proofs.lemmas.List.Sums.{sum_by-cons}
use Rattle.model_archive.specs.Stands.{bodies_of}
use Rattle.model_archive.proofs.HistoryLemmas.{bodies_of-push, changes-push, end_of-push, end_of_is, marked_push, unmarked_push}
use Rattle.archive_entries.specs.Places.{ArePlaced, pair_of, placed_acts}
use Rattle.model_archive.proofs.RefusalLemmas.{arrival-refused, arrival-words, when_false}
use Rattle.archive_entries.specs.Entries.{IsChange, Makes, IsHeld, text_of}
use Rattle.archive_entries.proofs.IndexLemmas.{change_of, changes_marked, changes_still, makes_change, makes_is_change, takes_change, words_full, words_within}
use Rattle.archive_entries.specs.Replaying.{IsTimely, IfTimely, IsOpen, AreOpen, plans_in, plans_from, IsReached, AreMet, HasAhead, IsGoneOver, IsFaulty, IsReplaying, IsNextBad}
use Rattle.archive_entries.proofs.PlaceLemmas.{bare_arrive_refusal, bare_changes, bare_delete_refusal, makes_bare, placed_batch, placed_mark, placed_more, placed_plan}

-- ---- entries that may come as far as is asked at once

pub open_push : (before h : History) (e : Entry) → AreOpen before h → IsOpen (before ++ h) e → AreOpen before (h ++ e ∷ [])
open_push before [] e opens next = (let P : History → Type 0 = λ g. IsOpen g e in subst P (append-nil before) next, tt)
open_push before (x ∷ h) e opens next = (
  opens.0,
  open_push (before ++ x ∷ []) h e opens.1 (let P : History → Type 0 = λ g. IsOpen g e in subst P (sym (append_assoc before (x ∷ []) h)) next),
)

pub open_allowed : (before h : History) → AreOpen before h → EachAllowed before h
open_allowed before [] opens = tt
open_allowed before (e ∷ h) opens = (opens.0.allowed, open_allowed (before ++ e ∷ []) h opens.1)

-- the plans of entries with one more
plans_after : (gate last : ℕ) (h : History) (e : Entry) → last ≡ gate + sum_by (λ (x : Entry). length (spelling x) + 5) h → plans_from gate (h ++ e ∷ []) ≡ plans_from gate h ++ plans_in last e
plans_after gate last [] e at = append-nil (plans_in gate e) ∙ ap (λ (n : ℕ). plans_in n e) (omega (arith, at))
plans_after gate last (x ∷ h) e at =
    ap (λ (l : List StoredPlan). plans_in gate x ++ l) (plans_after (gate + 5 + length (spelling x)) last h e (omega (arith, at, sum_by-cons (λ (y : Entry). length (spelling y) + 5) x h)))
    ∙ sym (append_assoc (plans_in gate x) (plans_from (gate + 5 + length (spelling x)) h) (plans_in last e))

plans_push : (h : History) (e : Entry) (gate : ℕ) → end_of h ≡ gate + 1 → plans_from 16 (h ++ e ∷ []) ≡ plans_from 16 h ++ plans_in gate e
plans_push h e gate at = plans_after 16 gate h e (omega (arith, at))

-- a change is timely, no plan, and not the mark
timely_change : (h : History) (gate : ℕ) (e : Entry) → IsChange e → IfTimely h e × (plans_in gate e ≡ []) × (is_mark e ≡ false)
timely_change h gate (Arrive doc at text) change = (tt, refl, refl)
timely_change h gate (Delete doc at) change = (tt, refl, refl)
timely_change h gate (Planned plan) change = absurd change
timely_change h gate Format change = absurd change
timely_change h gate (Batch batch) change = absurd change

-- ---- a change of a document

-- the directory's cause against an entry
abbrev directory_refusal : History → Entry → Option VersionRefusal
directory_refusal h (Arrive doc at text) = arrive_refusal doc at (changes h)
directory_refusal h (Delete doc at) = delete_refusal doc at (changes h)
directory_refusal h other = None

-- is its cause against the change that the entry makes
makes_refusal : (e : Entry) (x : Change ℕ) (h : History) (cs : List (Change TextPlace)) → Makes e x → map bare cs ≡ map bare (changes h) → change_refusal x cs ≡ directory_refusal h e
makes_refusal (Arrive doc at text) x h cs makes same = rw (makes.2, ← makes.0, ← makes.1) (bare_arrive_refusal doc at h cs same)
makes_refusal (Delete doc at) x h cs makes same = rw (makes.2, ← makes.0, ← makes.1) (bare_delete_refusal doc at h cs same)
makes_refusal (Planned plan) x h cs makes same = absurd makes
makes_refusal Format x h cs makes same = absurd makes
makes_refusal (Batch batch) x h cs makes same = absurd makes

entry_allowed : (h : History) (e : Entry) → IsChange e → directory_refusal h e ≡ None → length (words_in (changes h ++ change_of e ∷ [])) ≤ 2 ^ 20 → entry_refusal h e ≡ None
entry_allowed h (Arrive doc at text) change allowed within = arrival-words h doc at text allowed ∙ ap (λ (o : Option Refusal). first_of (o ∷ [])) (words_within h (Arrive doc at text) tt within)
entry_allowed h (Delete doc at) change allowed within = ap (option_map refusal_of) allowed
entry_allowed h (Planned plan) change allowed within = absurd change
entry_allowed h Format change allowed within = absurd change
entry_allowed h (Batch batch) change allowed within = absurd change

entry_refused : (h : History) (e : Entry) (why : VersionRefusal) → directory_refusal h e ≡ Some why → entry_refusal h e ≡ None → ⊥
entry_refused h (Arrive doc at text) why refused none = let some = arrival-refused h doc at text why refused in cc
entry_refused h (Delete doc at) why refused none = let some = ap (option_map refusal_of) refused in cc
entry_refused h (Planned plan) why refused none = absurd cc
entry_refused h Format why refused none = absurd cc
entry_refused h (Batch batch) why refused none = absurd cc

entry_words : (h : History) (e : Entry) → directory_refusal h e ≡ None → IsSome (text_of e) → 2 ^ 20 < length (words_in (changes h ++ change_of e ∷ [])) → entry_refusal h e ≡ None → ⊥
entry_words h (Arrive doc at text) allowed some over none =
    let full = arrival-words h doc at text allowed ∙ ap (λ (o : Option Refusal). first_of (o ∷ [])) (words_full h (Arrive doc at text) tt over) in
    cc
entry_words h (Delete doc at) allowed some over none = cc
entry_words h (Planned plan) allowed some over none = cc
entry_words h Format allowed some over none = cc
entry_words h (Batch batch) allowed some over none = cc

-- what follows where a result is Ok
pub on_ok : {A B : Type 0} {P Q R : Type 0} (r : Result A B) → OnOk r P → OnOk r Q → (P → Q → R) → OnOk r R
on_ok (Ok a) p q follows = follows p q
on_ok (Err e) p q follows = tt

-- what a load has where its entries were gone over
pub reached_met : {marked : Bool} (gate : ℕ) (h : History) (cs : List (Change TextPlace)) (plans : List StoredPlan) (loader : Loaded) → IsReached gate h cs plans marked → AreLoaded loader (changes h) → AreMet h cs loader
reached_met gate h cs plans loader reached loads = record { allowed = open_allowed [] h reached.opens; same = bare_changes 16 h cs reached.placed; loads = loads }

-- a change that neither the directory nor the index refuses
pub met_more : (h : History) (e : Entry) (x : Change ℕ) (held : Option TextPlace) (at : ℕ) (cs more : List (Change TextPlace)) (loader after : Loaded) (text : Option (List ℕ))
    → AreMet h cs loader → Makes e x → change_refusal x cs ≡ None → IsHeld at x.held held → more ≡ cs ++ record { doc = x.doc; at = x.at; held = held } ∷ [] → text ≡ text_of e
    → length (words_in (changes h ++ record { doc = x.doc; at = x.at; held = text } ∷ [])) ≤ 2 ^ 20
    → (ComesLater (changes h) (record { doc = x.doc; at = x.at; held = text }) → AreLoaded after (changes h ++ record { doc = x.doc; at = x.at; held = text } ∷ []))
    → (entry_refusal h e ≡ None) × AreMet (h ++ e ∷ []) more after
met_more h e x held at cs more loader after text met makes allowed is pushed same within takes =
    let change = makes_change e x text makes same in
    let is_change = makes_is_change e x makes in
    let one : List (Change TextPlace) = record { doc = x.doc; at = x.at; held = held } ∷ [] in
    let may : entry_refusal h e ≡ None = entry_allowed h e is_change (sym (makes_refusal e x h cs makes met.same) ∙ allowed) (omega (arith, within, ap (λ (c : Change (List ℕ)). length (words_in (changes h ++ c ∷ []))) change)) in (
      may,
      record {
        allowed = allowed_push [] h e met.allowed may;
        same = ap (λ (l : List (Change TextPlace)). map bare l) pushed ∙ map-append bare cs one ∙ (λ i. met.same i ++ makes_bare e x held at makes is i) ∙ sym (map-append bare (changes h) (acts e))
            ∙ ap (λ (l : List (Change (List ℕ))). map bare l) (sym (changes-push h e));
        loads = takes_change (AreLoaded after) h e x text makes same met.allowed may takes;
      },
    )

-- one that the directory refuses
pub met_refused : (h : History) (e : Entry) (x : Change ℕ) (why : VersionRefusal) (cs : List (Change TextPlace)) (loader : Loaded) → AreMet h cs loader → Makes e x → change_refusal x cs ≡ Some why → entry_refusal h e ≡ None → ⊥
met_refused h e x why cs loader met makes refused = entry_refused h e why (sym (makes_refusal e x h cs makes met.same) ∙ refused)

-- one whose words are too many
pub met_wordy : (h : History) (e : Entry) (x : Change ℕ) (cs : List (Change TextPlace)) (loader : Loaded) (text : Option (List ℕ)) → AreMet h cs loader → Makes e x → change_refusal x cs ≡ None → text ≡ text_of e → IsSome text
    → 2 ^ 20 < length (words_in (changes h ++ record { doc = x.doc; at = x.at; held = text } ∷ [])) → entry_refusal h e ≡ None → ⊥
met_wordy h e x cs loader text met makes allowed same some over =
    entry_words h e (sym (makes_refusal e x h cs makes met.same) ∙ allowed) (subst (λ (o : Option (List ℕ)). IsSome o) same some)
    (omega (arith, over, ap (λ (c : Change (List ℕ)). length (words_in (changes h ++ c ∷ []))) (makes_change e x text makes same)))

-- an entry that is a change and isn't refused
pub gone_over : {marked now_marked : Bool} (gate : ℕ) (h : History) (e : Entry) (x : Change ℕ) (held : Option TextPlace) (cs more : List (Change TextPlace)) (plans others : List StoredPlan) (loader : Loaded)
    → IsReached gate h cs plans marked → IsEntry e → Makes e x → entry_refusal h e ≡ None → AreMet (h ++ e ∷ []) more loader → IsHeld (gate + 18) x.held held
    → more ≡ cs ++ record { doc = x.doc; at = x.at; held = held } ∷ [] → others ≡ plans → now_marked ≡ marked → IsGoneOver gate h (spelling e) more others now_marked loader
gone_over gate h e x held cs more plans others loader reached ranges makes may met is pushed same still =
    let timely = timely_change h gate e (makes_is_change e x makes) in
    record {
      entry = e;
      spelled = refl;
      reached = record {
        opens = open_push [] h e reached.opens (record { ranges = ranges; allowed = may; timely = timely.0 });
        gate_is = omega (arith, reached.gate_is, end_of-push h e);
        placed = subst (λ (l : List (Change TextPlace)). ArePlaced 16 (h ++ e ∷ []) l) (sym pushed) (placed_more h cs e x held gate reached.placed reached.gate_is makes is);
        plans_are = same ∙ reached.plans_are ∙ sym (plans_push h e gate reached.gate_is ∙ ap (λ (l : List StoredPlan). plans_from 16 h ++ l) timely.1 ∙ append-nil (plans_from 16 h));
        marked_is = still ∙ reached.marked_is ∙ sym (unmarked_push h e timely.2);
      };
      loads = met.loads;
    }

-- an entry that is refused
pub faulty : (gate : ℕ) (h : History) (e : Entry) (at : ℕ) → IsEntry e → (entry_refusal h e ≡ None → ⊥) → at ≡ gate → IsFaulty gate h (spelling e) at
faulty gate h e at ranges refused here = inr (record { entry = e; ranges = ranges; spelled = refl; refused = λ may. refused may.allowed }, here)

-- ---- a batch

-- a batch that isn't refused
pub batch_over : {now_marked : Bool} (gate : ℕ) (h : History) (batch : List Act) (cs more : List (Change TextPlace)) (plans others : List StoredPlan) (loader : Loaded)
    → IsReached gate h cs plans true → IsBatch batch → nat_lt most_batch (sum_by act_length batch) ≡ false → AreMet (h ++ singles batch) more loader
    → map (mapped pair_of) more ≡ map (mapped pair_of) cs ++ placed_acts (gate + 10) batch → others ≡ plans → now_marked ≡ true → IsGoneOver gate h (spelling (Batch batch)) more others now_marked loader
batch_over gate h batch cs more plans others loader reached ranges short met pushed same still =
    let may = batch_may h batch (sym reached.marked_is) short (allowed_behind [] h (singles batch) met.allowed) in
    record {
      entry = Batch batch;
      spelled = refl;
      reached = record {
        opens = open_push [] h (Batch batch) reached.opens (record { ranges = ranges; allowed = may; timely = tt });
        gate_is = omega (arith, reached.gate_is, end_of-push h (Batch batch));
        placed = placed_batch h cs more batch gate reached.placed reached.gate_is pushed;
        plans_are = same ∙ reached.plans_are ∙ sym (plans_push h (Batch batch) gate reached.gate_is ∙ append-nil (plans_from 16 h));
        marked_is = still ∙ reached.marked_is ∙ sym (unmarked_push h (Batch batch) refl);
      };
      loads = subst (λ (l : List (Change (List ℕ))). AreLoaded loader l) (sym (batch_changes h batch)) met.loads;
    }

-- one that isn't marked, or is too long
pub unmarked_batch : (h : History) (batch : List Act) (marked : Bool) → marked ≡ is_marked h → marked ≡ false → entry_refusal h (Batch batch) ≡ None → ⊥
unmarked_batch h batch marked is none may = let there : is_marked h ≡ false = sym is ∙ none in let first = (none_found (old_format h) _ may).0 in cc

pub long_texts : (h : History) (batch : List Act) → most_batch < sum_by act_length batch → entry_refusal h (Batch batch) ≡ None → ⊥
long_texts h batch past may = let over = lt-ltb most_batch (sum_by act_length batch) past in let second = (none_found (long_batch (sum_by act_length batch)) _ (none_found (old_format h) _ may).1).0 in cc

-- one of whose acts is refused, behind those before it
pub bad_act : (h : History) (early : List Act) (act : Act) (late : List Act) → (entry_refusal (h ++ singles early) (alone act) ≡ None → ⊥) → entry_refusal h (Batch (early ++ act ∷ late)) ≡ None → ⊥
bad_act h early act late refused may =
    let E : History → Type 0 = λ g. EachAllowed h g in
    refused (allowed_behind h (singles early) (alone act ∷ singles late) (subst E (map-append alone early (act ∷ late)) (batch_allowed h (early ++ act ∷ late) may))).0

-- those before it are loaded
pub acts_ahead : (h : History) (early : List Act) (cs : List (Change TextPlace)) (loader after : Loaded) → AreMet (h ++ singles early) cs loader → after ≡ loader → HasAhead h after
acts_ahead h early cs loader after met same =
    let L : Loaded → Type 0 = λ l. AreLoaded l (changes (h ++ singles early)) in
    record { ahead = singles early; allowed = allowed_behind [] h (singles early) met.allowed; loads = subst L (sym same) met.loads }

-- ---- a plan

-- the last time, with places or texts
placed_last : (h : History) (cs : List (Change TextPlace)) → ArePlaced 16 h cs → last_time cs ≡ last_time (changes h)
placed_last h cs placed =
    sym (last_time-mapped (nothing {A = TextPlace}) cs) ∙ ap last_time (bare_changes 16 h cs placed) ∙ last_time-mapped (nothing {A = List ℕ}) (changes h)

timely_by : {A B : Type 0} (cs : List (Change A)) (ds : List (Change B)) (plan : PlanEntry) → last_time cs ≡ last_time ds → IsTimely cs plan → IsTimely ds plan
timely_by cs ds plan same timely = (timely.0, (sym same ∙ timely.1.0, timely.1.1))

-- the test of it
pub timely_at : (cs : List (Change TextPlace)) (plan : PlanEntry) (last : Time) (b : Bool) → last_time cs ≡ Some last → (IsTrue b ↔ (plan.horizon.seconds ≤ last.seconds)) → IsTrue b ↔ IsTimely cs plan
timely_at cs plan last b is by = (
  (λ holds. (last, (is, by.0 holds))),
  (λ timely. by.1 (let T : Time → Type 0 = λ t. plan.horizon.seconds ≤ t.seconds in let same : timely.0 ≡ last = (let there = timely.1.0 in cc) in subst T same timely.1.1)),
)

-- what may be planned is timely
some_last : (o : Option Time) (n : ℕ) → 0 < n → n ≤ unwrap_or (option_map (λ (t : Time). t.seconds) o) 0 → (t : Time) × ((o ≡ Some t) × (n ≤ t.seconds))
some_last None n some within = absurd (omega (arith, some, within))
some_last (Some t) n some within = (t, (refl, within))

pub planned_timely : (h : History) (plan : PlanEntry) → MayBePlanned IsFitFor h plan → IsTimely (changes h) plan
planned_timely h plan may = some_last (last_time (changes h)) plan.horizon.seconds (list_behind may.list plan.horizon.seconds may.some may.list_is.inside) may.past

pub plan_over : {marked : Bool} (gate : ℕ) (h : History) (plan : PlanEntry) (cs : List (Change TextPlace)) (plans : List StoredPlan) (loader : Loaded)
    → IsReached gate h cs plans marked → IsEntry (Planned plan) → IsTimely cs plan → AreLoaded loader (changes h) → IsGoneOver gate h (spelling (Planned plan)) cs (plans ++ record { gate = gate; plan = plan } ∷ []) marked loader
plan_over gate h plan cs plans loader reached ranges timely loads =
    record {
      entry = Planned plan;
      spelled = refl;
      reached = record {
        opens = open_push [] h (Planned plan) reached.opens (record { ranges = ranges; allowed = refl; timely = timely_by cs (changes h) plan (placed_last h cs reached.placed) timely });
        gate_is = omega (arith, reached.gate_is, end_of-push h (Planned plan));
        placed = placed_plan h cs plan reached.placed;
        plans_are = ap (λ (l : List StoredPlan). l ++ record { gate = gate; plan = plan } ∷ []) reached.plans_are ∙ sym (plans_push h (Planned plan) gate reached.gate_is);
        marked_is = reached.marked_is ∙ sym (unmarked_push h (Planned plan) refl);
      };
      loads = subst (λ (l : List (Change (List ℕ))). AreLoaded loader l) (sym (changes_still h plan)) loads;
    }

pub plan_there : {marked : Bool} (gate : ℕ) (h : History) (plan : PlanEntry) (cs : List (Change TextPlace)) (plans : List StoredPlan) (at : ℕ)
    → IsReached gate h cs plans marked → IsEntry (Planned plan) → (IsTimely cs plan → ⊥) → at ≡ gate → IsFaulty gate h (spelling (Planned plan)) at
plan_there gate h plan cs plans at reached ranges late here =
    inr (record { entry = Planned plan; ranges = ranges; spelled = refl; refused = λ may. late (timely_by (changes h) cs plan (sym (placed_last h cs reached.placed)) (planned_timely h plan may.planned)) }, here)

-- ---- the mark

pub mark_over : (gate : ℕ) (h : History) (cs : List (Change TextPlace)) (plans : List StoredPlan) (marked : Bool) (loader : Loaded)
    → IsReached gate h cs plans marked → marked ≡ false → AreLoaded loader (changes h) → IsGoneOver gate h (spelling Format) cs plans true loader
mark_over gate h cs plans marked loader reached none loads =
    let is_unmarked : is_marked h ≡ false = sym reached.marked_is ∙ none in
    record {
      entry = Format;
      spelled = refl;
      reached = record {
        opens = open_push [] h Format reached.opens (record { ranges = tt; allowed = when_false (is_marked h) HasFormat is_unmarked; timely = tt });
        gate_is = omega (arith, reached.gate_is, end_of-push h Format);
        placed = placed_mark h cs reached.placed;
        plans_are = reached.plans_are ∙ sym (plans_push h Format gate reached.gate_is ∙ append-nil (plans_from 16 h));
        marked_is = sym (marked_push h);
      };
      loads = subst (λ (l : List (Change (List ℕ))). AreLoaded loader l) (sym (changes_marked h)) loads;
    }

-- ---- bodies, one after another

-- before the first one
pub replaying_none : (tells : Type 0) (journal : List ℕ) (heads : List Head) (reader : BodiesState) (cs : List (Change TextPlace)) (plans : List StoredPlan) (marked : Bool) (loader : Loaded) → cs ≡ [] → plans ≡ [] → marked ≡ false → AreLoaded loader []
    → AreBehind heads [] reader → ((bodies : List (List ℕ)) → Spells journal bodies → heads ≡ heads_of 16 bodies → AreLeft journal reader bodies) → IsReplaying tells journal heads reader cs plans marked loader
replaying_none tells journal heads reader cs plans marked loader none nothing_ unmarked loads behind left = record {
  history = [];
  reached = record { opens = tt; gate_is = end_of_is []; placed = let P : List (Change TextPlace) → Type 0 = λ l. ArePlaced 16 [] l in subst P (sym none) refl; plans_are = nothing_; marked_is = unmarked };
  loads = loads;
  behind = behind;
  left = λ told bodies same spelled. (bodies, refl, left bodies spelled same);
}

-- behind these entries the reader gave this body, whose gate is at this place
pub record Comes (tells : Type 0) (journal : List ℕ) (heads : List Head) (before : History) (reader next : BodiesState) (gate : ℕ) (body : List ℕ) : Type 0 where
  pub here : gate ≡ length (front (bodies_of before))
  pub behind : AreBehind heads (bodies_of before ++ body ∷ []) next
  pub left : tells → (bodies : List (List ℕ)) → AreLeft journal reader bodies → (rest : List (List ℕ)) × (bodies ≡ body ∷ rest) × AreLeft journal next rest

pub comes : (tells : Type 0) (a b : DiskState) (heads : List Head) (before : History) (reader next : BodiesState) (head : Head) (body : List ℕ) → OnlyReads a b → body ≡ body_at next head
    → (head.gate ≡ length (front (bodies_of before))) × AreBehind heads (bodies_of before ++ body_at next head ∷ []) next
    → (tells → (bodies : List (List ℕ)) → AreLeft b.holds.journal reader bodies → (rest : List (List ℕ)) × (bodies ≡ body_at next head ∷ rest) × AreLeft b.holds.journal next rest)
    → Comes tells a.holds.journal heads before reader next head.gate body
comes tells a b heads before reader next head body same is behind left =
    let C : DiskState → List ℕ → Type 0 = λ d l. Comes tells d.holds.journal heads before reader next head.gate l in
    subst (C a) (sym is) (subst (λ (d : DiskState). C d (body_at next head)) same (record { here = behind.0; behind = behind.1; left = left }))

pub reached_by : {tells : Type 0} {journal : List ℕ} {heads : List Head} {before : History} {reader next : BodiesState} {gate : ℕ} {body : List ℕ} {cs : List (Change TextPlace)} {plans : List StoredPlan} {marked : Bool}
    → Comes tells journal heads before reader next gate body → IsReached (length (front (bodies_of before))) before cs plans marked → IsReached gate before cs plans marked
reached_by {before = before} {cs = cs} {plans = plans} {marked = marked} came reached = subst (λ (n : ℕ). IsReached n before cs plans marked) (sym came.here) reached

-- one body more
pub replayed_more : {marked now_marked : Bool} (tells : Type 0) (journal : List ℕ) (heads : List Head) (reader next : BodiesState) (cs more : List (Change TextPlace)) (plans others : List StoredPlan) (loader after : Loaded) (gate : ℕ) (body : List ℕ)
    → (r : IsReplaying tells journal heads reader cs plans marked loader) → Comes tells journal heads r.history reader next gate body → IsGoneOver gate r.history body more others now_marked after
    → IsReplaying tells journal heads next more others now_marked after
replayed_more tells journal heads reader next cs more plans others loader after gate body r came over =
    let h = r.history in
    let bodies_are : bodies_of (h ++ over.entry ∷ []) ≡ bodies_of h ++ body ∷ [] = bodies_of-push h over.entry ∙ ap (λ (l : List ℕ). bodies_of h ++ l ∷ []) (sym over.spelled) in
    record {
      history = h ++ over.entry ∷ [];
      reached = record { opens = over.reached.opens; gate_is = end_of_is (h ++ over.entry ∷ []); placed = over.reached.placed; plans_are = over.reached.plans_are; marked_is = over.reached.marked_is };
      loads = over.loads;
      behind = let B : List (List ℕ) → Type 0 = λ l. AreBehind heads l next in subst B (sym bodies_are) came.behind;
      left = λ told bodies same spelled.
          let before = r.left told bodies same spelled in
          let later = came.left told before.0 before.2 in (
            later.0,
            before.1 ∙ ap (λ (l : List (List ℕ)). bodies_of h ++ l) later.1 ∙ sym (append_assoc (bodies_of h) (body ∷ []) later.0) ∙ ap (λ (l : List (List ℕ)). l ++ later.0) (sym bodies_are),
            later.2,
          );
    }

-- one whose entry is refused
pub next_bad : {tells : Type 0} {journal : List ℕ} {heads : List Head} {h : History} {reader next : BodiesState} {gate : ℕ} {body : List ℕ} (at : ℕ) (bodies : List (List ℕ)) → tells → Comes tells journal heads h reader next gate body
    → (rest : List (List ℕ)) × (bodies ≡ bodies_of h ++ rest) × AreLeft journal reader rest → IsFaulty gate h body at → IsNextBad h bodies at
next_bad {h = h} {body = body} at bodies told came before fault =
    let later = came.left told before.0 before.2 in
    record {
      body = body;
      rest = later.0;
      split = before.1 ∙ ap (λ (l : List (List ℕ)). bodies_of h ++ l) later.1;
      fault = let P : ℕ → Type 0 = λ n. IsFaulty n h body at in subst P came.here fault;
    }

-- where none is left all were read
pub all_read : {marked : Bool} (tells : Type 0) (journal : List ℕ) (heads : List Head) (reader : BodiesState) (cs : List (Change TextPlace)) (plans : List StoredPlan) (loader : Loaded)
    → (r : IsReplaying tells journal heads reader cs plans marked loader) → reader.left ≡ []
    → (heads ≡ heads_of 16 (bodies_of r.history)) × (tells → (bodies : List (List ℕ)) → heads ≡ heads_of 16 bodies → Spells journal bodies → bodies_of r.history ≡ bodies)
all_read tells journal heads reader cs plans loader r none = (
  r.behind.heads_are ∙ ap (λ (l : List Head). heads_of 16 (bodies_of r.history) ++ l) none ∙ append-nil (heads_of 16 (bodies_of r.history)),
  λ told bodies same spelled.
      let before = r.left told bodies same spelled in
      sym (before.1 ∙ ap (λ (l : List (List ℕ)). bodies_of r.history ++ l) (left_none journal before.0 reader.left none before.2.lead) ∙ append-nil (bodies_of r.history)),
)

-- one change more, by its parts
pub pushed_is : (cs early more : List (Change TextPlace)) (x : Change ℕ) (p : Change TextPlace) → p.doc ≡ x.doc → p.at ≡ x.at → early ≡ cs → more ≡ early ++ p ∷ []
    → more ≡ cs ++ record { doc = x.doc; at = x.at; held = p.held } ∷ []
pushed_is cs early more x p doc at same pushed = pushed ∙ ap (λ (l : List (Change TextPlace)). l ++ p ∷ []) same
    ∙ ap (λ (d : DocId). cs ++ record { doc = d; at = p.at; held = p.held } ∷ []) doc
    ∙ ap (λ (t : Time). cs ++ record { doc = x.doc; at = t; held = p.held } ∷ []) at
