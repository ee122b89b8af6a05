-- A whole run: the load, the items one after another, and how the run ends.
use Rattle.std.proofs.Common.{◌≡◌, ◌⊎◌, ℕ, zero, suc, ◌<◌, ◌≤◌, Bool, true, false, List, [], ◌∷◌, ◌++◌, length, take, All, Option, None, Ok, Err, refl, inl, inr, ap, subst, sym, ◌∙◌, arith, append_assoc}
use Rattle.std.proofs.lemmas.Bool.{cases_lt, false≢true}
use Rattle.std.proofs.lemmas.List.{append-nil, append_cancel_left, length-append}
use Rattle.std.proofs.lemmas.List.Elements.{All-append, All-map, All-nil, All-weaker}
use Rattle.machine_model.specs.Areas.{Bytes}
use Rattle.machine_model.specs.Calls.{Syncs}
use Rattle.machine_model.specs.Images.{Leaves, MayLeave}
use Rattle.machine_model.specs.Pulls.{Pull}
use Rattle.machine_model.specs.Pushes.{IsPrefix}
use Rattle.machine_model.specs.States.{SourceState, SinkState, DiskState, MachineState}
use Rattle.machine_model.proofs.MomentLemmas.{goes_on_same, left_now}
use Rattle.base_commands.specs.declared.command.Item.{Item}
use Rattle.pages_area.specs.Caches.{Kept}
use Rattle.pages_area.specs.Live.{AreLive}
use Rattle.script_read.specs.Items as parted
use Rattle.script_read.specs.declared.first.First.TheVariants.{More}
use Rattle.script_items.specs.Items.{Begins, Splits, Waits}
use Rattle.script_items.specs.Reading.{ReaderState, IsAwaited, fresh}
use Rattle.script_items.proofs.RunLemmas.{pulled_by_then}
use Rattle.script_items.proofs.Splitting.{never-more}
use Rattle.model_archive.specs.Histories.{History}
use Rattle.model_archive.specs.Holding.{HoldsPlan}
use Rattle.model_archive.specs.Plans.{live_extents}
use Rattle.model_archive.specs.Replies.{reply_text}
use Rattle.model_archive.specs.Runs.{Outcome, AreStints, IsAcknowledged, shown_by, state_after}
use Rattle.model_archive.specs.Standing.{AreQuiet, Carried, IsQuiet, LacksStint, last_state}
use Rattle.model_archive.specs.Stands.{Stands, EachStands, IsNotArchive, bodies_of}
use Rattle.model_archive.specs.Steps.{Reply, Silent}
use Rattle.model_archive.specs.Worlds.{Job}
use Rattle.model_archive.proofs.OutcomeLemmas.{silent_keeps}
use Rattle.model_archive.proofs.SpeakLemmas.{silent_or}
use Rattle.model_archive.proofs.RunLemmas.{carried_joins, last_state_joins, quiet_joins, reopens, shown_by_joins, state_after_all, stints_quiet, works_join, works_quiet}
use Rattle.model_archive.proofs.StandsLemmas.{loaded_is_archive, spells_one_history, stands_is_archive, stands_live}
use Rattle.journal_gates.specs.Crash.{KeepsBodies, KeepsPages}
use Rattle.journal_gates.specs.Spelled.{EachSpells, Spells}
use Rattle.archive_hand.specs.Changing.{KeepsBy, KeepsHistory}
use Rattle.archive_hand.specs.States.{ArchiveState, AreInStepBy}
use Rattle.plans_share.specs.declared.asked.Asking.{Asking}
use Rattle.archive_hand.specs.Stored.{Store, EachStandsBy, HasSame, Spoils, StandsBy, StoreStep, StoreStint, is_at_work, world_by}
use Rattle.archive_hand.proofs.ByReadsLemmas.{both_same, keeps_nowhere, same_as, stands_by}
use Rattle.archive_entries.specs.declared.error.LoadError.{LoadError}
use Rattle.archive_entries.specs.declared.error.LoadError.TheVariants as loads
use Rattle.pages_sublists.specs.declared.why.Damage.{Damage}
use Rattle.run_script.specs.Headline.{ComesAfterReplies, Ends, EndsEarly, Headline, InputAt, IsLoadedFrom, LoadsAs, Ran, ReadingRun, store_of}
use Rattle.run_script.specs.Outcomes.{CameOf, CarriesOn, CarriesOut, IsShort, IsShown, IsStopped, NeverSpoiled}
use Rattle.run_script.specs.Serving.{AreAwaited, Closing, ComesAfter, Gives, HasGoneOver, IsStoreRun, IsUndoneAt, Serving, Serves, pulls_beside}
use Rattle.run_script.specs.Statuses.{status_of_load, status_of_stop}
use Rattle.run_script.specs.declared.stop.Stop.{Stop}
use Rattle.run_script.specs.declared.stop.Stop.TheVariants as stops
use Rattle.run_script.specs.declared.status.Status.{Status}
use Rattle.run_script.specs.declared.status.Status.TheVariants.{Done, NotArchive, Damaged, Disk, Memory, Sink}
use Rattle.run_script.proofs.OutcomeLemmas.{some_bytes, speaks_bytes}
use Rattle.run_script.proofs.StintLemmas.{each_kept, nothing_came}
use Rattle.run_script.proofs.PullLemmas.{EndsBehind, early_behind, early_undone, ends_by, ends_else, input_early, not_early, not_pulled, pulling_first, pulling_next, stopped_at, stops_early}

-- ---- the end of a run

-- a pull that came after the replies does so in a longer run
module _ {S : Type 0} (step : S → Item → Reply → S → Type 0) (stint : S → Reply → S → Type 0) (working : S → Bool) (state : S) (input : SourceState) (output : SinkState) where
  pub after_replies_still : (items more : List Item) (outcomes further : List (Outcome Reply S)) (pull : Pull)
      → ComesAfterReplies step stint working state input output items outcomes pull → ComesAfterReplies step stint working state input output (items ++ more) (outcomes ++ further) pull
  after_replies_still items more outcomes further pull was = record {
    pulled = was.pulled;
    pulled_are = was.pulled_are;
    before = was.before;
    behind = was.behind ++ more;
    items_are = ap (λ (l : List Item). l ++ more) was.items_are ∙ append_assoc was.before was.behind more;
    rest = was.rest;
    split = was.split;
    answered = was.answered;
    to_come = was.to_come ++ further;
    outcomes_are = ap (λ l. l ++ further) was.outcomes_are ∙ append_assoc was.answered was.to_come further;
    run = was.run;
    shown = was.shown;
  }

  pub all_after_replies : (items more : List Item) (outcomes further : List (Outcome Reply S)) (pulls : List Pull)
      → All (ComesAfterReplies step stint working state input output items outcomes) pulls → All (ComesAfterReplies step stint working state input output (items ++ more) (outcomes ++ further)) pulls
  all_after_replies items more outcomes further pulls all =
      All-weaker (ComesAfterReplies step stint working state input output items outcomes) (ComesAfterReplies step stint working state input output (items ++ more) (outcomes ++ further)) (λ pull was. after_replies_still items more outcomes further pull was) pulls all

-- the same of a run by what reads give
after_longer : (store : Store) (input : SourceState) (output : SinkState) (items more : List Item) (outcomes further : List (Outcome Reply Store)) (pulls : List Pull)
    → All (ComesAfter store input output items outcomes) pulls → All (ComesAfter store input output (items ++ more) (outcomes ++ further)) pulls
after_longer store input output items more outcomes further pulls all = all_after_replies StoreStep StoreStint is_at_work store input output items more outcomes further pulls all

-- so the bytes shown acknowledge just those before
pub acknowledged : {S : Type 0} (reached behind : List (Outcome Reply S)) (part : List ℕ) → IsShort part behind → IsAcknowledged reply_text (reached ++ behind) (shown_by reply_text reached ++ part) (length reached)
acknowledged [] [] part short = record { within = omega arith; whole = (part, refl); greatest = λ m within front. within }
acknowledged [] (outcome ∷ behind) part short = record { within = omega arith; whole = (part, refl); greatest = most }
  where
    most : (m : ℕ) → m ≤ length (outcome ∷ behind) → IsPrefix (shown_by reply_text (take m (outcome ∷ behind))) part → m ≤ 0
    most zero within front = omega arith
    most (suc m) within (rest, e) = absurd (omega (arith, short, simp length-append at (ap length e)))
acknowledged {S} (outcome ∷ reached) behind part short =
    let known = acknowledged reached behind part short in
    let text = reply_text outcome.reply in
    let same = append_assoc text (shown_by reply_text reached) part in
    record {
      within = omega (arith, known.within);
      whole = (known.whole.0, same ∙ ap (λ (l : List ℕ). text ++ l) known.whole.1 ∙ sym (append_assoc text (shown_by reply_text (take (length reached) (reached ++ behind))) known.whole.0));
      greatest = most known same;
    }
  where
    most : IsAcknowledged reply_text (reached ++ behind) (shown_by reply_text reached ++ part) (length reached)
        → (reply_text outcome.reply ++ shown_by reply_text reached) ++ part ≡ reply_text outcome.reply ++ (shown_by reply_text reached ++ part)
        → (m : ℕ) → m ≤ length (outcome ∷ (reached ++ behind)) → IsPrefix (shown_by reply_text (take m (outcome ∷ (reached ++ behind)))) ((reply_text outcome.reply ++ shown_by reply_text reached) ++ part) → m ≤ suc (length reached)
    most known same zero within front = omega arith
    most known same (suc m) within (more, e) = omega (
      arith,
      known.greatest m (omega (arith, within)) (
        more,
        append_cancel_left (reply_text outcome.reply) (shown_by reply_text reached ++ part) (shown_by reply_text (take m (reached ++ behind)) ++ more)
            (sym same ∙ e ∙ append_assoc (reply_text outcome.reply) (shown_by reply_text (take m (reached ++ behind))) more),
      ),
    )

-- ---- pulls

-- pulls of a call: none once the end was told
pub pulls_in : (held : ReaderState) (since all : List ℕ) (P : List (List ℕ) → Type 0) → ((Waits held.parts.ended since → ⊥) → P [])
    → ((lefts : List (List ℕ)) × P lefts × All (IsAwaited since all) lefts) → (lefts : List (List ℕ)) × P lefts × AreAwaited held since all lefts
pulls_in held since all P calm made = go held.parts.ended refl
  where
    go : (e : Bool) → held.parts.ended ≡ e → (lefts : List (List ℕ)) × P lefts × AreAwaited held since all lefts
    go true is =
        let never : Waits held.parts.ended since → ⊥ = λ waits. (let there = rw is at waits in never-more there.0 there.2) in
        ([], calm never, All-nil (λ left. IsAwaited since all left × (held.parts.ended ≡ false)))
    go false is = (made.0, made.1, All-weaker (IsAwaited since all) (λ left. IsAwaited since all left × (held.parts.ended ≡ false)) (λ left one. (one, is)) made.0 made.2)

-- a pull in which nothing waited comes after the replies
awaited_after_replies : (store : Store) (old now : MachineState) (archive : ArchiveState) (held : ReaderState) (pulls : List Pull) (serving : Serving store old now archive held pulls) (left : List ℕ)
    → IsAwaited serving.pulling.since now.source.left left × (held.parts.ended ≡ false) → ComesAfter store old.source old.sink serving.pulling.items serving.outcomes (record { left = left; shown = now.sink.shown })
awaited_after_replies store old now archive held pulls serving left awaited =
    let p = serving.pulling in
    let there = pulled_by_then p.pulled p.items p.since held now.source.left left p.reads awaited.0 awaited.1 in
    record {
      pulled = p.pulled ++ there.0;
      pulled_are = p.pulled_are ∙ ap (λ (l : List ℕ). p.pulled ++ l) there.1 ∙ sym (append_assoc p.pulled there.0 left);
      before = p.items;
      behind = [];
      items_are = sym (append-nil p.items);
      rest = there.2;
      split = there.3;
      answered = serving.outcomes;
      to_come = [];
      outcomes_are = sym (append-nil serving.outcomes);
      run = serving.run;
      shown = serving.shown;
    }

all_pulls : (store : Store) (old now : MachineState) (archive : ArchiveState) (held : ReaderState) (before : List Pull) (lefts : List (List ℕ)) (serving : Serving store old now archive held before)
    → AreAwaited held serving.pulling.since now.source.left lefts → All (ComesAfter store old.source old.sink serving.pulling.items serving.outcomes) (before ++ pulls_beside now.sink.shown lefts)
all_pulls store old now archive held before lefts serving awaited =
    let P : Pull → Type 0 = ComesAfter store old.source old.sink serving.pulling.items serving.outcomes in
    All-append P before (pulls_beside now.sink.shown lefts) serving.after_replies
    (All-map P (λ left. record { left = left; shown = now.sink.shown }) lefts
    (All-weaker (λ left. IsAwaited serving.pulling.since now.source.left left × (held.parts.ended ≡ false)) (λ left. P (record { left = left; shown = now.sink.shown }))
    (λ left one. awaited_after_replies store old now archive held before serving left one) lefts awaited))

-- ---- a call of the run

-- what the texts of the outcomes so far and of one more show
shown_next : (outcomes : List (Outcome Reply Store)) (outcome : Outcome Reply Store) → shown_by reply_text (outcomes ++ outcome ∷ []) ≡ shown_by reply_text outcomes ++ reply_text outcome.reply
shown_next outcomes outcome = shown_by_joins reply_text outcomes (outcome ∷ []) ∙ ap (λ (l : List ℕ). shown_by reply_text outcomes ++ l) (append-nil (reply_text outcome.reply))

-- stints in a row, and one more
stints_on : (s : Store) (closing : List (Outcome Reply Store)) (o : Outcome Reply Store) → AreStints StoreStint s closing → StoreStint (last_state s closing) o.reply o.next → AreStints StoreStint s (closing ++ o ∷ [])
stints_on s [] o are step = (step, tt)
stints_on s (w ∷ closing) o are step = (are.0, stints_on w.next closing o are.1 step)

stints_join : (store : Store) (by_items closing : List (Outcome Reply Store)) (o : Outcome Reply Store) → AreStints StoreStint (last_state store by_items) closing → StoreStint (last_state store (by_items ++ closing)) o.reply o.next
    → AreStints StoreStint (last_state store by_items) (closing ++ o ∷ [])
stints_join store by_items closing o are step = stints_on (last_state store by_items) closing o are (subst (λ (s : Store). StoreStint s o.reply o.next) (last_state_joins store by_items closing) step)

-- the input was gone over, and there may be work left
closing_by : (store : Store) (old now : MachineState) (archive : ArchiveState) (held : ReaderState) (pulls : List Pull) (source : SourceState) (serving : Serving store old now archive held pulls) (ends : EndsBehind Done old.source source serving.pulling.items)
    → Closing store old (record { source = source; sink = now.sink; disk = now.disk }) archive pulls
closing_by store old now archive held pulls source serving e =
    let outcomes = serving.outcomes in
    let items = serving.pulling.items in
    let done = e.ends.input_at.done refl in
    let S : Bool → List Item → List ℕ → Type 0 = λ b l rest. Splits b e.ends.pulled l rest in
    let told : Splits true e.ends.pulled (items ++ e.behind) e.ends.rest = subst (λ (b : Bool). S b (items ++ e.behind) e.ends.rest) done.0 e.split in
    let all : Splits true e.ends.pulled items e.ends.rest = subst (λ (l : List Item). S true l e.ends.rest) (ap (λ (l : List Item). items ++ l) (e.none tt) ∙ append-nil items) told in
    record {
      pulled = e.ends.pulled;
      pulled_are = e.ends.pulled_are;
      none_left = e.ends.ended_is done.0;
      items = items;
      split = subst (S true items) done.1 all;
      input_at = λ status ends. elim ends [
        | inl early ↦ input_early status true e.ends.pulled [] early
        | inr is ↦ subst (λ (st : Status). InputAt st true e.ends.pulled []) (sym is)
            (subst (λ (b : Bool). InputAt Done b e.ends.pulled []) done.0 (subst (InputAt Done e.ends.ended e.ends.pulled) done.1 e.ends.input_at))
      ];
      by_items = outcomes;
      run = serving.run;
      closing = [];
      closes = tt;
      shown = subst (λ (os : List (Outcome Reply Store)). now.sink.shown ≡ old.sink.shown ++ shown_by reply_text os) (sym (append-nil outcomes)) serving.shown;
      carried = subst (λ (os : List (Outcome Reply Store)). Carried reply_text StandsBy store os old.sink.shown old.disk now.disk) (sym (append-nil outcomes)) serving.carried;
      in_step = subst (λ (os : List (Outcome Reply Store)). AreInStepBy now.disk archive (last_state store os)) (sym (append-nil outcomes)) serving.in_step;
      after_replies = subst (λ (os : List (Outcome Reply Store)). All (ComesAfter store old.source old.sink items os) pulls) (sym (append-nil outcomes)) serving.after_replies;
    }

-- the same run with pulls that came after its replies
abbrev pulled_more : (store : Store) (old now : MachineState) (archive : ArchiveState) (held : ReaderState) (before pulls : List Pull) (serving : Serving store old now archive held before) → All (ComesAfter store old.source old.sink serving.pulling.items serving.outcomes) pulls
    → Serving store old now archive held pulls
pulled_more store old now archive held before pulls serving all =
    record { pulling = serving.pulling; outcomes = serving.outcomes; run = serving.run; shown = serving.shown; carried = serving.carried; in_step = serving.in_step; after_replies = all }

-- there is no next item
pub ended_by : (store : Store) (old now : MachineState) (archive : ArchiveState) (held held_now : ReaderState) (before : List Pull) (status : Status) (source : SourceState) (lefts : List (List ℕ)) (serving : Serving store old now archive held before)
    → AreAwaited held serving.pulling.since now.source.left lefts → Gives held held_now serving.pulling.since (Err status) now.source source
    → HasGoneOver store status old (record { source = source; sink = now.sink; disk = now.disk }) archive (before ++ pulls_beside now.sink.shown lefts)
ended_by store old now archive held held_now before status source lefts serving awaited gives =
    let end = ends_by old.source now.source source held held_now status serving.pulling gives in
    let e = end.1 in
    let outcomes = serving.outcomes in
    let pulls = before ++ pulls_beside now.sink.shown lefts in
    let replied = all_pulls store old now archive held before lefts serving awaited in
    record {
      closing = λ is. closing_by store old now archive held pulls source (pulled_more store old now archive held before pulls serving replied) (subst (λ (st : Status). EndsBehind st old.source source serving.pulling.items) is e);
      serves = λ going. record {
        ran = record {
          pulled = e.ends.pulled;
          pulled_are = e.ends.pulled_are;
          ended = e.ends.ended;
          ended_is = e.ends.ended_is;
          reached = serving.pulling.items;
          behind = e.behind;
          rest = e.ends.rest;
          split = e.split;
          input_at = e.ends.input_at;
          outcomes = outcomes;
          by_items = outcomes;
          closing = [];
          outcomes_are = sym (append-nil outcomes);
          run = inl serving.run;
          closes = tt;
          at_end = inl refl;
          closed = λ done. absurd (going done);
          shown = shown_by reply_text outcomes;
          shown_is = serving.shown;
          front = ([], sym (append-nil (shown_by reply_text outcomes)));
          all = e.none;
          whole = λ done. refl;
          unfinished = λ fault. absurd (elim fault [ inl is ↦ ends_else status Disk end.0 (λ x. x) (λ other. cc) is | inr is ↦ ends_else status Sink end.0 (λ x. x) (λ other. cc) is ]);
          after_replies = rw append-nil at (after_longer store old.source old.sink serving.pulling.items e.behind outcomes [] pulls replied);
        };
        carried = serving.carried;
        whole = outcomes;
        others = [];
        part = [];
        outcomes_are = sym (append-nil outcomes);
        shown_is = sym (append-nil (shown_by reply_text outcomes));
        short = refl;
        undone = λ is. (refl, refl);
        steady = λ fine. stands_by now.disk archive (last_state store outcomes) serving.in_step;
        damaged = λ damage is. absurd (ends_else status (Damaged damage) end.0 (λ x. x) (λ other. cc) is);
        read = λ done. serving.in_step.read_is;
      };
    }

-- the next item was carried out, with the stint behind it, and all that they say shown
pub serving_next : (store : Store) (old now : MachineState) (sink : SinkState) (disk : DiskState) (archive archive_new : ArchiveState) (held held_now : ReaderState) (before : List Pull) (item : Item) (source : SourceState) (lefts : List (List ℕ))
    → (serving : Serving store old now archive held before) → AreAwaited held serving.pulling.since now.source.left lefts → Gives held held_now serving.pulling.since (Ok item) now.source source
    → CarriesOn (last_state store serving.outcomes) item (Ok tt) now.sink.shown sink.shown now.disk disk archive_new
    → Serving store old (record { source = source; sink = sink; disk = disk }) archive_new held_now (before ++ pulls_beside now.sink.shown lefts)
serving_next store old now sink disk archive archive_new held held_now before item source lefts serving awaited gives (further, run, carried, shown, in_step) =
    let items = serving.pulling.items in
    let earlier = shown_by reply_text serving.outcomes in
    record {
      pulling = pulling_next old.source now.source source held held_now item serving.pulling gives;
      outcomes = serving.outcomes ++ further;
      run = works_join StoreStep StoreStint is_at_work store items (item ∷ []) serving.outcomes further serving.run run;
      shown = shown ∙ ap (λ (l : List ℕ). l ++ shown_by reply_text further) serving.shown ∙ append_assoc old.sink.shown earlier (shown_by reply_text further)
          ∙ ap (λ (l : List ℕ). old.sink.shown ++ l) (sym (shown_by_joins reply_text serving.outcomes further));
      carried = carried_joins further disk serving.carried (rw serving.shown at carried);
      in_step = rw (last_state_joins store serving.outcomes further) in_step;
      after_replies = after_longer store old.source old.sink items (item ∷ []) serving.outcomes further (before ++ pulls_beside now.sink.shown lefts) (all_pulls store old now archive held before lefts serving awaited);
    }

-- which items were reached where the run was stopped at one, or in the stint behind it
record IsReached (store : Store) (status : Status) (items behind : List Item) (item : Item) (outcomes further : List (Outcome Reply Store)) : Type 0 where
  reached : List Item
  left : List Item
  are : reached ++ left ≡ items ++ item ∷ behind
  run : IsStoreRun store reached (outcomes ++ further) ⊎ (LacksStint StoreStep StoreStint is_at_work store reached (outcomes ++ further) × ((status ≡ Disk) ⊎ (status ≡ Sink)))
  none : further ≡ [] → left ≡ item ∷ behind

reached_by : (store : Store) (stop : Stop) (items behind : List Item) (item : Item) (outcomes further : List (Outcome Reply Store)) → IsStoreRun store items outcomes → CameOf (last_state store outcomes) item stop further
    → IsReached store (status_of_stop stop) items behind item outcomes further
reached_by store stop items behind item outcomes further run (inl none) =
    let still : IsStoreRun store items (outcomes ++ further) = subst (λ (os : List (Outcome Reply Store)). IsStoreRun store items os) (sym (ap (λ (l : List (Outcome Reply Store)). outcomes ++ l) none ∙ append-nil outcomes)) run in
    record { reached = items; left = item ∷ behind; are = refl; run = inl still; none = λ is. refl }
reached_by store stop items behind item outcomes further run (inr (inl one)) =
    let all = works_join StoreStep StoreStint is_at_work store items (item ∷ []) outcomes further run one in
    record { reached = items ++ item ∷ []; left = behind; are = append_assoc items (item ∷ []) behind; run = inl all; none = λ is. absurd (some_outcomes (last_state store outcomes) item further one is) }
  where
    some_outcomes : (s : Store) (item : Item) (os : List (Outcome Reply Store)) → IsStoreRun s (item ∷ []) os → os ≡ [] → ⊥
    some_outcomes s item [] run is = run
    some_outcomes s item (o ∷ os) run is = cc
reached_by store stop items behind item outcomes further run (inr (inr (outcome, is, step, working, fault))) = record {
  reached = items ++ item ∷ [];
  left = behind;
  are = append_assoc items (item ∷ []) behind;
  run = inr (
    record { before = items; event = item; events_are = refl; done = outcomes; outcome = outcome; outcomes_are = ap (λ (l : List (Outcome Reply Store)). outcomes ++ l) is; run = run; working = working; last = step },
    elim fault [ inl disk ↦ inl (ap status_of_stop disk) | inr sink ↦ inr (ap status_of_stop sink) ],
  );
  none = λ none. (let other : outcome ∷ [] ≡ [] = sym is ∙ none in absurd cc);
}

-- the run was stopped at the next item, or in the stint behind it
pub stopped : (store : Store) (old now : MachineState) (sink : SinkState) (disk : DiskState) (archive archive_new : ArchiveState) (held held_now : ReaderState) (before : List Pull) (item : Item) (status : Status) (stop : Stop) (source : SourceState) (lefts : List (List ℕ))
    → (serving : Serving store old now archive held before) → AreAwaited held serving.pulling.since now.source.left lefts → Gives held held_now serving.pulling.since (Ok item) now.source source
    → status ≡ status_of_stop stop → IsStopped (last_state store serving.outcomes) item stop now.sink.shown sink.shown now.disk disk
    → Serves store status old (record { source = source; sink = sink; disk = disk }) (before ++ pulls_beside now.sink.shown lefts)
stopped store old now sink disk archive archive_new held held_now before item status stop source lefts serving awaited gives is out = rw is (go (rw is at early) (rw is at e))
  where
    items : List Item
    items = serving.pulling.items

    earlier : List ℕ
    earlier = shown_by reply_text serving.outcomes

    reads : List Pull
    reads = before ++ pulls_beside now.sink.shown lefts

    early : EndsEarly status
    early = stops_early status stop is

    e : EndsBehind status old.source source (items ++ item ∷ [])
    e = early_behind status old.source source held_now early (pulling_next old.source now.source source held held_now item serving.pulling gives)

    all : List (Outcome Reply Store)
    all = serving.outcomes ++ out.outcomes

    told : List ℕ
    told = shown_by reply_text out.whole ++ out.part

    last_is : last_state store all ≡ last_state (last_state store serving.outcomes) out.outcomes
    last_is = last_state_joins store serving.outcomes out.outcomes

    texts : shown_by reply_text out.outcomes ≡ shown_by reply_text out.whole ++ shown_by reply_text out.others
    texts = ap (shown_by reply_text) out.outcomes_are ∙ shown_by_joins reply_text out.whole out.others

    all_texts : shown_by reply_text all ≡ (earlier ++ told) ++ out.front.0
    all_texts = shown_by_joins reply_text serving.outcomes out.outcomes ∙ ap (λ (l : List ℕ). earlier ++ l) (texts ∙ ap (λ (l : List ℕ). shown_by reply_text out.whole ++ l) out.front.1 ∙ sym (append_assoc (shown_by reply_text out.whole) out.part out.front.0))
        ∙ sym (append_assoc earlier told out.front.0)

    unshown : length out.part < length (shown_by reply_text out.others) → length (earlier ++ told) < length (shown_by reply_text all)
    unshown short = omega (arith, short, ap length all_texts, length-append (earlier ++ told) out.front.0, ap length out.front.1, length-append out.part out.front.0)

    nothing : out.outcomes ≡ [] → (out.whole ≡ []) × (out.others ≡ [])
    nothing none = both out.whole out.others (sym out.outcomes_are ∙ none)
      where
        both : (xs ys : List (Outcome Reply Store)) → xs ++ ys ≡ [] → (xs ≡ []) × (ys ≡ [])
        both [] ys none = (refl, none)
        both (x ∷ xs) ys none = absurd cc

    go : EndsEarly (status_of_stop stop) → EndsBehind (status_of_stop stop) old.source source (items ++ item ∷ []) → Serves store (status_of_stop stop) old (record { source = source; sink = sink; disk = disk }) reads
    go early e =
        let r = reached_by store stop items e.behind item serving.outcomes out.outcomes serving.run out.came in
        let st : Status = status_of_stop stop in
        record {
          ran = record {
            pulled = e.ends.pulled;
            pulled_are = e.ends.pulled_are;
            ended = e.ends.ended;
            ended_is = e.ends.ended_is;
            reached = r.reached;
            behind = r.left;
            rest = e.ends.rest;
            split = (let S : List Item → Type 0 = λ l. Splits e.ends.ended e.ends.pulled l e.ends.rest in subst S (append_assoc items (item ∷ []) e.behind ∙ sym r.are) e.split);
            input_at = e.ends.input_at;
            outcomes = all;
            by_items = all;
            closing = [];
            outcomes_are = sym (append-nil all);
            run = elim r.run [ inl whole ↦ inl whole | inr lacks ↦ inr (lacks.0, refl, lacks.1) ];
            closes = tt;
            at_end = inl refl;
            closed = λ done. absurd (early_undone st early done);
            shown = earlier ++ told;
            shown_is = out.shown_is ∙ ap (λ (l : List ℕ). l ++ told) serving.shown ∙ append_assoc old.sink.shown earlier told;
            front = (out.front.0, all_texts);
            all = λ done. absurd (not_early st early done);
            whole = λ done. absurd (not_early st early done);
            unfinished = λ fault. elim out.unfinished [
              | inl none ↦ inr (inl (λ empty. (let other : item ∷ e.behind ≡ [] = sym (r.none none) ∙ empty in absurd cc)))
              | inr left ↦ elim left [ inl short ↦ inr (inr (inl (unshown short))) | inr working ↦ inr (inr (inr (ap is_at_work last_is ∙ working))) ]
            ];
            after_replies = subst (λ (l : List Item). All (ComesAfter store old.source old.sink l all) reads) (sym r.are) (after_longer store old.source old.sink items (item ∷ e.behind) serving.outcomes out.outcomes reads (all_pulls store old now archive held before lefts serving awaited));
          };
          carried = carried_joins out.outcomes disk serving.carried (rw serving.shown at out.carried);
          whole = serving.outcomes ++ out.whole;
          others = out.others;
          part = out.part;
          outcomes_are = ap (λ (l : List (Outcome Reply Store)). serving.outcomes ++ l) out.outcomes_are ∙ sym (append_assoc serving.outcomes out.whole out.others);
          shown_is = sym (append_assoc earlier (shown_by reply_text out.whole) out.part) ∙ ap (λ (l : List ℕ). l ++ out.part) (sym (shown_by_joins reply_text serving.outcomes out.whole));
          short = out.short;
          undone = λ is. (
              let none = nothing (out.undone (undone_stop stop is)) in
              (none.1, short_none out.part out.others none.1 out.short)
              );
          steady = λ fine. subst (EachStandsBy disk) (sym last_is) (out.steady (λ at. fine (ap status_of_stop at)));
          damaged = λ damage same. (
              let at = stopped_at stop damage same in
              let none = out.undone (inr (damage, at)) in
              (item, e.behind, r.none none, subst (λ (s : Store). Spoils s item damage) (sym (last_is ∙ ap (last_state (last_state store serving.outcomes)) none)) (out.spoiled damage at))
              );
          read = λ done. absurd (not_early st early done);
        }
      where
        short_none : (part : List ℕ) (others : List (Outcome Reply Store)) → others ≡ [] → IsShort part others → part ≡ []
        short_none part [] none short = short
        short_none part (o ∷ others) none short = absurd cc

        undone_stop : (stop : Stop) → IsUndoneAt (status_of_stop stop) → (stop ≡ stops.Memory) ⊎ ((damage : Damage) × (stop ≡ stops.Damaged damage))
        undone_stop stops.Memory is = inl refl
        undone_stop (stops.Damaged damage) is = inr (damage, refl)
        undone_stop stops.Disk is = absurd is
        undone_stop stops.Sink is = absurd is

pub gone_over_early : (store : Store) (old new : MachineState) (archive : ArchiveState) (pulls : List Pull) (status : Status) → EndsEarly status → Serves store status old new pulls → HasGoneOver store status old new archive pulls
gone_over_early store old new archive pulls status early serves = record { closing = λ done. absurd (early_undone status early done); serves = λ going. serves }

-- ---- behind the last item

-- a stint more
pub closing_next : (store : Store) (old now new : MachineState) (archive archive_new : ArchiveState) (pulls : List Pull) → (c : Closing store old now archive pulls) → new.source ≡ now.source
    → CarriesOut (last_state store (c.by_items ++ c.closing)) (StoreStint (last_state store (c.by_items ++ c.closing))) NeverSpoiled (Ok tt) now.sink.shown new.sink.shown now.disk new.disk archive_new → Closing store old new archive_new pulls
closing_next store old now new archive archive_new pulls c same (shown, is, whole, in_step) =
    let so_far = c.by_items ++ c.closing in
    let o = is.outcome in
    let joined : so_far ++ o ∷ [] ≡ c.by_items ++ (c.closing ++ o ∷ []) = append_assoc c.by_items c.closing (o ∷ []) in
    let left : now.source.left ≡ new.source.left = ap (λ (s : SourceState). s.left) (sym same) in
    record {
      pulled = c.pulled;
      pulled_are = c.pulled_are ∙ ap (λ (l : List ℕ). c.pulled ++ l) left;
      none_left = sym left ∙ c.none_left;
      items = c.items;
      split = c.split;
      input_at = c.input_at;
      by_items = c.by_items;
      run = c.run;
      closing = c.closing ++ o ∷ [];
      closes = stints_join store c.by_items c.closing o c.closes is.step;
      shown = is.shown_is ∙ ap (λ (l : List ℕ). now.sink.shown ++ l) whole ∙ ap (λ (l : List ℕ). l ++ reply_text o.reply) c.shown ∙ append_assoc old.sink.shown (shown_by reply_text so_far) (reply_text o.reply)
          ∙ ap (λ (l : List ℕ). old.sink.shown ++ l) (sym (shown_next so_far o) ∙ ap (shown_by reply_text) joined);
      carried = subst (λ (os : List (Outcome Reply Store)). Carried reply_text StandsBy store os old.sink.shown old.disk new.disk) joined (carried_joins (o ∷ []) new.disk c.carried (rw c.shown at is.carried));
      in_step = subst (λ (os : List (Outcome Reply Store)). AreInStepBy new.disk archive_new (last_state store os)) joined (subst (AreInStepBy new.disk archive_new) (sym (last_state_joins store so_far (o ∷ []))) in_step);
      after_replies = subst (λ (os : List (Outcome Reply Store)). All (ComesAfter store old.source old.sink c.items os) pulls) joined
          (subst (λ (l : List Item). All (ComesAfter store old.source old.sink l (so_far ++ o ∷ [])) pulls) (append-nil c.items) (after_longer store old.source old.sink c.items [] so_far (o ∷ []) pulls c.after_replies));
    }

-- no work is left
pub closing_done : (store : Store) (old now : MachineState) (archive : ArchiveState) (pulls : List Pull) → (c : Closing store old now archive pulls) → is_at_work (last_state store (c.by_items ++ c.closing)) ≡ false → Serves store Done old now pulls
closing_done store old now archive pulls c idle =
    let outcomes = c.by_items ++ c.closing in
    record {
      ran = record {
        pulled = c.pulled;
        pulled_are = c.pulled_are;
        ended = true;
        ended_is = λ is. c.none_left;
        reached = c.items;
        behind = [];
        rest = [];
        split = subst (λ (l : List Item). Splits true c.pulled l []) (sym (append-nil c.items)) c.split;
        input_at = c.input_at Done (inr refl);
        outcomes = outcomes;
        by_items = c.by_items;
        closing = c.closing;
        outcomes_are = refl;
        run = inl c.run;
        closes = c.closes;
        at_end = inr (refl, refl, refl);
        closed = λ done. idle;
        shown = shown_by reply_text outcomes;
        shown_is = c.shown;
        front = ([], sym (append-nil (shown_by reply_text outcomes)));
        all = λ done. refl;
        whole = λ done. refl;
        unfinished = λ fault. absurd (elim fault [ inl is ↦ cc | inr is ↦ cc ]);
        after_replies = subst (λ (l : List Item). All (ComesAfter store old.source old.sink l outcomes) pulls) (sym (append-nil c.items)) c.after_replies;
      };
      carried = c.carried;
      whole = outcomes;
      others = [];
      part = [];
      outcomes_are = sym (append-nil outcomes);
      shown_is = sym (append-nil (shown_by reply_text outcomes));
      short = refl;
      undone = λ is. absurd is;
      steady = λ fine. stands_by now.disk archive (last_state store outcomes) c.in_step;
      damaged = λ damage is. absurd cc;
      read = λ done. c.in_step.read_is;
    }

-- the run was stopped in a stint
pub closing_stopped : (store : Store) (old now new : MachineState) (archive archive_new : ArchiveState) (pulls : List Pull) (status : Status) (stop : Stop) → (c : Closing store old now archive pulls) → new.source ≡ now.source → status ≡ status_of_stop stop
    → now.disk.now.beside ≡ now.sink.shown → is_at_work (last_state store (c.by_items ++ c.closing)) ≡ true
    → CarriesOut (last_state store (c.by_items ++ c.closing)) (StoreStint (last_state store (c.by_items ++ c.closing))) NeverSpoiled (Err stop) now.sink.shown new.sink.shown now.disk new.disk archive_new → Serves store status old new pulls
closing_stopped store old now new archive archive_new pulls status stop c same is beside working out = rw is (go stop out)
  where
    so_far : List (Outcome Reply Store)
    so_far = c.by_items ++ c.closing

    s : Store
    s = last_state store so_far

    left : now.source.left ≡ new.source.left
    left = ap (λ (x : SourceState). x.left) (sym same)

    ends : (st : Status) → EndsEarly st → (further others : List (Outcome Reply Store)) (part : List ℕ) → further ≡ others → AreStints StoreStint (last_state store c.by_items) (c.closing ++ further) → new.sink.shown ≡ now.sink.shown ++ part
        → IsPrefix part (shown_by reply_text others) → IsShort part others → Carried reply_text StandsBy s further now.sink.shown now.disk new.disk → (IsUndoneAt st → others ≡ []) → ((damage : Damage) → st ≡ Damaged damage → ⊥)
        → ((st ≡ Disk → ⊥) → EachStandsBy new.disk (last_state s further)) → (length part < length (shown_by reply_text others)) ⊎ (is_at_work (last_state s further) ≡ true) → Serves store st old new pulls
    ends st early further others part same_others stints shown front short carried undone fair steady unfinished =
        let all = so_far ++ further in
        let joined : all ≡ c.by_items ++ (c.closing ++ further) = append_assoc c.by_items c.closing further in
        let last_is : last_state store all ≡ last_state s further = last_state_joins store so_far further in
        let earlier = shown_by reply_text so_far in
        let texts : shown_by reply_text all ≡ (earlier ++ part) ++ front.0 = shown_by_joins reply_text so_far further ∙ ap (λ (l : List ℕ). earlier ++ l) (ap (shown_by reply_text) same_others ∙ front.1) ∙ sym (append_assoc earlier part front.0) in
        record {
          ran = record {
            pulled = c.pulled;
            pulled_are = c.pulled_are ∙ ap (λ (l : List ℕ). c.pulled ++ l) left;
            ended = true;
            ended_is = λ is. sym left ∙ c.none_left;
            reached = c.items;
            behind = [];
            rest = [];
            split = subst (λ (l : List Item). Splits true c.pulled l []) (sym (append-nil c.items)) c.split;
            input_at = c.input_at st (inl early);
            outcomes = all;
            by_items = c.by_items;
            closing = c.closing ++ further;
            outcomes_are = joined;
            run = inl c.run;
            closes = stints;
            at_end = inr (refl, refl, refl);
            closed = λ done. absurd (early_undone st early done);
            shown = earlier ++ part;
            shown_is = shown ∙ ap (λ (l : List ℕ). l ++ part) c.shown ∙ append_assoc old.sink.shown earlier part;
            front = (front.0, texts);
            all = λ done. refl;
            whole = λ done. absurd (not_early st early done);
            unfinished = λ fault. elim unfinished [
              | inl cut ↦ inr (inr (inl (omega (arith, cut, ap length texts, length-append (earlier ++ part) front.0, ap length front.1, length-append part front.0))))
              | inr on ↦ inr (inr (inr (ap is_at_work last_is ∙ on)))
            ];
            after_replies = after_longer store old.source old.sink c.items [] so_far further pulls c.after_replies;
          };
          carried = carried_joins further new.disk c.carried (rw c.shown at carried);
          whole = so_far;
          others = others;
          part = part;
          outcomes_are = ap (λ (l : List (Outcome Reply Store)). so_far ++ l) same_others;
          shown_is = refl;
          short = short;
          undone = λ is. (undone is, none_part part others (undone is) short);
          steady = λ fine. subst (EachStandsBy new.disk) (sym last_is) (steady fine);
          damaged = λ damage is. absurd (fair damage is);
          read = λ done. absurd (not_early st early done);
        }
      where
        none_part : (part : List ℕ) (others : List (Outcome Reply Store)) → others ≡ [] → IsShort part others → part ≡ []
        none_part part [] none short = short
        none_part part (o ∷ others) none short = absurd cc

    undone : (st : Status) → EndsEarly st → ((damage : Damage) → st ≡ Damaged damage → ⊥) → KeepsBy s now.disk new.disk → new.sink.shown ≡ now.sink.shown → Serves store st old new pulls
    undone st early fair keeps shown =
        ends st early [] [] [] refl (subst (AreStints StoreStint (last_state store c.by_items)) (sym (append-nil c.closing)) c.closes) (shown ∙ sym (append-nil now.sink.shown)) ([], refl) refl (nothing_came s now.sink.shown now.disk new.disk beside keeps) (λ is. refl) fair
        (λ fine. each_kept s now.disk new.disk keeps) (inr working)

    cut : (st : Status) → EndsEarly st → (IsUndoneAt st → ⊥) → ((damage : Damage) → st ≡ Damaged damage → ⊥) → (shown : List ℕ) (i : IsShown s (StoreStint s) shown now.sink.shown new.sink.shown now.disk new.disk) → length shown < length (reply_text i.outcome.reply)
        → ((st ≡ Disk → ⊥) → EachStandsBy new.disk i.outcome.next) → Serves store st old new pulls
    cut st early done fair shown i short each =
        ends st early (i.outcome ∷ []) (i.outcome ∷ []) shown refl (stints_join store c.by_items c.closing i.outcome c.closes i.step) i.shown_is (i.front.0, append-nil (reply_text i.outcome.reply) ∙ i.front.1) short i.carried (λ is. absurd (done is)) fair each
        (inl (omega (arith, short, ap length (append-nil (reply_text i.outcome.reply)))))

    go : (st : Stop) → CarriesOut s (StoreStint s) NeverSpoiled (Err st) now.sink.shown new.sink.shown now.disk new.disk archive_new → Serves store (status_of_stop st) old new pulls
    go stops.Disk (inl (keeps, shown)) = undone Disk (inl refl) (λ damage same. cc) keeps shown
    go stops.Disk (inr (shown, i, short)) = cut Disk (inl refl) (λ is. is) (λ damage same. cc) shown i short (λ fine. absurd (fine refl))
    go stops.Sink ((shown, i, short), each) = cut Sink (inr (inl refl)) (λ is. is) (λ damage same. cc) shown i short (λ fine. each)
    go stops.Memory (keeps, shown) = undone Memory (inr (inr (inl refl))) (λ damage same. cc) keeps shown
    go (stops.Damaged damage) (undone, never) = absurd never

-- ---- the load

-- a new journal stands for the history of no entry
pub new_stands : (image : Bytes) → length image.journal ≤ 17 → Stands [] image
new_stands image short = record { spelled = inl (short, refl); loadable = tt; held = record { apart = tt; each = All-nil (λ stored. HoldsPlan [] image.pages stored.plan) } }

-- where nothing is done, each image stands for the history for which each stood
pub keeps_still : (history : History) (d : DiskState) → EachStands d history → KeepsHistory history d d
keeps_still history d each = record { goes_on = goes_on_same d; images = left_now d (λ image beside. Stands history image × (beside ≡ d.now.beside)) (λ image allowed. (each image allowed, refl)) }

pub keeps_still_by : (store : Store) (d : DiskState) → EachStandsBy d store → KeepsBy store d d
keeps_still_by store d each = record { goes_on = goes_on_same d; images = left_now d (λ image beside. StandsBy store image × (beside ≡ d.now.beside)) (λ image allowed. (each image allowed, refl)) }

-- and nothing is a sync
pub syncs_still : (d : DiskState) → Syncs d d
syncs_still d = record { goes_on = goes_on_same d; holds = refl; beside = refl; during = left_now d (λ image beside. Leaves d.now image beside) (λ image allowed. (allowed, refl)) }

-- a journal that is refused isn't new, and so it was synced
pub synced_if_refused : (old new : DiskState) (at : ℕ) → IsNotArchive old.holds at → (17 < length old.holds.journal → Syncs old new) → Syncs old new
synced_if_refused old new at refused longer = elim (cases_lt 17 (length old.holds.journal)) as (λ _. Syncs old new) [
  | inl long ↦ longer long
  | inr short ↦ absurd (stands_is_archive [] old.holds at (new_stands old.holds short) refused)
]

-- the statuses that tell neither the end of a run nor a damage
abbrev pub IsUndone : Status → Type 0
IsUndone Done = ⊥
IsUndone (Damaged damage) = ⊥
IsUndone status = Unit {0}

-- how a run ends where the archive isn't loaded
pub load_undone : (status : Status) (error : LoadError) → status ≡ status_of_load error → IsUndone status
load_undone status loads.Failed is = rw is tt
load_undone status error is = rw is tt

-- and so at no damage
pub load_undamaged : (status : Status) (error : LoadError) (damage : Damage) → status ≡ status_of_load error → status ≡ Damaged damage → ⊥
load_undamaged status error damage is same = subst IsUndone same (load_undone status error is)

pub load_early : (status : Status) (error : LoadError) → status ≡ status_of_load error → ((at : ℕ) → error ≡ loads.NotArchive at → ⊥) → EndsEarly status
load_early status loads.Failed is never = inl is
load_early status (loads.NotArchive at) is never = absurd (never at refl)
load_early status loads.Memory is never = inr (inr (inl is))

pub load_ends : (status : Status) (error : LoadError) (old new : SourceState) → status ≡ status_of_load error → new ≡ old → ((at : ℕ) × (status ≡ NotArchive at)) ⊎ Ends status old new
load_ends status loads.Failed old new is same = inr (not_pulled status old new (inl is) same)
load_ends status (loads.NotArchive at) old new is same = inl (at, is)
load_ends status loads.Memory old new is same = inr (not_pulled status old new (inr (inr (inl is))) same)

pub load_fails : (status : Status) (error : LoadError) (image : Bytes) → status ≡ status_of_load error → IsLoadedFrom image status
load_fails status loads.Failed image is = inr (inr (inl is))
load_fails status (loads.NotArchive at) image is = inr (inl (at, is))
load_fails status loads.Memory image is = inr (inr (inr is))

pub load_refused : (status : Status) (error : LoadError) (at : ℕ) → status ≡ status_of_load error → ((place : ℕ) → error ≡ loads.NotArchive place → place ≡ at) → (status ≡ NotArchive at) ⊎ ((status ≡ Disk) ⊎ (status ≡ Memory))
load_refused status loads.Failed at is once = inr (inl is)
load_refused status (loads.NotArchive place) at is once = inl (is ∙ ap NotArchive (once place refl))
load_refused status loads.Memory at is once = inr (inr is)

pub load_completes : (status : Status) (error : LoadError) → status ≡ status_of_load error → (error ≡ loads.Failed → ⊥) → ((at : ℕ) → error ≡ loads.NotArchive at → ⊥) → status ≡ Memory
load_completes status loads.Failed is never archive = absurd (never refl)
load_completes status (loads.NotArchive at) is never archive = absurd (archive at refl)
load_completes status loads.Memory is never archive = is

-- where nothing was pulled there are no items and no rest
pub nothing_split : Splits false [] [] []
nothing_split =
    let none : parted.Items false [] [] [] = record { pieces = []; items_are = refl; in_turn = refl } in
    let begins : Begins false [] More = record { in_front = tt; parts = []; tail = []; in_turn = none; none_whole = refl; unfinished = tt; before = 0; place = refl; found_is = refl } in
    (record { parts = []; in_turn = none; are = refl }, (More, begins))

-- a run that ended before its input was begun
abbrev pub not_begun : {S : Type 0} (step : S → Item → Reply → S → Type 0) (stint : S → Reply → S → Type 0) (working : S → Bool) (stands : S → Bytes → Type 0) (state : S) (status : Status) (old new : MachineState) → EndsEarly status → (new.source ≡ old.source) × (new.sink ≡ old.sink)
    → (((image : Bytes) → MayLeave old.disk.now image → stands state image) → Carried {R = Reply} reply_text stands state [] old.sink.shown old.disk new.disk × ((image : Bytes) → MayLeave new.disk.now image → stands state image)) → Headline step stint working stands state status old new []
not_begun step stint working stands state status old new early alone keeps = record {
  ran = record {
    pulled = [];
    pulled_are = ap (λ (s : SourceState). s.left) (sym alone.0);
    ended = false;
    ended_is = λ is. absurd (false≢true is);
    reached = [];
    behind = [];
    rest = [];
    split = nothing_split;
    input_at = input_early status false [] [] early;
    outcomes = [];
    by_items = [];
    closing = [];
    outcomes_are = refl;
    run = inl refl;
    closes = tt;
    at_end = inl refl;
    closed = λ done. absurd (early_undone status early done);
    shown = [];
    shown_is = ap (λ (s : SinkState). s.shown) alone.1 ∙ sym (append-nil old.sink.shown);
    front = ([], refl);
    all = λ done. refl;
    whole = λ done. refl;
    unfinished = λ fault. inl refl;
    after_replies = All-nil (ComesAfterReplies step stint working state old.source old.sink [] []);
  };
  images = λ each. reopens reply_text stands state [] old.sink.shown old.disk new.disk tt (keeps each).0;
  last = λ done. absurd (not_early status early done);
  steady = λ each fine. (0, omega arith, (keeps each).1);
  starved = λ each is. (0, record { within = omega arith; whole = ([], refl); greatest = λ m within front. within }, (keeps each).1);
}

-- a load keeps what is stored: each image spells the bodies that each spelled, and has the pages of one
pub load_keeps : (store : Store) (old new : DiskState) → ((bodies : List (List ℕ)) → EachSpells old bodies → KeepsBodies bodies old new) → KeepsPages old new → EachStandsBy old store → KeepsBy store old new
load_keeps store old new bodies pages each =
    let kept = bodies (bodies_of store.history) (λ image allowed. (each image allowed).spelled) in
    record {
      goes_on = kept.goes_on;
      images = λ image beside left.
          let is = kept.images image beside left in
          let was = pages.images image beside left in
          (record { spelled = is.0; same = same_as store.pages was.0.pages image.pages (live_extents store.history) was.2 (each was.0 was.1).same }, is.1);
    }

-- where nothing is done, each journal spells the bodies that each spelled
pub bodies_still : (bodies : List (List ℕ)) (d : DiskState) → EachSpells d bodies → KeepsBodies bodies d d
bodies_still bodies d each = record { goes_on = goes_on_same d; images = left_now d (λ image beside. Spells image.journal bodies × (beside ≡ d.now.beside)) (λ image allowed. (each image allowed, refl)) }

-- behind a load the archive is in step with what is stored
pub begins_in_step : (h : History) (d n : DiskState) (a : ArchiveState) → a.shelf.cache ≡ [] → n.bytes_read.pages ≡ d.bytes_read.pages
    → (found : Store) × (AreInStepBy n a found × Spells d.holds.journal (bodies_of found.history) × (found.pages ≡ d.holds.pages) × (found.asked ≡ []) × (found.job ≡ None)) → LoadsAs h d.holds → AreInStepBy n a (store_of h d)
begins_in_step h d n a empty unread (s, (in_step, spelled, pages, unasked, idle)) begins =
    let one : s.history ≡ h = spells_one_history d.holds.journal s.history h spelled in_step.stands.loadable begins.spelled begins.loadable in
    let kept : s.kept ≡ [] = sym in_step.kept_are ∙ empty in
    let read : s.read ≡ d.bytes_read.pages = sym in_step.read_is ∙ unread in
    let same : s ≡ store_of h d =
    ap (λ (x : History). record s { history = x }) one ∙ ap (λ (x : List Asking). record s { history = h; asked = x }) unasked
    ∙ ap (λ (x : List ℕ). record s { history = h; asked = []; pages = x }) pages
    ∙ ap (λ (x : List Kept). record s { history = h; asked = []; pages = d.holds.pages; kept = x }) kept ∙ ap (λ (x : ℕ). record s { history = h; asked = []; pages = d.holds.pages; kept = []; read = x }) read
    ∙ ap (λ (x : Option Job). record s { history = h; asked = []; pages = d.holds.pages; kept = []; read = d.bytes_read.pages; job = x }) idle in
    subst (AreInStepBy n a) same in_step

-- what a load found it took the bytes for
pub loads_found : {n : DiskState} {a : ArchiveState} (d : DiskState) → (found : (s : Store) × (AreInStepBy n a s × Spells d.holds.journal (bodies_of s.history) × (s.pages ≡ d.holds.pages) × (s.asked ≡ []) × (s.job ≡ None))) → LoadsAs found.0.history d.holds
loads_found d (s, (in_step, spelled, pages, unasked, idle)) = record { spelled = spelled; loadable = in_step.stands.loadable; live = subst (λ (ps : List ℕ). AreLive (live_extents s.history) (length ps)) pages in_step.live }

-- bytes that stand for a history are loaded for it
pub stands_loads : (h : History) (image : Bytes) → Stands h image → LoadsAs h image
stands_loads h image stands = record { spelled = stands.spelled; loadable = stands.loadable; live = stands_live h image stands }

-- and what is loaded isn't refused
pub loads_archive : (h : History) (image : Bytes) (at : ℕ) → LoadsAs h image → IsNotArchive image at → ⊥
loads_archive h image at begins refused = loaded_is_archive image h at begins.spelled begins.loadable begins.live refused

-- where nothing was begun, what is kept is no event
pub kept_by : (store : Store) (old new : DiskState) (before : List ℕ) → old.now.beside ≡ before → (EachStandsBy old store → KeepsBy store old new) → EachStandsBy old store
    → Carried {R = Reply} reply_text StandsBy store [] before old new × EachStandsBy new store
kept_by store old new before beside keeps each = (nothing_came store before old new beside (keeps each), each_kept store old new (keeps each))

-- a run at its start, behind the load
pub serving_start : (store : Store) (m : MachineState) (archive : ArchiveState) (held : ReaderState) → held ≡ fresh → m.disk.now.beside ≡ m.sink.shown → AreInStepBy m.disk archive store → Serving store m m archive held []
serving_start store m archive held is beside in_step = rw is (record {
  pulling = pulling_first m.source m.source refl;
  outcomes = [];
  run = refl;
  shown = sym (append-nil m.sink.shown);
  carried = nothing_came store m.sink.shown m.disk m.disk beside (keeps_nowhere m.disk archive store in_step);
  in_step = in_step;
  after_replies = All-nil (ComesAfter store m.source m.sink [] []);
})

-- ---- outcomes without text

-- a stint that says nothing leaves what each image stands for
quiet_silent : (s t : Store) → StoreStint s Silent t → IsQuiet reply_text StandsBy s Silent t
quiet_silent s t (works, stocks) none image stands =
    let same = silent_keeps (world_by s) (world_by t) works in record {
      spelled = subst (λ (h : History). Spells image.journal (bodies_of h)) (sym same) stands.spelled;
      same = subst (λ (h : History). All (HasSame t.pages image.pages) (live_extents h)) (sym same) (both_same s.pages t.pages image.pages (live_extents s.history) stocks.same stands.same);
    }

quiet_stint : (s : Store) (r : Reply) (t : Store) → StoreStint s r t → IsQuiet reply_text StandsBy s r t
quiet_stint s r t stint = elim (silent_or r) as (λ _. IsQuiet reply_text StandsBy s r t) [
  | inl is ↦ (let Q : Reply → Type 0 = λ x. StoreStint s x t → IsQuiet reply_text StandsBy s x t in subst Q (sym is) (quiet_silent s t) stint)
  | inr speaks ↦ λ none. absurd (omega (arith, speaks_bytes r speaks, ap length none))
]

quiet_item : (s : Store) (item : Item) (r : Reply) (t : Store) → StoreStep s item r t → IsQuiet reply_text StandsBy s r t
quiet_item s item r t step none = absurd (omega (arith, some_bytes s item r t step, ap length none))

quiet_to : (s : Store) (items : List Item) (outcomes : List (Outcome Reply Store)) → IsStoreRun s items outcomes ⊎ (LacksStint StoreStep StoreStint is_at_work s items outcomes × Unit {0}) → AreQuiet reply_text StandsBy s outcomes
quiet_to s items outcomes (inl run) = works_quiet reply_text StandsBy StoreStep StoreStint is_at_work quiet_item quiet_stint s items outcomes run
quiet_to s items outcomes (inr (lacks, fault)) =
    subst (AreQuiet reply_text StandsBy s) (sym lacks.outcomes_are) (quiet_joins reply_text StandsBy s lacks.done (lacks.outcome ∷ []) (works_quiet reply_text StandsBy StoreStep StoreStint is_at_work quiet_item quiet_stint s lacks.before lacks.done lacks.run)
    (quiet_item (last_state s lacks.done) lacks.event lacks.outcome.reply lacks.outcome.next lacks.last, tt))

pub quiet_ran : (store : Store) (status : Status) (old new : MachineState) (pulls : List Pull) → (ran : Ran StoreStep StoreStint is_at_work store status old.source new.source old.sink new.sink pulls) → AreQuiet reply_text StandsBy store ran.outcomes
quiet_ran store status old new pulls ran =
    subst (AreQuiet reply_text StandsBy store) (sym ran.outcomes_are) (quiet_joins reply_text StandsBy store ran.by_items ran.closing (quiet_to store ran.reached ran.by_items (elim ran.run [ inl run ↦ inl run | inr lacks ↦ inr (lacks.0, tt) ]))
    (stints_quiet reply_text StandsBy StoreStint quiet_stint (last_state store ran.by_items) ran.closing ran.closes))

-- the load and the items, by what reads give
pub whole_run : (store : Store) (status : Status) (old : MachineState) (mid : DiskState) (new : MachineState) (pulls : List Pull) → old.disk.now.beside ≡ old.sink.shown
    → (EachStandsBy old.disk store → KeepsBy store old.disk mid) → Serves store status (record { source = old.source; sink = old.sink; disk = mid }) new pulls → ReadingRun store status old new pulls
whole_run store status old mid new pulls beside keeps serves = record {
  headline = record {
    ran = serves.ran;
    images = λ each. reopens reply_text StandsBy store serves.ran.outcomes old.sink.shown old.disk new.disk (quiet_ran store status (record { source = old.source; sink = old.sink; disk = mid }) new pulls serves.ran)
        (carried_joins serves.ran.outcomes new.disk (nothing_came store old.sink.shown old.disk mid beside (keeps each)) (rw append-nil serves.carried));
    last = λ done. subst (EachStandsBy new.disk) (sym (state_after_all store serves.ran.outcomes)) (serves.steady (λ is. rw is at done));
    steady = λ each fine. (length serves.ran.outcomes, omega arith, subst (EachStandsBy new.disk) (sym (state_after_all store serves.ran.outcomes)) (serves.steady fine));
    starved = λ each is. (
        let none = serves.undone (rw is tt) in
        let all : serves.ran.outcomes ≡ serves.whole = serves.outcomes_are ∙ ap (λ (l : List (Outcome Reply Store)). serves.whole ++ l) none.0 ∙ append-nil serves.whole in
        let E : Store → Type 0 = EachStandsBy new.disk in (
          length serves.whole,
          rw (serves.outcomes_are, serves.shown_is) (acknowledged serves.whole serves.others serves.part serves.short),
          subst E (sym (ap (λ (l : List (Outcome Reply Store)). state_after store l (length serves.whole)) all ∙ state_after_all store serves.whole ∙ ap (λ (l : List (Outcome Reply Store)). last_state store l) (sym all))) (serves.steady (λ other. cc)),
        )
        );
  };
  damaged = λ damage is. (
      let (item, rest, behind, spoils) = serves.damaged damage is in
      let none = serves.undone (rw is tt) in
      let all : serves.ran.outcomes ≡ serves.whole = serves.outcomes_are ∙ ap (λ (l : List (Outcome Reply Store)). serves.whole ++ l) none.0 ∙ append-nil serves.whole in
      (item, rest, behind, spoils, serves.shown_is ∙ ap (λ (l : List ℕ). shown_by reply_text serves.whole ++ l) none.1 ∙ append-nil (shown_by reply_text serves.whole) ∙ ap (λ (l : List (Outcome Reply Store)). shown_by reply_text l) (sym all))
      );
  read = serves.read;
}
