-- A run by what reads give is one of the history, and what each image has of it.
use Rattle.std.proofs.Common.{◌≡◌, ◌⊎◌, ℕ, List, [], ◌∷◌, ◌++◌, length, map, None, inl, inr, refl, ap, sym, subst, ◌∙◌, arith}
use Rattle.std.proofs.lemmas.List.{length-map, map-append, take_all}
use Rattle.std.proofs.lemmas.List.Elements.{All-weaker}
use Rattle.machine_model.specs.Areas.{Bytes}
use Rattle.machine_model.specs.Moments.{GoesOn, LeavesOnly}
use Rattle.machine_model.specs.Pulls.{Pull}
use Rattle.machine_model.specs.Pushes.{IsPrefix}
use Rattle.machine_model.specs.States.{DiskState, MachineState, SinkState, SourceState}
use Rattle.journal_entries.specs.declared.entry.Entry.{Entry}
use Rattle.journal_entries.specs.declared.entry.Entry.TheVariants as entries
use Rattle.journal_packets.specs.Packets.{Framed}
use Rattle.journal_packets.specs.Streams.{stream}
use Rattle.pages_area.specs.Taken.{AreApart}
use Rattle.model_archive.specs.Histories.{History, entry_refusal}
use Rattle.model_archive.specs.Holding.{HoldsPlan, HoldsPlans}
use Rattle.model_archive.specs.Legal.{IsLoadable}
use Rattle.model_archive.specs.Plans.{live_extents}
use Rattle.model_archive.specs.Runs.{IsAcknowledged, IsRun, Outcome, Reopens, shown_by}
use Rattle.model_archive.specs.Standing.{AreQuiet, Carried, StandsAlong, last_state}
use Rattle.model_archive.specs.Stands.{EachStands, Stands}
use Rattle.model_archive.proofs.HistoryLemmas.{entry_loads, loadable-push}
use Rattle.model_archive.proofs.HoldLemmas.{held_alike, held_push, held_with}
use Rattle.model_archive.proofs.RunLemmas.{reopens, state_after_all}
use Rattle.machine_model.proofs.MomentLemmas.{goes_on_joins, joined}
use Rattle.plans_kinds.specs.Plans.{IsFitFor}
use Rattle.archive_hand.specs.Stored.{StandsBy, Store}
use Rattle.model_follow.specs.Following.{Follows, Note, Had, Took, length_text, note_text}
use Rattle.run_taking.specs.Following.{ComesAfterLines, EndsAt, Followed, Ran, SpellsIn}
use Rattle.run_taking.specs.Serving.{IsClosing, Serves, StoreFollows}
use Rattle.run_taking.specs.declared.ended.Ended.{Ended}

-- ---- outcomes by the history alone

abbrev pub bare : Outcome Note Store → Outcome Note History
bare outcome = record { reply = outcome.reply; next = outcome.next.history }

shown_bare : (outcomes : List (Outcome Note Store)) → shown_by note_text (map bare outcomes) ≡ shown_by note_text outcomes
shown_bare [] = refl
shown_bare (o ∷ outcomes) = ap (λ (l : List ℕ). note_text o.reply ++ l) (shown_bare outcomes)

last_bare : (s : Store) (outcomes : List (Outcome Note Store)) → last_state s.history (map bare outcomes) ≡ (last_state s outcomes).history
last_bare s [] = refl
last_bare s (o ∷ outcomes) = last_bare o.next outcomes

run_bare : (s : Store) (packets : List Framed) (outcomes : List (Outcome Note Store)) → IsRun StoreFollows s packets outcomes → IsRun Follows s.history packets (map bare outcomes)
run_bare s [] [] run = tt
run_bare s (p ∷ packets) (o ∷ outcomes) run = (run.0.0, run_bare o.next packets outcomes run.1)
run_bare s [] (o ∷ outcomes) run = absurd run
run_bare s (p ∷ packets) [] run = absurd run

lines_bare : (input : SourceState) (output : SinkState) (packets : List Framed) (outcomes : List (Outcome Note Store)) (pull : Pull) → ComesAfterLines input output packets outcomes pull → ComesAfterLines input output packets (map bare outcomes) pull
lines_bare input output packets outcomes pull was = record {
  pulled = was.pulled;
  pulled_are = was.pulled_are;
  before = was.before;
  to_come = was.to_come;
  packets_are = was.packets_are;
  rest = was.rest;
  split = was.split;
  open_rest = was.open_rest;
  answered = map bare was.answered;
  not_yet = map bare was.not_yet;
  outcomes_are = ap (map bare) was.outcomes_are ∙ map-append bare was.answered was.not_yet;
  each = length-map was.answered bare ∙ was.each;
  shown = was.shown ∙ ap (λ (l : List ℕ). output.shown ++ l) (sym (shown_bare was.answered));
}

ran_bare : (s : Store) (end : Ended) (input input_now : SourceState) (output output_now : SinkState) (pulls : List Pull) → Ran StoreFollows (λ (x : Store). x.history) s end input input_now output output_now pulls
    → Ran Follows (λ (h : History). h) s.history end input input_now output output_now pulls
ran_bare s end input input_now output output_now pulls ran =
    let outcomes = ran.outcomes in
    let all = map bare outcomes in
    let shown = sym (shown_bare outcomes) in
    let last : (last_state s outcomes).history ≡ last_state s.history all = sym (last_bare s outcomes) in
    let T : List ℕ → History → Type 0 = λ l h. IsPrefix ran.shown (l ++ length_text (length h)) in
    record {
      pulled = ran.pulled;
      pulled_are = ran.pulled_are;
      ended = ran.ended;
      ended_is = ran.ended_is;
      carried = ran.carried;
      behind = ran.behind;
      rest = ran.rest;
      proper = ran.proper;
      split = ran.split;
      outcomes = all;
      run = run_bare s ran.carried outcomes ran.run;
      ends = subst (λ (h : History). EndsAt end h (length (stream ran.carried)) (length ran.pulled) ran.ended ran.behind ran.rest) last ran.ends;
      shown = ran.shown;
      shown_is = ran.shown_is;
      front = elim ran.front [
        | inl front ↦ inl (subst (IsPrefix ran.shown) shown front)
        | inr done ↦ inr (done.0, done.1, subst (λ (h : History). T (shown_by note_text all) h) last (subst (λ (l : List ℕ). T l (last_state s outcomes).history) shown done.2))
      ];
      whole = λ tells. subst (λ (l : List ℕ). IsPrefix l ran.shown) shown (ran.whole tells);
      done = λ is. ran.done is ∙ ap (λ (l : List ℕ). l ++ length_text (length (last_state s outcomes).history)) shown ∙ ap (λ (h : History). shown_by note_text all ++ length_text (length h)) last;
      after_lines = All-weaker (ComesAfterLines input output ran.carried outcomes) (ComesAfterLines input output ran.carried all) (λ pull was. lines_bare input output ran.carried outcomes pull was) pulls ran.after_lines;
    }

-- ---- each image along the run spells what it should

spells_along : (s : Store) (outcomes : List (Outcome Note Store)) (image : Bytes) (shown : List ℕ) → StandsAlong note_text StandsBy s outcomes image shown → StandsAlong note_text SpellsIn s.history (map bare outcomes) image shown
spells_along s [] image shown (stands, none) = (stands.spelled, none)
spells_along s (o ∷ outcomes) image shown (inl (stands, none)) = inl (stands.spelled, none)
spells_along s (o ∷ outcomes) image shown (inr (inl (stands, front))) = inr (inl (stands.spelled, front))
spells_along s (o ∷ outcomes) image shown (inr (inr (rest, is, on))) = inr (inr (rest, is, spells_along o.next outcomes image rest on))

-- ---- and where it stood it stands

-- what is stored stands for its history
pub record IsHeld (s : Store) : Type 0 where
  pub loadable : IsLoadable s.history
  pub held : HoldsPlans s.history s.pages

pub stands_held : (s : Store) (image : Bytes) → IsHeld s → StandsBy s image → Stands s.history image
stands_held s image is stands = record { spelled = stands.spelled; loadable = is.loadable; held = held_alike s.history s.pages image.pages stands.same is.held }

held_next : (s next : Store) (p : Framed) (note : Note) → StoreFollows s p note next → IsHeld s → IsHeld next
held_next s next p (Had number) (follows, stocks) is =
    let same : next.history ≡ s.history = follows.2 in
    record {
      loadable = subst IsLoadable (sym same) is.loadable;
      held = subst (λ (h : History). HoldsPlans h next.pages) (sym same) (held_alike s.history s.pages next.pages stocks.same is.held);
    }
held_next s next p (Took number) (follows, stocks) is =
    let (e, spelled, may, added) = follows.2 in
    record { loadable = subst IsLoadable (sym added) (loadable-push s.history e is.loadable (entry_loads s.history e may.legal)); held = subst (λ (h : History). HoldsPlans h next.pages) (sym added) (go e may.legal.allowed added) }
  where
    now : HoldsPlans s.history next.pages
    now = held_alike s.history s.pages next.pages stocks.same is.held

    go : (e : Entry) → entry_refusal s.history e ≡ None → next.history ≡ s.history ++ e ∷ [] → HoldsPlans (s.history ++ e ∷ []) next.pages
    go (entries.Arrive doc at text) allowed added = held_push IsFitFor s.history (entries.Arrive doc at text) next.pages tt is.loadable allowed now
    go (entries.Delete doc at) allowed added = held_push IsFitFor s.history (entries.Delete doc at) next.pages tt is.loadable allowed now
    go (entries.Batch batch) allowed added = held_push IsFitFor s.history (entries.Batch batch) next.pages tt is.loadable allowed now
    go entries.Format allowed added = held_push IsFitFor s.history entries.Format next.pages tt is.loadable allowed now
    go (entries.Planned plan) allowed added =
        held_with IsFitFor s.history plan next.pages is.loadable (subst (λ (h : History). AreApart (live_extents h)) added stocks.apart) now (subst (λ (h : History). HoldsPlan h next.pages plan) added (stocks.held plan added))

last_held : (s : Store) (packets : List Framed) (outcomes : List (Outcome Note Store)) → IsRun StoreFollows s packets outcomes → IsHeld s → IsHeld (last_state s outcomes)
last_held s [] [] run is = is
last_held s (p ∷ packets) (o ∷ outcomes) run is = last_held o.next packets outcomes run.1 (held_next s o.next p o.reply run.0 is)
last_held s [] (o ∷ outcomes) run is = absurd run
last_held s (p ∷ packets) [] run is = absurd run

stands_along : (s : Store) (packets : List Framed) (outcomes : List (Outcome Note Store)) (image : Bytes) (shown : List ℕ) → IsRun StoreFollows s packets outcomes → IsHeld s → StandsAlong note_text StandsBy s outcomes image shown
    → StandsAlong note_text Stands s.history (map bare outcomes) image shown
stands_along s [] [] image shown run is (stands, none) = (stands_held s image is stands, none)
stands_along s (p ∷ packets) (o ∷ outcomes) image shown run is (inl (stands, none)) = inl (stands_held s image is stands, none)
stands_along s (p ∷ packets) (o ∷ outcomes) image shown run is (inr (inl (stands, front))) = inr (inl (stands_held o.next image (held_next s o.next p o.reply run.0 is) stands, front))
stands_along s (p ∷ packets) (o ∷ outcomes) image shown run is (inr (inr (rest, same, on))) = inr (inr (rest, same, stands_along o.next packets outcomes image rest run.1 (held_next s o.next p o.reply run.0 is) on))
stands_along s [] (o ∷ outcomes) image shown run is along = absurd run
stands_along s (p ∷ packets) [] image shown run is along = absurd run

-- each line has bytes
quiet : (P : History → Bytes → Type 0) (h : History) (outcomes : List (Outcome Note History)) → AreQuiet note_text P h outcomes
quiet P h [] = tt
quiet P h (o ∷ outcomes) = (λ none. absurd (some o.reply none), quiet P o.next outcomes)
  where
    some : (note : Note) → note_text note ≡ [] → ⊥
    some (Had n) none = cc
    some (Took n) none = cc

-- ---- the whole run

-- lines that are shown whole acknowledge all outcomes, whatever is shown behind them
all_acknowledged : {S R : Type 0} (text : R → List ℕ) (outcomes : List (Outcome R S)) (shown part : List ℕ) → shown ≡ shown_by text outcomes ++ part → IsAcknowledged text outcomes shown (length outcomes)
all_acknowledged text outcomes shown part is = record {
  within = omega arith;
  whole = (part, is ∙ ap (λ os. shown_by text os ++ part) (sym (take_all (length outcomes) outcomes (omega arith))));
  greatest = λ m within front. within;
}

-- each image of the run, and of the last line, has what it should
all_reopen : (P : History → Bytes → Type 0) (s : Store) (outcomes : List (Outcome Note Store)) (before : List ℕ) (old mid new : DiskState) → ((image : Bytes) (shown : List ℕ) → StandsAlong note_text StandsBy s outcomes image shown → StandsAlong note_text P s.history (map bare outcomes) image shown)
    → ((image : Bytes) → StandsBy (last_state s outcomes) image → P (last_state s outcomes).history image) → Carried note_text StandsBy s outcomes before old mid → (new ≡ mid) ⊎ IsClosing s outcomes before mid new → LeavesOnly old new (Reopens note_text P s.history (map bare outcomes) before)
all_reopen P s outcomes before old mid new along at carried closing = elim closing [
  | inl same ↦ subst (λ (d : DiskState). LeavesOnly old d (Reopens note_text P s.history all before)) (sym same) early
  | inr late ↦ joined (Reopens note_text P s.history all before) carried.goes_on early late.goes_on (λ image beside left.
      let (part, is, stands) = late.images image beside left in
      let shown = shown_by note_text outcomes ++ part in
      record {
        shown = shown;
        shown_is = is;
        k = length all;
        acknowledged = all_acknowledged note_text all shown part (ap (λ (l : List ℕ). l ++ part) (sym (shown_bare outcomes)));
        j = length all;
        one_more = inl refl;
        reached = omega arith;
        holds = subst (λ (h : History). P h image) (sym (state_after_all s.history all ∙ last_bare s outcomes)) (at image stands);
      })
]
  where
    all : List (Outcome Note History)
    all = map bare outcomes

    early : LeavesOnly old mid (Reopens note_text P s.history all before)
    early = reopens note_text P s.history all before old mid (quiet P s.history all) (record {
      goes_on = carried.goes_on;
      images = λ image beside left. let was = carried.images image beside left in (was.0, was.1, along image was.0 was.2);
    })

pub followed_by : (s : Store) (end : Ended) (old new : MachineState) (pulls : List Pull) → (EachStands old.disk s.history → IsHeld s) → Serves s end old new pulls → Followed s.history end old new pulls
unfolding ran_bare
followed_by s end old new pulls held serves =
    let ran = serves.ran in
    let outcomes = ran.outcomes in
    record {
      ran = ran_bare s end old.source new.source old.sink new.sink pulls ran;
      goes_on = elim serves.closing [
        | inl same ↦ subst (λ (d : DiskState). GoesOn old.disk d) (sym same) serves.carried.goes_on
        | inr late ↦ goes_on_joins serves.carried.goes_on late.goes_on
      ];
      spelled = all_reopen SpellsIn s outcomes old.sink.shown old.disk serves.mid new.disk (λ image shown on. spells_along s outcomes image shown on) (λ image stands. stands.spelled) serves.carried serves.closing;
      images = λ stands. all_reopen Stands s outcomes old.sink.shown old.disk serves.mid new.disk (λ image shown on. stands_along s ran.carried outcomes image shown ran.run (held stands) on)
          (λ image stands_by. stands_held (last_state s outcomes) image (last_held s ran.carried outcomes ran.run (held stands)) stands_by) serves.carried serves.closing;
      last_spelled = λ tells image allowed. subst (λ (h : History). SpellsIn h image) (sym (last_bare s outcomes)) (serves.steady tells image allowed).spelled;
      last = λ stands tells image allowed. subst (λ (h : History). Stands h image) (sym (last_bare s outcomes)) (stands_held (last_state s outcomes) image (last_held s ran.carried outcomes ran.run (held stands)) (serves.steady tells image allowed));
    }
