-- On a disk that stands for a history, a run by what reads give is the abstract archive's, which goes on over the items that weren't reached.
use Rattle.std.proofs.Common.{◌≡◌, ◌⊎◌, ℕ, ◌<◌, ◌≤◌, Bool, true, false, List, [], ◌∷◌, ◌++◌, length, map, All, inl, inr, refl, ap, sym, subst, ◌∙◌, arith, append_assoc}
use Rattle.std.proofs.lemmas.List.{append-nil, length-append, map-append}
use Rattle.std.proofs.lemmas.List.Elements.{All-cons, All-head, All-nil, All-tail, All-weaker}
use Rattle.machine_model.specs.Areas.{Bytes}
use Rattle.machine_model.specs.Pulls.{Pull}
use Rattle.machine_model.specs.Pushes.{IsPrefix}
use Rattle.machine_model.specs.States.{DiskState, MachineState, SinkState, SourceState, moment}
use Rattle.machine_model.proofs.MomentLemmas.{allowed_left}
use Rattle.base_commands.specs.Documents.{HasDocument}
use Rattle.base_commands.specs.declared.command.Item.{Item}
use Rattle.script_items.proofs.Ranges.{Items-documents}
use Rattle.script_items.specs.Items.{Splits}
use Rattle.model_archive.specs.Histories.{History}
use Rattle.model_archive.specs.Legal.{IsFair, IsLoadable}
use Rattle.model_archive.specs.Replies.{reply_text}
use Rattle.model_archive.specs.Runs.{Outcome, AfterStint, AreStints, IsAcknowledged, IsRunWith, shown_by, state_after}
use Rattle.model_archive.specs.Standing.{last_state, AreQuiet, Carried, IsQuiet, LacksStint, StandsAlong}
use Rattle.model_archive.specs.Stands.{EachStands, StandsIn}
use Rattle.model_archive.specs.Steps.{Reply, Step, Works}
use Rattle.model_archive.specs.Worlds.{World, at_work, world_of}
use Rattle.model_archive.proofs.OutcomeLemmas.{each_outcome, each_stint, silent_keeps, step_loads}
use Rattle.model_archive.proofs.RunLemmas.{carried_joins, carried_on, last_state_joins, quiet_joins, reopens, shown_by_joins, state_after_all, state_after_front, stints_quiet, works_join, works_on, works_quiet}
use Rattle.model_archive.proofs.SpeakLemmas.{silent_or, silent_works, step_works}
use Rattle.archive_hand.specs.Changing.{KeepsHistory}
use Rattle.archive_hand.specs.Stored.{Store, StandsBy, StoreStep, StoreStint, is_at_work, world_by}
use Rattle.archive_hand.proofs.StandingLemmas.{IsStanding, spoiled_never, stands_standing, step_standing, stint_standing}
use Rattle.run_script.specs.Headline.{CarriesOutAll, ComesAfterReplies, EachOf, Ran, StandingRun, store_of}
use Rattle.run_script.specs.Serving.{ComesAfter, IsStoreRun, Serves}
use Rattle.run_script.specs.Outcomes.{IsShort}
use Rattle.run_script.specs.declared.status.Status.{Status}
use Rattle.run_script.specs.declared.status.Status.TheVariants.{Disk, Memory, Sink}
use Rattle.run_script.proofs.OutcomeLemmas.{machine_bytes, speaks_bytes}
use Rattle.run_script.proofs.ServeLemmas.{acknowledged, all_after_replies}

-- ---- outcomes by the history and what was asked alone

abbrev pub bare : Outcome Reply Store → Outcome Reply World
bare outcome = record { reply = outcome.reply; next = world_by outcome.next }

shown_bare : (outcomes : List (Outcome Reply Store)) → shown_by reply_text (map bare outcomes) ≡ shown_by reply_text outcomes
shown_bare [] = refl
shown_bare (outcome ∷ outcomes) = ap (λ (l : List ℕ). reply_text outcome.reply ++ l) (shown_bare outcomes)

last_bare : (s : Store) (outcomes : List (Outcome Reply Store)) → last_state (world_by s) (map bare outcomes) ≡ world_by (last_state s outcomes)
last_bare s [] = refl
last_bare s (outcome ∷ outcomes) = last_bare outcome.next outcomes

-- all along an outcome leads to what stands
abbrev EachStanding : Store → List (Outcome Reply Store) → Type 0
EachStanding s [] = IsStanding s
EachStanding s (outcome ∷ outcomes) = IsStanding s × EachStanding outcome.next outcomes

last_standing : (s : Store) (outcomes : List (Outcome Reply Store)) → EachStanding s outcomes → IsStanding (last_state s outcomes)
last_standing s [] each = each
last_standing s (outcome ∷ outcomes) each = last_standing outcome.next outcomes each.1

each_joins : (s : Store) (outcomes more : List (Outcome Reply Store)) → EachStanding s outcomes → EachStanding (last_state s outcomes) more → EachStanding s (outcomes ++ more)
each_joins s [] more one two = two
each_joins s (outcome ∷ outcomes) more one two = (one.0, each_joins outcome.next outcomes more one.1 two)

stint_bare : (working : Bool) (s : Store) (outcomes : List (Outcome Reply Store)) (Rest : Store → List (Outcome Reply Store) → Type 0) (Then : World → List (Outcome Reply World) → Type 0) → IsStanding s → AfterStint StoreStint working s outcomes Rest
    → ((next : Store) (rest : List (Outcome Reply Store)) → IsStanding next → Rest next rest → Then (world_by next) (map bare rest) × EachStanding next rest) → AfterStint Works working (world_by s) (map bare outcomes) Then × EachStanding s outcomes
stint_bare false s outcomes Rest Then standing run on = on s outcomes standing run
stint_bare true s [] Rest Then standing run on = absurd run
stint_bare true s (work ∷ outcomes) Rest Then standing run on =
    let one = stint_standing s work.reply work.next standing run.0 in
    let more = on work.next outcomes one.1 run.1 in
    ((one.0, more.0), (standing, more.1))

run_bare : (s : Store) (items : List Item) (outcomes : List (Outcome Reply Store)) → IsStanding s → All HasDocument items → IsStoreRun s items outcomes → IsRunWith Step Works at_work (world_by s) items (map bare outcomes) × EachStanding s outcomes
run_bare s [] outcomes standing range run = (ap (map bare) run, subst (EachStanding s) (sym run) standing)
run_bare s (item ∷ items) [] standing range run = absurd run
run_bare s (item ∷ items) (outcome ∷ outcomes) standing range run =
    let one = step_standing s item outcome.reply outcome.next standing (All-head HasDocument item items range) run.0 in
    let more = stint_bare (is_at_work s) outcome.next outcomes (λ next rest. IsStoreRun next items rest) (λ next rest. IsRunWith Step Works at_work next items rest) one.1 run.1
    (λ next rest still run. run_bare next items rest still (All-tail HasDocument item items range) run) in
    ((one.0, more.0), (standing, more.1))

stints_bare : (s : Store) (outcomes : List (Outcome Reply Store)) → IsStanding s → AreStints StoreStint s outcomes → AreStints Works (world_by s) (map bare outcomes) × EachStanding s outcomes
stints_bare s [] standing are = (tt, standing)
stints_bare s (work ∷ outcomes) standing are =
    let one = stint_standing s work.reply work.next standing are.0 in
    let more = stints_bare work.next outcomes one.1 are.1 in
    ((one.0, more.0), (standing, more.1))

all_front : (P : Item → Type 0) (xs ys : List Item) → All P (xs ++ ys) → All P xs × All P ys
all_front P [] ys all = (All-nil P, all)
all_front P (x ∷ xs) ys all = let more = all_front P xs ys (All-tail P x (xs ++ ys) all) in (All-cons P x xs (All-head P x (xs ++ ys) all) more.0, more.1)

lacks_bare : (s : Store) (items : List Item) (outcomes : List (Outcome Reply Store)) → IsStanding s → All HasDocument items → LacksStint StoreStep StoreStint is_at_work s items outcomes → LacksStint Step Works at_work (world_by s) items (map bare outcomes) × EachStanding s outcomes
lacks_bare s items outcomes standing range lacks =
    let parts = all_front HasDocument lacks.before (lacks.event ∷ []) (subst (All HasDocument) lacks.events_are range) in
    let so_far = run_bare s lacks.before lacks.done standing parts.0 lacks.run in
    let w = last_state s lacks.done in
    let last_is = last_bare s lacks.done in
    let one = step_standing w lacks.event lacks.outcome.reply lacks.outcome.next (last_standing s lacks.done so_far.1) (All-head HasDocument lacks.event [] parts.1) lacks.last in (
      record {
        before = lacks.before;
        event = lacks.event;
        events_are = lacks.events_are;
        done = map bare lacks.done;
        outcome = bare lacks.outcome;
        outcomes_are = ap (map bare) lacks.outcomes_are ∙ map-append bare lacks.done (lacks.outcome ∷ []);
        run = so_far.0;
        working = ap at_work last_is ∙ lacks.working;
        last = subst (λ (x : World). Step x lacks.event lacks.outcome.reply (world_by lacks.outcome.next)) (sym last_is) one.0;
      },
      subst (EachStanding s) (sym lacks.outcomes_are) (each_joins s lacks.done (lacks.outcome ∷ []) so_far.1 (last_standing s lacks.done so_far.1, one.1)),
    )

-- what each image stands for along the run
along_bare : (s : Store) (outcomes : List (Outcome Reply Store)) (image : Bytes) (shown : List ℕ) → EachStanding s outcomes → StandsAlong reply_text StandsBy s outcomes image shown → StandsAlong reply_text StandsIn (world_by s) (map bare outcomes) image shown
along_bare s [] image shown each (stands, none) = (stands_standing s image each stands, none)
along_bare s (outcome ∷ outcomes) image shown each (inl (stands, none)) = inl (stands_standing s image each.0 stands, none)
along_bare s (outcome ∷ outcomes) image shown each (inr (inl (stands, front))) = inr (inl (stands_standing outcome.next image (first_standing outcome.next outcomes each.1) stands, front))
  where
    first_standing : (s : Store) (outcomes : List (Outcome Reply Store)) → EachStanding s outcomes → IsStanding s
    first_standing s [] each = each
    first_standing s (outcome ∷ outcomes) each = each.0
along_bare s (outcome ∷ outcomes) image shown each (inr (inr (rest, is, further))) = inr (inr (rest, is, along_bare outcome.next outcomes image rest each.1 further))

carried_bare : (s : Store) (outcomes : List (Outcome Reply Store)) (before : List ℕ) (old new : DiskState) → EachStanding s outcomes → Carried reply_text StandsBy s outcomes before old new → Carried reply_text StandsIn (world_by s) (map bare outcomes) before old new
carried_bare s outcomes before old new each carried = record {
  goes_on = carried.goes_on;
  images = λ image beside left. let was = carried.images image beside left in (was.0, was.1, along_bare s outcomes image was.0 each was.2);
}

after_bare : (s : Store) (input : SourceState) (output : SinkState) (items : List Item) (outcomes : List (Outcome Reply Store)) (pull : Pull) → IsStanding s → All HasDocument items → ComesAfter s input output items outcomes pull
    → ComesAfterReplies Step Works at_work (world_by s) input output items (map bare outcomes) pull
after_bare s input output items outcomes pull standing range was = record {
  pulled = was.pulled;
  pulled_are = was.pulled_are;
  before = was.before;
  behind = was.behind;
  items_are = was.items_are;
  rest = was.rest;
  split = was.split;
  answered = map bare was.answered;
  to_come = map bare was.to_come;
  outcomes_are = ap (map bare) was.outcomes_are ∙ map-append bare was.answered was.to_come;
  run = (run_bare s was.before was.answered standing (all_front HasDocument was.before was.behind (subst (All HasDocument) was.items_are range)).0 was.run).0;
  shown = was.shown ∙ ap (λ (l : List ℕ). output.shown ++ l) (sym (shown_bare was.answered));
}

-- ---- the run over all items

-- a run goes on over any items whose documents are in range
goes_over : (w : World) (items : List Item) → IsFair IsLoadable w → All HasDocument items → (outcomes : List (Outcome Reply World)) × IsRunWith Step Works at_work w items outcomes × IsFair IsLoadable (last_state w outcomes)
goes_over w items fair range =
    works_on Step Works at_work (IsFair IsLoadable) HasDocument
    (λ w item fair fine. let (outcome, step) = each_outcome w item fair.history in (outcome, step, step_loads w item outcome.reply outcome.next fair fine step))
    (λ w fair working. let (reply, (next, works, on, less)) = each_stint w fair working in (record { reply = reply; next = next }, works, on)) (λ w item outcome working step. step_works w item outcome.reply outcome.next step working) w items fair range

-- one over something shows a byte
some_further : (w : World) (items : List Item) (further : List (Outcome Reply World)) → (items ≡ [] → ⊥) → IsRunWith Step Works at_work w items further → 1 ≤ length (shown_by reply_text further)
some_further w [] further some run = absurd (some refl)
some_further w (item ∷ items) [] some run = absurd run
some_further w (item ∷ items) (outcome ∷ further) some run = omega (arith, machine_bytes w item outcome.reply outcome.next run.0, length-append (reply_text outcome.reply) (shown_by reply_text further))

-- nothing is short of any reply to an item
none_short : (w : World) (items : List Item) (outcomes : List (Outcome Reply World)) → IsRunWith Step Works at_work w items outcomes → IsShort [] outcomes
none_short w [] outcomes run = subst (IsShort []) (sym run) refl
none_short w (item ∷ items) [] run = absurd run
none_short w (item ∷ items) (outcome ∷ outcomes) run = omega (arith, machine_bytes w item outcome.reply outcome.next run.0)

-- a stint shows a byte, or work goes on behind it
stint_shows : (w : World) (reply : Reply) (next : World) → Works w reply next → (1 ≤ length (reply_text reply)) ⊎ (at_work next ≡ true)
stint_shows w reply next works = elim (silent_or reply) as (λ _. (1 ≤ length (reply_text reply)) ⊎ (at_work next ≡ true)) [
  | inl is ↦ inr (silent_works w next (subst (λ (r : Reply). Works w r next) is works))
  | inr speaks ↦ inl (speaks_bytes reply speaks)
]

-- A run by what reads give, and the abstract archive's over all its items: it goes on with what was left.
record IsRunOn (s : Store) (status : Status) (ended : Bool) (rest : List ℕ) (reached behind : List Item) (outcomes : List (Outcome Reply Store)) : Type 0 where
  further : List (Outcome Reply World)
  by_items : List (Outcome Reply World)
  closing : List (Outcome Reply World)
  are : map bare outcomes ++ further ≡ by_items ++ closing
  run : IsRunWith Step Works at_work (world_by s) (reached ++ behind) by_items
  closes : AreStints Works (last_state (world_by s) by_items) closing
  at_end : (closing ≡ []) ⊎ ((ended ≡ true) × (rest ≡ []) × (◌≡◌ {A = List Item} [] []))
  each : EachStanding s outcomes
  -- where nothing was left
  none : CarriesOutAll status → further ≡ []
  short : (status ≡ Memory) → IsShort [] further
  left : (behind ≡ [] → ⊥) ⊎ (at_work (last_state (world_by s) (map bare outcomes)) ≡ true) → (1 ≤ length (shown_by reply_text further)) ⊎ (at_work (last_state (world_by s) (map bare outcomes ++ further)) ≡ true)

fair_standing : (s : Store) → IsStanding s → IsFair IsLoadable (world_by s)
fair_standing s standing = record { history = standing.loadable; job = standing.may }

runs_on : (s : Store) (status : Status) (input input_now : SourceState) (output output_now : SinkState) (pulls : List Pull) → (ran : Ran StoreStep StoreStint is_at_work s status input input_now output output_now pulls) → IsStanding s → All HasDocument (ran.reached ++ ran.behind)
    → IsRunOn s status ran.ended ran.rest ran.reached ran.behind ran.outcomes
runs_on s status input input_now output output_now pulls ran standing range =
    let parts = all_front HasDocument ran.reached ran.behind range in
    let made : IsRunOn s status ran.ended ran.rest ran.reached ran.behind (ran.by_items ++ ran.closing) = elim ran.run [
      | inl run ↦ whole parts.0 parts.1 run ran.behind refl
      | inr (lacks, none, fault) ↦ lacking parts.0 parts.1 lacks none fault
    ] in
    subst (IsRunOn s status ran.ended ran.rest ran.reached ran.behind) (sym ran.outcomes_are) made
  where
    w : World
    w = world_by s

    -- what was left in hand
    on_items : All HasDocument ran.behind → (last : World) → IsFair IsLoadable last → (outcomes : List (Outcome Reply World)) × IsRunWith Step Works at_work last ran.behind outcomes × IsFair IsLoadable (last_state last outcomes)
    on_items fine last fair = goes_over last ran.behind fair fine

    whole : All HasDocument ran.reached → All HasDocument ran.behind → IsStoreRun s ran.reached ran.by_items → (behind : List Item) → ran.behind ≡ behind → IsRunOn s status ran.ended ran.rest ran.reached ran.behind (ran.by_items ++ ran.closing)
    whole fine more run [] is =
        let one = run_bare s ran.reached ran.by_items standing fine run in
        let last_is = last_bare s ran.by_items in
        let two = stints_bare (last_state s ran.by_items) ran.closing (last_standing s ran.by_items one.1) ran.closes in
        record {
          further = [];
          by_items = map bare ran.by_items;
          closing = map bare ran.closing;
          are = append-nil (map bare (ran.by_items ++ ran.closing)) ∙ map-append bare ran.by_items ran.closing;
          run = subst (λ (l : List Item). IsRunWith Step Works at_work w l (map bare ran.by_items)) (sym (ap (λ (l : List Item). ran.reached ++ l) is ∙ append-nil ran.reached)) one.0;
          closes = subst (λ (x : World). AreStints Works x (map bare ran.closing)) (sym last_is) two.0;
          at_end = elim ran.at_end [ inl none ↦ inl (ap (map bare) none) | inr at ↦ inr (at.0, at.1, refl) ];
          each = each_joins s ran.by_items ran.closing one.1 two.1;
          none = λ done. refl;
          short = λ starved. refl;
          left = λ left. elim left [ inl some ↦ absurd (some is) | inr working ↦ inr (ap (λ (os : List (Outcome Reply World)). at_work (last_state w os)) (append-nil (map bare (ran.by_items ++ ran.closing))) ∙ working) ];
        }
    whole fine more run (b ∷ bs) is =
        let one = run_bare s ran.reached ran.by_items standing fine run in
        let last_is = last_bare s ran.by_items in
        let closed : ran.closing ≡ [] = elim ran.at_end [ inl none ↦ none | inr at ↦ (let other : b ∷ bs ≡ [] = sym is ∙ at.2 in absurd cc) ] in
        let on = on_items more (last_state w (map bare ran.by_items)) (subst (IsFair IsLoadable) (sym last_is) (fair_standing (last_state s ran.by_items) (last_standing s ran.by_items one.1))) in
        let alone : ran.by_items ++ ran.closing ≡ ran.by_items = ap (λ (l : List (Outcome Reply Store)). ran.by_items ++ l) closed ∙ append-nil ran.by_items in
        subst (IsRunOn s status ran.ended ran.rest ran.reached ran.behind) (sym alone) (record {
          further = on.0;
          by_items = map bare ran.by_items ++ on.0;
          closing = [];
          are = sym (append-nil (map bare ran.by_items ++ on.0));
          run = works_join Step Works at_work w ran.reached ran.behind (map bare ran.by_items) on.0 one.0 on.1;
          closes = tt;
          at_end = inl refl;
          each = one.1;
          none = λ done. (let other : b ∷ bs ≡ [] = sym is ∙ ran.all done in absurd cc);
          short = λ starved. none_short (last_state w (map bare ran.by_items)) ran.behind on.0 on.1;
          left = λ left. inl (some_further (last_state w (map bare ran.by_items)) ran.behind on.0 (λ none. (let other : b ∷ bs ≡ [] = sym is ∙ none in cc)) on.1);
        })

    lacking : All HasDocument ran.reached → All HasDocument ran.behind → LacksStint StoreStep StoreStint is_at_work s ran.reached ran.by_items → ran.closing ≡ [] → (status ≡ Disk) ⊎ (status ≡ Sink) → IsRunOn s status ran.ended ran.rest ran.reached ran.behind (ran.by_items ++ ran.closing)
    lacking fine more lacks closed fault =
        let (bared, each) = lacks_bare s ran.reached ran.by_items standing fine lacks in
        let so_far = map bare ran.by_items in
        let last = last_state w so_far in
        let fair : IsFair IsLoadable last = subst (IsFair IsLoadable) (sym (last_bare s ran.by_items)) (fair_standing (last_state s ran.by_items) (last_standing s ran.by_items each)) in
        let working : at_work last ≡ true = lacks_works w ran.reached so_far bared in
        let (reply, (next, works, good, less)) = each_stint last fair working in
        let o : Outcome Reply World = record { reply = reply; next = next } in
        let on = on_items more next good in
        let alone : ran.by_items ++ ran.closing ≡ ran.by_items = ap (λ (l : List (Outcome Reply Store)). ran.by_items ++ l) closed ∙ append-nil ran.by_items in
        let first : IsRunWith Step Works at_work w ran.reached (so_far ++ o ∷ []) = lacks_made w ran.reached so_far o bared works in
        let then : last_state w (so_far ++ o ∷ []) ≡ next = last_state_joins w so_far (o ∷ []) in
        let joined : (so_far ++ o ∷ []) ++ on.0 ≡ so_far ++ (o ∷ on.0) = append_assoc so_far (o ∷ []) on.0 in
        subst (IsRunOn s status ran.ended ran.rest ran.reached ran.behind) (sym alone) (record {
          further = o ∷ on.0;
          by_items = so_far ++ (o ∷ on.0);
          closing = [];
          are = sym (append-nil (so_far ++ (o ∷ on.0)));
          run = subst (IsRunWith Step Works at_work w (ran.reached ++ ran.behind)) joined
              (works_join Step Works at_work w ran.reached ran.behind (so_far ++ o ∷ []) on.0 first (subst (λ (x : World). IsRunWith Step Works at_work x ran.behind on.0) (sym then) on.1));
          closes = tt;
          at_end = inl refl;
          each = each;
          none = λ done. absurd (no_fault status fault done);
          short = λ starved. absurd (elim fault [ inl disk ↦ (let other : Disk ≡ Memory = sym disk ∙ starved in cc) | inr sink ↦ (let other : Sink ≡ Memory = sym sink ∙ starved in cc) ]);
          left = λ left. elim (stint_shows last reply next works) [
            | inl shows ↦ inl (omega (arith, shows, length-append (reply_text reply) (shown_by reply_text on.0)))
            | inr goes ↦ behind_shows ran.behind on.0 next goes on.1 (last_state w (so_far ++ (o ∷ on.0))) (last_state_joins w so_far (o ∷ on.0)) reply
          ];
        })
      where
        no_fault : (st : Status) → (st ≡ Disk) ⊎ (st ≡ Sink) → CarriesOutAll st → ⊥
        no_fault st (inl is) done = subst CarriesOutAll is done
        no_fault st (inr is) done = subst CarriesOutAll is done

        lacks_works : (w : World) (items : List Item) (outcomes : List (Outcome Reply World)) → LacksStint Step Works at_work w items outcomes → at_work (last_state w outcomes) ≡ true
        lacks_works w items outcomes lacks =
            let then = step_works (last_state w lacks.done) lacks.event lacks.outcome.reply lacks.outcome.next lacks.last lacks.working in
            ap (λ (os : List (Outcome Reply World)). at_work (last_state w os)) lacks.outcomes_are ∙ ap at_work (last_state_joins w lacks.done (lacks.outcome ∷ [])) ∙ then

        lacks_made : (w : World) (items : List Item) (outcomes : List (Outcome Reply World)) (o : Outcome Reply World) → (lacks : LacksStint Step Works at_work w items outcomes) → Works (last_state w outcomes) o.reply o.next → IsRunWith Step Works at_work w items (outcomes ++ o ∷ [])
        lacks_made w items outcomes o lacks works =
            let before = last_state w lacks.done in
            let A : Bool → Type 0 = λ b. AfterStint Works b lacks.outcome.next (o ∷ []) (λ next rest. rest ≡ []) in
            let last_is : last_state w outcomes ≡ lacks.outcome.next = ap (last_state w) lacks.outcomes_are ∙ last_state_joins w lacks.done (lacks.outcome ∷ []) in
            let behind : A true = (subst (λ (x : World). Works x o.reply o.next) last_is works, refl) in
            let one : IsRunWith Step Works at_work before (lacks.event ∷ []) (lacks.outcome ∷ o ∷ []) = (lacks.last, subst A (sym lacks.working) behind) in
            let all = works_join Step Works at_work w lacks.before (lacks.event ∷ []) lacks.done (lacks.outcome ∷ o ∷ []) lacks.run one in
            let joined : lacks.done ++ (lacks.outcome ∷ o ∷ []) ≡ outcomes ++ o ∷ [] = sym (append_assoc lacks.done (lacks.outcome ∷ []) (o ∷ [])) ∙ ap (λ (l : List (Outcome Reply World)). l ++ o ∷ []) (sym lacks.outcomes_are) in
            subst (λ (l : List Item). IsRunWith Step Works at_work w l (outcomes ++ o ∷ [])) (sym lacks.events_are) (subst (IsRunWith Step Works at_work w (lacks.before ++ lacks.event ∷ [])) joined all)

        -- the items behind show something, or there are none and work goes on
        behind_shows : (items : List Item) (outcomes : List (Outcome Reply World)) (next : World) → at_work next ≡ true → IsRunWith Step Works at_work next items outcomes → (all : World) → all ≡ last_state next outcomes → (reply : Reply)
            → (1 ≤ length (reply_text reply ++ shown_by reply_text outcomes)) ⊎ (at_work all ≡ true)
        behind_shows [] outcomes next goes run all is reply = inr (ap at_work is ∙ ap (λ (os : List (Outcome Reply World)). at_work (last_state next os)) run ∙ goes)
        behind_shows (item ∷ items) outcomes next goes run all is reply = inl (omega (arith, some_further next (item ∷ items) outcomes (λ none. cc) run, length-append (reply_text reply) (shown_by reply_text outcomes)))

-- calls that keep a history are no event
history_event : (h : History) (before : List ℕ) (old new : DiskState) → old.now.beside ≡ before → KeepsHistory h old new → Carried {R = Reply} reply_text StandsIn (world_of h) [] before old new
history_event h before old new beside keeps = record {
  goes_on = keeps.goes_on;
  images = λ image other left. let was = keeps.images image other left in ([], was.1 ∙ beside ∙ sym (append-nil before), (was.0, refl));
}

-- the abstract archive's outcomes without text leave what stands
quiet_works : (w : World) (r : Reply) (t : World) → Works w r t → IsQuiet reply_text StandsIn w r t
quiet_works w r t works = elim (silent_or r) as (λ _. IsQuiet reply_text StandsIn w r t) [
  | inl is ↦ (λ none image stands. subst (λ (h : History). StandsIn (record w { history = h }) image) (sym (silent_keeps w t (subst (λ (x : Reply). Works w x t) is works))) stands)
  | inr speaks ↦ λ none. absurd (omega (arith, speaks_bytes r speaks, ap length none))
]

quiet_step : (w : World) (item : Item) (r : Reply) (t : World) → Step w item r t → IsQuiet reply_text StandsIn w r t
quiet_step w item r t step none = absurd (omega (arith, machine_bytes w item r t step, ap length none))

pub standing_run : (h : History) (start : DiskState) (status : Status) (old : MachineState) (mid : DiskState) (new : MachineState) (pulls : List Pull) → IsStanding (store_of h start) → old.disk.now.beside ≡ old.sink.shown
    → (EachStands old.disk h → KeepsHistory h old.disk mid) → Serves (store_of h start) status (record { source = old.source; sink = old.sink; disk = mid }) new pulls
    → StandingRun h status old new pulls
standing_run h start status old mid new pulls standing beside keeps serves =
    let s = store_of h start in
    let ran = serves.ran in
    let w = world_by s in
    let items = ran.reached ++ ran.behind in
    let range = Items-documents ran.ended ran.pulled items ran.rest ran.split.0 in
    let on = runs_on s status old.source new.source old.sink new.sink pulls ran standing range in
    let so_far = map bare ran.outcomes in
    let all = so_far ++ on.further in
    let joined : shown_by reply_text all ≡ shown_by reply_text ran.outcomes ++ shown_by reply_text on.further = shown_by_joins reply_text so_far on.further ∙ ap (λ (l : List ℕ). l ++ shown_by reply_text on.further) (shown_bare ran.outcomes) in
    let complete : CarriesOutAll status → all ≡ so_far = λ done. ap (λ (l : List (Outcome Reply World)). so_far ++ l) (on.none done) ∙ append-nil so_far in
    let carried : Carried reply_text StandsIn w all old.sink.shown mid new.disk = carried_on reply_text StandsIn w so_far on.further old.sink.shown mid new.disk (carried_bare s ran.outcomes old.sink.shown mid new.disk on.each serves.carried) in
    let last : last_state w so_far ≡ world_by (last_state s ran.outcomes) = last_bare s ran.outcomes in
    let stood = last_standing s ran.outcomes on.each in
    let E : World → Type 0 = λ x. EachOf StandsIn new.disk x in
    let stands : (status ≡ Disk → ⊥) → E (last_state w so_far) = λ fine. subst E (sym last) (λ image allowed. stands_standing (last_state s ran.outcomes) image stood (serves.steady fine image allowed)) in
    let after : state_after w all (length so_far) ≡ last_state w so_far = state_after_front w so_far on.further (length so_far) (omega arith) ∙ state_after_all w so_far in
    let P : List (Outcome Reply World) → Pull → Type 0 = λ os pull. ComesAfterReplies Step Works at_work w old.source old.sink items os pull in
    let pulled = All-weaker (ComesAfter s old.source old.sink items ran.outcomes) (P so_far) (λ pull was. after_bare s old.source old.sink items ran.outcomes pull standing range was) pulls ran.after_replies in
    let quiet : AreQuiet reply_text StandsIn w all = subst (AreQuiet reply_text StandsIn w) (sym on.are)
    (quiet_joins reply_text StandsIn w on.by_items on.closing (works_quiet reply_text StandsIn Step Works at_work quiet_step quiet_works w items on.by_items on.run)
    (stints_quiet reply_text StandsIn Works quiet_works (last_state w on.by_items) on.closing on.closes)) in
    record {
      headline = record {
        ran = record {
          pulled = ran.pulled;
          pulled_are = ran.pulled_are;
          ended = ran.ended;
          ended_is = ran.ended_is;
          reached = items;
          behind = [];
          rest = ran.rest;
          split = (let S : List Item → Type 0 = λ l. Splits ran.ended ran.pulled l ran.rest in subst S (sym (append-nil items)) ran.split);
          input_at = ran.input_at;
          outcomes = all;
          by_items = on.by_items;
          closing = on.closing;
          outcomes_are = on.are;
          run = inl on.run;
          closes = on.closes;
          at_end = on.at_end;
          closed = λ done. ap (λ (os : List (Outcome Reply World)). at_work (last_state w os)) (complete (rw done tt)) ∙ ap at_work last ∙ ran.closed done;
          shown = ran.shown;
          shown_is = ran.shown_is;
          front = (ran.front.0 ++ shown_by reply_text on.further, joined ∙ ap (λ (l : List ℕ). l ++ shown_by reply_text on.further) ran.front.1 ∙ append_assoc ran.shown ran.front.0 (shown_by reply_text on.further));
          all = λ done. refl;
          whole = λ done. ran.whole done ∙ sym (shown_bare ran.outcomes) ∙ ap (λ (l : List (Outcome Reply World)). shown_by reply_text l) (sym (complete done));
          unfinished = λ fault. unshown ran.pulled ran.behind ran.shown (shown_by reply_text ran.outcomes) (shown_by reply_text all) (shown_by reply_text on.further) (at_work (last_state w all)) (at_work (last_state w so_far)) (is_at_work (last_state s ran.outcomes)) (ap at_work last) joined ran.front on.left
              (ran.unfinished fault);
          after_replies = all_after_replies Step Works at_work w old.source old.sink items [] so_far on.further pulls pulled;
        };
        images = λ each. reopens reply_text StandsIn w all old.sink.shown old.disk new.disk quiet (carried_joins all new.disk (history_event s.history old.sink.shown old.disk mid beside (keeps each)) (rw append-nil carried));
        last = λ done. subst E (sym (ap (λ (l : List (Outcome Reply World)). state_after w l (length l)) (complete done) ∙ state_after_all w so_far)) (stands (λ is. rw is at done));
        steady = λ each fine. (length so_far, omega (arith, length-append so_far on.further), subst E (sym after) (stands fine));
        starved = λ each is. (
            let none = serves.undone (rw is tt) in
            let whole : serves.whole ≡ ran.outcomes = sym (serves.outcomes_are ∙ ap (λ (l : List (Outcome Reply Store)). serves.whole ++ l) none.0 ∙ append-nil serves.whole) in
            let shown : ran.shown ≡ shown_by reply_text so_far ++ [] =
            serves.shown_is ∙ ap (λ (l : List ℕ). shown_by reply_text serves.whole ++ l) none.1 ∙ ap (λ (l : List (Outcome Reply Store)). shown_by reply_text l ++ []) whole ∙ ap (λ (l : List ℕ). l ++ []) (sym (shown_bare ran.outcomes)) in
            let A : List ℕ → Type 0 = λ l. IsAcknowledged reply_text all l (length so_far) in
            (length so_far, subst A (sym shown) (acknowledged so_far on.further [] (on.short is)), subst E (sym after) (stands (λ other. cc)))
            );
      };
      over_all = refl;
      with_stints = on.run;
      undamaged = λ damage is. (let (item, rest, behind, spoils) = serves.damaged damage is in spoiled_never (last_state s ran.outcomes) item damage stood spoils);
    }
  where
    unshown : (pulled : List ℕ) (behind : List Item) (shown told all more : List ℕ) (at_end at_last so_far : Bool) → at_last ≡ so_far → all ≡ told ++ more → IsPrefix shown told → ((behind ≡ [] → ⊥) ⊎ (at_last ≡ true) → (1 ≤ length more) ⊎ (at_end ≡ true))
        → (pulled ≡ []) ⊎ ((behind ≡ [] → ⊥) ⊎ ((length shown < length told) ⊎ (so_far ≡ true))) → (pulled ≡ []) ⊎ ((◌≡◌ {A = List Item} [] [] → ⊥) ⊎ ((length shown < length all) ⊎ (at_end ≡ true)))
    unshown pulled behind shown told all more at_end at_last so_far same is front some (inl none) = inl none
    unshown pulled behind shown told all more at_end at_last so_far same is (rest, e) some (inr (inl left)) = elim (some (inl left)) [
      | inl shows ↦ inr (inr (inl (omega (arith, shows, ap length is, length-append told more, ap length e, length-append shown rest))))
      | inr goes ↦ inr (inr (inr goes))
    ]
    unshown pulled behind shown told all more at_end at_last so_far same is front some (inr (inr (inl short))) = inr (inr (inl (omega (arith, short, ap length is, length-append told more))))
    unshown pulled behind shown told all more at_end at_last so_far same is (rest, e) some (inr (inr (inr working))) = elim (some (inr (same ∙ working))) [
      | inl shows ↦ inr (inr (inl (omega (arith, shows, ap length is, length-append told more, ap length e, length-append shown rest))))
      | inr goes ↦ inr (inr (inr goes))
    ]

-- where nothing was begun, a history that is kept is no event
pub kept_history : (h : History) (old new : DiskState) (before : List ℕ) → old.now.beside ≡ before → (EachStands old h → KeepsHistory h old new) → EachStands old h
    → Carried {R = Reply} reply_text StandsIn (world_of h) [] before old new × EachOf StandsIn new (world_of h)
kept_history h old new before beside keeps each = (history_event h before old new beside (keeps each), λ image allowed. ((keeps each).images image new.now.beside (allowed_left new (moment old) image allowed)).0)
