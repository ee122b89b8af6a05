-- Plans are tested when all lists are there: then either all entries are a history that loads, or the first plan that isn't fit is the fault.
use Rattle.std.proofs.Common.{◌≡◌, ◌⊎◌, ℕ, ◌+◌, ◌<◌, ◌≤◌, ◌↔◌, Bool, true, false, IsTrue, List, [], ◌∷◌, ◌++◌, length, take, drop, get_or, All, fold, Option, Some, unwrap_or, inl, inr, refl, ap, subst, sym, ◌∙◌, arith, append_assoc, take-append-drop}
use Rattle.std.specs.Option.{option_map}
use Rattle.std.proofs.lemmas.List.{length-map, map-append, drop_more, take_more}
use Rattle.std.proofs.lemmas.List.Sums.{fold-append}
use Rattle.std.proofs.lemmas.List.Elements.{All-nil, All-cons, All-head, All-tail, All-append, All-push}
use Rattle.base_types.specs.declared.posting.Posting.{Posting}
use Rattle.base_types.specs.declared.time.Time.{Time}
use Rattle.journal_gates.specs.Records.{front}
use Rattle.journal_gates.specs.declared.head.Head.{Head}
use Rattle.journal_gates.specs.Heads.{AreInRow}
use Rattle.base_types.specs.declared.text_place.TextPlace.{TextPlace}
use Rattle.lists_versions.specs.declared.change.Change.{Change}
use Rattle.plans_kinds.specs.Plans.{IsFitFor}
use Rattle.journal_entries.specs.Spelling.{spelling, IsEntry}
use Rattle.journal_entries.specs.declared.entry.Entry.{Entry}
use Rattle.journal_entries.specs.declared.entry.Entry.TheVariants.{Arrive, Delete, Planned, Format, Batch}
use Rattle.journal_entries.specs.declared.plan.PlanEntry.{PlanEntry}
use Rattle.lists_versions.specs.Changes.{last_time}
use Rattle.model_archive.specs.declared.stored.StoredPlan.{StoredPlan}
use Rattle.model_archive.specs.Histories.{History, changes, end_of}
use Rattle.model_archive.specs.Legal.{MayCome, EachMayCome, EachAllowed, IsLoadable, IsLoadableEntry}
use Rattle.lists_postings.proofs.Clipping.{one_list_of}
use Rattle.model_archive.specs.Answers.{frequency_at}
use Rattle.model_archive.specs.Planning.{IsListUpTo, last_second}
use Rattle.model_archive.specs.Plans.{IsNoPlan, with_plan, with_entry, live_after, live_plans}
use Rattle.model_archive.specs.Stands.{bodies_of}
use Rattle.model_archive.proofs.HistoryLemmas.{come-push, end_of-push, end_of_is}
use Rattle.model_archive.proofs.LiveLemmas.{later_all, list_stays, list_was}
use Rattle.archive_entries.specs.Replaying.{IsTimely, IsOpen, AreOpen, plans_in, plans_from, IsFitIn, IsFirstUnfit, IsNextBad, IsReplayed, IsBadAmong}
use Rattle.journal_gates.proofs.HeadLemmas.{length-front, length_heads, row_end}
use Rattle.archive_entries.proofs.ReplayLemmas.{open_allowed}

-- ---- a plan that is fit

timely_past : (o : Option Time) (n : ℕ) (last : Time) → o ≡ Some last → n ≤ last.seconds → n ≤ unwrap_or (option_map (λ (t : Time). t.seconds) o) 0
timely_past o n last is within = let P : Option Time → Type 0 = λ x. n ≤ unwrap_or (option_map (λ (t : Time). t.seconds) x) 0 in subst P (sym is) within

past_of : (before : History) (plan : PlanEntry) → IsTimely (changes before) plan → plan.horizon.seconds ≤ last_second before
past_of before plan timely = timely_past (last_time (changes before)) plan.horizon.seconds timely.0 timely.1.0 timely.1.1

-- among all entries it is fit as it is after those before it
fit_may : (whole before h : History) (gate : ℕ) (plan : PlanEntry) → whole ≡ before ++ Planned plan ∷ h → AreOpen before (Planned plan ∷ h) → IsFitIn whole (record { gate = gate; plan = plan }) → MayCome IsFitFor before (Planned plan)
fit_may whole before h gate plan is opens (list, (list_is, some, fit)) =
    let past = past_of before plan opens.0.timely in
    let W : History → Type 0 = λ g. IsListUpTo g plan.word plan.horizon.seconds list in
    record {
      ranges = opens.0.ranges;
      allowed = opens.0.allowed;
      planned = record {
        past = past;
        list = list;
        list_is = list_was before (Planned plan ∷ h) plan.word plan.horizon.seconds list (open_allowed before (Planned plan ∷ h) opens) past (subst W is list_is);
        some = some;
        suits = fit;
      };
    }

may_fit : (whole before h : History) (gate : ℕ) (plan : PlanEntry) → whole ≡ before ++ Planned plan ∷ h → AreOpen before (Planned plan ∷ h) → MayCome IsFitFor before (Planned plan) → IsFitIn whole (record { gate = gate; plan = plan })
may_fit whole before h gate plan is opens may =
    let W : History → Type 0 = λ g. IsListUpTo g plan.word plan.horizon.seconds may.planned.list in (
      may.planned.list,
      (subst W (sym is) (list_stays before (Planned plan ∷ h) plan.word plan.horizon.seconds may.planned.list (open_allowed before (Planned plan ∷ h) opens) may.planned.past may.planned.list_is), may.planned.some, may.planned.suits),
    )

further : (whole before h : History) (e : Entry) → whole ≡ before ++ e ∷ h → whole ≡ (before ++ e ∷ []) ++ h
further whole before h e is = is ∙ sym (append_assoc before (e ∷ []) h)

-- what is no plan may come as far as was asked of it
change_may : (before : History) (e : Entry) → IsNoPlan e → IsOpen before e → MayCome IsFitFor before e
change_may before (Arrive doc at text) change opens = record { ranges = opens.ranges; allowed = opens.allowed; planned = tt }
change_may before (Delete doc at) change opens = record { ranges = opens.ranges; allowed = opens.allowed; planned = tt }
change_may before (Planned plan) change opens = absurd change
change_may before Format change opens = record { ranges = opens.ranges; allowed = opens.allowed; planned = tt }
change_may before (Batch batch) change opens = record { ranges = opens.ranges; allowed = opens.allowed; planned = tt }

-- ---- all of them

settle_all : (whole before h : History) (gate : ℕ) → whole ≡ before ++ h → AreOpen before h → All (IsFitIn whole) (plans_from gate h) → EachMayCome IsFitFor before h
settle_all whole before [] gate is opens fit = tt
settle_all whole before (Arrive doc at text ∷ h) gate is opens fit =
    let e = Arrive doc at text in (change_may before e tt opens.0, settle_all whole (before ++ e ∷ []) h (gate + 5 + length (spelling e)) (further whole before h e is) opens.1 fit)
settle_all whole before (Delete doc at ∷ h) gate is opens fit =
    let e = Delete doc at in (change_may before e tt opens.0, settle_all whole (before ++ e ∷ []) h (gate + 5 + length (spelling e)) (further whole before h e is) opens.1 fit)
settle_all whole before (Format ∷ h) gate is opens fit =
    let e = Format in (change_may before e tt opens.0, settle_all whole (before ++ e ∷ []) h (gate + 5 + length (spelling e)) (further whole before h e is) opens.1 fit)
settle_all whole before (Batch batch ∷ h) gate is opens fit =
    let e = Batch batch in (change_may before e tt opens.0, settle_all whole (before ++ e ∷ []) h (gate + 5 + length (spelling e)) (further whole before h e is) opens.1 fit)
settle_all whole before (Planned plan ∷ h) gate is opens fit =
    let then = gate + 5 + length (spelling (Planned plan)) in
    let s : StoredPlan = record { gate = gate; plan = plan } in (
      fit_may whole before h gate plan is opens (All-head (IsFitIn whole) s (plans_from then h) fit),
      settle_all whole (before ++ Planned plan ∷ []) h then (further whole before h (Planned plan) is) opens.1 (All-tail (IsFitIn whole) s (plans_from then h) fit),
    )

pub settled : (h : History) → AreOpen [] h → All (IsFitIn h) (plans_from 16 h) → IsLoadable h
settled h opens fit = settle_all h [] h 16 refl opens fit

-- ---- the first that isn't

-- a plan among entries, after which it may not come
record IsUnfitAt (whole : History) (at : ℕ) : Type 0 where
  pub early : History
  pub plan : PlanEntry
  pub after : History
  pub is : whole ≡ early ++ Planned plan ∷ after
  pub loads : IsLoadable early
  pub ranges : IsEntry (Planned plan)
  pub refused : IsLoadableEntry early (Planned plan) → ⊥
  pub at_is : at ≡ length (front (bodies_of early))

next_gate : (before : History) (e : Entry) (gate : ℕ) → gate ≡ length (front (bodies_of before)) → gate + 5 + length (spelling e) ≡ length (front (bodies_of (before ++ e ∷ [])))
next_gate before e gate is = omega (arith, is, end_of_is before, end_of_is (before ++ e ∷ []), end_of-push before e)

unfit_further : (whole : History) (s : StoredPlan) (plans : List StoredPlan) (at : ℕ) → IsFirstUnfit whole (s ∷ plans) at → (IsFitIn whole s × IsFirstUnfit whole plans at) ⊎ ((IsFitIn whole s → ⊥) × (at ≡ s.gate))
unfit_further whole s plans at unfit = go unfit.front unfit.is unfit.fit
  where
    go : (front : List StoredPlan) → s ∷ plans ≡ front ++ unfit.stored ∷ unfit.back → All (IsFitIn whole) front → (IsFitIn whole s × IsFirstUnfit whole plans at) ⊎ ((IsFitIn whole s → ⊥) × (at ≡ s.gate))
    go [] is fit =
        let same : s ≡ unfit.stored = ap (λ (l : List StoredPlan). get_or l 0 s) is in
        let U : StoredPlan → Type 0 = λ x. IsFitIn whole x → ⊥ in
        inr (subst U (sym same) unfit.unfit, unfit.at_is ∙ ap (λ (x : StoredPlan). x.gate) (sym same))
    go (f ∷ front) is fit =
        let same : s ≡ f = ap (λ (l : List StoredPlan). get_or l 0 s) is in
        let rest : plans ≡ front ++ unfit.stored ∷ unfit.back = ap (λ (l : List StoredPlan). drop 1 l) is in
        let F : StoredPlan → Type 0 = λ x. IsFitIn whole x in
        inl (
          subst F (sym same) (All-head F f front fit),
          record { front = front; stored = unfit.stored; back = unfit.back; is = rest; fit = All-tail F f front fit; unfit = unfit.unfit; at_is = unfit.at_is },
        )

settle_first : (whole before h : History) (gate at : ℕ) → whole ≡ before ++ h → AreOpen before h → IsLoadable before → gate ≡ length (front (bodies_of before)) → IsFirstUnfit whole (plans_from gate h) at → IsUnfitAt whole at
settle_first whole before [] gate at is opens loads here unfit = absurd (none unfit.front unfit.is)
  where
    none : (front : List StoredPlan) → [] ≡ front ++ unfit.stored ∷ unfit.back → ⊥
    none [] same = omega (arith, ap length same)
    none (f ∷ front) same = omega (arith, ap length same)
settle_first whole before (Arrive doc at_ text ∷ h) gate at is opens loads here unfit =
    let e = Arrive doc at_ text in
    settle_first whole (before ++ e ∷ []) h (gate + 5 + length (spelling e)) at (further whole before h e is) opens.1 (come-push IsFitFor before e loads (change_may before e tt opens.0))
    (next_gate before e gate here) unfit
settle_first whole before (Delete doc at_ ∷ h) gate at is opens loads here unfit =
    let e = Delete doc at_ in
    settle_first whole (before ++ e ∷ []) h (gate + 5 + length (spelling e)) at (further whole before h e is) opens.1 (come-push IsFitFor before e loads (change_may before e tt opens.0))
    (next_gate before e gate here) unfit
settle_first whole before (Format ∷ h) gate at is opens loads here unfit =
    let e = Format in
    settle_first whole (before ++ e ∷ []) h (gate + 5 + length (spelling e)) at (further whole before h e is) opens.1 (come-push IsFitFor before e loads (change_may before e tt opens.0))
    (next_gate before e gate here) unfit
settle_first whole before (Batch batch ∷ h) gate at is opens loads here unfit =
    let e = Batch batch in
    settle_first whole (before ++ e ∷ []) h (gate + 5 + length (spelling e)) at (further whole before h e is) opens.1 (come-push IsFitFor before e loads (change_may before e tt opens.0))
    (next_gate before e gate here) unfit
settle_first whole before (Planned plan ∷ h) gate at is opens loads here unfit =
    elim (unfit_further whole (record { gate = gate; plan = plan }) (plans_from (gate + 5 + length (spelling (Planned plan))) h) at unfit) [
      | inl on ↦ settle_first whole (before ++ Planned plan ∷ []) h (gate + 5 + length (spelling (Planned plan))) at (further whole before h (Planned plan) is) opens.1
          (come-push IsFitFor before (Planned plan) loads (fit_may whole before h gate plan is opens on.0)) (next_gate before (Planned plan) gate here) on.1
      | inr first ↦ record {
        early = before;
        plan = plan;
        after = h;
        is = is;
        loads = loads;
        ranges = opens.0.ranges;
        refused = λ may. first.0 (may_fit whole before h gate plan is opens may);
        at_is = first.1 ∙ here;
      }
    ]

-- it is the fault among the bodies of the journal
pub unfit_among : (h : History) (bodies rest : List (List ℕ)) (at : ℕ) → AreOpen [] h → bodies ≡ bodies_of h ++ rest → IsFirstUnfit h (plans_from 16 h) at → IsBadAmong bodies at
unfit_among h bodies rest at opens same unfit =
    let u = settle_first h [] h 16 at refl opens tt (omega (arith, end_of_is [])) unfit in
    record {
      before = u.early;
      loadable = u.loads;
      next = record {
        body = spelling (Planned u.plan);
        rest = bodies_of u.after ++ rest;
        split = same ∙ ap (λ (l : List (List ℕ)). l ++ rest) (ap bodies_of u.is ∙ map-append spelling u.early (Planned u.plan ∷ u.after))
            ∙ append_assoc (bodies_of u.early) (spelling (Planned u.plan) ∷ bodies_of u.after) rest;
        fault = inr (record { entry = Planned u.plan; ranges = u.ranges; spelled = refl; refused = u.refused }, u.at_is);
      };
    }

pub next_among : (h : History) (bodies : List (List ℕ)) (at : ℕ) → AreOpen [] h → All (IsFitIn h) (plans_from 16 h) → IsNextBad h bodies at → IsBadAmong bodies at
next_among h bodies at opens fit next = record { before = h; loadable = settled h opens fit; next = next }

-- ---- where entries are ahead

-- a plan's horizon lies in the past of all entries
plans_past : (before h : History) (gate : ℕ) → AreOpen before h → All (λ s. s.plan.horizon.seconds ≤ last_second (before ++ h)) (plans_from gate h)
plans_past before [] gate opens = All-nil (λ (s : StoredPlan). s.plan.horizon.seconds ≤ last_second (before ++ []))
plans_past before (e ∷ h) gate opens =
    let whole = before ++ e ∷ h in
    let P : StoredPlan → Type 0 = λ s. s.plan.horizon.seconds ≤ last_second whole in
    let then = gate + 5 + length (spelling e) in
    let rest = subst (λ (g : History). All (λ (s : StoredPlan). s.plan.horizon.seconds ≤ last_second g) (plans_from then h)) (append_assoc before (e ∷ []) h) (plans_past (before ++ e ∷ []) h then opens.1) in
    All-append P (plans_in gate e) (plans_from then h) (here e opens.0 (later_all before (e ∷ h) (open_allowed before (e ∷ h) opens)).last) rest
  where
    here : (x : Entry) → IsOpen before x → last_second before ≤ last_second (before ++ e ∷ h) → All (λ s. s.plan.horizon.seconds ≤ last_second (before ++ e ∷ h)) (plans_in gate x)
    here (Planned plan) asked later =
        let P : StoredPlan → Type 0 = λ s. s.plan.horizon.seconds ≤ last_second (before ++ e ∷ h) in
        All-cons P (record { gate = gate; plan = plan }) [] (omega (arith, past_of before plan asked.timely, later)) (All-nil P)
    here (Arrive doc at text) asked later = All-nil (λ (s : StoredPlan). s.plan.horizon.seconds ≤ last_second (before ++ e ∷ h))
    here (Delete doc at) asked later = All-nil (λ (s : StoredPlan). s.plan.horizon.seconds ≤ last_second (before ++ e ∷ h))
    here Format asked later = All-nil (λ (s : StoredPlan). s.plan.horizon.seconds ≤ last_second (before ++ e ∷ h))
    here (Batch batch) asked later = All-nil (λ (s : StoredPlan). s.plan.horizon.seconds ≤ last_second (before ++ e ∷ h))

-- so it is fit with entries ahead as it is without them
fit_was : (h ahead : History) (s : StoredPlan) → EachAllowed h ahead → s.plan.horizon.seconds ≤ last_second h → IsFitIn (h ++ ahead) s → IsFitIn h s
fit_was h ahead s allowed past (list, (is, some, fit)) = (list, (list_was h ahead s.plan.word s.plan.horizon.seconds list allowed past is, some, fit))

fit_stays : (h ahead : History) (s : StoredPlan) → EachAllowed h ahead → s.plan.horizon.seconds ≤ last_second h → IsFitIn h s → IsFitIn (h ++ ahead) s
fit_stays h ahead s allowed past (list, (is, some, fit)) = (list, (list_stays h ahead s.plan.word s.plan.horizon.seconds list allowed past is, some, fit))

all_were : (h ahead : History) (plans : List StoredPlan) → EachAllowed h ahead → All (λ s. s.plan.horizon.seconds ≤ last_second h) plans → All (IsFitIn (h ++ ahead)) plans → All (IsFitIn h) plans
all_were h ahead [] allowed past fit = All-nil (IsFitIn h)
all_were h ahead (s ∷ plans) allowed past fit =
    let P : StoredPlan → Type 0 = λ x. x.plan.horizon.seconds ≤ last_second h in
    All-cons (IsFitIn h) s plans (fit_was h ahead s allowed (All-head P s plans past) (All-head (IsFitIn (h ++ ahead)) s plans fit))
    (all_were h ahead plans allowed (All-tail P s plans past) (All-tail (IsFitIn (h ++ ahead)) s plans fit))

first_was : (h ahead : History) (front : List StoredPlan) (s : StoredPlan) (back : List StoredPlan) → EachAllowed h ahead → All (λ s. s.plan.horizon.seconds ≤ last_second h) (front ++ s ∷ back)
    → All (IsFitIn (h ++ ahead)) front → All (IsFitIn h) front × (s.plan.horizon.seconds ≤ last_second h)
first_was h ahead [] s back allowed past fit = let P : StoredPlan → Type 0 = λ x. x.plan.horizon.seconds ≤ last_second h in (All-nil (IsFitIn h), All-head P s back past)
first_was h ahead (f ∷ front) s back allowed past fit =
    let P : StoredPlan → Type 0 = λ x. x.plan.horizon.seconds ≤ last_second h in
    let rest = first_was h ahead front s back allowed (All-tail P f (front ++ s ∷ back) past) (All-tail (IsFitIn (h ++ ahead)) f front fit) in
    (All-cons (IsFitIn h) f front (fit_was h ahead f allowed (All-head P f (front ++ s ∷ back) past) (All-head (IsFitIn (h ++ ahead)) f front fit)) rest.0, rest.1)

unfit_was : (h ahead : History) (plans : List StoredPlan) (at : ℕ) → EachAllowed h ahead → All (λ s. s.plan.horizon.seconds ≤ last_second h) plans → IsFirstUnfit (h ++ ahead) plans at → IsFirstUnfit h plans at
unfit_was h ahead plans at allowed past unfit =
    let A : List StoredPlan → Type 0 = λ l. All (λ s. s.plan.horizon.seconds ≤ last_second h) l in
    let was = first_was h ahead unfit.front unfit.stored unfit.back allowed (subst A unfit.is past) unfit.fit in
    record { front = unfit.front; stored = unfit.stored; back = unfit.back; is = unfit.is; fit = was.0; unfit = λ fit. unfit.unfit (fit_stays h ahead unfit.stored allowed was.1 fit); at_is = unfit.at_is }

pub unfit_ahead : (h ahead : History) (bodies rest : List (List ℕ)) (at : ℕ) → AreOpen [] h → EachAllowed h ahead → bodies ≡ bodies_of h ++ rest → IsFirstUnfit (h ++ ahead) (plans_from 16 h) at → IsBadAmong bodies at
unfit_ahead h ahead bodies rest at opens allowed same unfit = unfit_among h bodies rest at opens same (unfit_was h ahead (plans_from 16 h) at allowed (plans_past [] h 16 opens) unfit)

pub next_ahead : (h ahead : History) (bodies : List (List ℕ)) (at : ℕ) → AreOpen [] h → EachAllowed h ahead → All (IsFitIn (h ++ ahead)) (plans_from 16 h) → IsNextBad h bodies at → IsBadAmong bodies at
next_ahead h ahead bodies at opens allowed fit next = next_among h bodies at opens (all_were h ahead (plans_from 16 h) allowed (plans_past [] h 16 opens) fit) next

-- ---- the live ones

with_plans_in : (gate : ℕ) (live : List StoredPlan) (e : Entry) → with_entry gate live e ≡ fold with_plan live (plans_in gate e)
with_plans_in gate live (Arrive doc at text) = refl
with_plans_in gate live (Delete doc at) = refl
with_plans_in gate live (Planned plan) = refl
with_plans_in gate live Format = refl
with_plans_in gate live (Batch batch) = refl

live_folded : (gate : ℕ) (live : List StoredPlan) (h : History) → live_after gate live h ≡ fold with_plan live (plans_from gate h)
live_folded gate live [] = refl
live_folded gate live (e ∷ h) =
    let then = gate + 5 + length (spelling e) in
    live_folded then (with_entry gate live e) h ∙ ap (λ (l : List StoredPlan). fold with_plan l (plans_from then h)) (with_plans_in gate live e) ∙ sym (fold-append with_plan live (plans_in gate e) (plans_from then h))

pub live_are : (h : History) → fold with_plan [] (plans_from 16 h) ≡ live_plans h
live_are h = sym (live_folded 16 [] h)

-- ---- the test of one plan, by its word's list

one_up_to : (h : History) (s : StoredPlan) (a b : List Posting) → IsListUpTo h s.plan.word s.plan.horizon.seconds a → IsListUpTo h s.plan.word s.plan.horizon.seconds b → a ≡ b
one_up_to h s a b one other = one_list_of (λ d t. frequency_at h s.plan.word (record { 0 = d }) t) 0 s.plan.horizon.seconds a b one other

pub none_fit : (h : History) (s : StoredPlan) (list : List Posting) → IsListUpTo h s.plan.word s.plan.horizon.seconds list → length list ≡ 0 → IsFitIn h s → ⊥
none_fit h s list is none fit = omega (arith, none, fit.1.1, ap length (one_up_to h s fit.0 list fit.1.0 is))

pub some_fit : (h : History) (s : StoredPlan) (list : List Posting) (b : Bool) → IsListUpTo h s.plan.word s.plan.horizon.seconds list → 0 < length list
    → (IsTrue b ↔ IsFitFor s.plan.kind list s.plan.fraction s.plan.cuts s.plan.horizon.seconds) → IsTrue b ↔ IsFitIn h s
some_fit h s list b is some test = (
  (λ holds. (list, (is, some, test.0 holds))),
  (λ fit.
      let L : List Posting → Type 0 = λ l. IsFitFor s.plan.kind l s.plan.fraction s.plan.cuts s.plan.horizon.seconds in
      test.1 (subst L (one_up_to h s fit.0 list fit.1.0 is) fit.1.2)),
)

-- the plans up to one are fit, and it isn't
pub first_at : (h : History) (plans : List StoredPlan) (i : ℕ) (s : StoredPlan) (b : Bool) → i < length plans → s ≡ get_or plans i s → All (IsFitIn h) (take i plans) → (IsTrue b ↔ IsFitIn h s) → b ≡ false → IsFirstUnfit h plans s.gate
first_at h plans i s b within is fit test no_ = record {
  front = take i plans;
  stored = s;
  back = drop (i + 1) plans;
  is = sym (take-append-drop i plans) ∙ ap (λ (l : List StoredPlan). take i plans ++ l) (drop_more plans i s within ∙ ap (λ (x : StoredPlan). x ∷ drop (i + 1) plans) (sym is));
  fit = fit;
  unfit = λ holds. let t = test.1 holds in cc;
  at_is = refl;
}

pub fit_more : (h : History) (plans : List StoredPlan) (i : ℕ) (s : StoredPlan) (b : Bool) → i < length plans → s ≡ get_or plans i s → All (IsFitIn h) (take i plans) → (IsTrue b ↔ IsFitIn h s) → b ≡ true → All (IsFitIn h) (take (i + 1) plans)
fit_more h plans i s b within is fit test yes_ =
    let A : List StoredPlan → Type 0 = λ l. All (IsFitIn h) l in
    subst A (sym (take_more plans i s within ∙ ap (λ (x : StoredPlan). take i plans ++ x ∷ []) (sym is)))
    (All-push (IsFitIn h) (take i plans) s fit (test.0 (let T : Bool → Type 0 = λ x. IsTrue x in subst T (sym yes_) refl)))

-- ---- how many entries there are, and where they end

pub replayed_end : (h : History) (heads : List Head) (changes : List (Change TextPlace)) (plans : List StoredPlan) (end : ℕ) → AreInRow 16 heads end → IsReplayed h heads changes plans → end ≡ end_of h
replayed_end h heads changes plans end row replayed =
    omega (arith, row_end 16 end (bodies_of h) (subst (λ (l : List Head). AreInRow 16 l end) replayed.heads_are row), end_of_is h, length-front (bodies_of h))

pub replayed_length : (h : History) (heads : List Head) (changes : List (Change TextPlace)) (plans : List StoredPlan) → IsReplayed h heads changes plans → length heads ≡ length h
replayed_length h heads changes plans replayed = ap length replayed.heads_are ∙ length_heads 16 (bodies_of h) ∙ length-map h spelling
