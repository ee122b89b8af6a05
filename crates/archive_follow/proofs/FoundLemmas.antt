-- A plan of another archive, by its word's list up to its horizon: whether it may come next but for its places and the journal's room.
use Rattle.std.proofs.Common.{◌≡◌, ℕ, zero, suc, ◌<◌, ◌≤◌, Bool, true, false, bytes_eq, cond, List, [], ◌∷◌, length, filter, take, get_or, All, Option, Some, None, IfSome, IsSomeAnd, option_map, unwrap_or, inl, inr, refl, ap, sym, subst, ◌∙◌, arith}
use Rattle.std.proofs.lemmas.Bool.{cases_lt, not-true}
use Rattle.std.proofs.lemmas.List.Elements.{All-head, All-tail}
use Rattle.std.proofs.lemmas.Slice.Eq.{bytes_eq-Decides}
use Rattle.base_types.specs.declared.posting.Posting.{Posting}
use Rattle.base_types.specs.declared.text_place.TextPlace.{TextPlace}
use Rattle.base_types.specs.declared.time.Time.{Time}
use Rattle.lists_postings.proofs.Clipping.{one_list_of}
use Rattle.lists_versions.specs.Changes.{last_time}
use Rattle.lists_versions.proofs.Mapped.{last_time-mapped}
use Rattle.journal_entries.specs.PlanSpelling.{IsPlanEntry}
use Rattle.journal_entries.specs.declared.plan.PlanEntry.{PlanEntry}
use Rattle.plans_kinds.specs.Plans.{IsGoodPlan}
use Rattle.model_archive.specs.Answers.{frequency_at}
use Rattle.model_archive.specs.Histories.{History, changes}
use Rattle.model_archive.specs.Planning.{IsListUpTo, last_second}
use Rattle.model_archive.specs.Plans.{is_another, first_plan, plan_of}
use Rattle.model_archive.specs.declared.stored.StoredPlan.{StoredPlan}
use Rattle.archive_entries.specs.Live.{IsPlanAt}
use Rattle.archive_entries.specs.Texts.{nothing}
use Rattle.archive_entries.proofs.PlaceLemmas.{bare_changes}
use Rattle.archive_hand.specs.States.{ArchiveState, StandsFor}
use Rattle.archive_follow.specs.Taken.{IsBeforeLive, IsFoundOf, IsNotBefore, MayBePut}

-- ---- the last time

-- an archive has the last time of its history
pub last_is : (a : ArchiveState) (h : History) (o : Option Time) → StandsFor a h → o ≡ last_time a.changes → unwrap_or (option_map (λ t. t.seconds) o) 0 ≡ last_second h
last_is a h o stands is = ap (λ (o : Option Time). unwrap_or (option_map (λ t. t.seconds) o) 0)
    (is ∙ sym (last_time-mapped (nothing {A = TextPlace}) a.changes) ∙ ap last_time (bare_changes 16 h a.changes stands.changes_are) ∙ last_time-mapped (nothing {A = List ℕ}) (changes h))

-- ---- the live plan of the word

found_at : (live : List StoredPlan) (word : List ℕ) (at : ℕ) (s : StoredPlan) → at < length live → (get_or live at s).plan.word ≡ word
    → All (λ other. is_another word other ≡ true) (take at live) → s ≡ get_or live at s → first_plan (filter (λ stored. bytes_eq stored.plan.word word) live) ≡ Some s.plan
found_at [] word at s within is before same = absurd (omega (arith, within))
found_at (x ∷ live) word zero s within is before same =
    let yes : bytes_eq x.plan.word word ≡ true = (bytes_eq-Decides x.plan.word word).1 is in
    ap (λ (b : Bool). first_plan (cond b (x ∷ filter (λ stored. bytes_eq stored.plan.word word) live) (filter (λ stored. bytes_eq stored.plan.word word) live))) yes
    ∙ ap (λ (y : StoredPlan). Some y.plan) (sym same)
found_at (x ∷ live) word (suc at) s within is before same =
    let quiet : bytes_eq x.plan.word word ≡ false = not-true (bytes_eq x.plan.word word) (All-head (λ other. is_another word other ≡ true) x (take at live) before) in
    ap (λ (b : Bool). first_plan (cond b (x ∷ filter (λ stored. bytes_eq stored.plan.word word) live) (filter (λ stored. bytes_eq stored.plan.word word) live))) quiet
    ∙ found_at live word at s (omega (arith, within)) is (All-tail (λ other. is_another word other ≡ true) x (take at live) before) same

pub plan_found : (a : ArchiveState) (h : History) (word : List ℕ) (at : ℕ) (s : StoredPlan) → StandsFor a h → IsPlanAt a.shelf.plans word at → s ≡ get_or a.shelf.plans at s → plan_of h word ≡ Some s.plan
plan_found a h word at s stands is same =
    ap (λ (live : List StoredPlan). first_plan (filter (λ stored. bytes_eq stored.plan.word word) live)) (sym stands.plans_are) ∙ found_at a.shelf.plans word at s is.within (is.is s) is.before same

no_plan : (live : List StoredPlan) (word : List ℕ) → All (λ s. is_another word s ≡ true) live → first_plan (filter (λ stored. bytes_eq stored.plan.word word) live) ≡ None
no_plan [] word others = refl
no_plan (x ∷ live) word others =
    let quiet : bytes_eq x.plan.word word ≡ false = not-true (bytes_eq x.plan.word word) (All-head (λ other. is_another word other ≡ true) x live others) in
    ap (λ (b : Bool). first_plan (cond b (x ∷ filter (λ stored. bytes_eq stored.plan.word word) live) (filter (λ stored. bytes_eq stored.plan.word word) live))) quiet
    ∙ no_plan live word (All-tail (λ other. is_another word other ≡ true) x live others)

pub none_there : (a : ArchiveState) (h : History) (word : List ℕ) → StandsFor a h → All (λ s. is_another word s ≡ true) a.shelf.plans → plan_of h word ≡ None
none_there a h word stands others = ap (λ (live : List StoredPlan). first_plan (filter (λ stored. bytes_eq stored.plan.word word) live)) (sym stands.plans_are) ∙ no_plan a.shelf.plans word others

-- its horizon isn't before that of the live one, or it is
pub not_before : (h : History) (plan : PlanEntry) → (IsBeforeLive h plan → ⊥) → IsNotBefore h plan
not_before h plan never = go (plan_of h plan.word) never
  where
    go : (o : Option PlanEntry) → (IsSomeAnd o (λ live. plan.horizon.seconds < live.horizon.seconds) → ⊥) → IfSome o (λ live. live.horizon.seconds ≤ plan.horizon.seconds)
    go None never = tt
    go (Some live) never = elim (cases_lt plan.horizon.seconds live.horizon.seconds) [ inl less ↦ absurd (never less) | inr more ↦ more ]

-- ---- what is found

one_list : (h : History) (plan : PlanEntry) (these those : List Posting) → IsListUpTo h plan.word plan.horizon.seconds these → IsListUpTo h plan.word plan.horizon.seconds those → these ≡ those
one_list h plan these those one other = one_list_of (λ doc t. frequency_at h plan.word (record { 0 = doc }) t) 0 plan.horizon.seconds these those one other

not_late : (h : History) (plan : PlanEntry) → (last_second h < plan.horizon.seconds → ⊥) → plan.horizon.seconds ≤ last_second h
not_late h plan never = elim (cases_lt (last_second h) plan.horizon.seconds) [ inl late ↦ absurd (never late) | inr past ↦ past ]

pub found : (h : History) (plan : PlanEntry) (list : List Posting) → IsPlanEntry plan → (last_second h < plan.horizon.seconds → ⊥) → (IsBeforeLive h plan → ⊥) → IsListUpTo h plan.word plan.horizon.seconds list → 0 < length list
    → IsGoodPlan plan.kind list plan.fraction plan.cuts plan.horizon.seconds → MayBePut h plan list
found h plan list ranges past never listed some good = record {
  legal = record { ranges = ranges; allowed = refl; planned = record { past = not_late h plan past; list = list; list_is = listed; some = some; suits = good } };
  list_is = listed;
  later = not_before h plan never;
}

pub late : (h : History) (plan : PlanEntry) → last_second h < plan.horizon.seconds → IsFoundOf h plan None
late h plan after = λ list put. omega (arith, after, put.legal.planned.past)

pub nothing_there : (h : History) (plan : PlanEntry) (list : List Posting) → IsListUpTo h plan.word plan.horizon.seconds list → length list ≡ 0 → IsFoundOf h plan None
nothing_there h plan list listed none = λ other put.
    let planned = put.legal.planned in omega (arith, planned.some, none, ap length (one_list h plan planned.list list planned.list_is listed))

pub not_good : (h : History) (plan : PlanEntry) (list : List Posting) → IsListUpTo h plan.word plan.horizon.seconds list → (IsGoodPlan plan.kind list plan.fraction plan.cuts plan.horizon.seconds → ⊥) → IsFoundOf h plan None
not_good h plan list listed never = λ other put.
    let planned = put.legal.planned in
    never (subst (λ (l : List Posting). IsGoodPlan plan.kind l plan.fraction plan.cuts plan.horizon.seconds) (one_list h plan planned.list list planned.list_is listed) planned.suits)
