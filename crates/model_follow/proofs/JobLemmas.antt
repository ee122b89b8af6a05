-- A plan that is being written can be taken behind more entries, and another plan beside it.
use Rattle.std.proofs.Common.{◌≡◌, ◌⊎◌, ℕ, ◌-◌, ◌≤◌, Bool, true, false, not, cond, bytes_eq, filter, List, [], ◌∷◌, ◌++◌, Option, Some, None, inl, inr, refl, ap, sym, subst, ◌∙◌}
use Rattle.std.specs.Prelude.{IfSome}
use Rattle.std.specs.Cmp.Lexicographic.{bytes_decides}
use Rattle.std.proofs.lemmas.Bool.{false≢true}
use Rattle.std.proofs.lemmas.List.{append-nil}
use Rattle.std.proofs.lemmas.List.Concat.{flat_map-append}
use Rattle.base_types.specs.declared.extent.Extent.{Extent}
use Rattle.pages_area.specs.Runs.{IsTaken}
use Rattle.pages_area.specs.Taken.{AreApart}
use Rattle.pages_area.proofs.StayLemmas.{AreApartFrom, apart_left, apart_parts, taken_left, taken_right}
use Rattle.journal_entries.specs.declared.entry.Entry.{Entry}
use Rattle.journal_entries.specs.declared.entry.Entry.TheVariants.{Arrive, Delete, Planned, Format, Batch}
use Rattle.journal_entries.specs.declared.plan.PlanEntry.{PlanEntry}
use Rattle.model_archive.specs.declared.stored.StoredPlan.{StoredPlan}
use Rattle.model_archive.specs.Histories.{History, end_of, entry_refusal}
use Rattle.model_archive.specs.Legal.{MayBeStored}
use Rattle.model_archive.specs.Planning.{last_second}
use Rattle.model_archive.specs.Plans.{extents_of, first_plan, is_another, live_extents, live_plans, plan_of}
use Rattle.model_archive.specs.Worlds.{Job, taken_in}
use Rattle.model_archive.proofs.HoldLemmas.{all_extents, apart_more, same_live}
use Rattle.model_archive.proofs.LiveLemmas.{later_push, list_later, live_plans-push}
use Rattle.model_follow.specs.Taking.{IfJobPlaced, IsPlacedApart}

-- ---- extents

taken_parts : (xs ys : List Extent) (p : ℕ) → IsTaken (xs ++ ys) p → IsTaken xs p ⊎ IsTaken ys p
taken_parts [] ys p taken = inr taken
taken_parts (x ∷ xs) ys p (inl is) = inl (inl is)
taken_parts (x ∷ xs) ys p (inr more) = elim (taken_parts xs ys p more) [ inl mine ↦ inl (inr mine) | inr other ↦ inr other ]

-- lists that are apart, and apart from each other
apart_join : (xs ys : List Extent) → AreApart xs → AreApart ys → AreApartFrom xs ys → AreApart (xs ++ ys)
apart_join [] ys one two apart = two
apart_join (x ∷ xs) ys one two apart = (
  (λ p is taken. elim (taken_parts xs ys p taken) [ inl mine ↦ one.0 p is mine | inr other ↦ apart p (inl is) other ]),
  apart_join xs ys one.1 two (λ p mine other. apart p (inr mine) other),
)

-- extents in the middle left out
pub apart_without : (xs ys zs : List Extent) → AreApart (xs ++ (ys ++ zs)) → AreApart (xs ++ zs)
apart_without [] ys zs apart = (apart_parts ys zs apart).1
apart_without (x ∷ xs) ys zs apart = ((λ p mine taken. apart.0 p mine (taken_more xs ys zs p taken)), apart_without xs ys zs apart.1)
  where
    taken_more : (xs ys zs : List Extent) (p : ℕ) → IsTaken (xs ++ zs) p → IsTaken (xs ++ (ys ++ zs)) p
    taken_more [] ys zs p taken = taken_right ys zs p taken
    taken_more (x ∷ xs) ys zs p (inl mine) = inl mine
    taken_more (x ∷ xs) ys zs p (inr taken) = inr (taken_more xs ys zs p taken)

-- pages among some of the plans are among all
kept_taken : (keep : StoredPlan → Bool) (live : List StoredPlan) (p : ℕ) → IsTaken (all_extents (filter keep live)) p → IsTaken (all_extents live) p
kept_taken keep [] p taken = taken
kept_taken keep (s ∷ live) p taken = go (kept_taken keep live p) (keep s) taken
  where
    go : (IsTaken (all_extents (filter keep live)) p → IsTaken (all_extents live) p) → (b : Bool)
        → IsTaken (all_extents (cond b (s ∷ filter keep live) (filter keep live))) p → IsTaken (all_extents (s ∷ live)) p
    go more true t = elim (taken_parts (extents_of s.plan) (all_extents (filter keep live)) p t) [
      | inl own ↦ taken_left (extents_of s.plan) (all_extents live) p own
      | inr other ↦ taken_right (extents_of s.plan) (all_extents live) p (more other)
    ]
    go more false t = taken_right (extents_of s.plan) (all_extents live) p (more t)

-- a page of a live place behind a plan is one of the plan's, or was one of a live place
taken_next : (h : History) (plan : PlanEntry) (p : ℕ) → IsTaken (live_extents (h ++ Planned plan ∷ [])) p → IsTaken (extents_of plan) p ⊎ IsTaken (live_extents h) p
taken_next h plan p taken =
    let keep : StoredPlan → Bool = is_another plan.word in
    let new : StoredPlan = record { gate = end_of h - 1; plan = plan } in
    let kept = filter keep (live_plans h) in
    let T : List StoredPlan → Type 0 = λ live. IsTaken (all_extents live) p in
    let E : List Extent → Type 0 = λ es. IsTaken es p in
    let all : IsTaken (all_extents kept ++ all_extents (new ∷ [])) p =
    subst E (flat_map-append (λ (stored : StoredPlan). extents_of stored.plan) kept (new ∷ [])) (subst T (live_plans-push h (Planned plan)) taken) in
    elim (taken_parts (all_extents kept) (all_extents (new ∷ [])) p all) [
      | inl old ↦ inr (kept_taken keep (live_plans h) p old)
      | inr own ↦ inl (subst E (append-nil (extents_of plan)) own)
    ]

-- ---- the live plan of a word

-- a plan leaves those of which something holds that isn't so of its word's
same_kept : (keep : StoredPlan → Bool) (new : StoredPlan) (live : List StoredPlan) → ((s : StoredPlan) → s.plan.word ≡ new.plan.word → keep s ≡ false)
    → filter keep (filter (is_another new.plan.word) live ++ new ∷ []) ≡ filter keep live
same_kept keep new [] other = ap (λ (b : Bool). cond b (new ∷ []) []) (other new refl)
same_kept keep new (s ∷ live) other = go (bytes_eq s.plan.word new.plan.word) refl (same_kept keep new live other)
  where
    go : (b : Bool) → bytes_eq s.plan.word new.plan.word ≡ b → filter keep (filter (is_another new.plan.word) live ++ new ∷ []) ≡ filter keep live
        → filter keep (cond (not b) (s ∷ filter (is_another new.plan.word) live) (filter (is_another new.plan.word) live) ++ new ∷ []) ≡ filter keep (s ∷ live)
    go false is rest = ap (λ (l : List StoredPlan). cond (keep s) (s ∷ l) l) rest
    go true is rest = rest ∙ sym (ap (λ (b : Bool). cond b (s ∷ filter keep live) (filter keep live)) (other s ((bytes_decides s.plan.word new.plan.word).0 is)))

-- so one of another word leaves the live plan of a word
pub another_plan : (h : History) (plan : PlanEntry) (word : List ℕ) → bytes_eq word plan.word ≡ false → plan_of (h ++ Planned plan ∷ []) word ≡ plan_of h word
another_plan h plan word other =
    let new : StoredPlan = record { gate = end_of h - 1; plan = plan } in
    let keep : StoredPlan → Bool = λ stored. bytes_eq stored.plan.word word in
    ap (λ (live : List StoredPlan). first_plan (filter keep live)) (live_plans-push h (Planned plan))
    ∙ ap first_plan (same_kept keep new (live_plans h) (λ s same. flip s.plan.word same (bytes_eq s.plan.word word) refl))
  where
    flip : (w : List ℕ) → w ≡ plan.word → (b : Bool) → bytes_eq w word ≡ b → bytes_eq w word ≡ false
    flip w same false is = is
    flip w same true is = absurd (false≢true (sym other ∙ (bytes_decides word plan.word).1 (sym ((bytes_decides w word).0 is) ∙ same)))

-- ---- an entry more

-- it isn't of the word of a plan that is being written
abbrev pub IsOther : Option Job → List ℕ → Type 0
IsOther None word = Unit {0}
IsOther (Some job) word = bytes_eq job.plan.word word ≡ false

-- a plan more lies apart from all that is taken, and isn't of the word of the one that is being written
abbrev pub IfBeside : History → Option Job → Entry → Type 0
IfBeside h job (Planned plan) = AreApart (extents_of plan ++ taken_in job h) × IsOther job plan.word
IfBeside h job other = Unit {0}

-- a plan's places can be taken behind an entry more, where they are apart from the live ones, and its horizon isn't before that of the word's live plan
placed_on : (h : History) (e : Entry) (plan : PlanEntry) → entry_refusal h e ≡ None → plan.horizon.seconds ≤ last_second h → IsPlacedApart h plan → AreApart (extents_of plan ++ live_extents (h ++ e ∷ []))
    → IfSome (plan_of (h ++ e ∷ []) plan.word) (λ live. live.horizon.seconds ≤ plan.horizon.seconds) → IsPlacedApart (h ++ e ∷ []) plan
placed_on h e plan allowed past is apart later = record {
  list = is.list;
  list_is = list_later h (h ++ e ∷ []) plan.word plan.horizon.seconds is.list (later_push h e allowed) past is.list_is;
  each = is.each;
  apart = apart;
  later = later;
}

placed_behind : (h : History) (e : Entry) (plan : PlanEntry) → live_plans (h ++ e ∷ []) ≡ live_plans h → entry_refusal h e ≡ None → plan.horizon.seconds ≤ last_second h → IsPlacedApart h plan → IsPlacedApart (h ++ e ∷ []) plan
placed_behind h e plan same allowed past is =
    let A : List StoredPlan → Type 0 = λ live. AreApart (extents_of plan ++ all_extents live) in
    let L : List StoredPlan → Type 0 = λ live. IfSome (first_plan (filter (λ stored. bytes_eq stored.plan.word plan.word) live)) (λ p. p.horizon.seconds ≤ plan.horizon.seconds) in
    placed_on h e plan allowed past is (subst A (sym same) is.apart) (subst L (sym same) is.later)

-- behind a plan more
placed_beside : (h : History) (more plan : PlanEntry) → plan.horizon.seconds ≤ last_second h → AreApart (extents_of more ++ (extents_of plan ++ live_extents h)) → bytes_eq plan.word more.word ≡ false
    → IsPlacedApart h plan → IsPlacedApart (h ++ Planned more ∷ []) plan
placed_beside h more plan past apart other is =
    let L : Option PlanEntry → Type 0 = λ o. IfSome o (λ p. p.horizon.seconds ≤ plan.horizon.seconds) in
    let own = extents_of plan in
    let parts = apart_parts (extents_of more) (own ++ live_extents h) apart in
    placed_on h (Planned more) plan refl past is
    (apart_join own (live_extents (h ++ Planned more ∷ [])) (apart_left own (live_extents h) parts.1) (apart_more h more (apart_without (extents_of more) own (live_extents h) apart))
    (λ p mine taken. elim (taken_next h more p taken) [ inl its ↦ parts.0 p its (taken_left own (live_extents h) p mine) | inr was ↦ (apart_parts own (live_extents h) parts.1).0 p mine was ]))
    (subst L (sym (another_plan h more plan.word other)) is.later)

-- so the places of a plan that is being written can be taken on behind an entry more
pub job_on : (h : History) (e : Entry) (job : Option Job) → entry_refusal h e ≡ None → IfBeside h job e → MayBeStored h job → IfJobPlaced h job → IfJobPlaced (h ++ e ∷ []) job
job_on h e None allowed beside stored placed = tt
job_on h (Arrive doc at text) (Some job) allowed beside stored placed = placed_behind h (Arrive doc at text) job.plan (same_live h (Arrive doc at text) tt) allowed stored.planned.past placed
job_on h (Delete doc at) (Some job) allowed beside stored placed = placed_behind h (Delete doc at) job.plan (same_live h (Delete doc at) tt) allowed stored.planned.past placed
job_on h (Planned more) (Some job) allowed beside stored placed = placed_beside h more job.plan stored.planned.past beside.0 beside.1 placed
job_on h Format (Some job) allowed beside stored placed = placed_behind h Format job.plan (same_live h Format tt) allowed stored.planned.past placed
job_on h (Batch batch) (Some job) allowed beside stored placed = placed_behind h (Batch batch) job.plan (same_live h (Batch batch) tt) allowed stored.planned.past placed

-- all that is taken is apart
pub taken_apart : (h : History) (job : Option Job) → AreApart (live_extents h) → IfJobPlaced h job → AreApart (taken_in job h)
taken_apart h None apart placed = apart
taken_apart h (Some job) apart placed = placed.apart
