-- What the pages hold for live plans: over an entry more, over writes elsewhere, and with the places of a plan that is stored.
use Rattle.std.proofs.Common.{◌≡◌, ◌⊎◌, ℕ, ◌-◌, Bool, true, false, cond, List, [], ◌∷◌, ◌++◌, length, map, filter, All, None, inl, inr, refl, ap, sym, subst, ◌∙◌}
use Rattle.std.specs.List.{flat_map, AllZip}
use Rattle.std.proofs.lemmas.List.{append-nil}
use Rattle.std.proofs.lemmas.List.Concat.{flat_map-append}
use Rattle.std.proofs.lemmas.List.Elements.{All-nil, All-cons, All-head, All-tail, All-append, All-filter}
use Rattle.sha2.specs.Sha256.{sha256}
use Rattle.base_types.specs.declared.extent.Extent.{Extent}
use Rattle.pages_area.specs.Runs.{IsTaken}
use Rattle.pages_area.specs.Taken.{AreApart}
use Rattle.pages_area.specs.Live.{IsInside}
use Rattle.pages_area.specs.Ranges.{bytes_in}
use Rattle.pages_area.specs.Wrote as wrote
use Rattle.pages_area.proofs.StayLemmas.{AreApartFrom, taken_right, apart_parts, apart_left}
use Rattle.journal_entries.specs.declared.place.Place.{Place}
use Rattle.journal_entries.specs.declared.entry.Entry.{Entry}
use Rattle.journal_entries.specs.declared.entry.Entry.TheVariants.{Arrive, Delete, Planned, Format, Batch}
use Rattle.journal_entries.specs.declared.plan.PlanEntry.{PlanEntry}
use Rattle.pages_sublists.specs.Preparing.{IsFor, extents, pieces_of}
use Rattle.pages_sublists.specs.Segments.{seconds, next_cut, EachSegment, HoldsSublist}
use Rattle.plans_kinds.specs.Plans.{Asks}
use Rattle.model_archive.specs.declared.stored.StoredPlan.{StoredPlan}
use Rattle.model_archive.specs.Histories.{History, entry_refusal, end_of}
use Rattle.model_archive.specs.Plans.{IsNoPlan, is_another, live_plans, live_extents, extents_of}
use Rattle.model_archive.specs.Legal.{MayBePlanned, EachMayCome}
use Rattle.model_archive.specs.Holding.{HoldsPlan, HoldsPlans}
use Rattle.model_archive.proofs.LiveLemmas.{IsLater, later_push, list_later, live_planned, live_plans-push}

-- ---- an entry more that is no plan

abbrev pub all_extents : List StoredPlan → List Extent
all_extents live = flat_map (λ (stored : StoredPlan). extents_of stored.plan) live

plans_later : (Good : Asks) (h next : History) (pages : List ℕ) (live : List StoredPlan) → IsLater h next
    → All (λ stored. MayBePlanned Good h stored.plan) live → All (λ stored. HoldsPlan h pages stored.plan) live → All (λ stored. HoldsPlan next pages stored.plan) live
plans_later Good h next pages [] later may held = All-nil (λ (stored : StoredPlan). HoldsPlan next pages stored.plan)
plans_later Good h next pages (s ∷ live) later may held =
    let M : StoredPlan → Type 0 = λ stored. MayBePlanned Good h stored.plan in
    let H : StoredPlan → Type 0 = λ stored. HoldsPlan h pages stored.plan in
    let one = All-head H s live held in
    All-cons (λ (stored : StoredPlan). HoldsPlan next pages stored.plan) s live
    (record { list = one.list; list_is = list_later h next s.plan.word s.plan.horizon.seconds one.list later (All-head M s live may).past one.list_is; each = one.each })
    (plans_later Good h next pages live later (All-tail M s live may) (All-tail H s live held))

held_later : (Good : Asks) (h next : History) (pages : List ℕ) → IsLater h next → live_plans next ≡ live_plans h → EachMayCome Good [] h → HoldsPlans h pages → HoldsPlans next pages
held_later Good h next pages later same each held =
    let L : List StoredPlan → Type 0 = λ live. All (λ stored. HoldsPlan next pages stored.plan) live in
    let A : List StoredPlan → Type 0 = λ live. AreApart (all_extents live) in
    record {
      apart = subst A (sym same) held.apart;
      each = subst L (sym same) (plans_later Good h next pages (live_plans h) later (live_planned Good h each) held.each);
    }

pub same_live : (h : History) (e : Entry) → IsNoPlan e → live_plans (h ++ e ∷ []) ≡ live_plans h
same_live h (Arrive doc at text) change = live_plans-push h (Arrive doc at text)
same_live h (Delete doc at) change = live_plans-push h (Delete doc at)
same_live h (Planned plan) change = absurd change
same_live h Format change = live_plans-push h Format
same_live h (Batch batch) change = live_plans-push h (Batch batch)

pub held_push : (Good : Asks) (h : History) (e : Entry) (pages : List ℕ) → IsNoPlan e → EachMayCome Good [] h → entry_refusal h e ≡ None → HoldsPlans h pages → HoldsPlans (h ++ e ∷ []) pages
held_push Good h e pages change each allowed held = held_later Good h (h ++ e ∷ []) pages (later_push h e allowed) (same_live h e change) each held

-- ---- writes elsewhere

-- R holds of each place at both ends, and so does what follows from it for places among these
each_follows : (R Q : ℕ → ℕ → Place → Type 0) (P : Place → Type 0) → ((f g : ℕ) (place : Place) → P place → R f g place → Q f g place)
    → (cuts : List ℕ) (h : ℕ) (places : List Place) → All P places → EachSegment R cuts h places → EachSegment Q cuts h places
each_follows R Q P follows [] h [] all each = tt
each_follows R Q P follows (f ∷ cuts) h (p ∷ places) all each =
    (follows f (next_cut cuts h) p (All-head P p places all) each.0, each_follows R Q P follows cuts h places (All-tail P p places all) each.1)
each_follows R Q P follows [] h (p ∷ places) all each = absurd each
each_follows R Q P follows (f ∷ cuts) h [] all each = absurd each

-- ---- the same bytes in live places

-- of all extents of places one by one
all_places : (P : Extent → Type 0) (places : List Place) (rest : List Extent) → All P (map (λ (q : Place). q.extent) places ++ rest) → All (λ (place : Place). P place.extent) places × All P rest
all_places P [] rest all = (All-nil (λ (place : Place). P place.extent), all)
all_places P (q ∷ places) rest all =
    let es = map (λ (r : Place). r.extent) places ++ rest in
    let more = all_places P places rest (All-tail P q.extent es all) in
    (All-cons (λ (place : Place). P place.extent) q places (All-head P q.extent es all) more.0, more.1)

-- an extent that lies inside these pages with the bytes that it has in those
abbrev pub IsAlike : List ℕ → List ℕ → Extent → Type 0
IsAlike was pages e = IsInside (length pages) e × (bytes_in e pages ≡ bytes_in e was)

plans_alike : (h : History) (live : List StoredPlan) (was pages : List ℕ) → All (IsAlike was pages) (all_extents live) → All (λ stored. HoldsPlan h was stored.plan) live → All (λ stored. HoldsPlan h pages stored.plan) live
plans_alike h [] was pages alike each = All-nil (λ (stored : StoredPlan). HoldsPlan h pages stored.plan)
plans_alike h (s ∷ live) was pages alike each =
    let P : StoredPlan → Type 0 = λ stored. HoldsPlan h was stored.plan in
    let (own, rest) = all_places (IsAlike was pages) s.plan.places (all_extents live) alike in
    let holds = All-head P s live each in
    All-cons (λ (stored : StoredPlan). HoldsPlan h pages stored.plan) s live
    (record {
      list = holds.list;
      list_is = holds.list_is;
      each = each_follows (HoldsSublist s.plan.layout holds.list was) (HoldsSublist s.plan.layout holds.list pages) (λ (place : Place). IsAlike was pages place.extent)
          (λ f g place is there. record {
            inside = is.0;
            bytes = is.1 ∙ there.bytes;
            digest = (let D : List ℕ → Type 0 = λ l. place.digest ≡ sha256 l in subst D (sym is.1) there.digest);
          }) (seconds s.plan.cuts) s.plan.horizon.seconds s.plan.places own holds.each;
    })
    (plans_alike h live was pages rest (All-tail P s live each))

-- pages that have the same bytes in the live places hold what those held
pub held_alike : (h : History) (was pages : List ℕ) → All (IsAlike was pages) (live_extents h) → HoldsPlans h was → HoldsPlans h pages
held_alike h was pages alike holds = record { apart = holds.apart; each = plans_alike h (live_plans h) was pages alike holds.each }

-- ---- a plan that is stored

pub piece_extents : (places : List Place) (all : List (List ℕ)) → AllZip IsFor places all → wrote.extents_of (pieces_of places all) ≡ extents places
piece_extents [] [] zip = refl
piece_extents [] (bytes ∷ all) zip = absurd zip
piece_extents (p ∷ places) [] zip = absurd zip
piece_extents (p ∷ places) (bytes ∷ all) zip = ap (λ (es : List Extent). p.extent ∷ es) (piece_extents places all zip.1)

-- pages among two lists, where those of the second are among a third
taken_wider : (xs ys zs : List Extent) (p : ℕ) → (IsTaken ys p → IsTaken zs p) → IsTaken (xs ++ ys) p → IsTaken (xs ++ zs) p
taken_wider [] ys zs p wider taken = wider taken
taken_wider (x ∷ xs) ys zs p wider (inl is) = inl is
taken_wider (x ∷ xs) ys zs p wider (inr more) = inr (taken_wider xs ys zs p wider more)

-- pages among some of the plans are among all
kept_taken : (keep : StoredPlan → Bool) (live : List StoredPlan) (p : ℕ) → IsTaken (all_extents (filter keep live)) p → IsTaken (all_extents live) p
kept_taken keep [] p taken = taken
kept_taken keep (s ∷ live) p taken = go (kept_taken keep live p) (keep s) taken
  where
    go : (IsTaken (all_extents (filter keep live)) p → IsTaken (all_extents live) p) → (b : Bool)
        → IsTaken (all_extents (cond b (s ∷ filter keep live) (filter keep live))) p → IsTaken (all_extents (s ∷ live)) p
    go more true t = taken_wider (extents_of s.plan) (all_extents (filter keep live)) (all_extents live) p more t
    go more false t = taken_right (extents_of s.plan) (all_extents live) p (more t)

-- lists that are apart, and apart from each other
apart_join : (xs ys : List Extent) → AreApart xs → AreApart ys → AreApartFrom xs ys → AreApart (xs ++ ys)
apart_join [] ys one two apart = two
apart_join (x ∷ xs) ys one two apart = (
  (λ p is taken. elim (taken_parts xs ys p taken) [ inl mine ↦ one.0 p is mine | inr other ↦ apart p (inl is) other ]),
  apart_join xs ys one.1 two (λ p mine other. apart p (inr mine) other),
)
  where
    taken_parts : (xs ys : List Extent) (p : ℕ) → IsTaken (xs ++ ys) p → IsTaken xs p ⊎ IsTaken ys p
    taken_parts [] ys p taken = inr taken
    taken_parts (x ∷ xs) ys p (inl is) = inl (inl is)
    taken_parts (x ∷ xs) ys p (inr more) = elim (taken_parts xs ys p more) [ inl mine ↦ inl (inr mine) | inr other ↦ inr other ]

-- some of the plans are as far apart as all
kept_apart : (keep : StoredPlan → Bool) (live : List StoredPlan) → AreApart (all_extents live) → AreApart (all_extents (filter keep live))
kept_apart keep [] apart = apart
kept_apart keep (s ∷ live) apart = go (kept_apart keep live (apart_parts (extents_of s.plan) (all_extents live) apart).1) (keep s)
  where
    go : AreApart (all_extents (filter keep live)) → (b : Bool) → AreApart (all_extents (cond b (s ∷ filter keep live) (filter keep live)))
    go rest true = apart_join (extents_of s.plan) (all_extents (filter keep live)) (apart_left (extents_of s.plan) (all_extents live) apart)
        rest (λ p mine other. (apart_parts (extents_of s.plan) (all_extents live) apart).0 p mine (kept_taken keep live p other))
    go rest false = rest

-- no two live places share a page where a plan more has places apart from the live ones
pub apart_more : (h : History) (plan : PlanEntry) → AreApart (extents plan.places ++ live_extents h) → AreApart (live_extents (h ++ Planned plan ∷ []))
apart_more h plan apart =
    let keep : StoredPlan → Bool = is_another plan.word in
    let new : StoredPlan = record { gate = end_of h - 1; plan = plan } in
    let kept = filter keep (live_plans h) in
    let parts = apart_parts (extents plan.places) (live_extents h) apart in
    let F : List Extent → Type 0 = λ es. AreApartFrom (all_extents kept) es in
    let B : List Extent → Type 0 = λ es. AreApart es in
    let one : all_extents (new ∷ []) ≡ extents plan.places = append-nil (extents plan.places) in
    subst (λ (l : List StoredPlan). AreApart (all_extents l)) (sym (live_plans-push h (Planned plan))) (subst B (sym (flat_map-append (λ (stored : StoredPlan). extents_of stored.plan) kept (new ∷ [])))
    (apart_join (all_extents kept) (all_extents (new ∷ [])) (kept_apart keep (live_plans h) parts.1)
    (subst B (sym one) (apart_left (extents plan.places) (live_extents h) apart))
    (subst F (sym one) (λ p other own. parts.0 p own (kept_taken keep (live_plans h) p other)))))

-- pages that hold what the history needs, and the new plan's sublists, hold what the history with the plan needs
pub held_with : (Good : Asks) (h : History) (plan : PlanEntry) (pages : List ℕ) → EachMayCome Good [] h → AreApart (live_extents (h ++ Planned plan ∷ [])) → HoldsPlans h pages → HoldsPlan (h ++ Planned plan ∷ []) pages plan
    → HoldsPlans (h ++ Planned plan ∷ []) pages
held_with Good h plan pages each apart holds own =
    let next = h ++ Planned plan ∷ [] in
    let keep : StoredPlan → Bool = is_another plan.word in
    let new : StoredPlan = record { gate = end_of h - 1; plan = plan } in
    let H : StoredPlan → Type 0 = λ stored. HoldsPlan next pages stored.plan in
    let L : List StoredPlan → Type 0 = λ l. All H l in
    record {
      apart = apart;
      each = subst L (sym (live_plans-push h (Planned plan))) (All-append H (filter keep (live_plans h)) (new ∷ [])
          (All-filter keep H (live_plans h) (plans_later Good h next pages (live_plans h) (later_push h (Planned plan) refl) (live_planned Good h each) holds.each))
          (All-cons H new [] own (All-nil H)));
    }
