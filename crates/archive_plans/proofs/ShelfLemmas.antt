-- The extents of live plans, the pages of theirs that are kept, and why their places are refused.
use Rattle.std.proofs.Common.{◌≡◌, ℕ, zero, suc, ◌+◌, ◌<◌, List, [], ◌∷◌, ◌++◌, length, map, take, drop, get_or, true, refl, ap, subst, sym, ◌∙◌, arith, append_assoc, inl}
use Rattle.std.proofs.lemmas.List.{append-nil, length-map, get_or_append_left, get_or_default, take_more, at_drop_more}
use Rattle.std.proofs.lemmas.List.Concat.{flat_map-append}
use Rattle.std.proofs.lemmas.List.Elements.{All-filter}
use Rattle.base_types.specs.declared.extent.Extent.{Extent}
use Rattle.base_types.specs.declared.time.Time.{Time}
use Rattle.pages_area.specs.Live.{AreLive, IsNext, IsRefused}
use Rattle.pages_area.specs.declared.live.LiveError.TheVariants.{Clash}
use Rattle.pages_area.specs.Runs.{IsTaken}
use Rattle.pages_area.specs.Taken.{PagesState, HasTaken}
use Rattle.pages_area.proofs.OrderLemmas.{taken_swaps}
use Rattle.pages_area.proofs.StayLemmas.{apart_parts, taken_left, taken_right}
use Rattle.pages_area.proofs.TakenLemmas.{next_extent}
use Rattle.pages_area.specs.Caches.{Kept, IsHeld, StandsFor}
use Rattle.pages_area.specs.CacheLaws.{LieIn}
use Rattle.pages_area.specs.Pieces.{without_pages}
use Rattle.pages_sublists.specs.Caching.{without_all}
use Rattle.pages_sublists.specs.Gathering.{chosen}
use Rattle.pages_sublists.specs.Preparing.{extents}
use Rattle.pages_sublists.specs.Segments.{seconds}
use Rattle.pages_sublists.proofs.KeptLemmas.{lie_without as rest_lies}
use Rattle.journal_entries.specs.declared.place.Place.{Place}
use Rattle.model_archive.specs.declared.stored.StoredPlan.{StoredPlan}
use Rattle.model_archive.specs.Plans.{extents_of}
use Rattle.archive_plans.specs.Shelves.{extents_all, IsBadShelf, gates_all}

-- the extents of plans with one more
pub extents_push : (live : List StoredPlan) (stored : StoredPlan) → extents_all (live ++ stored ∷ []) ≡ extents_all live ++ extents_of stored.plan
extents_push live stored =
    flat_map-append (λ (s : StoredPlan). extents_of s.plan) live (stored ∷ []) ∙ ap (λ (es : List Extent). extents_all live ++ es) (append-nil (extents_of stored.plan))

-- the old plan's extents come in front of the others, and of more that are taken
pub old_in_front : (pages : PagesState) (new more : List Extent) (live front back : List StoredPlan) (s : StoredPlan) (old : List Place) → live ≡ front ++ s ∷ back → old ≡ s.plan.places
    → HasTaken pages (new ++ (more ++ extents_all live)) → HasTaken pages (new ++ (extents old ++ (more ++ extents_all (front ++ back))))
old_in_front pages new more live front back s old same is has =
    let each : StoredPlan → List Extent = λ t. extents_of t.plan in
    let split : extents_all live ≡ extents_all front ++ (extents_of s.plan ++ extents_all back) = ap extents_all same ∙ flat_map-append each front (s ∷ back) in
    let parts = subst (λ (es : List Extent). HasTaken pages (new ++ (more ++ es))) split has in
    let flat = subst (HasTaken pages) (sym (append_assoc new more (extents_all front ++ (extents_of s.plan ++ extents_all back)))) parts in
    let turned = taken_swaps pages (new ++ more) (extents_all front) (extents_of s.plan) (extents_all back) flat in
    let joined = subst (λ (es : List Extent). HasTaken pages ((new ++ more) ++ (extents_of s.plan ++ es))) (sym (flat_map-append each front back)) turned in
    let nested = subst (HasTaken pages) (append_assoc new more (extents_of s.plan ++ extents_all (front ++ back))) joined in
    let first = taken_swaps pages new more (extents_of s.plan) (extents_all (front ++ back)) nested in
    subst (λ (ps : List Place). HasTaken pages (new ++ (extents ps ++ (more ++ extents_all (front ++ back))))) (sym is) first

-- the new plan's extents come behind the others
pub new_behind : (pages : PagesState) (new more : List Extent) (live : List StoredPlan) (stored : StoredPlan) → extents_of stored.plan ≡ new → HasTaken pages (new ++ (more ++ extents_all live))
    → HasTaken pages (more ++ extents_all (live ++ stored ∷ []))
new_behind pages new more live stored same has =
    let others = extents_all live in
    let behind = taken_swaps pages [] new more others has in
    let turned = taken_swaps pages more new others [] (subst (λ (es : List Extent). HasTaken pages (more ++ (new ++ es))) (sym (append-nil others)) behind) in
    let flat : HasTaken pages (more ++ (others ++ new)) = subst (λ (es : List Extent). HasTaken pages (more ++ (others ++ es))) (append-nil new) turned in
    subst (λ (es : List Extent). HasTaken pages (more ++ es)) (sym (extents_push live stored ∙ ap (λ (es : List Extent). others ++ es) same)) flat

-- the extents of plans and the next one's
pub extents_more : (plans : List StoredPlan) (i : ℕ) (s : StoredPlan) → i < length plans → s ≡ get_or plans i s → extents_all (take (i + 1) plans) ≡ extents_all (take i plans) ++ extents_of s.plan
extents_more plans i s within same =
    ap extents_all (take_more plans i s within) ∙ extents_push (take i plans) (get_or plans i s) ∙ ap (λ (y : StoredPlan). extents_all (take i plans) ++ extents_of y.plan) (sym same)

-- ---- the pages that are kept

-- what stands there is this plan
pub plan_is : (plans : List StoredPlan) (at : ℕ) (s t : StoredPlan) → at < length plans → s ≡ get_or plans at s → t ≡ get_or plans at t → s ≡ t
plan_is plans at s t within one other = one ∙ get_or_default plans at s t within ∙ sym other

-- the segments of a plan that are chosen, by its cuts and places
pub chosen_is : (a b h : ℕ) (cuts these : List Time) (places those : List Place) → cuts ≡ these → places ≡ those
    → chosen a b h true (seconds cuts) places ≡ chosen a b h true (seconds these) those
chosen_is a b h cuts these places those one other =
    ap (λ (c : List Time). chosen a b h true (seconds c) places) one ∙ ap (λ (p : List Place). chosen a b h true (seconds these) p) other

-- the pages of the places of a plan are among those of all plans
among_all : (plans : List StoredPlan) (at : ℕ) (s : StoredPlan) (p : ℕ) → at < length plans → s ≡ get_or plans at s → IsTaken (extents_of s.plan) p → IsTaken (extents_all plans) p
among_all [] at s p within same taken = absurd (omega (arith, within))
among_all (t ∷ plans) zero s p within same taken =
    taken_left (extents_of t.plan) (extents_all plans) p (subst (λ (y : StoredPlan). IsTaken (extents_of y.plan) p) same taken)
among_all (t ∷ plans) (suc at) s p within same taken =
    taken_right (extents_of t.plan) (extents_all plans) p (among_all plans at s p (omega (arith, within)) same taken)

pub plan_among : (plans : List StoredPlan) (at : ℕ) (s : StoredPlan) (places : List Place) → at < length plans → s ≡ get_or plans at s → places ≡ s.plan.places
    → (p : ℕ) → IsTaken (extents places) p → IsTaken (extents_all plans) p
plan_among plans at s places within same is p taken = among_all plans at s p within same (subst (λ (ps : List Place). IsTaken (extents ps) p) is taken)

-- once the pages of some extents are given back, what is kept stands for Pages as before
pub without_stands : (es : List Extent) (cache : List Kept) (pages : List ℕ) → StandsFor cache pages → StandsFor (without_all es cache) pages
without_stands [] cache pages stands = stands
without_stands (e ∷ es) cache pages stands = without_stands es (without_pages e cache) pages (All-filter _ (IsHeld pages) cache stands)

-- what lies in the extents of plans lies in those of one plan more
pub lie_behind : (plans : List StoredPlan) (stored : StoredPlan) (cache : List Kept) → LieIn (extents_all plans) cache → LieIn (extents_all (plans ++ stored ∷ [])) cache
lie_behind plans stored cache lie i d within =
    subst (λ (es : List Extent). IsTaken es (get_or cache i d).page) (sym (extents_push plans stored))
    (taken_left (extents_all plans) (extents_of stored.plan) (get_or cache i d).page (lie i d within))

-- what is kept lies in the extents of the other plans and the new one, once those of the old one are given back
pub lie_without : (live front back : List StoredPlan) (s stored : StoredPlan) (old : List Place) (cache : List Kept) → live ≡ front ++ s ∷ back → old ≡ s.plan.places
    → LieIn (extents_all live) cache → LieIn (extents_all ((front ++ back) ++ stored ∷ [])) (without_all (extents old) cache)
lie_without live front back s stored old cache same is lie =
    let each : StoredPlan → List Extent = λ t. extents_of t.plan in
    let split : extents_all live ≡ extents_all front ++ (extents_of s.plan ++ extents_all back) = ap extents_all same ∙ flat_map-append each front (s ∷ back) in
    let parts = rest_lies (extents_all front) (extents_of s.plan) (extents_all back) cache (subst (λ (es : List Extent). LieIn es cache) split lie) in
    let joined = subst (λ (es : List Extent). LieIn es (without_all (extents_of s.plan) cache)) (sym (flat_map-append each front back)) parts in
    let left = subst (λ (ps : List Place). LieIn (extents_all (front ++ back)) (without_all (extents ps) cache)) (sym is) joined in
    lie_behind (front ++ back) stored (without_all (extents old) cache) left

-- ---- the gate of the place with an index

same_gates : (gate : ℕ) (es : List Extent) (k : ℕ) → k < length es → get_or (map (λ (e : Extent). gate) es) k 0 ≡ gate
same_gates gate [] k within = absurd (omega (arith, within))
same_gates gate (e ∷ es) zero within = refl
same_gates gate (e ∷ es) (suc k) within = same_gates gate es k (omega (arith, within))

pub gate_here : (plans : List StoredPlan) (i left : ℕ) (s : StoredPlan) → i < length plans → s ≡ get_or plans i s → left < length s.plan.places → get_or (gates_all (drop i plans)) left 0 ≡ s.gate
gate_here plans i left s within same few =
    let here = map (λ (e : Extent). s.gate) (extents_of s.plan) in
    let long : left < length (extents_of s.plan) = omega (arith, few, length-map s.plan.places (λ (p : Place). p.extent)) in
    at_drop_more (λ (ps : List StoredPlan). get_or (gates_all ps) left 0) plans i s within
    ∙ ap (λ (y : StoredPlan). get_or (map (λ (e : Extent). y.gate) (extents_of y.plan) ++ gates_all (drop (i + 1) plans)) left 0) (sym same)
    ∙ get_or_append_left here (gates_all (drop (i + 1) plans)) 0 left (omega (arith, long, length-map (extents_of s.plan) (λ (e : Extent). s.gate)))
    ∙ same_gates s.gate (extents_of s.plan) left long

-- ---- why places are refused

bad_next : (plans : List StoredPlan) (reach index at : ℕ) (e : Extent) → IsNext (extents_all plans) reach index e → at ≡ get_or (gates_all plans) index 0
    → (AreLive (take index (extents_all plans) ++ e ∷ []) reach → ⊥) → IsBadShelf plans reach at
bad_next plans reach index at e next is bad = record {
  index = index;
  inside = next.within;
  good = next.pass;
  bad = λ live. bad (subst (λ (es : List Extent). AreLive es reach) (next_extent (extents_all plans) index e next.within next.is) live);
  at_is = is;
}

pub bad_clash : (plans : List StoredPlan) (reach index at : ℕ) → IsRefused (extents_all plans) reach (Clash index) → at ≡ get_or (gates_all plans) index 0 → IsBadShelf plans reach at
bad_clash plans reach index at (e, (next, (inside, (p, clash)))) is =
    bad_next plans reach index at e next is (λ live. (apart_parts (take index (extents_all plans)) (e ∷ []) live.1).0 p clash.1 (inl clash.0))
