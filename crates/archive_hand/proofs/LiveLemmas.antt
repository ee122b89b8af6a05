-- What holds of the extents of live plans holds with one more.
use Rattle.std.proofs.Common.{ℕ, ◌+◌, Bool, true, false, cond, List, [], ◌∷◌, ◌++◌, length, filter, All, subst, sym, arith}
use Rattle.std.proofs.lemmas.List.{length-append, get_or_append_left, get_or-append-add}
use Rattle.std.proofs.lemmas.List.Elements.{All-append}
use Rattle.base_types.specs.declared.extent.Extent.{Extent}
use Rattle.pages_area.specs.Live.{IsInside}
use Rattle.model_archive.specs.declared.stored.StoredPlan.{StoredPlan}
use Rattle.model_archive.specs.Plans.{is_another, with_plan, extents_of}
use Rattle.archive_plans.specs.Shelves.{extents_all}
use Rattle.archive_plans.proofs.ShelfLemmas.{extents_push}

all_left : (P : Extent → Type 0) (xs ys : List Extent) → All P (xs ++ ys) → All P xs
all_left P xs ys all = λ k d lt. subst P (get_or_append_left xs ys d k lt) (all k d (omega (arith, lt, length-append xs ys)))

all_right : (P : Extent → Type 0) (xs ys : List Extent) → All P (xs ++ ys) → All P ys
all_right P xs ys all = λ k d lt. subst P (get_or-append-add xs ys k d) (all (length xs + k) d (omega (arith, lt, length-append xs ys)))

all_filtered : (P : Extent → Type 0) (p : StoredPlan → Bool) (live : List StoredPlan) → All P (extents_all live) → All P (extents_all (filter p live))
all_filtered P p [] all = all
all_filtered P p (s ∷ live) all =
    go (p s) (all_left P (extents_of s.plan) (extents_all live) all) (all_filtered P p live (all_right P (extents_of s.plan) (extents_all live) all))
  where
    go : (b : Bool) → All P (extents_of s.plan) → All P (extents_all (filter p live)) → All P (extents_all (cond b (s ∷ filter p live) (filter p live)))
    go true one rest = All-append P (extents_of s.plan) (extents_all (filter p live)) one rest
    go false one rest = rest

-- the extents of plans with one more
pub all_inside_with : (reach : ℕ) (live : List StoredPlan) (stored : StoredPlan) → All (IsInside reach) (extents_all live) → All (IsInside reach) (extents_of stored.plan)
    → All (IsInside reach) (extents_all (with_plan live stored))
all_inside_with reach live stored all more =
    let others = filter (is_another stored.plan.word) live in
    subst (λ (es : List Extent). All (IsInside reach) es) (sym (extents_push others stored))
    (All-append (IsInside reach) (extents_all others) (extents_of stored.plan) (all_filtered (IsInside reach) (is_another stored.plan.word) live all) more)
