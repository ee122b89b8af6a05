-- Live plans, each of another word: a plan that takes the place of the one that its word had.
use Rattle.std.proofs.Common.{◌≡◌, ℕ, zero, suc, ◌<◌, Bool, true, false, not, bytes_eq, cond, List, [], ◌∷◌, ◌++◌, length, filter, take, drop, get_or, All, refl, ap, sym, subst, ◌∙◌, arith}
use Rattle.std.proofs.lemmas.List.Elements.{All-nil, All-head, All-tail, All-push, All-filter, filter_passes}
use Rattle.std.proofs.lemmas.Slice.Eq.{bytes_eq-Decides}
use Rattle.text_words.proofs.CountLemmas.{flipped}
use Rattle.model_archive.specs.declared.stored.StoredPlan.{StoredPlan}
use Rattle.model_archive.specs.Plans.{is_another, with_plan}
use Rattle.archive_entries.specs.Live.{EachOnce, IsPlanAt}

once_filter : (p : StoredPlan → Bool) (live : List StoredPlan) → EachOnce live → EachOnce (filter p live)
once_filter p [] once = tt
once_filter p (s ∷ live) once = go (p s) (once_filter p live once.1)
  where
    go : (b : Bool) → EachOnce (filter p live) → EachOnce (cond b (s ∷ filter p live) (filter p live))
    go true rest = (All-filter p (λ other. is_another s.plan.word other ≡ true) live once.0, rest)
    go false rest = rest

once_push : (live : List StoredPlan) (stored : StoredPlan) → EachOnce live → All (λ other. is_another stored.plan.word other ≡ true) live → EachOnce (live ++ stored ∷ [])
once_push [] stored once others = (All-nil (λ other. is_another stored.plan.word other ≡ true), tt)
once_push (s ∷ live) stored once others = (
  All-push (λ other. is_another s.plan.word other ≡ true) live stored once.0
      (ap not (flipped stored.plan.word s.plan.word) ∙ All-head (λ other. is_another stored.plan.word other ≡ true) s live others),
  once_push live stored once.1 (All-tail (λ other. is_another stored.plan.word other ≡ true) s live others),
)

pub once_with : (live : List StoredPlan) (stored : StoredPlan) → EachOnce live → EachOnce (with_plan live stored)
once_with live stored once =
    once_push (filter (is_another stored.plan.word) live) stored (once_filter (is_another stored.plan.word) live once) (filter_passes (is_another stored.plan.word) live)

kept_all : (p : StoredPlan → Bool) (live : List StoredPlan) → All (λ s. p s ≡ true) live → filter p live ≡ live
kept_all p [] all = refl
kept_all p (x ∷ live) all =
    ap (λ (b : Bool). cond b (x ∷ filter p live) (filter p live)) (All-head (λ s. p s ≡ true) x live all) ∙ ap (λ (l : List StoredPlan). x ∷ l) (kept_all p live (All-tail (λ s. p s ≡ true) x live all))

pub none_replaced : (live : List StoredPlan) (word : List ℕ) → All (λ s. is_another word s ≡ true) live → filter (is_another word) live ≡ live
none_replaced live word all = kept_all (is_another word) live all

one_out : (live : List StoredPlan) (word : List ℕ) (at : ℕ) → EachOnce live → at < length live → ((s : StoredPlan) → (get_or live at s).plan.word ≡ word)
    → All (λ other. is_another word other ≡ true) (take at live) → filter (is_another word) live ≡ take at live ++ drop (suc at) live
one_out [] word at once within is before = absurd (omega (arith, within))
one_out (x ∷ live) word zero once within is before =
    let yes : bytes_eq x.plan.word word ≡ true = (bytes_eq-Decides x.plan.word word).1 (is x) in
    ap (λ (b : Bool). cond (not b) (x ∷ filter (is_another word) live) (filter (is_another word) live)) yes
    ∙ kept_all (is_another word) live (subst (λ (w : List ℕ). All (λ other. is_another w other ≡ true) live) (is x) once.0)
one_out (x ∷ live) word (suc at) once within is before =
    ap (λ (b : Bool). cond b (x ∷ filter (is_another word) live) (filter (is_another word) live)) (All-head (λ other. is_another word other ≡ true) x (take at live) before)
    ∙ ap (λ (l : List StoredPlan). x ∷ l) (one_out live word at once.1 (omega (arith, within)) is (All-tail (λ other. is_another word other ≡ true) x (take at live) before))

pub one_replaced : (live : List StoredPlan) (word : List ℕ) (at : ℕ) → EachOnce live → IsPlanAt live word at → filter (is_another word) live ≡ take at live ++ drop (suc at) live
one_replaced live word at once is = one_out live word at once is.within is.is is.before

-- plans around one of them
pub plan_around : (live : List StoredPlan) (at : ℕ) (s : StoredPlan) → at < length live → s ≡ get_or live at s → live ≡ take at live ++ s ∷ drop (suc at) live
plan_around [] at s within same = absurd (omega (arith, within))
plan_around (x ∷ live) zero s within same = ap (λ (y : StoredPlan). y ∷ live) (sym same)
plan_around (x ∷ live) (suc at) s within same = ap (λ (l : List StoredPlan). x ∷ l) (plan_around live at s (omega (arith, within)) same)
