-- The live plan of a word.
use Rattle.std.proofs.Common.{◌≡◌, ℕ, zero, suc, ◌<◌, Bool, true, false, bytes_eq, cond, List, [], ◌∷◌, length, filter, take, get_or, All, Some, None, refl, ap, sym, ◌∙◌, arith}
use Rattle.std.proofs.lemmas.Bool.{not-true}
use Rattle.std.proofs.lemmas.List.Elements.{All-head, All-tail}
use Rattle.std.proofs.lemmas.Slice.Eq.{bytes_eq-Decides}
use Rattle.model_archive.specs.declared.stored.StoredPlan.{StoredPlan}
use Rattle.model_archive.specs.Histories.{History}
use Rattle.model_archive.specs.Plans.{is_another, live_plans, first_plan, plan_of}
use Rattle.archive_entries.specs.Live.{IsPlanAt}

found_at : (live : List StoredPlan) (word : List ℕ) (at : ℕ) (s : StoredPlan) → at < length live → (get_or live at s).plan.word ≡ word
    → All (λ other. is_another word other ≡ true) (take at live) → s ≡ get_or live at s → first_plan (filter (λ stored. bytes_eq stored.plan.word word) live) ≡ Some s.plan
found_at [] word at s within is before same = absurd (omega (arith, within))
found_at (x ∷ live) word zero s within is before same =
    let yes : bytes_eq x.plan.word word ≡ true = (bytes_eq-Decides x.plan.word word).1 is in
    ap (λ (b : Bool). first_plan (cond b (x ∷ filter (λ stored. bytes_eq stored.plan.word word) live) (filter (λ stored. bytes_eq stored.plan.word word) live))) yes
    ∙ ap (λ (y : StoredPlan). Some y.plan) (sym same)
found_at (x ∷ live) word (suc at) s within is before same =
    let quiet : bytes_eq x.plan.word word ≡ false = not-true (bytes_eq x.plan.word word) (All-head (λ other. is_another word other ≡ true) x (take at live) before) in
    ap (λ (b : Bool). first_plan (cond b (x ∷ filter (λ stored. bytes_eq stored.plan.word word) live) (filter (λ stored. bytes_eq stored.plan.word word) live))) quiet
    ∙ found_at live word at s (omega (arith, within)) is (All-tail (λ other. is_another word other ≡ true) x (take at live) before) same

pub plan_found : (h : History) (word : List ℕ) (at : ℕ) (s : StoredPlan) → IsPlanAt (live_plans h) word at → s ≡ get_or (live_plans h) at s → plan_of h word ≡ Some s.plan
plan_found h word at s is same = found_at (live_plans h) word at s is.within (is.is s) is.before same

no_plan : (live : List StoredPlan) (word : List ℕ) → All (λ s. is_another word s ≡ true) live → first_plan (filter (λ stored. bytes_eq stored.plan.word word) live) ≡ None
no_plan [] word others = refl
no_plan (x ∷ live) word others =
    let quiet : bytes_eq x.plan.word word ≡ false = not-true (bytes_eq x.plan.word word) (All-head (λ other. is_another word other ≡ true) x live others) in
    ap (λ (b : Bool). first_plan (cond b (x ∷ filter (λ stored. bytes_eq stored.plan.word word) live) (filter (λ stored. bytes_eq stored.plan.word word) live))) quiet
    ∙ no_plan live word (All-tail (λ other. is_another word other ≡ true) x live others)

pub none_found : (h : History) (word : List ℕ) → All (λ s. is_another word s ≡ true) (live_plans h) → plan_of h word ≡ None
none_found h word others = no_plan (live_plans h) word others
