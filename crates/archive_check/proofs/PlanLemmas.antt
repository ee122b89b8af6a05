-- Plans one after the other, and what a verdict says of them.
use Rattle.std.proofs.Common.{◌≡◌, ℕ, suc, ◌+◌, ◌<◌, List, [], ◌∷◌, ◌++◌, length, take, drop, get_or, sum_by, All, ap, sym, ◌∙◌, arith}
use Rattle.std.proofs.Math.Seq.{drop-cons}
use Rattle.std.proofs.lemmas.List.{take-append-drop, take_more}
use Rattle.std.proofs.lemmas.List.Sums.{sum_by-append, sum_by-cons}
use Rattle.lists_versions.specs.declared.change.Change.{Change}
use Rattle.model_archive.specs.declared.stored.StoredPlan.{StoredPlan}
use Rattle.model_archive.specs.declared.verdict.Verdict.{Verdict}
use Rattle.model_archive.specs.declared.verdict.Verdict.TheVariants.{Sound, Differs, NotLeast, BadText}
use Rattle.archive_check.specs.Verdicts.{IsText, IsSound, Says}
use Rattle.archive_check.specs.Checking.{IsFaultOf}

around : (plans : List StoredPlan) (i : ℕ) (stored : StoredPlan) → i < length plans → stored ≡ get_or plans i stored → plans ≡ take i plans ++ (stored ∷ drop (suc i) plans)
around plans i stored within is =
    sym (take-append-drop i plans) ∙ ap (λ (l : List StoredPlan). take i plans ++ l) (drop-cons plans i stored within ∙ ap (λ (x : StoredPlan). x ∷ drop (suc i) plans) (sym is))

-- the first plan that has a fault
pub says_fault : (texts : List (Change (List ℕ))) (pages : List ℕ) (plans : List StoredPlan) (i : ℕ) (stored : StoredPlan) (verdict : Verdict) → i < length plans → stored ≡ get_or plans i stored
    → All IsText texts → All (λ s. IsSound texts pages s.plan) (take i plans) → IsFaultOf texts pages stored.plan verdict → Says verdict texts pages plans
says_fault texts pages plans i stored (Sound words segments) within is utf8 sound fault = absurd fault
says_fault texts pages plans i stored (Differs word segment place found wanted) within is utf8 sound fault =
    record { utf8 = utf8; front = take i plans; stored = stored; back = drop (suc i) plans; plans_are = around plans i stored within is; sound = sound; there = fault }
says_fault texts pages plans i stored (NotLeast word taken least) within is utf8 sound fault =
    record { utf8 = utf8; front = take i plans; stored = stored; back = drop (suc i) plans; plans_are = around plans i stored within is; sound = sound; there = fault }
says_fault texts pages plans i stored (BadText doc at) within is utf8 sound fault = absurd fault

-- the segments of one plan more
pub segments_more : (plans : List StoredPlan) (i : ℕ) (stored : StoredPlan) (n m : ℕ) → i < length plans → stored ≡ get_or plans i stored → n ≡ sum_by (λ s. length s.plan.cuts) (take i plans)
    → m ≡ n + length stored.plan.cuts → m ≡ sum_by (λ s. length s.plan.cuts) (take (i + 1) plans)
segments_more plans i stored n m within is was more =
    let next : take (i + 1) plans ≡ take i plans ++ stored ∷ [] = take_more plans i stored within ∙ ap (λ (s : StoredPlan). take i plans ++ s ∷ []) (sym is) in
    let sum : sum_by (λ (s : StoredPlan). length s.plan.cuts) (take (i + 1) plans) ≡ sum_by (λ (s : StoredPlan). length s.plan.cuts) (take i plans) + sum_by (λ (s : StoredPlan). length s.plan.cuts) (stored ∷ []) =
    ap (sum_by (λ (s : StoredPlan). length s.plan.cuts)) next ∙ sum_by-append (λ (s : StoredPlan). length s.plan.cuts) (take i plans) (stored ∷ []) in
    omega (arith, was, more, sum, sum_by-cons (λ (s : StoredPlan). length s.plan.cuts) stored [])
