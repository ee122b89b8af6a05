use Rattle.std.proofs.Common.{◌++◌, ◌∷◌, [], ◌↔◌, ℕ, IsTrue, arith, map, refl, sym, subst}
use Rattle.std.proofs.lemmas.Result.{IfOk-weaker}
use Rattle.base_types.specs.declared.time.Time.{Time}
use Rattle.plans_partitions.specs.Partitions.{IsPartition}
use Rattle.plans_kinds.specs.Plans.{IsBestPlan, IsGoodPlan, each_second_since}
use Rattle.plans_choice.proofs.ChoiceLemmas.{since_first}
use Rattle.plans_kinds.proofs.GoodLemmas.{good_is_fit, fit_is_partition}
use Rattle.plans_choice.proofs.judging.is_good.Goals as goal

pub returns-in_default : goal.returns-in_default
returns-in_default c =
    let part : IsGoodPlan c.args.kind c.args.list.now c.args.factor c.args.cuts.now c.args.horizon.seconds → IsPartition (map (λ (t : Time). t.seconds) (c.args.cuts.now ++ c.args.horizon ∷ [])) =
    λ good. fit_is_partition c.args.kind c.args.list.now c.args.factor c.args.cuts.now c.args.horizon (good_is_fit c.args.kind c.args.list.now c.args.factor c.args.cuts.now c.args.horizon good) in
    grind (arith, part)

pub returns-in-Guarantee : goal.returns-in-Guarantee
returns-in-Guarantee c =
    let made = rw c.in-Some.is at c.in_ok-partition.ensures.value in
    let part = subst IsPartition (sym made) ((rw c.in-Some.is at c.in_ok-partition.ensures.valid).0 refl) in
    rw c.in-Guarantee.is (IfOk-weaker c.takes_least.result _ _ (λ b h. h c.args.list.now c.args.cuts.now c.args.horizon c.in_ok-table.ensures part made) c.takes_least.ensures)

pub returns-in-Uniform : goal.returns-in-Uniform
returns-in-Uniform c =
    let made = rw c.in-Some.is at c.in_ok-partition.ensures.value in
    let part = subst IsPartition (sym made) ((rw c.in-Some.is at c.in_ok-partition.ensures.valid).0 refl) in
    let list = c.args.list.now in
    let cuts = c.args.cuts.now in
    let h = c.args.horizon.seconds in
    rw c.in-Uniform.is (IfOk-weaker c.costs_least.result _ _ (λ b is.
    subst (λ (load : ℕ → ℕ → ℕ). IsTrue b ↔ IsBestPlan load list c.args.factor cuts h) since_first (is list cuts c.args.horizon c.in_ok-table.ensures part made)) c.costs_least.ensures)

pub returns : goal.returns
returns c =
    let made = rw c.in-Some.is at c.in_ok-partition.ensures.value in
    let part = subst IsPartition (sym made) ((rw c.in-Some.is at c.in_ok-partition.ensures.valid).0 refl) in
    let list = c.args.list.now in
    let cuts = c.args.cuts.now in
    let h = c.args.horizon.seconds in
    rw c.in-Since.is (IfOk-weaker c.costs_least-in-Since.result _ _ (λ b is.
    subst (λ n. IsTrue b ↔ IsBestPlan (each_second_since n) list c.args.factor cuts h) c.seconds.ensures.value (is list cuts c.args.horizon c.in_ok-table.ensures part made)) c.costs_least-in-Since.ensures)
