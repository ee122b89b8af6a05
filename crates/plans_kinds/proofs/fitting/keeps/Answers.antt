use Rattle.std.proofs.Common.{inl, inr}
use Rattle.plans_kinds.proofs.GoodLemmas.{keeps_bound, keeps_guarantee}
use Rattle.plans_kinds.proofs.fitting.keeps.Goals as goal

pub returns-in-Guarantee : goal.returns-in-Guarantee
returns-in-Guarantee c list cuts horizon t part e =
    let told = keeps_guarantee list c.args.factor c.args.table.now.boundaries c.args.partition.now cuts horizon t.boundaries t.early part e in
    let tested = c.keeps_guarantee.ensures list horizon.seconds t in
    rw c.in-Guarantee.is (λ x. told.0 (tested.0 x), λ fit. tested.1 (told.1 fit))

pub returns-in-Uniform : goal.returns-in-Uniform
returns-in-Uniform c list cuts horizon t part e =
    let told = keeps_bound list c.args.factor c.args.table.now.boundaries c.args.partition.now cuts horizon t.boundaries part e in
    let tested = c.keeps_cap.ensures list horizon.seconds t in
    elim c.in-Uniform.is [
      | inl uniform ↦ rw uniform (λ x. told.0 (tested.0 x), λ fit. tested.1 (told.1 fit))
      | inr since ↦ rw since.1 (λ x. told.0 (tested.0 x), λ fit. tested.1 (told.1 fit))
    ]
