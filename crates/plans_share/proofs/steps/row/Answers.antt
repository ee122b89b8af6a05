use Rattle.std.proofs.Common.{rules, ◌≡◌, ◌∙◌, length, subst, ℕ, ◌+◌, ◌<◌, None}
use Rattle.std.specs.Prelude.{slice_index_or}
use Rattle.plans_space.specs.Steps.{IsLeastWay}
use Rattle.plans_share.specs.Choices.{picked}
use Rattle.plans_share.specs.Steps.{through}
use Rattle.plans_share.proofs.Cells.{ways-more, settled_by}
use Rattle.plans_share.proofs.steps.row.Goals as goal

pub loop-pick-preserved : goal.loop-pick-preserved
loop-pick-preserved c = record {
  long = c.lowered-row.ensures.long ∙ c.loop-pick.invariant.long;
  ways = ways-more c.args.offer.now c.args.below.now c.loop-pick.row.items c.lowered-row.result.items c.point.result c.loop-pick.pick c.loop-pick.invariant.long c.point.ensures c.lowered-row.ensures.lowered c.loop-pick.invariant.ways;
}

pub returns : goal.returns
returns c = λ rest s.
    let e : c.loop-pick.pick ≡ length c.args.offer.now.front + 1 = search rules in
    settled_by c.args.offer.now rest (length c.args.below.now) c.args.below.now c.loop-pick.row.items c.requires.cheap s c.loop-pick.invariant.long
    (subst (λ n. (k : ℕ) → k < length c.args.below.now → IsLeastWay (λ j. through c.args.below.now (picked c.args.offer.now j) k) n (slice_index_or c.loop-pick.row.items k None)) e c.loop-pick.invariant.ways)
