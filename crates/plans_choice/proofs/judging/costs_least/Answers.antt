use Rattle.std.proofs.Common.{◌≡◌, ◌∷◌, [], ◌++◌, ◌↔◌, Bool, IsTrue, List, ℕ, map, drop, slice_index, refl}
use Rattle.std.proofs.lemmas.Result.{IfOk-weaker}
use Rattle.base_types.specs.declared.posting.Posting.{Posting}
use Rattle.base_types.specs.declared.time.Time.{Time}
use Rattle.plans_partitions.specs.Counts.{Tabulates}
use Rattle.plans_partitions.specs.Partitions.{IsPartition}
use Rattle.plans_space.specs.Loads.{weights_by}
use Rattle.plans_space.specs.Plans.{IsBestUnder}
use Rattle.plans_kinds.specs.Plans.{IsBestPlan, each_second_since}
use Rattle.plans_choice.proofs.JudgingLemmas.{best_is, best_spans}
use Rattle.plans_choice.proofs.judging.costs_least.Goals as goal

pub returns-then-not-spans : goal.returns-then-not-spans
returns-then-not-spans c list cuts horizon t part e = (
  (λ x. cc),
  (λ plan. let bad = c.if-not-spans.ensures.yes.1 (best_spans (each_second_since c.args.since) list c.args.factor c.args.table.now.boundaries c.args.partition.now cuts horizon t.boundaries t.early e plan) in cc),
)

pub returns : goal.returns
returns c =
    let times = c.args.table.now.boundaries in
    let p = c.args.partition.now in
    let load = each_second_since c.args.since in
    let P : Bool → Type 0 = λ b. (list : List Posting) (horizon : ℕ) → Tabulates list horizon c.args.table.now → (IsTrue b ↔ IsBestUnder list times (weights_by load times) c.args.factor (slice_index times 0) horizon (drop 1 p)) in
    let Q : Bool → Type 0 = λ b. (list : List Posting) (cuts : List Time) (horizon : Time) → Tabulates list horizon.seconds c.args.table.now → IsPartition p → p ≡ map (λ (t : Time). t.seconds) (cuts ++ horizon ∷ [])
    → (IsTrue b ↔ IsBestPlan load list c.args.factor cuts horizon.seconds) in
    IfOk-weaker c.is_best_since.result P Q (λ b h list cuts horizon t part e.
    let one = h list horizon.seconds t in
    let is = best_is load list c.args.factor times p cuts horizon t.boundaries part e (c.if-not-spans.ensures.yes.0 refl).0 in
    ((λ x. is.0 (one.0 x)), (λ plan. one.1 (is.1 plan)))) c.is_best_since.ensures
