use Rattle.std.proofs.Common.{◌↔◌, ℕ, List, IsTrue, drop, slice_index, ap, subst, ◌∙◌}
use Rattle.base_types.specs.declared.posting.Posting.{Posting}
use Rattle.plans_partitions.specs.Counts.{Tabulates}
use Rattle.plans_space.specs.Plans.{IsBestUnder}
use Rattle.plans_space.proofs.FunctionLemmas.{by_function}
use Rattle.plans_kinds.specs.Plans.{each_second_since}
use Rattle.plans_choice.proofs.loads.is_best_since.Goals as goal

pub returns : goal.returns
returns c =
    let best = c.in_ok-best.ensures in
    let times = c.args.table.now.boundaries in
    subst (λ (ws : List ℕ). (list : List Posting) (horizon : ℕ) → Tabulates list horizon c.args.table.now → (IsTrue c.in_ok-best.best ↔ IsBestUnder list times ws c.args.factor (slice_index times 0) horizon (drop 1 c.args.partition.now)))
    (by_function _ (each_second_since c.args.since) times best.0 (λ span n answered. answered.1.0 ∙ ap (λ load. each_second_since load.0 span.from span.to) c.new-load.ensures) best.1) best.2
