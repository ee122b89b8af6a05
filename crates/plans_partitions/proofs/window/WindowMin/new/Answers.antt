use Rattle.std.proofs.Common.{sym, subst, List, ℕ, refl}
use Rattle.plans_partitions.specs.Windows.{IsWindow}
use Rattle.plans_partitions.proofs.window.WindowMin.new.Goals as goal

pub invariant_of-result : goal.invariant_of-result
invariant_of-result c =
    subst (λ (l : List (ℕ × ℕ)). IsWindow (record { next = 0; from = 0; queue = l })) (sym c.new.ensures.items) (record { values = λ i. 0; over = record { queue = refl } })
