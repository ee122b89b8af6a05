-- Values with equal fields are equal.
use Rattle.std.specs.Prelude.{◌≡◌, ◌*◌, ◌≤◌}
use Rattle.std.specs.Coded.{le_prop}
use mathlib.Core.HLevel.{is_prop→PathP}
use Rattle.base_commands.specs.declared.count.TopCount.{TopCount}
use Rattle.base_commands.specs.declared.count.BestCount.{BestCount}
use Rattle.base_commands.specs.declared.share.ShareFraction.{ShareFraction}

-- counts of as many rows are one
pub same_top : (a b : TopCount) → a.number ≡ b.number → a ≡ b
same_top a b n = λ i. record {
  number = n i;
  some = is_prop→PathP (λ j. 1 ≤ n j) (λ j. le_prop) a.some b.some i;
  few = is_prop→PathP (λ j. n j ≤ 1000000) (λ j. le_prop) a.few b.few i;
}

pub same_best : (a b : BestCount) → a.number ≡ b.number → a ≡ b
same_best a b n = λ i. record {
  number = n i;
  some = is_prop→PathP (λ j. 1 ≤ n j) (λ j. le_prop) a.some b.some i;
  few = is_prop→PathP (λ j. n j ≤ 1000) (λ j. le_prop) a.few b.few i;
}

-- factors of shared budgets that are one factor are one
pub same_share : (a b : ShareFraction) → a.fraction ≡ b.fraction → a ≡ b
same_share a b f = λ i. record {
  fraction = f i;
  bounded = is_prop→PathP (λ j. (f j).over ≤ 16 * (f j).under) (λ j. le_prop) a.bounded b.bounded i;
}
