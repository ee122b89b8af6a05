-- One more boundary: its best last segment, which is the cheapest of those that reach to it, and its number.
use Rattle.std.specs.Prelude.{◌≡◌, ℕ, ◌+◌, ◌-◌, ◌<◌, List, [], ◌∷◌, ◌++◌, length, slice_index, ◌*◌, ◌^◌, ◌≤◌}
use Rattle.std.proofs.Common.{arith, ap, sym, ◌∙◌, refl, below_none, below_more}
use Rattle.std.proofs.lemmas.List.{get_or_append_left}
use Rattle.base_types.specs.declared.fraction.Fraction.{Fraction}
use Rattle.plans_partitions.specs.Windows.{Window, IsOver}
use Rattle.plans_partitions.proofs.Queues.{over_same}
use Rattle.plans_partitions.specs.Counts.{Counts, size_between}
use Rattle.plans_partitions.specs.Reaches.{IsReach}
use Rattle.plans_partitions.proofs.Pushing.{kept_before, at_end, one_longer}
use Rattle.plans_guarantee.specs.Lefts.{cost_to_end, IsCheapest}
use Rattle.plans_guarantee.specs.Steps.{IsBestLeft, AreSettled}

-- one more number changes no cost before it
pub costs_kept : (table : Counts) (pi pi' : List ℕ) (window : Window) (k number : ℕ) → length pi ≡ k → window.next ≡ k → pi' ≡ pi ++ number ∷ [] → IsOver (cost_to_end table pi) window → IsOver (cost_to_end table pi') window
costs_kept table pi pi' window k number e f made o =
    over_same (cost_to_end table pi) (cost_to_end table pi') window (λ i l. ap (λ n. n + size_between table i (length table.boundaries - 1)) (sym (kept_before pi pi' k number i e made (omega arith)))) o

-- what is best depends on the numbers up to the boundary alone
best_kept : (table : Counts) (factor : Fraction) (pi : List ℕ) (x k left : ℕ) → k < length pi → IsBestLeft table factor pi k left → IsBestLeft table factor (pi ++ x ∷ []) k left
best_kept table factor pi x k left l b =
    let kept = λ (i : ℕ) (m : i < length pi). get_or_append_left pi (x ∷ []) 0 i m in
    record {
      before = b.before;
      admissible = b.admissible;
      none_better = λ j m adm. omega (arith, b.none_better j m adm, kept left (omega (arith, b.before)), kept j (omega arith));
      takes = omega (arith, b.takes, kept k l, kept left (omega (arith, b.before)));
    }

-- the cheapest of those that reach to a boundary is the best
best_new : (table : Counts) (factor : Fraction) (pi : List ℕ) (k low left : ℕ) → length pi ≡ k → IsReach table factor k low → IsCheapest table pi low k left
    → IsBestLeft table factor (pi ++ (slice_index pi left + size_between table left k) ∷ []) k left
best_new table factor pi k low left e reach s =
    let number = slice_index pi left + size_between table left k in
    let kept = λ (i : ℕ) (m : i < k). kept_before pi (pi ++ number ∷ []) k number i e refl m in
    record {
      before = s.before;
      admissible = (reach.each left s.before).1 s.after;
      none_better = λ j m adm. omega (arith, s.none_cheaper j ((reach.each j m).0 adm) m, kept left s.before, kept j m);
      takes = omega (arith, at_end pi (pi ++ number ∷ []) k number e refl, kept left s.before);
    }

pub settled_more : (table : Counts) (factor : Fraction) (pi lefts : List ℕ) (n low left : ℕ) → 0 < n → AreSettled table factor pi lefts n → IsReach table factor n low → IsCheapest table pi low n left → size_between table left n < 2 ^ 38
    → AreSettled table factor (pi ++ (slice_index pi left + size_between table left n) ∷ []) (lefts ++ left ∷ []) (n + 1)
settled_more table factor pi lefts n low left some s reach cheapest small =
    let x = slice_index pi left + size_between table left n in
    let kept = λ (k : ℕ) (l : k < n). kept_before pi (pi ++ x ∷ []) n x k s.pi_long refl l in
    let new = at_end pi (pi ++ x ∷ []) n x s.pi_long refl in
    record {
      pi_long = one_longer pi (pi ++ x ∷ []) n x s.pi_long refl;
      lefts_long = one_longer lefts (lefts ++ left ∷ []) n left s.lefts_long refl;
      starts = kept 0 some ∙ s.starts;
      best = λ k a c. below_more (λ i. 0 < i → IsBestLeft table factor (pi ++ x ∷ []) i (slice_index (lefts ++ left ∷ []) i)) n
          (λ i l p. rw (kept_before lefts (lefts ++ left ∷ []) n left i s.lefts_long refl l) (best_kept table factor pi x i _ (omega (arith, s.pi_long)) (s.best i p l)))
          (λ p. rw (at_end lefts (lefts ++ left ∷ []) n left s.lefts_long refl) (best_new table factor pi n low left s.pi_long reach cheapest)) k c a;
      small = below_more (λ i. slice_index (pi ++ x ∷ []) i ≤ i * 2 ^ 38) n (λ i l. omega (arith, kept i l, s.small i l)) (omega (arith, new, small, s.small left cheapest.before, cheapest.before));
    }

pub settled_first : (table : Counts) (factor : Fraction) (pi lefts : List ℕ) → pi ≡ 0 ∷ [] → lefts ≡ 0 ∷ [] → AreSettled table factor pi lefts 1
settled_first table factor pi lefts e f = record {
  pi_long = ap length e;
  lefts_long = ap length f;
  starts = ap (λ l. slice_index l 0) e;
  best = λ k a c. absurd (omega arith);
  small = below_more (λ k. slice_index pi k ≤ k * 2 ^ 38) 0 (below_none _) (omega (arith, ap (λ l. slice_index l 0) e));
}
