-- The cheapest last segments to a boundary, and what holds of a number by them.
use Rattle.std.specs.Prelude.{◌≡◌, ◌⊎◌, ◌↔◌, ℕ, ◌+◌, ◌-◌, ◌<◌, ◌≤◌, Bool, IsTrue, List, length, get_or, slice_index}
use Rattle.std.proofs.Common.{arith, sym, ◌∙◌, subst, inl, inr}
use Rattle.std.proofs.lemmas.Bool.{cases_lt}
use Rattle.std.proofs.lemmas.Grind.{get_or_default_zero}
use Rattle.base_types.specs.declared.fraction.Fraction.{Fraction}
use Rattle.plans_partitions.specs.Windows.{IsLeastIn}
use Rattle.plans_partitions.specs.Counts.{Counts, AreOrdered, size_between}
use Rattle.plans_partitions.specs.Reaches.{IsReach, AreReaches}
use Rattle.plans_guarantee.specs.Edges.{EdgesTo, EdgesBelow}
use Rattle.plans_guarantee.specs.Lefts.{cost_to_end, IsCheapest}

-- what is cheaper to the last boundary is cheaper to any
cheaper : (table : Counts) (pi : List ℕ) (i j k : ℕ) → AreOrdered table.boundaries table.begun table.ended → k < length table.boundaries → i < k → j < k → cost_to_end table pi i ≤ cost_to_end table pi j
    → slice_index pi i + size_between table i k ≤ slice_index pi j + size_between table j k
cheaper table pi i j k o l a b h = omega (
  arith,
  o.paired i k (omega arith) l,
  o.paired j k (omega arith) l,
  o.paired i (length table.boundaries - 1) (omega arith) (omega arith),
  o.paired j (length table.boundaries - 1) (omega arith) (omega arith),
)

pub cheapest_is : (table : Counts) (pi : List ℕ) (low k left : ℕ) → AreOrdered table.boundaries table.begun table.ended → k < length table.boundaries → IsLeastIn (cost_to_end table pi) low k left → IsCheapest table pi low k left
cheapest_is table pi low k left o l s = record {
  after = s.after;
  before = s.before;
  none_cheaper = λ j b c. cheaper table pi left j k o l s.before c (s.least j b c);
}

-- a number grows over no segment by more than its size exactly where it doesn't over the cheapest one
pub edges_by_cheapest : (table : Counts) (factor : Fraction) (pi : List ℕ) (low k left : ℕ) → IsReach table factor k low → IsCheapest table pi low k left → (slice_index pi k ≤ slice_index pi left + size_between table left k) ↔ EdgesTo table factor pi k
edges_by_cheapest table factor pi low k left r s = (
  λ h j l adm. omega (arith, s.none_cheaper j ((r.each j l).0 adm) l),
  λ edges. edges left s.before ((r.each left s.before).1 s.after),
)

-- the same by a test, where low stands among the reaches
pub edge_is : (table : Counts) (factor : Fraction) (pi lows : List ℕ) (k low left : ℕ) (b : Bool) → 1 ≤ k → k < length table.boundaries → AreReaches table factor lows (length table.boundaries) → low ≡ get_or lows k low → IsCheapest table pi low k left
    → (IsTrue b ↔ (slice_index pi k ≤ slice_index pi left + size_between table left k)) → IsTrue b ↔ EdgesTo table factor pi k
edge_is table factor pi lows k low left b some l r e s h = (λ t. w.0 (h.0 t), λ edges. h.1 (w.1 edges))
  where
    there : slice_index lows k ≡ low
    there = sym (e ∙ get_or_default_zero lows k low (omega (arith, r.long)))

    w : (slice_index pi k ≤ slice_index pi left + size_between table left k) ↔ EdgesTo table factor pi k
    w = edges_by_cheapest table factor pi low k left (subst (λ n. IsReach table factor k n) there (r.each k some l)) s

pub edges_next : (table : Counts) (factor : Fraction) (pi : List ℕ) (k : ℕ) → EdgesBelow table factor pi k → EdgesTo table factor pi k → EdgesBelow table factor pi (k + 1)
edges_next table factor pi k old new m l = go (cases_lt m k)
  where
    go : ((m < k) ⊎ (k ≤ m)) → EdgesTo table factor pi m
    go (inl h) = old m h
    go (inr h) = let e : k ≡ m = omega arith in subst (λ n. EdgesTo table factor pi n) e new
