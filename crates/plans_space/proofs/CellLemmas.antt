-- The cells of one more stop, by those of the lower ones.
use Rattle.std.specs.Prelude.{◌≡◌, ◌⊎◌, ℕ, ◌+◌, ◌-◌, ◌*◌, ◌^◌, ◌<◌, ◌≤◌, Option, Some, None, List, [], ◌∷◌, ◌++◌, length, slice_index, slice_index_or, All, IfSome, refl}
use Rattle.std.proofs.Common.{arith, sym, subst, inl, inr, le-leb, length-append}
use Rattle.std.proofs.lemmas.Bool.{cases_lt, lt-leb}
use Rattle.std.proofs.lemmas.Nat.{mul-add-lt}
use Rattle.std.proofs.lemmas.List.{get_or_append_left, get_or-append-add}
use Rattle.std.proofs.lemmas.List.Elements.{All-append, All-from_get_or}
use Rattle.plans_space.specs.Costs.{along}
use Rattle.plans_space.specs.Steps.{IsLeast, IsPath, IsCell, cell, AreCells, plus, through, IsLeastWay, IsRow}
use Rattle.plans_space.proofs.LeastLemmas.{Begins, least_behind, BeginsBelow, least_of_all}

-- the place of a cell
pub flat : (i n c width : ℕ) → i < n → c < width → i * width + c < n * width
flat i n c width l m = omega (arith, mul-add-lt i width c n l m)

module _ (charge cost : ℕ → ℕ → ℕ) (width n i c : ℕ) (cells : List (Option ℕ)) (charges costs : List ℕ) (le : i ≤ n) (w : c < width) (s : AreCells charge cost width cells n)
    (q : (j : ℕ) → j < i → slice_index charges j ≡ charge i j) (k : (j : ℕ) → j < i → slice_index costs j ≡ cost i j) where
  -- the least cost by one leg
  pub by_leg : (j : ℕ) → j < i → IsLeast (Begins (λ x. IsPath charge i c (j ∷ x)) j) (along cost i) (through cells width charges costs c j)
  by_leg j l = go (cases_lt c (slice_index charges j))
    where
      go : ((c < slice_index charges j) ⊎ (slice_index charges j ≤ c)) → IsLeast (Begins (λ x. IsPath charge i c (j ∷ x)) j) (along cost i) (through cells width charges costs c j)
      go (inl lt) = rw (lt-leb (slice_index charges j) c lt)
          (least_behind (λ x. IsPath charge i c (j ∷ x)) (λ x. IsPath charge i c (j ∷ x)) (along cost j) (along cost i) j (cost i j) None (λ x. refl) (λ x p. p) (λ x p. p) (λ x p. omega (arith, p.1, q j l, lt)))
      go (inr ge) = rw (le-leb (slice_index charges j) c ge, k j l)
          (least_behind (IsPath charge j (c - slice_index charges j)) (λ x. IsPath charge i c (j ∷ x)) (along cost j) (along cost i) j (cost i j) (cell cells width j (c - slice_index charges j)) (λ x. refl)
          (λ x p. ((l, p.0), omega (arith, p.1, q j l, ge))) (λ x p. (p.0.1, omega (arith, p.1, q j l))) (s.each j (c - slice_index charges j) (omega arith) (omega arith)))

  pub cell_by : 0 < i → (o : Option ℕ) → IsLeastWay (through cells width charges costs c) i o → IsCell charge cost i c o
  cell_by some = least_of_all (IsPath charge i c) (along cost i) (through cells width charges costs c) i from by_leg
    where
      from : (x : List ℕ) → IsPath charge i c x → BeginsBelow i x
      from [] p = absurd (omega (arith, some, p.0))
      from (j ∷ x) p = p.0.0

-- bounds on costs
least_low : (m : ℕ) (ways : ℕ → Option ℕ) (n : ℕ) (o : Option ℕ) → IsLeastWay ways n o → ((j : ℕ) → j < n → IfSome (ways j) (λ w. w ≤ m)) → IfSome o (λ w. w ≤ m)
least_low m ways n None none h = tt
least_low m ways n (Some v) (to, (l, e, low)) h = rw e at (h to l)

plus_low : (x a b : ℕ) (o : Option ℕ) → x ≤ a → IfSome o (λ w. w ≤ b) → IfSome (plus x o) (λ w. w ≤ a + b)
plus_low x a b None l h = tt
plus_low x a b (Some w) l h = omega (arith, l, h)

through_low : (cells : List (Option ℕ)) (width n c j : ℕ) (charges costs : List ℕ) → All (λ o. IfSome o (λ w. w ≤ n * 2 ^ 118)) cells → n * width ≤ length cells → All (λ w. w ≤ 2 ^ 118) costs → j < length costs → j < n → c < width
    → IfSome (through cells width charges costs c j) (λ w. w ≤ 2 ^ 118 + n * 2 ^ 118)
through_low cells width n c j charges costs low long few l m b = go (cases_lt c (slice_index charges j))
  where
    go : ((c < slice_index charges j) ⊎ (slice_index charges j ≤ c)) → IfSome (through cells width charges costs c j) (λ w. w ≤ 2 ^ 118 + n * 2 ^ 118)
    go (inl lt) = rw (lt-leb (slice_index charges j) c lt) tt
    go (inr ge) = rw (le-leb (slice_index charges j) c ge) (plus_low (slice_index costs j) (2 ^ 118) (n * 2 ^ 118) (cell cells width j (c - slice_index charges j)) (few j 0 l)
        (low (j * width + (c - slice_index charges j)) None (omega (arith, long, flat j n (c - slice_index charges j) width m (omega arith)))))

wider : (n m : ℕ) (o : Option ℕ) → n ≤ m → IfSome o (λ w. w ≤ n) → IfSome o (λ w. w ≤ m)
wider n m None l h = tt
wider n m (Some w) l h = omega (arith, l, h)

pub cells_more : (charge cost : ℕ → ℕ → ℕ) (width n : ℕ) (cells row : List (Option ℕ)) (charges costs : List ℕ) → 0 < n → AreCells charge cost width cells n
    → ((j : ℕ) → j < n → slice_index charges j ≡ charge n j) → ((j : ℕ) → j < n → slice_index costs j ≡ cost n j) → All (λ w. w ≤ 2 ^ 118) costs → length costs ≡ n → IsRow cells width charges costs row (length costs)
    → AreCells charge cost width (cells ++ row) (n + 1)
cells_more charge cost width n cells row charges costs some s q k few long r = record {
  long = omega (arith, length-append cells row, s.long, r.long);
  each = λ i c l m. go i c m (cases_lt i n) l;
  small = All-append (λ o. IfSome o (λ w. w ≤ (n + 1) * 2 ^ 118)) cells row (λ j d l. wider (n * 2 ^ 118) ((n + 1) * 2 ^ 118) (slice_index_or cells j d) (omega arith) (s.small j d l))
      (All-from_get_or (λ o. IfSome o (λ w. w ≤ (n + 1) * 2 ^ 118)) row None (λ c l. low c (omega (arith, r.long))));
}
  where
    here : (c : ℕ) → c < width → IsLeastWay (through cells width charges costs c) n (slice_index_or row c None)
    here c m = rw long at (r.each c m)

    go : (i c : ℕ) → c < width → ((i < n) ⊎ (n ≤ i)) → i < n + 1 → IsCell charge cost i c (cell (cells ++ row) width i c)
    go i c m (inl lt) u = subst (λ (o : Option ℕ). IsCell charge cost i c o) (sym (get_or_append_left cells row None (i * width + c) (omega (arith, flat i n c width lt m, s.long)))) (s.each i c lt m)
    go i c m (inr ge) u =
        let e : n ≡ i = omega arith in
        let f : length cells + c ≡ n * width + c = omega (arith, s.long) in
        subst (λ j. IsCell charge cost j c (cell (cells ++ row) width j c)) e
        (subst (λ (o : Option ℕ). IsCell charge cost n c o) (sym (subst (λ p. slice_index_or (cells ++ row) p None ≡ slice_index_or row c None) f (get_or-append-add cells row c None)))
        (cell_by charge cost width n n c cells charges costs (omega arith) m s q k some (slice_index_or row c None) (here c m)))

    low : (c : ℕ) → c < width → IfSome (slice_index_or row c None) (λ w. w ≤ (n + 1) * 2 ^ 118)
    low c m = least_low ((n + 1) * 2 ^ 118) (through cells width charges costs c) n (slice_index_or row c None) (here c m)
        (λ j l. wider (2 ^ 118 + n * 2 ^ 118) ((n + 1) * 2 ^ 118) (through cells width charges costs c j) (omega arith) (through_low cells width n c j charges costs s.small (omega (arith, s.long)) few (omega (arith, long)) l m))
