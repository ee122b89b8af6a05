-- The least costs of one offer more, by those of the offers behind it.
use Rattle.std.specs.Prelude.{◌≡◌, ◌⊎◌, ℕ, zero, suc, ◌+◌, ◌-◌, ◌*◌, ◌^◌, ◌<◌, ◌≤◌, Option, Some, None, List, [], ◌∷◌, length, slice_index_or, All, IfSome, refl}
use Rattle.std.proofs.Common.{arith, inl, inr, le-leb}
use Rattle.std.proofs.lemmas.Bool.{cases_lt, lt-leb}
use Rattle.std.proofs.lemmas.List.Elements.{All-from_get_or}
use Rattle.plans_space.specs.declared.point.Point.{Point}
use Rattle.plans_space.specs.Steps.{IsLeast, IsLeastWay, lesser, plus}
use Rattle.plans_space.proofs.LeastLemmas.{Begins, least_behind, BeginsBelow, least_of_all, least_more}
use Rattle.plans_share.specs.Choices.{Offered, picked, total}
use Rattle.plans_share.specs.Steps.{AreCheap, IsWithin, IsCell, IsSettled, through}

abbrev pub cost_of : List Offered → List ℕ → ℕ
cost_of offers picks = total (λ p. p.cost) offers picks

module _ (offer : Offered) (rest : List Offered) (width : ℕ) (below : List (Option ℕ)) (s : IsSettled rest width below) (c : ℕ) (w : c < width) where
  -- the least cost by one pick
  pub by_pick : (k : ℕ) → k ≤ length offer.front → IsLeast (Begins (λ x. IsWithin (offer ∷ rest) c (k ∷ x)) k) (cost_of (offer ∷ rest)) (through below (picked offer k) c)
  by_pick k l = go (cases_lt c (picked offer k).charge)
    where
      go : ((c < (picked offer k).charge) ⊎ ((picked offer k).charge ≤ c)) → IsLeast (Begins (λ x. IsWithin (offer ∷ rest) c (k ∷ x)) k) (cost_of (offer ∷ rest)) (through below (picked offer k) c)
      go (inl lt) = rw (lt-leb (picked offer k).charge c lt)
          (least_behind (λ x. IsWithin (offer ∷ rest) c (k ∷ x)) (λ x. IsWithin (offer ∷ rest) c (k ∷ x)) (cost_of rest) (cost_of (offer ∷ rest)) k (picked offer k).cost None (λ x. refl) (λ x p. p) (λ x p. p) (λ x p. omega (arith, p.1, lt)))
      go (inr ge) = rw (le-leb (picked offer k).charge c ge)
          (least_behind (IsWithin rest (c - (picked offer k).charge)) (λ x. IsWithin (offer ∷ rest) c (k ∷ x)) (cost_of rest) (cost_of (offer ∷ rest)) k (picked offer k).cost (slice_index_or below (c - (picked offer k).charge) None) (λ x. refl)
          (λ x p. ((l, p.0), omega (arith, p.1, ge))) (λ x p. (p.0.1, omega (arith, p.1))) (s.each (c - (picked offer k).charge) (omega (arith, w))))

  pub cell_by : (o : Option ℕ) → IsLeastWay (λ k. through below (picked offer k) c) (length offer.front + 1) o → IsCell (offer ∷ rest) c o
  cell_by = least_of_all (IsWithin (offer ∷ rest) c) (cost_of (offer ∷ rest)) (λ k. through below (picked offer k) c) (length offer.front + 1) from (λ j l. by_pick j (omega (arith, l)))
    where
      from : (x : List ℕ) → IsWithin (offer ∷ rest) c x → BeginsBelow (length offer.front + 1) x
      from [] p = absurd p.0
      from (k ∷ x) p = omega (arith, p.0.0)

pub picked-cheap : (offer : Offered) (k : ℕ) → AreCheap offer → k ≤ length offer.front → (picked offer k).cost < 2 ^ 100
picked-cheap offer zero h l = h.whole
picked-cheap offer (suc k) h l = h.front k offer.whole (omega (arith, l))

plus-low : (x a b : ℕ) (o : Option ℕ) → x ≤ a → IfSome o (λ w. w ≤ b) → IfSome (plus x o) (λ w. w ≤ a + b)
plus-low x a b None l h = tt
plus-low x a b (Some w) l h = omega (arith, l, h)

through-low : (below : List (Option ℕ)) (point : Point) (c m : ℕ) → point.cost < 2 ^ 100 → c < length below → All (λ v. IfSome v (λ w. w ≤ m * 2 ^ 100)) below → IfSome (through below point c) (λ w. w ≤ 2 ^ 100 + m * 2 ^ 100)
through-low below point c m h l low = go (cases_lt c point.charge)
  where
    go : ((c < point.charge) ⊎ (point.charge ≤ c)) → IfSome (through below point c) (λ w. w ≤ 2 ^ 100 + m * 2 ^ 100)
    go (inl lt) = rw (lt-leb point.charge c lt) tt
    go (inr ge) = rw (le-leb point.charge c ge) (plus-low point.cost (2 ^ 100) (m * 2 ^ 100) (slice_index_or below (c - point.charge) None) (omega (arith, h)) (low (c - point.charge) None (omega (arith, l))))

least-low : (m : ℕ) (ways : ℕ → Option ℕ) (n : ℕ) (o : Option ℕ) → IsLeastWay ways n o → ((j : ℕ) → j < n → IfSome (ways j) (λ w. w ≤ m)) → IfSome o (λ w. w ≤ m)
least-low m ways n None none h = tt
least-low m ways n (Some v) (to, (l, e, low)) h = rw e at (h to l)

wider : (n m : ℕ) (o : Option ℕ) → n ≤ m → IfSome o (λ w. w ≤ n) → IfSome o (λ w. w ≤ m)
wider n m None l h = tt
wider n m (Some w) l h = omega (arith, l, h)

pub wider-all : (n m : ℕ) (row : List (Option ℕ)) → n ≤ m → All (λ v. IfSome v (λ w. w ≤ n)) row → All (λ v. IfSome v (λ w. w ≤ m)) row
wider-all n m row l h i d k = wider n m (slice_index_or row i d) l (h i d k)

-- a row of least ways is settled
pub settled_by : (offer : Offered) (rest : List Offered) (width : ℕ) (below row : List (Option ℕ)) → AreCheap offer → IsSettled rest width below → length row ≡ width
    → ((c : ℕ) → c < width → IsLeastWay (λ k. through below (picked offer k) c) (length offer.front + 1) (slice_index_or row c None)) → IsSettled (offer ∷ rest) width row
settled_by offer rest width below row h s e each = record {
  long = e;
  each = λ c l. cell_by offer rest width below s c l (slice_index_or row c None) (each c l);
  small = All-from_get_or (λ v. IfSome v (λ w. w ≤ length (offer ∷ rest) * 2 ^ 100)) row None (λ c l. low c (omega (arith, l, e)));
}
  where
    low : (c : ℕ) → c < width → IfSome (slice_index_or row c None) (λ w. w ≤ length (offer ∷ rest) * 2 ^ 100)
    low c l = least-low (length (offer ∷ rest) * 2 ^ 100) (λ k. through below (picked offer k) c) (length offer.front + 1) (slice_index_or row c None) (each c l)
        (λ j m. wider (2 ^ 100 + length rest * 2 ^ 100) (length (offer ∷ rest) * 2 ^ 100) (through below (picked offer j) c) (omega arith) (through-low below (picked offer j) c (length rest) (picked-cheap offer j h (omega (arith, m))) (omega (arith, l, s.long)) s.small))

-- a row that is lowered by one pick more
pub ways-more : (offer : Offered) (below row new : List (Option ℕ)) (point : Point) (k : ℕ) → length row ≡ length below → point ≡ picked offer k → ((c : ℕ) → c < length row → slice_index_or new c None ≡ lesser (slice_index_or row c None) (through below point c))
    → ((c : ℕ) → c < length below → IsLeastWay (λ j. through below (picked offer j) c) k (slice_index_or row c None)) → (c : ℕ) → c < length below → IsLeastWay (λ j. through below (picked offer j) c) (k + 1) (slice_index_or new c None)
ways-more offer below row new point k e p low each c l = rw (low c (omega (arith, l, e)), p) (least_more (λ j. through below (picked offer j) c) k (slice_index_or row c None) (through below (picked offer k) c) refl (each c l))

-- below its charge a point lowers nothing
pub nothing-lowered : (below : List (Option ℕ)) (point : Point) (c : ℕ) (o : Option ℕ) → c < point.charge → o ≡ lesser o (through below point c)
nothing-lowered below point c o l = rw (lt-leb point.charge c l) (go o)
  where
    go : (o : Option ℕ) → o ≡ lesser o None
    go None = refl
    go (Some v) = refl
