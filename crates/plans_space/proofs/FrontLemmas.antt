-- The points of a front.
use Rattle.std.specs.Prelude.{◌≡◌, ◌⊎◌, ℕ, ◌+◌, ◌<◌, ◌≤◌, Option, Some, None, List, [], ◌∷◌, ◌++◌, map, length, slice_index, slice_index_or, Contains, refl}
use Rattle.std.specs.List.Sorted.{IsStrictlyIncreasing}
use Rattle.std.proofs.Common.{arith, ap, sym, ◌∙◌, subst, inl, inr, lt-ltb}
use Rattle.std.proofs.lemmas.Bool.{cases_lt, le-ltb}
use Rattle.std.proofs.lemmas.List.{get_or_append_left, length-append, length-map, map-append, get_or-map}
use Rattle.std.proofs.lemmas.List.Elements.{Contains-append_left, Contains-append_cases, Contains-push, Contains-get_or}
use Rattle.std.proofs.Math.Seq.{get_or-append_seam}
use Rattle.plans_space.specs.Steps.{IsLeast, IsFallOf, AreFallsOf, fall, with_fall, IsLeastBefore}
use Rattle.plans_space.proofs.LeastLemmas.{least_by}
use Rattle.plans_space.specs.declared.point.Point.{Point}

up_more : (xs : List ℕ) (y : ℕ) → IsStrictlyIncreasing xs → ((k : ℕ) → k < length xs → slice_index xs k < y) → IsStrictlyIncreasing (xs ++ y ∷ [])
up_more xs y up low k m = go (cases_lt (k + 1) (length xs))
  where
    go : ((k + 1 < length xs) ⊎ (length xs ≤ k + 1)) → slice_index (xs ++ y ∷ []) k < slice_index (xs ++ y ∷ []) (k + 1)
    go (inl lt) = omega (arith, up k lt, get_or_append_left xs (y ∷ []) 0 k (omega arith), get_or_append_left xs (y ∷ []) 0 (k + 1) lt)
    go (inr ge) =
        let e : length xs ≡ k + 1 = omega (arith, length-append xs (y ∷ []), m) in
        omega (arith, subst (λ i. slice_index (xs ++ y ∷ []) i ≡ y) e (get_or-append_seam xs y [] 0), get_or_append_left xs (y ∷ []) 0 k (omega arith), low k (omega arith))

one_point : (p q : Point) → p.charge ≡ q.charge → p.cost ≡ q.cost → p ≡ q
one_point p q e f = λ i. record { charge = e i; cost = f i }

module _ (P : List ℕ → Type 0) (charge cost : List ℕ → ℕ) (n : ℕ) (points : List Point) (s : AreFallsOf P charge cost n points) where
  -- no fall at this charge
  keeps : ((v : ℕ) → IsFallOf P charge cost n v → ⊥) → AreFallsOf P charge cost (n + 1) points
  keeps none = record {
    ascending = s.ascending;
    each = λ p. (λ c. let h : (p.charge < n) × IsFallOf P charge cost p.charge p.cost = (s.each p).0 c in (omega (arith, h.0), h.1), λ h. back p h.0 h.1 (cases_lt p.charge n));
  }
    where
      back : (p : Point) → p.charge < n + 1 → IsFallOf P charge cost p.charge p.cost → ((p.charge < n) ⊎ (n ≤ p.charge)) → Contains points p
      back p l f (inl lt) = (s.each p).1 (lt, f)
      back p l f (inr ge) = let e : p.charge ≡ n = omega arith in absurd (none p.cost (subst (λ c. IsFallOf P charge cost c p.cost) e f))

  -- a fall at this charge
  takes : (v : ℕ) → IsFallOf P charge cost n v → AreFallsOf P charge cost (n + 1) (points ++ (record { charge = n; cost = v }) ∷ [])
  takes v f = record {
    ascending = subst (λ (l : List ℕ). IsStrictlyIncreasing l) (sym (map-append (λ (p : Point). p.charge) points ((record { charge = n; cost = v }) ∷ []))) (up_more (map (λ p. p.charge) points) n s.ascending low);
    each = λ p. (λ c. there p (Contains-append_cases points ((record { charge = n; cost = v }) ∷ []) p c), λ h. back p h.0 h.1 (cases_lt p.charge n));
  }
    where
      low : (k : ℕ) → k < length (map (λ p. p.charge) points) → slice_index (map (λ p. p.charge) points) k < n
      low k l =
          let m : k < length points = omega (arith, l, length-map points (λ (p : Point). p.charge)) in
          let h : ((slice_index_or points k (record { charge = 0; cost = 0 })).charge < n) × IsFallOf P charge cost (slice_index_or points k (record { charge = 0; cost = 0 })).charge (slice_index_or points k (record { charge = 0; cost = 0 })).cost
          = (s.each (slice_index_or points k (record { charge = 0; cost = 0 }))).0 (Contains-get_or points k (record { charge = 0; cost = 0 }) m) in
          omega (arith, h.0, get_or-map (λ (p : Point). p.charge) points k (record { charge = 0; cost = 0 }) 0 m)

      same : (p : Point) → Contains ((record { charge = n; cost = v }) ∷ []) p → p ≡ record { charge = n; cost = v }
      same p (k, l, e) = let z : k ≡ 0 = omega (arith, l) in sym e ∙ ap (λ j. slice_index_or ((record { charge = n; cost = v }) ∷ []) j p) z

      there : (p : Point) → (Contains points p ⊎ Contains ((record { charge = n; cost = v }) ∷ []) p) → (p.charge < n + 1) × IsFallOf P charge cost p.charge p.cost
      there p (inl c) = let h : (p.charge < n) × IsFallOf P charge cost p.charge p.cost = (s.each p).0 c in (omega (arith, h.0), h.1)
      there p (inr c) = subst (λ (q : Point). (q.charge < n + 1) × IsFallOf P charge cost q.charge q.cost) (sym (same p c)) (omega arith, f)

      back : (p : Point) → p.charge < n + 1 → IsFallOf P charge cost p.charge p.cost → ((p.charge < n) ⊎ (n ≤ p.charge)) → Contains (points ++ (record { charge = n; cost = v }) ∷ []) p
      back p l g (inl lt) = Contains-append_left points ((record { charge = n; cost = v }) ∷ []) p ((s.each p).1 (lt, g))
      back p l g (inr ge) =
          let e : p.charge ≡ n = omega arith in
          let h : IsFallOf P charge cost n p.cost = subst (λ c. IsFallOf P charge cost c p.cost) e g in
          let k : p.cost ≡ v = omega (arith, h.least.least f.least.list f.least.is, f.least.takes, f.least.least h.least.list h.least.is, h.least.takes) in
          subst (λ (q : Point). Contains (points ++ (record { charge = n; cost = v }) ∷ []) q) (sym (one_point p (record { charge = n; cost = v }) e k)) (Contains-push points (record { charge = n; cost = v }))

  at : (before here : Option ℕ) → IsLeastBefore P charge cost n before → IsLeast (λ x. P x × (charge x ≤ n)) cost here → AreFallsOf P charge cost (n + 1) (with_fall points n (fall before here))
  at before None b h = keeps (λ v f. h f.least.list f.least.is)
  at None (Some v) b h = takes v (record { least = h; falls = λ other f l. absurd (b other (f, l)) })
  at (Some w) (Some v) b h = elim (cases_lt v w) [
    | inl l ↦ rw (lt-ltb v w l) (takes v (record { least = h; falls = λ other f m. omega (arith, b.least other (f, m), l) }))
    | inr l ↦ rw (le-ltb v w l) (keeps (λ u f. omega (arith, f.falls b.list b.is.0 b.is.1, b.takes, h.least f.least.list f.least.is, f.least.takes, l)))
  ]

  pub front_more : (before here : Option ℕ) → IsLeastBefore P charge cost n before → IsLeast (λ x. P x × (charge x ≤ n)) cost here → AreFallsOf P charge cost (n + 1) (with_fall points n (fall before here)) × IsLeastBefore P charge cost (n + 1) here
  front_more before here b h = (at before here b h, least_by (λ x. P x × (charge x ≤ n)) (λ x. P x × (charge x < n + 1)) cost cost here (λ x p. (x, (p.0, omega (arith, p.1)), refl)) (λ x p. (x, (p.0, omega (arith, p.1)), refl)) h)

pub front_first : (P : List ℕ → Type 0) (charge cost : List ℕ → ℕ) → AreFallsOf P charge cost 0 [] × IsLeastBefore P charge cost 0 None
front_first P charge cost = (record { ascending = λ k m. absurd (omega (arith, m)); each = λ p. (λ c. nothing p c, λ h. absurd (omega (arith, h.0))) }, λ path f. omega (arith, f.1))
  where
    nothing : (p : Point) → Contains [] p → (p.charge < 0) × IsFallOf P charge cost p.charge p.cost
    nothing p (k, l, e) = absurd (omega (arith, l))
