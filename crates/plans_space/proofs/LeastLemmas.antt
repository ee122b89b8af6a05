-- The least cost of lists of which one of two things holds, and of lists by their first number.
use Rattle.std.specs.Prelude.{◌≡◌, ◌⊎◌, ℕ, zero, suc, ◌+◌, ◌<◌, ◌≤◌, min, Option, Some, None, List, [], ◌∷◌, IfSome, refl}
use Rattle.std.proofs.Common.{arith, ap, ◌∙◌, subst, inl, inr, below_none, below_more}
use Rattle.std.proofs.lemmas.Bool.{cases_lt}
use Rattle.plans_space.specs.Steps.{IsLeastOf, IsLeast, IsLeastWay, IsBestWay, lesser, plus}

-- the least cost of other lists of the same costs
pub least_by : (P Q : List ℕ → Type 0) (cost all : List ℕ → ℕ) (o : Option ℕ) → ((x : List ℕ) → P x → (y : List ℕ) × Q y × (all y ≡ cost x)) → ((y : List ℕ) → Q y → (x : List ℕ) × P x × (all y ≡ cost x)) → IsLeast P cost o → IsLeast Q all o
least_by P Q cost all None to from h = λ y q. let f : (x : List ℕ) × P x × (all y ≡ cost x) = from y q in h f.0 f.1
least_by P Q cost all (Some v) to from h = let t : (y : List ℕ) × Q y × (all y ≡ cost h.list) = to h.list h.is in record {
  list = t.0;
  is = t.1;
  takes = t.2 ∙ h.takes;
  least = λ y q. let f : (x : List ℕ) × P x × (all y ≡ cost x) = from y q in omega (arith, h.least f.0 f.1, f.2);
}

-- the lists of both kinds
pub least_either : (P Q R : List ℕ → Type 0) (cost : List ℕ → ℕ) (a b : Option ℕ) → ((x : List ℕ) → P x ⊎ Q x → R x) → ((x : List ℕ) → R x → P x ⊎ Q x) → IsLeast P cost a → IsLeast Q cost b → IsLeast R cost (lesser a b)
least_either P Q R cost None b to from p q = least_by Q R cost cost b (λ x h. (x, to x (inr h), refl)) (λ x r. (x, elim (from x r) [ inl h ↦ absurd (p x h) | inr h ↦ h ], refl)) q
least_either P Q R cost (Some v) None to from p q = least_by P R cost cost (Some v) (λ x h. (x, to x (inl h), refl)) (λ x r. (x, elim (from x r) [ inl h ↦ h | inr h ↦ absurd (q x h) ], refl)) p
least_either P Q R cost (Some v) (Some w) to from p q = go (cases_lt v w)
  where
    low : (x : List ℕ) → R x → min v w ≤ cost x
    low x r = elim (from x r) [ inl h ↦ omega (arith, p.least x h) | inr h ↦ omega (arith, q.least x h) ]

    go : ((v < w) ⊎ (w ≤ v)) → IsLeastOf R cost (min v w)
    go (inl l) = record { list = p.list; is = to p.list (inl p.is); takes = omega (arith, p.takes, l); least = low }
    go (inr l) = record { list = q.list; is = to q.list (inr q.is); takes = omega (arith, q.takes, l); least = low }

-- the list begins with the number, and of the rest something holds
abbrev pub Begins : (List ℕ → Type 0) → ℕ → List ℕ → Type 0
Begins P g [] = ⊥
Begins P g (h ∷ x) = (g ≡ h) × P x

pub least_behind : (P Q : List ℕ → Type 0) (cost all : List ℕ → ℕ) (g k : ℕ) (o : Option ℕ) → ((x : List ℕ) → all (g ∷ x) ≡ k + cost x) → ((x : List ℕ) → P x → Q x) → ((x : List ℕ) → Q x → P x)
    → IsLeast P cost o → IsLeast (Begins Q g) all (plus k o)
least_behind P Q cost all g k None e to from h = none
  where
    none : (x : List ℕ) → ¬ (Begins Q g x)
    none [] b = b
    none (j ∷ x) (s, q) = h x (from x q)
least_behind P Q cost all g k (Some v) e to from h = record { list = g ∷ h.list; is = (refl, to h.list h.is); takes = omega (arith, e h.list, h.takes); least = low }
  where
    low : (x : List ℕ) → Begins Q g x → k + v ≤ all x
    low [] b = absurd b
    low (j ∷ x) (s, q) = omega (arith, e x, ap (λ i. all (i ∷ x)) s, h.least x (from x q))

pub behind_of : (Q : List ℕ → Type 0) (all : List ℕ → ℕ) (g v : ℕ) → IsLeastOf (Begins Q g) all v → (x : List ℕ) × Q x × (all (g ∷ x) ≡ v)
behind_of Q all g v h = go h.list h.is h.takes
  where
    go : (x : List ℕ) → Begins Q g x → all x ≡ v → (x : List ℕ) × Q x × (all (g ∷ x) ≡ v)
    go [] b t = absurd b
    go (j ∷ x) (e, q) t = (x, q, ap (λ i. all (i ∷ x)) e ∙ t)

-- the list begins with a number below another
abbrev pub BeginsBelow : ℕ → List ℕ → Type 0
BeginsBelow n [] = ⊥
BeginsBelow n (j ∷ x) = j < n

none_less : (P : List ℕ → Type 0) (cost : List ℕ → ℕ) (v : ℕ) (o : Option ℕ) → IsLeast P cost o → IfSome o (λ w. v ≤ w) → (x : List ℕ) → P x → v ≤ cost x
none_less P cost v None h low x p = absurd (h x p)
none_less P cost v (Some w) h low x p = omega (arith, low, h.least x p)

-- where each of the lists begins with such a number, the least of their costs by that number
pub least_of_all : (P : List ℕ → Type 0) (cost : List ℕ → ℕ) (ways : ℕ → Option ℕ) (n : ℕ) → ((x : List ℕ) → P x → BeginsBelow n x) → ((j : ℕ) → j < n → IsLeast (Begins (λ x. P (j ∷ x)) j) cost (ways j))
    → (o : Option ℕ) → IsLeastWay ways n o → IsLeast P cost o
least_of_all P cost ways n from each None none = no_list
  where
    no_list : (x : List ℕ) → ¬ (P x)
    no_list [] p = from [] p
    no_list (j ∷ x) p = (rw (none j (from (j ∷ x) p)) at (each j (from (j ∷ x) p))) (j ∷ x) (refl, p)
least_of_all P cost ways n from each (Some v) (to, (l, e, low)) =
    let (x, p, t) = behind_of (λ x. P (to ∷ x)) cost to v (rw e at (each to l)) in
    record { list = to ∷ x; is = p; takes = t; least = least }
  where
    least : (x : List ℕ) → P x → v ≤ cost x
    least [] p = absurd (from [] p)
    least (j ∷ x) p = none_less (Begins (λ y. P (j ∷ y)) j) cost v (ways j) (each j (from (j ∷ x) p)) (low j (from (j ∷ x) p)) (j ∷ x) (refl, p)

-- ---- one way more

lower : (v w : ℕ) (o : Option ℕ) → w ≤ v → IfSome o (λ x. v ≤ x) → IfSome o (λ x. w ≤ x)
lower v w None l h = tt
lower v w (Some x) l h = omega (arith, l, h)

-- it costs no less than the best
way_kept : (ways : ℕ → Option ℕ) (n to v : ℕ) → IsBestWay ways n to v → IfSome (ways n) (λ w. v ≤ w) → IsBestWay ways (n + 1) to v
way_kept ways n to v (l, e, low) h = (omega arith, e, below_more (λ j. IfSome (ways j) (λ w. v ≤ w)) n low h)

-- it costs no more than any
way_new : (ways : ℕ → Option ℕ) (n v : ℕ) → ways n ≡ Some v → ((j : ℕ) → j < n → IfSome (ways j) (λ w. v ≤ w)) → IsBestWay ways (n + 1) n v
way_new ways n v e low = (omega arith, e, below_more (λ j. IfSome (ways j) (λ w. v ≤ w)) n low (rw e (omega arith)))

-- the least cost, then, is the lesser of the least so far and that of the new way
pub least_more : (ways : ℕ → Option ℕ) (n : ℕ) (a b : Option ℕ) → ways n ≡ b → IsLeastWay ways n a → IsLeastWay ways (n + 1) (lesser a b)
least_more ways n None None e none = below_more (λ j. ways j ≡ None) n none e
least_more ways n None (Some w) e none = (n, way_new ways n w e (λ j l. rw (none j l) tt))
least_more ways n (Some v) None e (to, b) = (to, way_kept ways n to v b (rw e tt))
least_more ways n (Some v) (Some w) e (to, b) = elim (cases_lt v w) [
  | inl l ↦ let is : min v w ≡ v = omega (arith, l) in rw is (to, way_kept ways n to v b (rw e (omega (arith, l))))
  | inr l ↦ let is : min v w ≡ w = omega (arith, l) in rw is (n, way_new ways n w e (λ j m. lower v w (ways j) l (b.2 j m)))
]

-- there is a least one, or none
pub least_way : (ways : ℕ → Option ℕ) (n : ℕ) → (o : Option ℕ) × IsLeastWay ways n o
least_way ways zero = (None, below_none (λ j. ways j ≡ None))
least_way ways (suc n) =
    let (o, h) = least_way ways n in
    let e : n + 1 ≡ suc n = omega arith in
    (lesser o (ways n), subst (λ m. IsLeastWay ways m (lesser o (ways n))) e (least_more ways n o (ways n) refl h))
