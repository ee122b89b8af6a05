-- What follows from the definition of longest stretches.
use Rattle.std.specs.Prelude.{◌≡◌, ◌≢◌, ◌⊎◌, ◌↔◌, ℕ, ◌^◌, ◌<◌, ◌≤◌, List, Contains, Option, None}
use Rattle.lists_postings.specs.Stretches.{Kind, IsLongest, AreStretches}

-- An element is no more than what it is read as.
abbrev pub IsPlain : {R V : Type 0} → Kind R V → Type 0
IsPlain k = (p q : _) → k.doc p ≡ k.doc q → k.from p ≡ k.from q → k.to p ≡ k.to q → k.value p ≡ k.value q → p ≡ q

-- The list has each longest stretch, and no other.
abbrev pub ExactlyTheLongest : Type 0 → Type 0 → Type 0
ExactlyTheLongest R V = (k : Kind R V) → IsPlain k → (f : ℕ → ℕ → Option V) (a b : ℕ) (rows : List R) → AreStretches k f a b rows → (r : R)
    → Contains rows r ↔ IsLongest k f a b r

-- There is at most one such list.
abbrev pub StretchesAreOne : Type 0 → Type 0 → Type 0
StretchesAreOne R V = (k : Kind R V) → IsPlain k → (f : ℕ → ℕ → Option V) (a b : ℕ) (one other : List R) → AreStretches k f a b one
    → AreStretches k f a b other → one ≡ other

-- An element of each document, stretch of time and value can be made.
abbrev pub AreMade : {R V : Type 0} → Kind R V → Type 0
AreMade {V = V} k = (d s e : ℕ) (v : V) → s < e → e ≤ 2 ^ 40 → (r : _) × (k.doc r ≡ d) × (k.from r ≡ s) × (k.to r ≡ e) × (k.value r ≡ v)

-- Where f says nothing from some document on, and two values can be told apart, there is a list of the longest stretches.
abbrev pub EachHasStretches : Type 0 → Type 0 → Type 0
EachHasStretches R V =
    (k : Kind R V) → AreMade k → ((v w : V) → (v ≡ w) ⊎ (v ≢ w)) → (f : ℕ → ℕ → Option V) (D a b : ℕ) → b ≤ 2 ^ 40
    → ((d t : ℕ) → D ≤ d → f d t ≡ None)
    → (rows : List R) × AreStretches k f a b rows
