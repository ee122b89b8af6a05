-- Choices of one offer a word, and which are best within a budget.
use Rattle.std.specs.Prelude.{◌≡◌, ◌⊎◌, ℕ, zero, suc, ◌+◌, ◌≤◌, List, [], ◌∷◌, length, get_or, All}
use Rattle.plans_space.specs.declared.point.Point.{Point}

-- What is offered for a word: its list in one piece, and the points at which the least cost falls as more is charged.
pub record Offered : Type 0 where
  pub whole : Point
  pub front : List Point

-- The point that a pick takes of an offer: the whole by 0, and otherwise the front's, by its place counted from 1.
abbrev pub picked : Offered → ℕ → Point
picked offer zero = offer.whole
picked offer (suc place) = get_or offer.front place offer.whole

-- One pick of each offer.
abbrev pub ArePicks : List Offered → List ℕ → Type 0
ArePicks [] [] = Unit {0}
ArePicks (offer ∷ offers) (pick ∷ picks) = (pick ≤ length offer.front) × ArePicks offers picks
ArePicks [] (pick ∷ picks) = ⊥
ArePicks (offer ∷ offers) [] = ⊥

-- A value of the points that are picked, added up: what they are charged, or what they cost.
abbrev pub total : (Point → ℕ) → List Offered → List ℕ → ℕ
total value [] picks = 0
total value (offer ∷ offers) [] = 0
total value (offer ∷ offers) (pick ∷ picks) = value (picked offer pick) + total value offers picks

-- A choice may be taken: it takes wholes alone, or is charged at most the budget.
abbrev pub IsEligible : List Offered → ℕ → List ℕ → Type 0
IsEligible offers budget picks = ArePicks offers picks × (All (λ pick. pick ≡ 0) picks ⊎ (total (λ p. p.charge) offers picks ≤ budget))

-- A best choice: it may be taken, and none that may be taken costs less.
pub record IsBestChoice (offers : List Offered) (budget : ℕ) (picks : List ℕ) : Type 0 where
  pub eligible : IsEligible offers budget picks
  pub best : (other : List ℕ) → IsEligible offers budget other → total (λ p. p.cost) offers picks ≤ total (λ p. p.cost) offers other
