-- Pulls in a row, and what was left and what was shown before each of them.
use Rattle.std.specs.Prelude.{◌≡◌, List, [], ◌∷◌, ℕ}

-- a pull of a machine: the bytes left before it, and the bytes shown by then
pub record Pull : Type 0 where
  pub left : List ℕ
  pub shown : List ℕ

-- Calls of a source alone, so many pulls among them, before each of which these bytes were left; without a pull nothing happened.
abbrev pub ArePulls : {S : Type 0} → (S → List ℕ) → (S → S → Type 0) → S → List (List ℕ) → S → Type 0
ArePulls left only x [] y = y ≡ x
ArePulls left only x (before ∷ lefts) y = (z : _) × (left x ≡ before) × only x z × ArePulls left only z lefts y

-- Calls of a machine, these pulls among them: between two pulls the source stays as it is.
abbrev pub AreAsked : {S A : Type 0} → (S → A) → (S → Pull → Type 0) → (S → S → Type 0) → S → List Pull → S → Type 0
AreAsked source before only x [] y = source y ≡ source x
AreAsked source before only x (pull ∷ pulls) y = (w : _) × (z : _) × (source w ≡ source x) × before w pull × only w z
    × AreAsked source before only z pulls y
