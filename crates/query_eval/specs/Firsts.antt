-- The first rows, and what is kept for them along a pass.
use Rattle.std.specs.Prelude.{◌≡◌, ◌⊎◌, ◌↔◌, ℕ, List, length, take, Option, Some, None, Contains, ⊤}
use Rattle.query_eval.specs.Answers.{RanksBefore, AreRanked}
use Rattle.query_eval.specs.declared.answer.Row.{Row}
use Rattle.query_eval.specs.declared.answer.Wanted.{Wanted}
use Rattle.query_eval.specs.declared.answer.Wanted.TheVariants.{All, First}

-- rows in their order that are these ones
pub record AreInOrder (rows xs : List Row) : Type 0 where
  pub ranked : AreRanked rows
  pub each : (row : Row) → (Contains rows row ↔ Contains xs row)

-- the first so many of these ones in their order
abbrev pub AreFirst : ℕ → List Row → List Row → Type 0
AreFirst count xs first = (all : List Row) × AreInOrder all xs × (first ≡ take count all)

-- of all rows those that are asked for
abbrev pub wanted_of : Wanted → List Row → List Row
wanted_of All all = all
wanted_of (First count) all = take count all

-- these are asked for of rows of which this holds
abbrev pub AreWantedOf : Wanted → (List Row → Type 0) → List Row → Type 0
AreWantedOf wanted P rows = (all : List Row) × P all × (rows ≡ wanted_of wanted all)

-- so many of the rows that are kept are of this kind
pub record AreEnough (count : ℕ) (kept : List Row) (P : Row → Type 0) : Type 0 where
  pub some : List Row
  pub ranked : AreRanked some
  pub enough : length some ≡ count
  pub among : (row : Row) → Contains some row → Contains kept row
  pub each : (row : Row) → Contains some row → P row

-- a row up to which there are so many of those that are kept, if there is one
abbrev pub IsLast : ℕ → List Row → Option Row → Type 0
IsLast count kept None = ⊤
IsLast count kept (Some last) = Contains kept last × AreEnough count kept (λ row. (row ≡ last) ⊎ RanksBefore row last)

-- Of some rows those are kept among which the first so many are: before each other one stand so many that are kept.
pub record IsFront (count : ℕ) (made kept : List Row) (last : Option Row) : Type 0 where
  pub only : (row : Row) → Contains kept row → Contains made row
  pub rest : (row : Row) → Contains made row → Contains kept row ⊎ AreEnough count kept (λ x. RanksBefore x row)
  pub bar : IsLast count kept last
