-- A list of tests, each of which may find a cause, and the first cause found.
use Rattle.std.specs.Prelude.{Bool, List, [], ◌∷◌, Option, Some, None, cond}

-- the first cause that a list of tests finds
abbrev pub first_of : {W : Type 0} → List (Option W) → Option W
first_of [] = None
first_of (None ∷ tests) = first_of tests
first_of (Some why ∷ tests) = Some why

-- this cause where the test holds
abbrev pub when : {W : Type 0} → Bool → W → Option W
when test why = cond test (Some why) None
