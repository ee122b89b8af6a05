-- The moments inside a push.
use Rattle.std.specs.Prelude.{ℕ, List, [], ◌∷◌, ◌++◌}
use Rattle.machine_model.specs.States.{Moment}

-- a moment with more bytes shown beside it, one by one
abbrev pub along : Moment → List ℕ → List Moment
along m [] = m ∷ []
along m (b ∷ piece) = m ∷ along (record m { beside = m.beside ++ b ∷ [] }) piece
