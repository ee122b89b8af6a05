-- What lies on a pile, the last first.
use Rattle.std.specs.Prelude.{List, [], ◌∷◌, Option, Some, None}

-- what lies on top
abbrev pub top_of : {A : Type 0} → List A → Option A
top_of [] = None
top_of (x ∷ xs) = Some x

-- what lies below it
abbrev pub below : {A : Type 0} → List A → List A
below [] = []
below (x ∷ xs) = xs
