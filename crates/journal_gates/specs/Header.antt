-- The first bytes of a journal.
use Rattle.std.specs.Prelude.{ℕ, List, [], ◌∷◌, ◌++◌, codes}

-- the name of the format in ASCII, and version 1 in two bytes
unfoldable pub header : List ℕ
header = codes "TIMETRAVELTEXT" ++ 0 ∷ 1 ∷ []
