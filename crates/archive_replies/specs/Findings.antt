-- What an audit tells that no reply does.
use Rattle.std.specs.Prelude.{ℕ, List, [], ◌∷◌, ◌++◌, codes}
use Rattle.std.specs.Fmt.{decimal}

-- the line of a digest that isn't that of its bytes: the plan's word, and the segment
abbrev pub bad_digest_text : List ℕ → ℕ → List ℕ
bad_digest_text word segment = codes "baddigest " ++ word ++ codes " " ++ decimal segment ++ 10 ∷ []
