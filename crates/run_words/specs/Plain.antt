-- The plain forms of the words that give both options.
use Rattle.std.specs.Prelude.{◌≡◌, ◌≢◌, ◌⊎◌, List, [], ◌∷◌, ◌++◌, codes, slice_index}
use Rattle.clap.specs.Words.{Text}

-- These words give the option of this name a value: `--name=VALUE`, or `--name` and then VALUE, which then begins with no hyphen (45).
abbrev pub GiveOption : Text → Text → List Text → Type 0
GiveOption name value words =
    (words ≡ (codes "--" ++ (name ++ (codes "=" ++ value))) ∷ [])
    ⊎ ((words ≡ (codes "--" ++ name) ∷ value ∷ []) × (slice_index value 0 ≢ 45))

-- These words give both options their values, in either order.
abbrev pub GiveBoth : Text → Text → List Text → Type 0
GiveBoth seed count words =
    (first : List Text) × ((second : List Text) × ((words ≡ first ++ second)
    × ((GiveOption (codes "generate") seed first × GiveOption (codes "count") count second)
    ⊎ (GiveOption (codes "count") count first × GiveOption (codes "generate") seed second))))
