-- Texts by their places in the journal.
use Rattle.std.specs.Prelude.{ℕ, ◌+◌, ◌≤◌, List, take, drop, Option, Some, None}
use Rattle.base_types.specs.declared.text_place.TextPlace.{TextPlace}
use Rattle.lists_versions.specs.declared.change.Change.{Change}
use Rattle.lists_versions.specs.Changes.{mapped}

-- the bytes at a place of the journal
abbrev pub text_in : List ℕ → TextPlace → List ℕ
text_in journal place = take place.bytes (drop place.at journal)

-- a text lies in front of the journal's end
abbrev pub LiesIn : ℕ → Option TextPlace → Type 0
LiesIn end None = Unit {0}
LiesIn end (Some place) = place.at + place.bytes ≤ end

-- a change without what it holds
abbrev pub nothing : {A : Type 0} → A → Unit {0}
nothing x = tt

abbrev pub bare : {A : Type 0} → Change A → Change (Unit {0})
bare c = mapped nothing c
