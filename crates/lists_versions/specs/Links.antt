-- Links from a change to earlier ones of its document.
use Rattle.std.specs.Prelude.{◌≡◌, ◌⊎◌, ℕ, ◌+◌, ◌≤◌, List, slice_get, Some, IsSomeAnd}
use Rattle.lists_versions.specs.declared.link.Link.{Link}

-- no jump leads forward
abbrev pub AreBack : List Link → Type 0
AreBack links = (i : ℕ) (link : Link) → slice_get links i ≡ Some link → link.jump + link.span ≤ i

-- the jump leads to the change before, or to where the jump of that one's jump leads
abbrev pub IsJump : List Link → ℕ → ℕ → Type 0
IsJump links before jump =
    (jump ≡ before) ⊎ IsSomeAnd (slice_get links before) (λ last. IsSomeAnd (slice_get links last.jump) (λ far. jump ≡ far.jump))
