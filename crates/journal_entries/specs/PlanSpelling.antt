-- How a plan that is stored is spelled in the journal.
use Rattle.std.specs.Prelude.{◌≡◌, ℕ, ◌<◌, ◌≤◌, List, [], ◌∷◌, ◌++◌, length, map, All, IsUtf8}
use Rattle.std.specs.Int.{w32, w64, to_be_bytes}
use Rattle.std.specs.List.{concat}
use Rattle.std.specs.List.Sorted.{IsStrictlyIncreasing}
use Rattle.base_commands.specs.declared.command.Kind.{Kind}
use Rattle.base_commands.specs.declared.command.Kind.TheVariants.{Guarantee, Uniform, Since}
use Rattle.base_types.specs.declared.time.Time.{Time}
use Rattle.journal_entries.specs.declared.place.Layout.{Layout}
use Rattle.journal_entries.specs.declared.place.Layout.TheVariants.{Flat, Blocks}
use Rattle.journal_entries.specs.declared.place.Place.{Place}
use Rattle.journal_entries.specs.declared.plan.PlanEntry.{PlanEntry}

-- the most segments of a plan
abbrev pub most_segments : ℕ
most_segments = 1048575

-- ---- the fields

abbrev pub layout_byte : Layout → ℕ
layout_byte Flat = 1
layout_byte Blocks = 2

-- the kind, and behind it the time since which it asks
abbrev pub kind_fields : Kind → List (List ℕ)
kind_fields Guarantee = (1 ∷ []) ∷ []
kind_fields Uniform = (2 ∷ []) ∷ []
kind_fields (Since at) = (3 ∷ []) ∷ to_be_bytes w64 at.seconds ∷ []

-- the four fields of each segment: its left cut, and the place of its sublist
abbrev pub segments_fields : List Time → List Place → List (List ℕ)
segments_fields [] places = []
segments_fields (cut ∷ cuts) [] = []
segments_fields (cut ∷ cuts) (place ∷ places) =
    to_be_bytes w64 cut.seconds ∷ to_be_bytes w32 place.extent.first ∷ to_be_bytes w64 place.extent.bytes ∷ place.digest
    ∷ segments_fields cuts places

-- the fields of a plan, from its tag on, where `count` is written as the number of its segments
abbrev pub plan_fields : ℕ → PlanEntry → List (List ℕ)
plan_fields count p =
    (3 ∷ []) ∷ (layout_byte p.layout ∷ [])
    ∷ (kind_fields p.kind ++ (to_be_bytes w32 p.fraction.over ∷ to_be_bytes w32 p.fraction.under ∷ to_be_bytes w64 p.horizon.seconds
    ∷ (length p.word ∷ []) ∷ p.word ∷ to_be_bytes w32 count ∷ segments_fields p.cuts p.places))

-- the bytes of a plan: those of its fields
unfoldable pub plan_spelling : PlanEntry → List ℕ
plan_spelling p = concat (plan_fields (length p.cuts) p)

-- ---- what has a spelling

-- a word has a byte and at most 255 of them, which are UTF-8
abbrev pub IsWord : List ℕ → Type 0
IsWord word = (1 ≤ length word) × (length word ≤ 255) × IsUtf8 word

-- the bytes of a SHA-256
abbrev pub IsDigest : List ℕ → Type 0
IsDigest bytes = (length bytes ≡ 32) × All (λ b. b < 256) bytes

-- the seconds of these cuts, and then of the horizon
abbrev pub cut_seconds : List Time → Time → List ℕ
cut_seconds cuts horizon = map (λ t. t.seconds) (cuts ++ horizon ∷ [])

-- A plan has a place for each cut, and so many of them as there may be; the cuts ascend strictly, and then the horizon.
pub record IsWellCut (p : PlanEntry) : Type 0 where
  pub some : 1 ≤ length p.cuts
  pub most : length p.cuts ≤ most_segments
  pub places : length p.places ≡ length p.cuts
  pub ascend : IsStrictlyIncreasing (cut_seconds p.cuts p.horizon)

-- The fields of a plan are in their ranges: this is what has a spelling. Times, fractions and extents are so by their types.
pub record IsPlanEntry (p : PlanEntry) : Type 0 where
  pub well_cut : IsWellCut p
  pub word : IsWord p.word
  pub digests : All (λ place. IsDigest place.digest) p.places
