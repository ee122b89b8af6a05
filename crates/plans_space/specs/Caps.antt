-- The numbers that a plan under a space bound goes by, and the boundaries at which it may cut.
use Rattle.std.specs.Prelude.{◌≡◌, ℕ, ◌-◌, ◌*◌, ◌/◌, List, min, max, length, slice_index}
use Rattle.std.specs.Int.{div_ceil}
use Rattle.base_types.specs.declared.fraction.Fraction.{Fraction}

-- The most postings that a plan may take: the factor times those of the list, rounded down.
abbrev pub cap : Fraction → ℕ → ℕ
cap factor postings = factor.over * postings / factor.under

-- Sizes are charged in units of so many postings: a 4,096th of the cap, rounded up, and at least one.
abbrev pub unit : ℕ → ℕ
unit cap = max (div_ceil cap 4096) 1

-- What a segment of so many postings is charged: its units, rounded up.
abbrev pub charge : ℕ → ℕ → ℕ
charge unit size = div_ceil size unit

-- The units that a plan may be charged, at most 4,096.
abbrev pub budget : ℕ → ℕ
budget cap = cap / unit cap

-- How many boundaries a candidate is behind the one before it, by the number of elementary intervals: 1 up to 127
-- of them, and otherwise a 127th of them, rounded up.
abbrev pub stride : ℕ → ℕ
stride intervals = div_ceil intervals 127

-- The time is a candidate for a cut: one of each stride of the boundaries, from the first on, or the last.
abbrev pub IsCandidate : List ℕ → ℕ → Type 0
IsCandidate times t = (k : ℕ) × (slice_index times (min (k * stride (length times - 1)) (length times - 1)) ≡ t)
