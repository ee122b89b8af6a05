-- Fractions and extents that the code makes from numbers.
use Rattle.std.specs.Prelude.{◌≡◌, ℕ, ◌+◌, ◌/◌, ◌^◌, Bool, true, false, nat_lt, nat_le, ◌&&◌, Option, Some, None, refl}
use Rattle.std.proofs.Common.{ltb-true}
use Rattle.std.proofs.lemmas.Bool.{leb-true, and_parts}
use Rattle.base_types.specs.declared.fraction.Fraction.{Fraction}
use Rattle.base_types.specs.declared.extent.Extent.{Extent}

-- these numbers make a fraction of at least 1
abbrev pub is_fraction : ℕ → ℕ → Bool
is_fraction over under = nat_le 1 under && nat_le under over && nat_lt over (2 ^ 32)

-- the fraction of these numbers, where b tells whether they make one
abbrev pub fraction_by : (over under : ℕ) (b : Bool) → is_fraction over under ≡ b → Option Fraction
fraction_by over under true h =
    let both = and_parts (nat_le 1 under && nat_le under over) (nat_lt over (2 ^ 32)) h in
    let under_fits = and_parts (nat_le 1 under) (nat_le under over) both.0 in
    Some (record {
      over = over;
      under = under;
      proper = leb-true 1 under under_fits.0;
      at_least_one = leb-true under over under_fits.1;
      in_range = ltb-true over (2 ^ 32) both.1;
    })
fraction_by over under false h = None

-- the fraction of these numbers, where they make one
abbrev pub fraction_of : ℕ → ℕ → Option Fraction
fraction_of over under = fraction_by over under (is_fraction over under) refl

-- so many bytes from this page on make an extent
abbrev pub is_extent : ℕ → ℕ → Bool
is_extent first bytes = nat_le (first + (bytes + 4095) / 4096) (2 ^ 28) && nat_lt first (2 ^ 32) && nat_lt bytes (2 ^ 64)

-- the extent of so many bytes from this page on, where b tells whether there is one
abbrev pub extent_by : (first bytes : ℕ) (b : Bool) → is_extent first bytes ≡ b → Option Extent
extent_by first bytes true h =
    let both = and_parts (nat_le (first + (bytes + 4095) / 4096) (2 ^ 28) && nat_lt first (2 ^ 32)) (nat_lt bytes (2 ^ 64)) h in
    let inside = and_parts (nat_le (first + (bytes + 4095) / 4096) (2 ^ 28)) (nat_lt first (2 ^ 32)) both.0 in
    Some (record {
      first = first;
      bytes = bytes;
      in_pages = leb-true (first + (bytes + 4095) / 4096) (2 ^ 28) inside.0;
      numbered = ltb-true first (2 ^ 32) inside.1;
      sized = ltb-true bytes (2 ^ 64) both.1;
    })
extent_by first bytes false h = None

-- the extent of so many bytes from this page on, where there is one
abbrev pub extent_of : ℕ → ℕ → Option Extent
extent_of first bytes = extent_by first bytes (is_extent first bytes) refl
