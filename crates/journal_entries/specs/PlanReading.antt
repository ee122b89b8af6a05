-- How the code reads a plan, from left to right, in the steps of `FieldReading`.
use Rattle.std.specs.Prelude.{ℕ, zero, suc, ◌+◌, List, [], ◌∷◌, length, take, drop, Option, Some, None, Result, Ok, Err, nat_lt, nat_le, ◌&&◌, if◌then◌else◌}
use Rattle.std.specs.Int.{Width, w32, w64}
use Rattle.std.specs.Str.{is_utf8}
use Rattle.base_commands.specs.declared.command.Kind.{Kind}
use Rattle.base_commands.specs.declared.command.Kind.TheVariants.{Guarantee, Uniform, Since}
use Rattle.base_types.specs.declared.extent.Extent.{Extent}
use Rattle.base_types.specs.declared.fraction.Fraction.{Fraction}
use Rattle.base_types.specs.declared.time.Time.{Time}
use Rattle.journal_entries.specs.declared.place.Layout.{Layout}
use Rattle.journal_entries.specs.declared.place.Layout.TheVariants.{Flat, Blocks}
use Rattle.journal_entries.specs.declared.place.Place.{Place}
use Rattle.journal_entries.specs.declared.plan.PlanEntry.{PlanEntry}
use Rattle.journal_entries.specs.Numbers.{fraction_of, extent_of}
use Rattle.journal_entries.specs.PlanSpelling.{most_segments}
use Rattle.base_types.specs.Reading.{◌>>=◌, value_or}
use Rattle.journal_entries.specs.FieldReading.{number_at, time_at, end_at}

-- a value that a number of so many bytes names, and the bytes after it; the number is the fault where it names none
abbrev pub named_at : {A : Type 0} → Width → (ℕ → Option A) → List ℕ → Result (A × List ℕ) ℕ
named_at w value bytes = do
  n ← number_at w bytes
  x ← value_or (length bytes) (value n.0)
  Ok (x, n.1)

-- this number, if it is from least to most
abbrev pub if_within : ℕ → ℕ → ℕ → Option ℕ
if_within least most n = if nat_le least n && nat_le n most then Some n else None

-- a number of four bytes from least to most
unfoldable pub number_in : ℕ → ℕ → List ℕ → Result (ℕ × List ℕ) ℕ
number_in least most bytes = named_at w32 (if_within least most) bytes

-- how lists are spelled in pages
unfoldable pub layout_at : List ℕ → Result (Layout × List ℕ) ℕ
layout_at [] = Err 0
layout_at (zero ∷ bytes) = Err (length bytes + 1)
layout_at (suc zero ∷ bytes) = Ok (Flat, bytes)
layout_at (suc (suc zero) ∷ bytes) = Ok (Blocks, bytes)
layout_at (suc (suc (suc n)) ∷ bytes) = Err (length bytes + 1)

-- what the plan keeps to
unfoldable pub kind_at : List ℕ → Result (Kind × List ℕ) ℕ
kind_at [] = Err 0
kind_at (zero ∷ bytes) = Err (length bytes + 1)
kind_at (suc zero ∷ bytes) = Ok (Guarantee, bytes)
kind_at (suc (suc zero) ∷ bytes) = Ok (Uniform, bytes)
kind_at (suc (suc (suc zero)) ∷ bytes) = do
  at ← time_at bytes
  Ok (Since at.0, at.1)
kind_at (suc (suc (suc (suc n))) ∷ bytes) = Err (length bytes + 1)

-- the fraction: a number that isn't 0, and one that makes a fraction with it
unfoldable pub fraction_at : List ℕ → Result (Fraction × List ℕ) ℕ
fraction_at bytes = do
  over ← number_in 1 4294967295 bytes
  fraction ← named_at w32 (fraction_of over.0) over.1
  Ok (fraction.0, fraction.1)

-- a text of so many bytes
abbrev pub word_at : ℕ → List ℕ → Result (List ℕ × List ℕ) ℕ
word_at len bytes =
    if nat_le len (length bytes) && is_utf8 (take len bytes)
    then Ok (take len bytes, drop len bytes)
    else Err (length bytes)

-- a word behind its length, which is the fault where it is 0
unfoldable pub key_at : List ℕ → Result (List ℕ × List ℕ) ℕ
key_at [] = Err 0
key_at (len ∷ bytes) = do
  word ← word_at len bytes
  if nat_lt 0 (length word.0) then Ok word else Err (length bytes + 1)

-- bytes from a page on: the page, and how many there are
unfoldable pub extent_at : List ℕ → Result (Extent × List ℕ) ℕ
extent_at bytes = do
  first ← number_in 0 268435456 bytes
  extent ← named_at w64 (extent_of first.0) first.1
  Ok (extent.0, extent.1)

-- the 32 bytes of a digest
unfoldable pub digest_at : List ℕ → Result (List ℕ × List ℕ) ℕ
digest_at bytes =
    if nat_lt (length bytes) 32
    then Err (length bytes)
    else Ok (take 32 bytes, drop 32 bytes)

-- where a sublist lies
unfoldable pub place_at : List ℕ → Result (Place × List ℕ) ℕ
place_at bytes = do
  extent ← extent_at bytes
  digest ← digest_at extent.1
  Ok (record { extent = extent.0; digest = digest.0 }, digest.1)

-- a time from this second on that is below the horizon
unfoldable pub cut_at : ℕ → Time → List ℕ → Result (Time × List ℕ) ℕ
cut_at least horizon bytes = do
  cut ← time_at bytes
  if nat_le least cut.0.seconds && nat_lt cut.0.seconds horizon.seconds then Ok cut else Err (length bytes)

-- a segment: its left cut, and where its sublist lies
unfoldable pub segment_at : ℕ → Time → List ℕ → Result ((Time × Place) × List ℕ) ℕ
segment_at least horizon bytes = do
  cut ← cut_at least horizon bytes
  place ← place_at cut.1
  Ok ((cut.0, place.0), place.1)

-- so many segments, the first from this second on, each of the others behind the one before
unfoldable pub segments_at : ℕ → ℕ → Time → List ℕ → Result ((List Time × List Place) × List ℕ) ℕ
segments_at zero least horizon bytes = Ok (([], []), bytes)
segments_at (suc count) least horizon bytes = do
  segment ← segment_at least horizon bytes
  others ← segments_at count (segment.0.0.seconds + 1) horizon segment.1
  Ok ((segment.0.0 ∷ others.0.0, segment.0.1 ∷ others.0.1), others.1)

-- a plan, from behind its tag
unfoldable pub plan_at : List ℕ → Result PlanEntry ℕ
plan_at bytes = do
  layout ← layout_at bytes
  kind ← kind_at layout.1
  fraction ← fraction_at kind.1
  horizon ← time_at fraction.1
  word ← key_at horizon.1
  count ← number_in 1 most_segments word.1
  segments ← segments_at count.0 0 horizon.0 count.1
  end ← end_at segments.1
  Ok (record {
    word = word.0;
    layout = layout.0;
    kind = kind.0;
    fraction = fraction.0;
    horizon = horizon.0;
    cuts = segments.0.0;
    places = segments.0.1;
  })
