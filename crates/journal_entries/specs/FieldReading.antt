-- How the code reads the fields of an entry, from left to right. It fails with the number of bytes left where the field begins that is cut short
-- or not allowed, or at the first surplus byte.
use Rattle.std.specs.Prelude.{ℕ, ◌+◌, List, [], ◌∷◌, length, take, drop, Result, Ok, Err, nat_lt, if◌then◌else◌}
use Rattle.std.specs.Int.{Width, w32, w64, byte_len, from_be_bytes}
use Rattle.base_types.specs.Reading.{◌>>=◌, value_or}
use Rattle.base_types.specs.declared.ids.DocId.{DocId}
use Rattle.base_types.specs.declared.time.Time.{Time}
use Rattle.base_types.specs.Times.{time_of}

-- a number of so many bytes, and the bytes after it
abbrev pub number_at : Width → List ℕ → Result (ℕ × List ℕ) ℕ
number_at w bytes =
    if nat_lt (length bytes) (byte_len w)
    then Err (length bytes)
    else Ok (from_be_bytes w (take (byte_len w) bytes), drop (byte_len w) bytes)

-- a document, and the bytes after it
abbrev pub doc_at : List ℕ → Result (DocId × List ℕ) ℕ
doc_at bytes = do
  n ← number_at w32 bytes
  Ok (record { 0 = n.0 }, n.1)

-- a time, and the bytes after it
abbrev pub time_at : List ℕ → Result (Time × List ℕ) ℕ
time_at bytes = do
  n ← number_at w64 bytes
  t ← value_or (length bytes) (time_of n.0)
  Ok (t, n.1)

-- the end, where no byte is left
abbrev pub end_at : List ℕ → Result (Unit {0}) ℕ
end_at [] = Ok tt
end_at (b ∷ bytes) = Err (length bytes + 1)
