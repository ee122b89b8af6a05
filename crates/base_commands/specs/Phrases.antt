-- What a phrase may be.
use Rattle.std.specs.Prelude.{ℕ, ◌&&◌, nat_le, length, if◌then◌else◌, List, Option, Some, None}
use Rattle.std.specs.Str.{is_utf8}

-- The phrase of bytes that are UTF-8 and at most 4,096.
abbrev pub phrase_of : List ℕ → Option (List ℕ)
phrase_of bytes = if is_utf8 bytes && nat_le (length bytes) 4096 then Some bytes else None
