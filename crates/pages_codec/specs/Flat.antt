-- The flat layout: how a list is spelled, and what bytes spell.
use Rattle.std.specs.Prelude.{ℕ, List, [], ◌∷◌, ◌++◌, length, take, drop, Option, Some, None, Result, Ok, nat_lt, ◌&&◌, if◌then◌else◌}
use Rattle.std.specs.Int.{Width, w32, w64, byte_len, from_be_bytes, to_be_bytes}
use Rattle.std.specs.List.{flat_map}
use Rattle.base_types.specs.declared.posting.Posting.{Posting}
use Rattle.pages_codec.specs.Fields.{Fields, fields, is_allowed, may_follow}
use Rattle.base_types.specs.Reading.{◌>>=◌, value_or}
use Rattle.pages_codec.specs.Steps.{all_at}

-- the 24 bytes of a posting: document, frequency, and the ends of the span
abbrev pub spelled : Fields → List ℕ
spelled p = to_be_bytes w32 p.doc ++ (to_be_bytes w32 p.tf ++ (to_be_bytes w64 p.from ++ to_be_bytes w64 p.to))

-- the bytes of a list: those of its postings in order
abbrev pub spelling : List Posting → List ℕ
spelling list = flat_map (λ p. spelled (fields p)) list

-- a number in front, and the bytes after it
abbrev pub number_front : Width → List ℕ → ℕ × List ℕ
number_front w bytes = (from_be_bytes w (take (byte_len w) bytes), drop (byte_len w) bytes)

-- the numbers in front, and the bytes after them
abbrev pub fields_front : List ℕ → Fields × List ℕ
fields_front bytes =
    let doc = number_front w32 bytes in
    let tf = number_front w32 doc.1 in
    let from = number_front w64 tf.1 in
    let to = number_front w64 from.1 in
    (record { doc = doc.0; tf = tf.0; from = from.0; to = to.0 }, to.1)

-- what was read, if its posting may stand behind the one before
abbrev pub if_allowed : Option Fields → Fields × List ℕ → Option (Fields × List ℕ)
if_allowed before read = if is_allowed read.0 && may_follow before read.0 then Some read else None

-- a posting that may stand behind this one, and the bytes after it
unfoldable pub posting_at : Option Fields → List ℕ → Option (Fields × List ℕ)
posting_at before bytes = if nat_lt (length bytes) 24 then None else if_allowed before (fields_front bytes)

-- one posting, as a front of a list; its first byte is the fault where it is none
unfoldable pub front_at : Option Fields → List ℕ → Result (List Fields × List ℕ) ℕ
front_at before bytes = do
  read ← value_or (length bytes) (posting_at before bytes)
  Ok (read.0 ∷ [], read.1)

-- the list that all the bytes spell
unfoldable pub list_at : List ℕ → Result (List Fields) ℕ
list_at bytes = all_at front_at (length bytes) None bytes
