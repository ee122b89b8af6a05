-- The blocks of bytes by their headers alone.
use Rattle.std.specs.Prelude.{◌≡◌, ℕ, ◌+◌, ◌-◌, ◌<◌, ◌≤◌, Bool, List, [], ◌∷◌, length, take, drop, sum_by, slice_index, Option, Some, None, Result, Ok, nat_lt, nat_le, ◌&&◌, if◌then◌else◌}
use Rattle.pages_codec.specs.declared.head.BlockHead.{BlockHead}
use Rattle.base_types.specs.Reading.{◌>>=◌, value_or}
use Rattle.pages_codec.specs.Steps.{all_at}
use Rattle.pages_codec.specs.Blocks.{Head, head_front}

-- a header has 1 to 128 postings, and its block doesn't pass the end of so many bytes behind it
abbrev pub may_frame : Head → ℕ → Bool
may_frame head behind = nat_le 1 head.count && nat_le head.count 128 && nat_le head.size behind

-- the header of a block in front, and the bytes behind the block
unfoldable pub front_of : List ℕ → Option (Head × List ℕ)
front_of bytes =
    if nat_lt (length bytes) 15 then None else
    if may_frame (head_front bytes).0 (length (head_front bytes).1) then Some (
      (head_front bytes).0,
      drop (head_front bytes).0.size (head_front bytes).1,
    )
    else None

-- the same as a front of headers; its first byte is the fault where there is none
unfoldable pub frame_at : Option Head → List ℕ → Result (List Head × List ℕ) ℕ
frame_at before bytes = do
  read ← value_or (length bytes) (front_of bytes)
  Ok (read.0 ∷ [], read.1)

-- the headers of all the bytes
unfoldable pub frames_at : List ℕ → Result (List Head) ℕ
frames_at bytes = all_at frame_at (length bytes) None bytes

-- bytes in hand with the headers of their blocks
pub record FramesState : Type 0 where
  pub bytes : List ℕ
  pub heads : List BlockHead

-- where the block of this number begins: behind those before it, each with its header
abbrev pub start_of : List BlockHead → ℕ → ℕ
start_of heads n = sum_by (λ h. 15 + h.size) (take n heads)

-- the bytes of the block of this number, with its header
abbrev pub block_bytes : FramesState → ℕ → List ℕ
block_bytes f n = take (start_of f.heads (n + 1) - start_of f.heads n) (drop (start_of f.heads n) f.bytes)

-- these are the places where the blocks begin, and each ends inside so many bytes
pub record AreStarts (len : ℕ) (heads : List BlockHead) (starts : List ℕ) : Type 0 where
  pub count : length starts ≡ length heads
  pub each : (n : ℕ) → n < length heads → slice_index starts n ≡ start_of heads n
  pub inside : start_of heads (length heads) ≤ len
