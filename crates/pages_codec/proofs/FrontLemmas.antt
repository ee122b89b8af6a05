-- A number of a fixed width in front of bytes.
use Rattle.std.specs.Prelude.{◌≡◌, ℕ, ◌+◌, ◌<◌, ◌≤◌, List, ◌++◌, length}
use Rattle.std.proofs.Common.{arith}
use Rattle.std.specs.Int.{Width, byte_len, to_be_bytes}
use Rattle.std.proofs.lemmas.List.{length-drop}
use Rattle.base_types.proofs.Bytes.{IsBytes, IsBytes-drop, IsWide, number_back, number_below}
use Rattle.pages_codec.specs.Flat.{number_front}

-- it is spelled there, and fits its width
pub record IsFront (w : Width) (limit : ℕ) (bytes : List ℕ) : Type 0 where
  pub parts : bytes ≡ to_be_bytes w (number_front w bytes).0 ++ (number_front w bytes).1
  pub below : (number_front w bytes).0 < limit
  pub rest_fits : IsBytes (number_front w bytes).1
  pub shorter : length (number_front w bytes).1 + byte_len w ≡ length bytes

pub front_is : (w : Width) (limit : ℕ) → IsWide w limit → (bytes : List ℕ) → IsBytes bytes → byte_len w ≤ length bytes → IsFront w limit bytes
front_is w limit wide bytes fits long = record {
  parts = number_back w limit wide bytes fits long;
  below = number_below w limit wide bytes fits;
  rest_fits = IsBytes-drop (byte_len w) bytes fits;
  shorter = omega (arith, length-drop (byte_len w) bytes);
}
