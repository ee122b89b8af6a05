-- A layout of lists as bytes: spellings, and a reading of bytes that fails with how many of them are left at the fault.
use Rattle.std.specs.Prelude.{◌≡◌, ◌≢◌, ℕ, ◌+◌, ◌<◌, ◌≤◌, List, All, length, map, Result, Ok, Err}
use Rattle.base_types.specs.declared.posting.Posting.{Posting}
use Rattle.lists_postings.specs.Lists.{IsList}
use Rattle.pages_codec.specs.Fields.{Fields, fields}

-- the reading of these bytes fails at this offset
abbrev pub IsFaultOf : {A : Type 0} → (List ℕ → Result A ℕ) → List ℕ → ℕ → Type 0
IsFaultOf reading bytes at = (left : ℕ) × (at + left ≡ length bytes) × (reading bytes ≡ Err left)

-- Spellings and lists match one to one, and what is no spelling has one fault.
pub record IsLayout (spelling : List Posting → List ℕ) (reading : List ℕ → Result (List Fields) ℕ) : Type 0 where
  -- two lists with one spelling are one
  pub one_list : (a b : List Posting) → IsList a → IsList b → spelling a ≡ spelling b → a ≡ b
  -- what a list is spelled by is read as that list
  pub read : (list : List Posting) → IsList list → reading (spelling list) ≡ Ok (map fields list)
  -- what is read is a list, and spelled by exactly those bytes
  pub spelled : (bytes : List ℕ) (read : List Fields) → All (λ b. b < 256) bytes → reading bytes ≡ Ok read
      → (list : List Posting) × IsList list × (map fields list ≡ read) × (bytes ≡ spelling list)
  -- bytes that spell no list have a fault, one, which is in them or at their end
  pub a_fault : (bytes : List ℕ) → All (λ b. b < 256) bytes → ((list : List Posting) → IsList list → bytes ≢ spelling list)
      → (at : ℕ) × IsFaultOf reading bytes at
  pub one_fault : (bytes : List ℕ) (a b : ℕ) → IsFaultOf reading bytes a → IsFaultOf reading bytes b → a ≡ b
  pub in_bytes : (bytes : List ℕ) (at : ℕ) → IsFaultOf reading bytes at → at ≤ length bytes
  -- and bytes that have one spell no list
  pub no_list : (bytes : List ℕ) (at : ℕ) (list : List Posting) → IsFaultOf reading bytes at → IsList list → bytes ≢ spelling list
