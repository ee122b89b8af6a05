-- The postings that a block's bytes have, as they are read.
use Rattle.std.specs.Prelude.{◌≡◌, ℕ, ◌^◌, nat_le, nat_lt, Bool, true, false, List, [], ◌∷◌, ◌++◌, Result, Ok, Err, refl}
use Rattle.std.proofs.Common.{ltb-true}
use Rattle.std.proofs.lemmas.Bool.{leb-true}
use Rattle.base_types.specs.declared.posting.Posting.{Posting}
use Rattle.pages_codec.specs.Fields.{Fields}
use Rattle.pages_codec.specs.Blocks.{blocks_at}

-- What is made of the fact that a test tells, where the test holds.
abbrev pub if_so : {P : Type 0} → (b : Bool) → (b ≡ true → P) → (P → List Posting) → List Posting
if_so true tells make = make (tells refl)
if_so false tells make = []

-- the posting of some numbers, where they are a posting's
unfoldable pub posting_in : Fields → List Posting
posting_in p =
    if_so (nat_lt p.doc (2 ^ 32)) (ltb-true p.doc (2 ^ 32)) λ numbered.
    if_so (nat_le 1 p.tf) (leb-true 1 p.tf) λ counted.
    if_so (nat_lt p.tf (2 ^ 32)) (ltb-true p.tf (2 ^ 32)) λ bounded.
    if_so (nat_lt p.from p.to) (ltb-true p.from p.to) λ ordered.
    if_so (nat_le p.to (2 ^ 40)) (leb-true p.to (2 ^ 40)) λ in_time.
    record {
      doc = record { 0 = p.doc };
      tf = p.tf;
      span = record { from = p.from; to = p.to; ordered = ordered; in_time = in_time };
      numbered = numbered;
      counted = counted;
      bounded = bounded;
    } ∷ []

-- the postings of some numbers
abbrev pub postings_of : List Fields → List Posting
postings_of [] = []
postings_of (p ∷ ps) = posting_in p ++ postings_of ps

abbrev pub postings_or_none : Result (List Fields) ℕ → List Posting
postings_or_none (Ok ps) = postings_of ps
postings_or_none (Err left) = []

-- the postings that the bytes of a block spell; none where they spell no list
unfoldable pub postings_in : List ℕ → List Posting
postings_in bytes = postings_or_none (blocks_at bytes)
