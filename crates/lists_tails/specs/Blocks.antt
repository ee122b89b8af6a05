-- A list in blocks, and a turn of a document within one of them.
use Rattle.std.specs.Prelude.{◌≡◌, ◌⊎◌, ℕ, ◌+◌, ◌-◌, ◌<◌, ◌≤◌, ◌&&◌, Bool, true, false, nat_le, nat_lt, if◌then◌else◌, List, [], ◌∷◌, ◌++◌, length, get_or, take, drop, All, Vec, vec_len, vec_capacity, Box, Option, Some, None}
use Rattle.std.specs.Box.{box_value}
use Rattle.std.specs.declared.alloc.Global.{Global}
use Rattle.base_types.specs.declared.posting.Posting.{Posting}
use Rattle.lists_postings.specs.Lists.{IsList}
use Rattle.lists_tails.specs.Turns.{IsTurned}
use Rattle.lists_tails.specs.States.{TailState}

-- the postings of all blocks, one block after another
abbrev pub joined : List (Vec Posting Global) → List Posting
joined [] = []
joined (b ∷ blocks) = b.items ++ joined blocks

-- Each block has a posting.
abbrev pub AreFilled : List (Vec Posting Global) → Type 0
AreFilled blocks = All (λ b. 0 < length b.items) blocks

-- The list's first posting, where there is one, is of a document up to doc.
abbrev pub starts_up_to : ℕ → List Posting → Bool
starts_up_to doc [] = true
starts_up_to doc (p ∷ list) = nat_le p.doc.0 doc

-- The first k blocks begin with documents up to doc, and the others don't.
pub record IsBlockOf (doc : ℕ) (later : List (Vec Posting Global)) (k : ℕ) : Type 0 where
  pub inside : k ≤ length later
  pub before : (i : ℕ) (d : Vec Posting Global) → i < k → starts_up_to doc (get_or later i d).items ≡ true
  pub after : (i : ℕ) (d : Vec Posting Global) → k ≤ i → i < length later → starts_up_to doc (get_or later i d).items ≡ false

-- A block in which document doc turns: what stands in front of it is of documents up to doc, what stands behind it of
-- later ones, and it is the first block or begins with a document up to doc.
pub record IsSetIn (doc : ℕ) (front block back : List Posting) : Type 0 where
  pub before : All (λ p. p.doc.0 ≤ doc) front
  pub after : All (λ p. doc < p.doc.0) back
  pub begins : (front ≡ []) ⊎ ((0 < length block) × (starts_up_to doc block ≡ true))

-- A block is passed on by a turn: so are all blocks with it, where the document turns in this one.
abbrev pub IsTurnedWithin : ℕ → ℕ → ℕ → ℕ → List Posting → List Posting → Type 0
IsTurnedWithin doc at old new before after = (front back : List Posting)
    → (IsList (front ++ (before ++ back)) → IsSetIn doc front before back)
    → IsTurned doc at old new (front ++ (before ++ back)) (front ++ (after ++ back))

-- The block has a posting, and room for one more.
pub record IsRoomy (block : Vec Posting Global) : Type 0 where
  pub filled : 0 < length block.items
  pub roomy : vec_len block < vec_capacity block

-- The k-th block is divided into two, each with a posting and with room.
pub record IsDivided (was now : List (Vec Posting Global)) (k : ℕ) : Type 0 where
  pub one : Vec Posting Global
  pub two : Vec Posting Global
  pub parts : now ≡ take k was ++ one ∷ two ∷ drop (k + 1) was
  pub same : (d : Vec Posting Global) → one.items ++ two.items ≡ (get_or was k d).items
  pub one_roomy : IsRoomy one
  pub two_roomy : IsRoomy two

-- Another block, with a posting and with room, stands in front.
pub record IsAdded (was now : List (Vec Posting Global)) : Type 0 where
  pub one : Vec Posting Global
  pub parts : now ≡ one ∷ was
  pub one_roomy : IsRoomy one

-- 1 where there is a block in hand and a place for it
abbrev pub spare_room : Vec (Vec Posting Global) Global → Vec Posting Global → ℕ
spare_room later spare = if (nat_le 512 (vec_capacity spare) && nat_lt (vec_len later) (vec_capacity later)) then 1 else 0

-- how many more postings fit into a first block, when it is the only one
abbrev pub first_room : Vec Posting Global → Vec (Vec Posting Global) Global → ℕ
first_room first later = if (nat_le (vec_len later) 0) then vec_capacity first - vec_len first else 0

-- How many more postings fit in without memory, wherever they stand.
abbrev pub room_in : Vec Posting Global → Vec (Vec Posting Global) Global → Vec Posting Global → ℕ
room_in first later spare = first_room first later + spare_room later spare

-- What a turn to the frequency new leaves: each block has a posting, the list is longer by one posting at most, and at
-- most one posting fewer fits in; where the word ends there, no more and no fewer.
pub record LeavesBlocks (new : ℕ) (first : Vec Posting Global) (later : Vec (Vec Posting Global) Global) (spare : Vec Posting Global)
    (first' : Vec Posting Global) (later' : Vec (Vec Posting Global) Global) (spare' : Vec Posting Global) : Type 0 where
  pub filled : AreFilled later'.items
  pub longer : length (first'.items ++ joined later'.items) ≤ length (first.items ++ joined later.items) + 1
  pub room : room_in first later spare ≤ room_in first' later' spare' + 1
  pub none : new ≡ 0 → room_in first later spare ≤ room_in first' later' spare'
  pub shorter : new ≡ 0 → length (first'.items ++ joined later'.items) ≤ length (first.items ++ joined later.items)

-- What is held in blocks: nothing where there are none.
abbrev pub held_in : Option (Box TailState Global) → TailState
held_in None = record { list = []; room = 0 }
held_in (Some blocks) = box_value blocks
