-- What a place shows by the headers of its blocks alone, and what one block shows: by the bytes that were read, and nothing else.
use Rattle.std.specs.Prelude.{◌≡◌, ◌≢◌, ℕ, true, List, map, All, Ok}
use Rattle.sha2.specs.Sha256.{sha256}
use Rattle.base_types.specs.declared.posting.Posting.{Posting}
use Rattle.lists_postings.specs.Lists.{IsList}
use Rattle.pages_codec.specs.Blocks.{Head, block_spelling}
use Rattle.pages_codec.specs.Heads.{head_of}
use Rattle.pages_codec.specs.Frames.{FramesState, frames_at, block_bytes}
use Rattle.pages_sublists.specs.Fetching.{belongs, IsFirstAstray}
use Rattle.pages_sublists.specs.declared.why.Why.{Why}
use Rattle.pages_sublists.specs.declared.why.Why.TheVariants.{Digest, Form, Astray, Clash, Bare}

-- the bytes have the digest, and these are their headers; nothing is said of what stands in the blocks
pub record IsFramed (digest bytes : List ℕ) (f : FramesState) : Type 0 where
  pub digest_is : digest ≡ sha256 bytes
  pub bytes_are : f.bytes ≡ bytes
  pub heads_are : frames_at bytes ≡ Ok (map head_of f.heads)

-- why no headers are given: the first cause in order
abbrev pub IsUnframed : List ℕ → List ℕ → Why → Type 0
IsUnframed digest bytes (Digest kept got) = (kept ≡ digest) × (got ≡ sha256 bytes) × (kept ≢ got)
IsUnframed digest bytes Form = (digest ≡ sha256 bytes) × ((heads : List Head) → frames_at bytes ≢ Ok heads)
IsUnframed digest bytes (Astray p) = ⊥
IsUnframed digest bytes (Clash one other) = ⊥
IsUnframed digest bytes Bare = ⊥

-- the block spells the list, of which each posting belongs to the segment [a, b) below the horizon
pub record IsOpened (f : FramesState) (block a b h : ℕ) (list : List Posting) : Type 0 where
  pub ordered : IsList list
  pub spelled : block_bytes f block ≡ block_spelling list
  pub good : All (λ q. belongs a b h q ≡ true) list

-- why a block isn't opened: it spells no list, or else the first posting that doesn't belong
abbrev pub IsUnopened : FramesState → ℕ → (a b h : ℕ) → Why → Type 0
IsUnopened f block a b h Form = (list : List Posting) → IsList list → block_bytes f block ≢ block_spelling list
IsUnopened f block a b h (Astray p) = (list : List Posting) × IsList list × (block_bytes f block ≡ block_spelling list)
    × IsFirstAstray a b h list p
IsUnopened f block a b h (Digest kept got) = ⊥
IsUnopened f block a b h (Clash one other) = ⊥
IsUnopened f block a b h Bare = ⊥
