-- What is held of some words: blocks in pages, by their headers, or postings at hand; and what is found in it.
use Rattle.std.specs.Prelude.{◌≡◌, ℕ, zero, suc, ◌+◌, ◌<◌, List, [], ◌∷◌, length, get_or, Contains, Option, Some, None}
use Rattle.base_types.specs.declared.posting.Posting.{Posting}
use Rattle.lists_postings.specs.Lists.{IsList}
use Rattle.pages_codec.specs.Blocks.{block_spelling}
use Rattle.pages_codec.specs.Frames.{FramesState, block_bytes}
use Rattle.pages_codec.specs.declared.head.BlockHead.{BlockHead}
use Rattle.pages_sublists.specs.Framing.{IsUnopened}
use Rattle.pages_sublists.specs.declared.why.Damage.{Damage}
use Rattle.query_top.specs.Firsts.{Each, AreEnough, AreFirst}
use Rattle.query_top.specs.Opening.{Opened, AreDistinct, HasShown}
use Rattle.query_top.specs.Sheets.{Sheet, bound, head_at, score, sheet_at}
use Rattle.query_top.specs.declared.ranking.Row.{Row}
use Rattle.query_best.specs.Reading.{postings_in}
use Rattle.query_best.specs.declared.held.HeldBlocks.{HeldBlocks}
use Rattle.query_best.specs.declared.held.HeldWord.{HeldWord}

-- the headers of the blocks
abbrev pub heads_in : Option HeldBlocks → List BlockHead
heads_in None = []
heads_in (Some held) = held.frames.heads

-- the postings of so many blocks from one on, as their bytes have them
abbrev pub blocks_from : FramesState → ℕ → ℕ → List (List Posting)
blocks_from f n zero = []
blocks_from f n (suc more) = postings_in (block_bytes f n) ∷ blocks_from f (n + 1) more

abbrev pub blocks_in : Option HeldBlocks → List (List Posting)
blocks_in None = []
blocks_in (Some held) = blocks_from held.frames 0 (length held.frames.heads)

-- what is held of a word, as a sheet
abbrev pub sheet_of : HeldWord → Sheet
sheet_of word = record { heads = heads_in word.blocks; blocks = blocks_in word.blocks; flat = word.flat.items }

-- the blocks are those of the sheet, with its headers, and each is spelled as its postings are
abbrev pub AreBlocksOf : Option HeldBlocks → Sheet → Type 0
AreBlocksOf None sheet = (sheet.heads ≡ []) × (sheet.blocks ≡ [])
AreBlocksOf (Some held) sheet = (held.frames.heads ≡ sheet.heads) × (length sheet.blocks ≡ length sheet.heads)
    × ((n : ℕ) → n < length sheet.blocks → IsList (get_or sheet.blocks n [])
    × (block_bytes held.frames n ≡ block_spelling (get_or sheet.blocks n [])))

-- what is held of a word is this sheet
pub record IsHeldAs (word : HeldWord) (sheet : Sheet) : Type 0 where
  pub flat : word.flat.items ≡ sheet.flat
  pub blocks : AreBlocksOf word.blocks sheet

-- the rows are the first ones by these sheets, and so many blocks were opened for them: each is there, none stands twice, none is needless, and each
-- that has a posting at the time of a document shown is among them
pub record AreFound (at : ℕ) (weights : List ℕ) (sheets : List Sheet) (count : ℕ) (rows : List Row) (opened : ℕ) : Type 0 where
  pub first : AreFirst (score at weights sheets) count rows
  pub os : List Opened
  pub inside : Each (λ o. o.block < length (sheet_at sheets o.word).heads) os
  pub distinct : AreDistinct os
  pub wanted : Each (λ o. AreEnough (score at weights sheets) count (head_at sheets o.word o.block).first.0
      (bound weights sheets (head_at sheets o.word o.block)) → ⊥) os
  pub shown : (o : Opened) → HasShown at sheets rows o → Contains os o
  pub opened_is : opened ≡ length os

-- this is damaged of one of the blocks: it spells no list, or one that doesn't belong to its segment
abbrev pub IsBadBlock : Option HeldBlocks → ℕ → Damage → Type 0
IsBadBlock None block damage = ⊥
IsBadBlock (Some held) block damage = (damage.page ≡ held.page)
    × IsUnopened held.frames block held.span.from held.span.to held.horizon.seconds damage.why

-- this is damaged of one of the blocks of one of the words
pub record IsBadOf (words : List HeldWord) (damage : Damage) : Type 0 where
  pub word : HeldWord
  pub among : Contains words word
  pub block : ℕ
  pub there : block < length (heads_in word.blocks)
  pub bad : IsBadBlock word.blocks block damage
