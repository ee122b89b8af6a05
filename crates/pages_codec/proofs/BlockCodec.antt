-- The layout in blocks: what is read is the spelling of a list, and what a list is spelled by is read.
use Rattle.std.specs.Prelude.{◌≡◌, ℕ, List, length, map, None, Ok}
use Rattle.std.specs.List.{flat_map}
use Rattle.std.proofs.Common.{sym, ap, ◌∙◌, arith}
use Rattle.std.proofs.lemmas.List.{length-map}
use Rattle.base_types.specs.declared.posting.Posting.{Posting}
use Rattle.lists_postings.specs.Lists.{IsList}
use Rattle.pages_codec.specs.Fields.{Fields, fields}
use Rattle.pages_codec.specs.Blocks.{block, pieces, block_spelling, blocks_at}
use Rattle.base_types.proofs.Bytes.{IsBytes}
use Rattle.pages_codec.proofs.FieldLemmas.{list_of, list_next}
use Rattle.pages_codec.proofs.LayoutLemmas.{IsCodec}
use Rattle.pages_codec.proofs.BlockWalk.{blocks_reads, blocks_again}

blocks_back : (bytes : List ℕ) (xs : List Fields) → IsBytes bytes → blocks_at bytes ≡ Ok xs → (list : List Posting) × IsList list × (map fields list ≡ xs) × (bytes ≡ block_spelling list)
unfolding block_spelling
blocks_back bytes xs fits e =
    let t = (blocks_reads bytes fits).read xs e in
    let l = list_of xs t.from in
    (l.0, l.1, l.2, t.parts (length l.0) (omega (arith, length-map l.0 fields, ap (λ (ps : List Fields). length ps) l.2)) ∙ ap (λ (ps : List Fields). flat_map block (pieces (length l.0) ps)) (sym l.2))

blocks_read : (list : List Posting) → IsList list → blocks_at (block_spelling list) ≡ Ok (map fields list)
unfolding blocks_at block_spelling
blocks_read list is = blocks_again (length (block_spelling list)) (length list) None (map fields list) (list_next list is) (omega (arith, length-map list fields)) (omega arith)

pub block_codec : IsCodec block_spelling blocks_at
block_codec = record { again = blocks_read; back = blocks_back; left = λ bytes left fits e. (blocks_reads bytes fits).fails left e }
