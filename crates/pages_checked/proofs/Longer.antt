-- A list has no more postings than its spelling has bytes.
use Rattle.std.proofs.Common.{ℕ, ◌+◌, ◌-◌, ◌≤◌, zero, suc, true, false, if◌then◌else◌, nat_lt, ◌%◌, ◌/◌, List, [], ◌∷◌, length, map, take, drop, arith, ap, length-append, length-drop}
use Rattle.std.proofs.lemmas.List.{length-take, length-map}
use Rattle.std.specs.List.{flat_map}
use Rattle.base_types.specs.declared.posting.Posting.{Posting}
use Rattle.journal_entries.specs.declared.place.Layout.{Layout}
use Rattle.journal_entries.specs.declared.place.Layout.TheVariants.{Flat, Blocks}
use Rattle.pages_codec.specs.Fields.{Fields, fields}
use Rattle.pages_codec.specs.Numbers.{number_bytes}
use Rattle.pages_codec.specs.Blocks.{span_numbers, base_behind, other_numbers, numbers, inside, head_for, head_bytes, block, pieces, block_spelling}
use Rattle.pages_codec.proofs.FlatLemmas.{spelling-length}
use Rattle.pages_checked.specs.Layouts.{Spells, spelling_in}

number_some : (n : ℕ) → 1 ≤ length (number_bytes 6 n)
unfolding number_bytes
number_some n = elim (nat_lt n 128) as (λ v. 1 ≤ length (if v then n ∷ [] else (n % 128 + 128) ∷ number_bytes 5 (n / 128))) [ true ↦ omega arith | false ↦ omega arith ]

numbers_some : (ns : List ℕ) → length ns ≤ length (flat_map (number_bytes 6) ns)
numbers_some [] = omega arith
numbers_some (n ∷ ns) = omega (arith, number_some n, numbers_some ns, length-append (number_bytes 6 n) (flat_map (number_bytes 6) ns))

others_many : (q : Fields) (ps : List Fields) → length ps ≤ length (other_numbers q ps)
others_many q [] = omega arith
others_many q (p ∷ ps) = omega (arith, others_many p ps, length-append ((p.doc - q.doc) ∷ span_numbers (base_behind q (p.doc - q.doc)) p) (other_numbers p ps))

numbers_many : (ps : List Fields) → length ps ≤ length (numbers ps)
numbers_many [] = omega arith
numbers_many (p ∷ ps) = omega (arith, others_many p ps, length-append (span_numbers 0 p) (other_numbers p ps))

block_many : (ps : List Fields) → length ps ≤ length (block ps)
block_many ps = omega (arith, numbers_many ps, numbers_some (numbers ps), length-append (head_bytes (head_for ps)) (inside ps))

pieces_many : (most : ℕ) (ps : List Fields) → length ps ≤ most → length ps ≤ length (flat_map block (pieces most ps))
pieces_many most [] few = omega arith
pieces_many zero (p ∷ ps) few = absurd (omega (arith, few))
pieces_many (suc most) (p ∷ ps) few =
    let front : List Fields = take 128 (p ∷ ps) in
    let back : List Fields = drop 128 (p ∷ ps) in
    omega (
      arith,
      few,
      length-take 128 (p ∷ ps),
      length-drop 128 (p ∷ ps),
      block_many front,
      pieces_many most back (omega (arith, few, length-drop 128 (p ∷ ps))),
      length-append (block front) (flat_map block (pieces most back)),
    )

spelling_longer : (layout : Layout) (list : List Posting) → length list ≤ length (spelling_in layout list)
unfolding block_spelling
spelling_longer Flat list = omega (arith, spelling-length list)
spelling_longer Blocks list = omega (arith, length-map list fields, pieces_many (length list) (map fields list) (omega (arith, length-map list fields)))

pub spells_more : (layout : Layout) (bytes : List ℕ) (list : List Posting) → Spells layout bytes list → length list ≤ length bytes
spells_more layout bytes list spells = omega (arith, spelling_longer layout list, ap (λ (l : List ℕ). length l) spells.is)
