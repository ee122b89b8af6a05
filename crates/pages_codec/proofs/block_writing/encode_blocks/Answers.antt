use Rattle.std.proofs.Common.{◌∙◌, length, sym, ap, arith}
use Rattle.std.proofs.lemmas.Bool.{eqb-false}
use Rattle.std.proofs.lemmas.List.{length-take, length-drop}
use Rattle.std.specs.Prelude.{List, ◌++◌, map}
use Rattle.base_types.specs.declared.posting.Posting.{Posting}
use Rattle.pages_codec.specs.Fields.{fields}
use Rattle.pages_codec.specs.Blocks.{block}
use Rattle.pages_codec.proofs.WriteLemmas.{cut_begins, cut_more, list-take, list-drop}
use Rattle.pages_codec.proofs.block_writing.encode_blocks.Goals as goal

pub loop-rest-init : goal.loop-rest-init
loop-rest-init c = record { list = c.requires; cut = rw c.in_ok-bytes.ensures.items (cut_begins c.args.list.now) }

pub put_block-requires-clause-list : goal.put_block-requires-clause-list
put_block-requires-clause-list c = rw c.split.ensures.front (list-take 128 c.loop-rest.rest.now c.loop-rest.invariant.list)

pub put_block-requires-clause-some : goal.put_block-requires-clause-some
put_block-requires-clause-some c =
    rw c.split.ensures.front (omega (arith, eqb-false _ _ (sym c.is_empty.ensures ∙ c.loop-rest-test.true), length-take 128 c.loop-rest.rest.now))

pub put_block-requires-clause-most : goal.put_block-requires-clause-most
put_block-requires-clause-most c = rw c.split.ensures.front (omega (arith, length-take 128 c.loop-rest.rest.now))

pub loop-rest-smaller : goal.loop-rest-smaller
loop-rest-smaller c =
    omega (arith, eqb-false _ _ (sym c.is_empty.ensures ∙ c.loop-rest-test.true), length-drop 128 c.loop-rest.rest.now, ap (λ (ps : List Posting). length ps) c.split.ensures.behind)

pub loop-rest-preserved : goal.loop-rest-preserved
loop-rest-preserved c =
    let some = eqb-false _ _ (sym c.is_empty.ensures ∙ c.loop-rest-test.true) in
    let new = c.in_ok-put_block.ensures ∙ ap (λ (ps : List Posting). c.loop-rest.bytes.items ++ block (map fields ps)) c.split.ensures.front in
    rw c.split.ensures.behind (record { list = list-drop 128 c.loop-rest.rest.now c.loop-rest.invariant.list; cut = cut_more _ _ c.loop-rest.rest.now c.put_block.new.bytes.items c.loop-rest.invariant.cut (omega (arith, some)) new })
