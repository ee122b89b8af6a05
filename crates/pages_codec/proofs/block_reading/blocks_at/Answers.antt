use Rattle.std.proofs.Common.{◌≡◌, ◌++◌, map, ◌∙◌, sym, ap, arith}
use Rattle.std.proofs.lemmas.Bool.{eqb-false}
use Rattle.std.proofs.lemmas.List.{map-append}
use Rattle.base_types.specs.declared.posting.Posting.{Posting}
use Rattle.std.specs.Prelude.{List}
use Rattle.pages_codec.specs.Steps.{last_of}
use Rattle.pages_codec.specs.Fields.{fields, seen}
use Rattle.pages_codec.specs.Blocks.{block_at}
use Rattle.pages_codec.proofs.AllAt.{goes_on, ends}
use Rattle.pages_codec.proofs.BlockLemmas.{blocks_begin}
use Rattle.pages_codec.proofs.BlockWalk.{block_reads, block_rest}
use Rattle.pages_codec.proofs.block_reading.blocks_at.Goals as goal

pub loop-rest-init : goal.loop-rest-init
loop-rest-init c = record { inside = omega arith; fits = λ i. omega (arith, c.type_inv.bytes i); read = rw c.new-list.ensures.items (blocks_begin c.args.bytes.now) }

pub overflow_sub-result : goal.overflow_sub-result
overflow_sub-result c =
    let h = (block_reads (seen c.loop-rest.before) c.loop-rest.rest.now c.loop-rest.invariant.fits).fails c.in-Err-Form.left (rw c.in-Err-Form.field-0-is at c.in-Err-Form.ensures) in
    rw c.in-Err-Form.field-0-is (omega (arith, h, c.loop-rest.invariant.inside))

pub returns-in-Err-Form-clause-fault : goal.returns-in-Err-Form-clause-fault
returns-in-Err-Form-clause-fault c =
    let e = rw c.in-Err-Form.field-0-is at c.in-Err-Form.ensures in
    let h = (block_reads (seen c.loop-rest.before) c.loop-rest.rest.now c.loop-rest.invariant.fits).fails c.in-Err-Form.left e in
    let some = eqb-false _ _ (sym c.is_empty.ensures ∙ c.loop-rest-test.true) in
    rw c.in-Err-Form.field-0-is (c.in-Err-Form.left, omega (arith, h, c.loop-rest.invariant.inside), ends block_at _ _ _ _ c.in-Err-Form.left c.loop-rest.invariant.read (omega (arith, some)) e)

pub loop-rest-smaller : goal.loop-rest-smaller
loop-rest-smaller c = (block_rest (seen c.loop-rest.before) c.loop-rest.rest.now (map fields c.in-Ok.read.0.items, c.in-Ok.read.1.now) c.loop-rest.invariant.fits c.in-Ok.ensures).0

pub loop-rest-preserved : goal.loop-rest-preserved
loop-rest-preserved c =
    let xs = map fields c.in-Ok.read.0.items in
    let rest = block_rest (seen c.loop-rest.before) c.loop-rest.rest.now (xs, c.in-Ok.read.1.now) c.loop-rest.invariant.fits c.in-Ok.ensures in
    let next = goes_on block_at _ _ _ _ _ _ c.loop-rest.invariant.read (omega (arith, rest.0)) c.in-Ok.ensures rest.0 in
    let items : map fields c.extend_from_slice.new.self.items ≡ map fields c.loop-rest.list.items ++ xs =
    ap (λ (ps : List Posting). map fields ps) (c.in_ok-extend_from_slice.ensures.items ∙ ap (λ (ps : List Posting). c.loop-rest.list.items ++ ps) c.deref.ensures.value) ∙ map-append fields c.loop-rest.list.items c.in-Ok.read.0.items in
    let last : seen c.last_of-before.result ≡ last_of (seen c.loop-rest.before) xs = c.last_of-before.ensures ∙ ap (λ (ps : List Posting). last_of (seen c.loop-rest.before) (map fields ps)) c.deref-in-loop-rest.ensures.value in
    record { inside = omega (arith, rest.0, c.loop-rest.invariant.inside); fits = rest.1; read = rw (items, last) next }
