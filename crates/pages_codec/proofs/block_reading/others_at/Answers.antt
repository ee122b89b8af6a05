use Rattle.std.proofs.Common.{map}
use Rattle.std.proofs.lemmas.Result.{err_from_is_err_and}
use Rattle.std.proofs.lemmas.List.{map_push}
use Rattle.pages_codec.specs.Fields.{fields}
use Rattle.pages_codec.specs.Blocks.{others_at}
use Rattle.pages_codec.specs.Gives.{with_front}
use Rattle.pages_codec.proofs.BlockLemmas.{goes_on, ends, is_done}
use Rattle.pages_codec.proofs.block_reading.others_at.Goals as goal

pub returns-in_err-posting : goal.returns-in_err-posting
returns-in_err-posting c =
    let p = err_from_is_err_and c.from_residual.result c.from_residual.ensures.1 in
    rw (p.1, p.2) (ends c.in_err-posting.field-0.0 (map fields c.loop.list.items) c.args.count c.loop.counter (fields c.loop.last) c.loop.rest.now (with_front (map fields c.args.list.items) (others_at c.args.count (fields c.args.last) c.args.bytes.now)) c.loop-test.true c.in_err-posting.ensures c.loop.invariant)

pub loop-preserved : goal.loop-preserved
loop-preserved c = rw (c.in_ok-push.ensures.items, map_push) (goes_on (map fields c.loop.list.items) c.args.count c.loop.counter (fields c.loop.last) c.loop.rest.now (fields c.in_ok-posting.posting) c.in_ok-posting.behind.now (with_front (map fields c.args.list.items) (others_at c.args.count (fields c.args.last) c.args.bytes.now)) c.loop-test.true c.in_ok-posting.ensures c.loop.invariant)

pub returns : goal.returns
returns c = is_done (map fields c.loop.list.items) c.args.count c.loop.counter (fields c.loop.last) c.loop.rest.now (with_front (map fields c.args.list.items) (others_at c.args.count (fields c.args.last) c.args.bytes.now)) c.loop-test.false c.loop.invariant
