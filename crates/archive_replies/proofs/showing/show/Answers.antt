use Rattle.std.proofs.Common.{◌<◌, take, length, Result, Ok, Err, OnErr, arith, ap, rules}
use Rattle.std.proofs.lemmas.List.{length-append}
use Rattle.archive_replies.proofs.showing.show.Goals as goal

on_err : {T E Q : Type 0} (r : Result T E) → Q → OnErr r Q
on_err (Ok x) q = tt
on_err (Err e) q = q

pub returns-in_err-count-clause-short : goal.returns-in_err-count-clause-short
returns-in_err-count-clause-short g c = λ tells.
    let old = (g.K.Sink.sink c.args.sink.now).shown in
    let here = (g.K.Sink.sink c.loop-rest.sink).shown in
    let now = (g.K.Sink.sink c.push.new.self).shown in
    let some : 0 < length c.loop-rest.rest.now = search rules in
    let left = ap length (c.loop-rest.invariant.2 tells) in
    let same = ap length (c.in_err-count.ensures.shown tells) in
    on_err c.from_residual.result (omega (arith, some, left, same, length-append here c.loop-rest.rest.now, length-append old c.args.piece.now, length-append here (take 0 c.loop-rest.rest.now)))
