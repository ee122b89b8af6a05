use Rattle.std.proofs.Common.{arith}
use Rattle.std.proofs.lemmas.Result.{err_from_is_err_and}
use Rattle.journal_gates.proofs.LoadLemmas.{exit_is}
use Rattle.journal_gates.proofs.SpellingLemmas.{spelled_not_refused}
use Rattle.journal_bodies.proofs.NumberLemmas.{found_end, found_heads, new_end, new_heads}
use Rattle.journal_bodies.proofs.bodies.NumberedBodies.of.Goals as goal

pub returns-in_err-found-clause-never : goal.returns-in_err-found-clause-never
returns-in_err-found-clause-never g c = λ tells bodies spelled end at is.
    let p = err_from_is_err_and c.from_residual.result c.from_residual.ensures.1 in
    spelled_not_refused (g.D.Disk.disk c.args.disk.now).holds.journal bodies at spelled
    (c.open_to_read.ensures.not_journal tells at (exit_is c.open_to_read.result c.from_residual.result c.in_err-found.field-0.0 p.0 _ c.in_err-found.was p.1 p.2 is))

pub returns-then-end-clause-never : goal.returns-then-end-clause-never
returns-then-end-clause-never g c = λ tells bodies spelled end at is.
    absurd (omega (arith, c.if-end.true, c.end.ensures.end, c.end-end.ensures.end, end, found_end (g.D.Disk.disk c.args.disk.now).holds.journal bodies c.in-Some.found.end c.in-Some.heads.items spelled (rw c.in-Some.is at (c.in_ok-found.ensures.found tells))))

pub returns-then-end-ne-NEW_BYTES-clause-never : goal.returns-then-end-ne-NEW_BYTES-clause-never
returns-then-end-ne-NEW_BYTES-clause-never g c = λ tells bodies spelled end at is.
    absurd (omega (arith, c.if-end-ne-NEW_BYTES.true, c.end-end.ensures.end, end, new_end (g.D.Disk.disk c.args.disk.now).holds.journal bodies (rw c.in-None.is at (c.in_ok-found.ensures.found tells)) spelled))

pub returns-else-end-clause-found : goal.returns-else-end-clause-found
returns-else-end-clause-found g c = λ tells bodies spelled end.
    record { spelled = spelled; heads_are = found_heads (g.D.Disk.disk c.args.disk.now).holds.journal bodies c.in-Some.found.end c.in-Some.heads.items spelled (rw c.in-Some.is at (c.in_ok-found.ensures.found tells)); view = c.window-window.ensures.view _ }

pub returns-else-end-ne-NEW_BYTES-clause-found : goal.returns-else-end-ne-NEW_BYTES-clause-found
returns-else-end-ne-NEW_BYTES-clause-found g c = λ tells bodies spelled end.
    record { spelled = spelled; heads_are = new_heads (g.D.Disk.disk c.args.disk.now).holds.journal bodies c.new.result.items (rw c.in-None.is at (c.in_ok-found.ensures.found tells)) spelled c.new.ensures.items; view = c.window-window.ensures.view _ }
