use Rattle.std.proofs.Common.{subst, arith}
use Rattle.std.proofs.lemmas.Result.{err_from_is_err_and}
use Rattle.machine_model.specs.States.{DiskState}
use Rattle.machine_model.specs.declared.area.Area.TheVariants.{Journal}
use Rattle.journal_gates.specs.Refused.{IsNotJournal}
use Rattle.journal_gates.proofs.LoadLemmas.{exit_is}
use Rattle.journal_gates.proofs.journal.Journal.open_to_read.Goals as goal

pub returns-then-total-le-NEW_BYTES-clause-found : goal.returns-then-total-le-NEW_BYTES-clause-found
returns-then-total-le-NEW_BYTES-clause-found g c = λ tells. omega (arith, g.met.D.Disk.reach_holds c.args.disk.now Journal tells, c.in_ok-total.ensures.length)

pub returns-in_err-journal-clause-not_journal : goal.returns-in_err-journal-clause-not_journal
returns-in_err-journal-clause-not_journal g c = λ tells at is.
    let p = err_from_is_err_and c.from_residual-in_err-journal.result c.from_residual-in_err-journal.ensures.1 in
    let refused = c.open.ensures.not_journal tells at (exit_is c.open.result c.from_residual-in_err-journal.result c.in_err-journal.field-0.0 p.0 _ c.in_err-journal.was p.1 p.2 is) in
    subst (λ (d : DiskState). IsNotJournal d.holds.journal at) c.length.ensures.same refused
