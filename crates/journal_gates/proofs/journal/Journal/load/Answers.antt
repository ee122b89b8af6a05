use Rattle.std.proofs.Common.{◌≤◌, ℕ, length, ap, subst, sym, arith}
use Rattle.std.proofs.lemmas.Result.{IfOk-weaker, err_from_is_err_and}
use Rattle.machine_model.specs.Areas.{Both, Bytes}
use Rattle.machine_model.specs.declared.area.Area.TheVariants.{Journal}
use Rattle.journal_gates.specs.Spelled.{Spells}
use Rattle.journal_gates.specs.Refused.{IsNotJournal}
use Rattle.journal_gates.specs.Found.{IsLaidOut}
use Rattle.journal_gates.specs.InStep.{IsInStep}
use Rattle.journal_gates.proofs.PagesLemmas.{pages_join}
use Rattle.journal_gates.proofs.LoadLemmas.{sync_reads, one_read, kept_sync, kept_reads, kept_begun, pages_sync, exit_is, none_spelled, none_found, none_in_step}
use Rattle.journal_gates.proofs.journal.Journal.load.Goals as goal

pub returns-in_err-total-clause-pages : goal.returns-in_err-total-clause-pages
returns-in_err-total-clause-pages g c = λ tells. pages_sync _ _ (c.settle.ensures.images tells)

pub returns-in_err-journal-clause-not_journal : goal.returns-in_err-journal-clause-not_journal
returns-in_err-journal-clause-not_journal g c = λ tells at is.
    let p = err_from_is_err_and c.from_residual-in_err-journal.result c.from_residual-in_err-journal.ensures.1 in
    subst (λ (h : Bytes). IsNotJournal h.journal at) (c.settle.ensures.images tells).holds
    (c.open.ensures.not_journal tells at (exit_is c.open.result c.from_residual-in_err-journal.result c.in_err-journal.field-0.0 p.0 _ c.in_err-journal.was p.1 p.2 is))

pub returns-in_err-journal-clause-longer : goal.returns-in_err-journal-clause-longer
returns-in_err-journal-clause-longer g c = λ tells longer. sync_reads _ _ _ (c.settle.ensures.images tells) c.open.ensures.same

pub returns-in_ok-journal-clause-longer : goal.returns-in_ok-journal-clause-longer
returns-in_ok-journal-clause-longer g c = λ tells longer. sync_reads _ _ _ (c.settle.ensures.images tells) c.open.ensures.same

pub returns-else-total-gt-NEW_BYTES-clause-longer : goal.returns-else-total-gt-NEW_BYTES-clause-longer
returns-else-total-gt-NEW_BYTES-clause-longer g c = λ tells longer. absurd
    (omega (arith, g.met.D.Disk.reach_holds c.args.disk.now Journal tells, c.in_ok-total.ensures.total, ap (λ (r : Both ℕ). r.journal) c.settle.ensures.reach))

pub returns-in_ok-journal-clause-one : goal.returns-in_ok-journal-clause-one
returns-in_ok-journal-clause-one g c = λ tells longer.
    one_read (g.D.Disk.disk c.settle.new.disk) (g.D.Disk.disk c.open.new.disk) c.open.ensures.same (c.in_ok-total.ensures.one tells)

pub returns-else-total-gt-NEW_BYTES-clause-one : goal.returns-else-total-gt-NEW_BYTES-clause-one
returns-else-total-gt-NEW_BYTES-clause-one g c = λ tells longer. absurd
    (omega (arith, g.met.D.Disk.reach_holds c.args.disk.now Journal tells, c.in_ok-total.ensures.total, ap (λ (r : Both ℕ). r.journal) c.settle.ensures.reach))

pub returns-in_err-journal-clause-crash : goal.returns-in_err-journal-clause-crash
returns-in_err-journal-clause-crash g c = λ tells bodies each.
    kept_reads bodies _ _ _ (kept_sync bodies _ _ each (c.settle.ensures.images tells)) c.open.ensures.same

pub returns-in_ok-journal-clause-crash : goal.returns-in_ok-journal-clause-crash
returns-in_ok-journal-clause-crash g c = λ tells bodies each.
    kept_reads bodies _ _ _ (kept_sync bodies _ _ each (c.settle.ensures.images tells)) c.open.ensures.same

pub returns-in_ok-journal-clause-finds : goal.returns-in_ok-journal-clause-finds
returns-in_ok-journal-clause-finds g c = λ tells bodies each.
    let spells : Spells (g.D.Disk.disk c.args.disk.now).holds.journal bodies = each _ (g.met.D.Disk.holds_allowed _ tells) in
    let there = c.in_ok-journal.ensures.in_step tells (c.in_ok-total.ensures.one tells) bodies
    (subst (λ (h : Bytes). Spells h.journal bodies) (sym (c.settle.ensures.images tells).holds) spells) in
    let F : ℕ → Type 0 = λ n. IsLaidOut bodies n c.in_ok-journal.heads.items × IsInStep (g.D.Disk.disk c.open.new.disk) n bodies in
    subst F (sym c.made_live.ensures.end) (there.0, there.1)

pub returns-else-total-gt-NEW_BYTES-clause-found : goal.returns-else-total-gt-NEW_BYTES-clause-found
returns-else-total-gt-NEW_BYTES-clause-found g c = λ tells.
    let few : length (g.D.Disk.disk c.args.disk.now).holds.journal ≤ 17 = omega (arith, g.met.D.Disk.reach_holds c.args.disk.now Journal tells, c.in_ok-total.ensures.total, ap (λ (r : Both ℕ). r.journal) c.settle.ensures.reach) in
    IfOk-weaker c.begin.result _ _ (λ p there. none_found _ p.0.end p.1.items few there.0) (c.begin.ensures.in_step tells)

pub returns-else-total-gt-NEW_BYTES-clause-in_step : goal.returns-else-total-gt-NEW_BYTES-clause-in_step
returns-else-total-gt-NEW_BYTES-clause-in_step g c = λ tells bodies spells.
    let few : length (g.D.Disk.disk c.args.disk.now).holds.journal ≤ 17 = omega (arith, g.met.D.Disk.reach_holds c.args.disk.now Journal tells, c.in_ok-total.ensures.total, ap (λ (r : Both ℕ). r.journal) c.settle.ensures.reach) in
    IfOk-weaker c.begin.result _ _ (λ p there. none_in_step _ p.0.end p.1.items bodies (none_spelled _ bodies few spells) (g.met.D.Disk.holds_allowed _ tells) there) (c.begin.ensures.in_step tells)

pub returns-else-total-gt-NEW_BYTES-clause-crash : goal.returns-else-total-gt-NEW_BYTES-clause-crash
returns-else-total-gt-NEW_BYTES-clause-crash g c = λ tells bodies each.
    let spells : Spells (g.D.Disk.disk c.args.disk.now).holds.journal bodies = each _ (g.met.D.Disk.holds_allowed _ tells) in
    let few : length (g.D.Disk.disk c.args.disk.now).holds.journal ≤ 17 = omega (arith, g.met.D.Disk.reach_holds c.args.disk.now Journal tells, c.in_ok-total.ensures.total, ap (λ (r : Both ℕ). r.journal) c.settle.ensures.reach) in
    kept_begun bodies _ _ _ (none_spelled _ bodies few spells) each (c.settle.ensures.images tells) (c.begin.ensures.crash tells)

pub returns-else-total-gt-NEW_BYTES-clause-finds : goal.returns-else-total-gt-NEW_BYTES-clause-finds
returns-else-total-gt-NEW_BYTES-clause-finds g c = λ tells bodies each.
    let spells : Spells (g.D.Disk.disk c.args.disk.now).holds.journal bodies = each _ (g.met.D.Disk.holds_allowed _ tells) in
    let few : length (g.D.Disk.disk c.args.disk.now).holds.journal ≤ 17 = omega (arith, g.met.D.Disk.reach_holds c.args.disk.now Journal tells, c.in_ok-total.ensures.total, ap (λ (r : Both ℕ). r.journal) c.settle.ensures.reach) in
    IfOk-weaker c.begin.result _ _ (λ p there. let all = none_in_step _ p.0.end p.1.items bodies (none_spelled _ bodies few spells) (g.met.D.Disk.holds_allowed _ tells) there in (all.0, all.1)) (c.begin.ensures.in_step tells)

pub returns-else-total-gt-NEW_BYTES-clause-pages : goal.returns-else-total-gt-NEW_BYTES-clause-pages
returns-else-total-gt-NEW_BYTES-clause-pages g c = λ tells. pages_join (pages_sync _ _ (c.settle.ensures.images tells)) (c.begin.ensures.pages tells)
