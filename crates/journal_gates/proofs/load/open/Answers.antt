use Rattle.std.proofs.Common.{◌≡◌, ◌<◌, ℕ, length, subst, arith}
use Rattle.std.proofs.lemmas.Result.{IfOk-weaker}
use Rattle.machine_model.proofs.MomentLemmas.{reads_join}
use Rattle.machine_model.specs.declared.area.Area.TheVariants.{Journal}
use Rattle.journal_gates.specs.Refused.{IsNotJournal}
use Rattle.journal_gates.proofs.LoadLemmas.{wrong_in_front, right_in_front, refused_cut, found_before, in_step_after}
use Rattle.journal_gates.proofs.ScanLemmas.{row_before}
use Rattle.journal_gates.proofs.WindowLemmas.{view_read}
use Rattle.journal_gates.proofs.load.open.Goals as goal

pub returns-clause-heads : goal.returns-clause-heads
returns-clause-heads g c = IfOk-weaker c.scan.result _ _ (λ p row. row_before 16 p.0.end p.1.items row) c.scan.ensures.row

pub returns-in-Some-clause-not_journal : goal.returns-in-Some-clause-not_journal
returns-in-Some-clause-not_journal g c = λ tells at is.
    let a = g.D.Disk.disk c.args.disk.now in
    let here : c.in-Some.at ≡ at = cc in
    subst (λ (n : ℕ). IsNotJournal a.holds.journal n) here (wrong_in_front c.piece.result.now a.holds.journal c.in-Some.at
    (c.piece.ensures.lies a.holds.journal (c.in_ok-cover.ensures.view tells (c.new-window.ensures.view a.holds.journal)))
    (omega (arith, g.met.D.Disk.reach_holds c.args.disk.now Journal tells)) c.in-Some.ensures.wrong)

pub returns-clause-not_journal : goal.returns-clause-not_journal
returns-clause-not_journal g c = λ tells at is.
    let a = g.D.Disk.disk c.args.disk.now in
    let b = g.D.Disk.disk c.cover.new.disk in
    let view = view_read a b c.cover.new.self c.cover.ensures.same (c.in_ok-cover.ensures.view tells (c.new-window.ensures.view a.holds.journal)) in
    refused_cut a b at c.cover.ensures.same (omega (arith, g.met.D.Disk.reach_holds c.args.disk.now Journal tells))
    (c.scan.ensures.not_journal tells view (right_in_front c.piece.result.now b.holds.journal (c.piece.ensures.lies b.holds.journal view) c.in_default.ensures.right) at is)

pub returns-clause-found : goal.returns-clause-found
returns-clause-found g c = λ tells.
    let a = g.D.Disk.disk c.args.disk.now in
    let b = g.D.Disk.disk c.cover.new.disk in
    let view = view_read a b c.cover.new.self c.cover.ensures.same (c.in_ok-cover.ensures.view tells (c.new-window.ensures.view a.holds.journal)) in
    IfOk-weaker c.scan.result _ _ (λ p. found_before a b p.0.end p.1.items c.cover.ensures.same)
    (c.scan.ensures.found tells view (right_in_front c.piece.result.now b.holds.journal (c.piece.ensures.lies b.holds.journal view) c.in_default.ensures.right))

pub returns-clause-in_step : goal.returns-clause-in_step
returns-clause-in_step g c = λ tells one bodies spells.
    let a = g.D.Disk.disk c.args.disk.now in
    let b = g.D.Disk.disk c.cover.new.disk in
    let d = g.D.Disk.disk c.scan.new.disk in
    let longer : 17 < length a.holds.journal = omega (arith, g.met.D.Disk.reach_holds c.args.disk.now Journal tells) in
    IfOk-weaker c.scan.result _ _ (λ p found. in_step_after a d p.0.end p.1.items bodies (reads_join a b d c.cover.ensures.same c.scan.ensures.same) one longer found spells) (returns-clause-found g c tells)
