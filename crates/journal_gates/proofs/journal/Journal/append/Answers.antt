use Rattle.std.proofs.Common.{ap, length, arith}
use Rattle.journal_gates.proofs.InStepLemmas.{step_at, step_spells}
use Rattle.journal_gates.proofs.AppendLemmas.{record_written, staged, both_written, length-behind_gate, appended}
use Rattle.journal_gates.proofs.PagesLemmas.{pages_same, pages_written, pages_join}
use Rattle.journal_gates.proofs.journal.Journal.append.Goals as goal

pub returns-then-self-grown-clause-pages : goal.returns-then-self-grown-clause-pages
returns-then-self-grown-clause-pages g c = λ tells. pages_same _

pub returns-in_err-write_through-clause-pages : goal.returns-in_err-write_through-clause-pages
returns-in_err-write_through-clause-pages g c = λ tells. pages_written (c.write_through.ensures.images tells)

pub returns-in_err-write_through-2-clause-pages : goal.returns-in_err-write_through-2-clause-pages
returns-in_err-write_through-2-clause-pages g c = λ tells. pages_join (pages_written (c.write_through.ensures.images tells)) (pages_written (c.write_through-2.ensures.images tells))

pub returns-clause-pages : goal.returns-clause-pages
returns-clause-pages g c = λ tells. pages_join (pages_written (c.write_through.ensures.images tells)) (pages_written (c.write_through-2.ensures.images tells))

pub returns-in_err-write_through-clause-crash : goal.returns-in_err-write_through-clause-crash
returns-in_err-write_through-clause-crash g c = λ tells bodies step.
    record_written c.args.frame.now (ap (λ s. s.end) c.self.view_is) step (c.write_through.ensures.images tells)

pub returns-in_err-write_through-2-clause-crash : goal.returns-in_err-write_through-2-clause-crash
returns-in_err-write_through-2-clause-crash g c = λ tells bodies step.
    both_written (ap (λ s. s.end) c.self.view_is) c.parts.ensures.fit c.parts.ensures.behind c.parts.ensures.gate step (g.met.D.Disk.holds_allowed _ tells) (c.write_through.ensures.images tells)
    (c.in_ok-write_through.ensures.stays tells) (g.met.D.Disk.only_beside _ _ tells c.write_through.ensures.only) (c.write_through-2.ensures.images tells)

pub returns-clause-crash : goal.returns-clause-crash
returns-clause-crash g c = λ tells bodies step.
    both_written (ap (λ s. s.end) c.self.view_is) c.parts.ensures.fit c.parts.ensures.behind c.parts.ensures.gate step (g.met.D.Disk.holds_allowed _ tells) (c.write_through.ensures.images tells)
    (c.in_ok-write_through.ensures.stays tells) (g.met.D.Disk.only_beside _ _ tells c.write_through.ensures.only) (c.write_through-2.ensures.images tells)

pub returns-clause-in_step : goal.returns-clause-in_step
returns-clause-in_step g c = λ tells bodies step.
    step_at (omega (arith, ap length c.parts.ensures.behind, length-behind_gate c.args.frame.now))
    (appended (staged (ap (λ s. s.end) c.self.view_is) c.parts.ensures.fit c.parts.ensures.behind step (g.met.D.Disk.holds_allowed _ tells) (c.in_ok-write_through.ensures.stays tells))
    c.parts.ensures.gate (c.in_ok-write_through-2.ensures.stays tells))

pub returns-clause-durable : goal.returns-clause-durable
returns-clause-durable g c = λ tells bodies step. step_spells _ _ _
    (appended (staged (ap (λ s. s.end) c.self.view_is) c.parts.ensures.fit c.parts.ensures.behind step (g.met.D.Disk.holds_allowed _ tells) (c.in_ok-write_through.ensures.stays tells))
    c.parts.ensures.gate (c.in_ok-write_through-2.ensures.stays tells))
