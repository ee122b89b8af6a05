use Rattle.std.proofs.Common.{ℕ, All, subst, sym}
use Rattle.journal_gates.specs.Heads.{AreInRow, LiesBefore}
use Rattle.journal_gates.proofs.BodyLemmas.{behind_none, left_all}
use Rattle.journal_gates.proofs.ScanLemmas.{row_before}
use Rattle.journal_gates.proofs.journal.Journal.bodies.Goals as goal

pub invariant_of-result : goal.invariant_of-result
invariant_of-result c =
    subst (λ (n : ℕ). All (LiesBefore n) c.args.heads.now) (sym c.window.ensures.end) (row_before 16 c.args.self.now.end c.args.heads.now c.requires.row)

pub returns-clause-behind : goal.returns-clause-behind
returns-clause-behind c =
    behind_none c.args.heads.now c.window.result (subst (λ (n : ℕ). AreInRow 16 c.args.heads.now n) (sym c.window.ensures.end) c.requires.row)

pub returns-clause-left : goal.returns-clause-left
returns-clause-left c = λ journal bodies spelled same. left_all journal bodies c.args.heads.now c.window.result spelled same (c.window.ensures.view journal)
