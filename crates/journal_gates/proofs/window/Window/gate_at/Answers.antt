use Rattle.std.proofs.Common.{◌∙◌, take, drop, ap, sym, arith, length-drop}
use Rattle.journal_gates.specs.Windows.{WindowState}
use Rattle.journal_gates.proofs.window.Window.gate_at.Goals as goal

pub returns-clause-lies : goal.returns-clause-lies
returns-clause-lies c = λ journal long view.
    let left = drop c.args.gate journal in
    c.gate_in.ensures.lies left (omega (arith, long, ap (λ (w : WindowState). w.end) c.self.view_is, length-drop c.args.gate journal))
    (c.piece.ensures.lies journal view ∙ ap (λ n. take n left) (sym c.piece.ensures.len))
