use Rattle.std.proofs.Common.{◌≡◌, ◌∙◌, ◌+◌, ◌-◌, ℕ, List, take, drop, ap, arith}
use Rattle.journal_gates.specs.Windows.{WindowState, piece_of}
use Rattle.journal_gates.proofs.WindowLemmas.{piece_lies}
use Rattle.journal_gates.proofs.window.Window.piece.Goals as goal

pub returns-clause-lies : goal.returns-clause-lies
returns-clause-lies c = λ journal view.
    let skip = c.args.at - c.self.inside.from in
    let long : skip + c.args.count - skip ≡ c.args.count = omega arith in
    ap (λ (n : ℕ). take n (drop skip c.deref.result.now)) long
    ∙ ap (λ (l : List ℕ). take c.args.count (drop skip l)) c.deref.ensures.value
    ∙ ap (λ (w : WindowState). piece_of w c.args.at c.args.count) c.self.view_is
    ∙ piece_lies c.args.self.now journal c.args.at c.args.count view c.requires
