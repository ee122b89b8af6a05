use Rattle.std.proofs.lemmas.Result.{IfOk-weaker}
use Rattle.journal_gates.proofs.LoadLemmas.{one_settled}
use Rattle.journal_gates.proofs.load.settle.Goals as goal

pub returns-clause-one : goal.returns-clause-one
returns-clause-one g c = λ tells. IfOk-weaker c.length.result _ _
    (λ total _. one_settled _ _ _ (c.sync.ensures.images tells) (c.in_ok-sync.ensures.durable tells) c.length.ensures.same) c.length.ensures.length
