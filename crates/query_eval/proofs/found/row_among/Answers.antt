use Rattle.std.proofs.Common.{ap, ◌∙◌}
use Rattle.std.proofs.lemmas.Result.{IfOk-weaker}
use Rattle.query_eval.specs.Hits.{found}
use Rattle.query_eval.proofs.found.row_among.Goals as goal

pub returns : goal.returns
returns c = IfOk-weaker c.row_by.result _ _ (λ row h often tell. h (often c.args.doc) (λ k l. ap (λ g. found g k) c.group_of.ensures ∙ tell c.args.doc k l)) c.row_by.ensures
