use Rattle.std.proofs.lemmas.Result.{IfOk-weaker}
use Rattle.query_best.proofs.ReadingLemmas.{opened-found}
use Rattle.query_best.proofs.held.open_in.Goals as goal

pub returns-in-Some-clause-found : goal.returns-in-Some-clause-found
returns-in-Some-clause-found c = IfOk-weaker c.opened.result _ _ (λ v o. opened-found c.args.word.now.blocks c.in-Some.held c.args.block c.in-Some.held.span.from c.in-Some.held.span.to c.in-Some.held.horizon.seconds v.items c.in-Some.is c.requires o) c.opened.ensures.found
