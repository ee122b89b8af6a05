use Rattle.std.proofs.Common.{ap}
use Rattle.script_read.proofs.ReaderLemmas.{line-found}
use Rattle.script_read.proofs.reader.Reader.front_of_line.Goals as goal

pub returns-in_default-clause-value : goal.returns-in_default-clause-value
returns-in_default-clause-value c =
    line-found c.args.self.now c.in_ok-first.first _ _ c.requires c.in_ok-first.ensures c.at_hand.ensures.value (ap (λ h. h.ended) c.self.view_is)
