use Rattle.script_read.proofs.ValueLemmas.{span_of_new}
use Rattle.script_read.proofs.values.span.Goals as goal

pub returns : goal.returns
returns c = span_of_new c.args.from c.args.to c.new.result c.new.ensures.valid c.new.ensures.value
