use Rattle.std.proofs.Common.{◌∙◌, sym}
use Rattle.script_read.proofs.ValueLemmas.{tolerance_new}
use Rattle.script_read.proofs.values.tolerance.Goals as goal

pub returns : goal.returns
returns c = tolerance_new c.args.word.now (c.in_ok-part.part, c.in_ok-part.whole) c.new.result (sym c.in_ok-part.was ∙ c.parts.ensures.value) c.in_ok-part.ensures.small.1 c.new.ensures.valid c.new.ensures.value
