use Rattle.std.proofs.Common.{◌∙◌, sym}
use Rattle.script_read.proofs.ValueLemmas.{fraction_new}
use Rattle.script_read.proofs.values.fraction.Goals as goal

pub returns : goal.returns
returns c = fraction_new c.args.word.now (c.in_ok-over.over, c.in_ok-over.under) c.new.result (sym c.in_ok-over.was ∙ c.parts.ensures.value) c.in_ok-over.ensures.small.0 c.new.ensures.valid c.new.ensures.value
