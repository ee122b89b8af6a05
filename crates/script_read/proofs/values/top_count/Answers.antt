use Rattle.std.proofs.Common.{◌∙◌, sym}
use Rattle.script_read.proofs.ValueLemmas.{top_count_new}
use Rattle.script_read.proofs.values.top_count.Goals as goal

pub returns : goal.returns
returns c = top_count_new c.args.word.now c.in_ok-number.number c.new.result (sym c.in_ok-number.was ∙ c.number_below.ensures) c.new.ensures.valid c.new.ensures.value
