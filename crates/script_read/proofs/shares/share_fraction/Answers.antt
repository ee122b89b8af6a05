use Rattle.std.proofs.Common.{◌∙◌, sym}
use Rattle.script_read.proofs.ValueLemmas.{share_fraction_new}
use Rattle.script_read.proofs.shares.share_fraction.Goals as goal

pub returns : goal.returns
returns c = share_fraction_new c.args.word.now c.in_ok-fraction.field-0 c.new.result (sym c.in_ok-fraction.was ∙ c.fraction.ensures) c.new.ensures.valid c.new.ensures.value
