use Rattle.std.proofs.Common.{◌∙◌, ap, sym}
use Rattle.std.specs.Prelude.{option_and_then}
use Rattle.base_types.specs.Times.{time_of}
use Rattle.script_read.proofs.ValueLemmas.{time_of_new}
use Rattle.script_read.proofs.values.time.Goals as goal

pub returns : goal.returns
returns c = time_of_new _ _ c.new.ensures.valid c.new.ensures.value ∙ ap (option_and_then time_of) (sym c.in_ok-seconds.was ∙ c.seconds.ensures)
