use Rattle.std.proofs.Common.{◌∙◌}
use Rattle.text_words.proofs.KeyLemmas.{term_of-made_ok}
use Rattle.text_words.proofs.runs.folded_key.Goals as goal

pub returns : goal.returns
returns c = term_of-made_ok _ c.as_str.result.now c.new.result (c.as_str.ensures.value ∙ c.in_ok-key.ensures) c.new.ensures.valid c.new.ensures.value
