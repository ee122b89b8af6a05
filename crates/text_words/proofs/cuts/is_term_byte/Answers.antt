use Rattle.std.proofs.Common.{◌∙◌}
use Rattle.text_words.proofs.CutLemmas.{term_byte}
use Rattle.text_words.proofs.cuts.is_term_byte.Goals as goal

pub returns : goal.returns
returns c = c.is_ascii_alphanumeric.ensures.value ∙ term_byte c.args.byte
