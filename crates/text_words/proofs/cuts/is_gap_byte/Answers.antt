use Rattle.std.proofs.Common.{◌∙◌, ap, sym, not}
use Rattle.text_words.proofs.CutLemmas.{gap_byte}
use Rattle.text_words.proofs.cuts.is_gap_byte.Goals as goal

pub returns-then-is_ascii : goal.returns-then-is_ascii
returns-then-is_ascii c = ap not c.is_ascii_alphanumeric.ensures.value ∙ gap_byte c.args.byte (sym c.is_ascii.ensures ∙ c.if-is_ascii.true)
