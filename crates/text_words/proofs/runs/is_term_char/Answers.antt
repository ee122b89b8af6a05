use Rattle.std.proofs.Common.{sym, ◌∙◌, ltb-true}
use Rattle.text_words.proofs.KeyLemmas.{is_term-ascii}
use Rattle.text_words.proofs.runs.is_term_char.Goals as goal

pub returns-then-is_ascii : goal.returns-then-is_ascii
returns-then-is_ascii c = c.is_ascii_alphanumeric.ensures.value ∙ sym (is_term-ascii c.args.c (ltb-true _ _ (sym c.is_ascii.ensures ∙ c.if-is_ascii.true)))
