use Rattle.std.proofs.Common.{◌∙◌, ap}
use Rattle.std.specs.Prelude.{length, unwrap_or}
use Rattle.script_read.proofs.WordLemmas.{unwrap_position}
use Rattle.script_read.proofs.words.word_length.Goals as goal

pub returns-clause-value : goal.returns-clause-value
returns-clause-value c =
    c.unwrap_or.ensures ∙ ap (λ o. unwrap_or o (length c.args.line.now)) c.find_space.ensures ∙ unwrap_position _ c.args.line.now
