use Rattle.std.proofs.Common.{chars, Some, None}
use Rattle.text_words.proofs.KeyLemmas.{term_of-made}
use Rattle.text_words.proofs.runs.lowered_key.Goals as goal

pub returns-in-Ok : goal.returns-in-Ok
returns-in-Ok c = term_of-made (chars c.args.run.now) _ (Some c.in-Ok.key) c.in_ok-lowered.ensures c.in-Ok.ensures.valid c.in-Ok.ensures.value

pub returns-in-Err : goal.returns-in-Err
returns-in-Err c = term_of-made (chars c.args.run.now) _ None c.in_ok-lowered.ensures c.in-Err.ensures.valid tt
