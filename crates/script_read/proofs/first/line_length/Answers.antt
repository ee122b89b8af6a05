use Rattle.std.proofs.Common.{◌∙◌}
use Rattle.script_read.proofs.LineLemmas.{position_or_len-front}
use Rattle.script_read.proofs.first.line_length.Goals as goal

pub returns-clause-value : goal.returns-clause-value
returns-clause-value c = let e = position_or_len-front _ 4098 c.args.bytes.now in rw c.min.ensures at c.place_of_line_feed.ensures.place ∙ e
