use Rattle.std.proofs.Common.{◌∙◌}
use Rattle.std.proofs.lemmas.List.{take_min, drop_min}
use Rattle.pages_codec.proofs.block_writing.split.Goals as goal

pub returns-clause-front : goal.returns-clause-front
returns-clause-front c = c.split_at.ensures.front ∙ rw c.min.ensures (take_min 128 c.args.list.now)

pub returns-clause-behind : goal.returns-clause-behind
returns-clause-behind c = c.split_at.ensures.back ∙ rw c.min.ensures (drop_min 128 c.args.list.now)
