use Rattle.pages_codec.specs.Fields.{seen}
use Rattle.pages_codec.proofs.BlockLemmas.{last_is}
use Rattle.pages_codec.proofs.block_reading.last_of.Goals as goal

pub returns-in-Some : goal.returns-in-Some
returns-in-Some c = let a = c.in-Some.ensures.cases in last_is (seen c.args.before) c.args.block.now c.in-Some.field-0-1.now c.in-Some.last.now a.0
