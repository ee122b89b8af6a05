use Rattle.std.proofs.Common.{◌≤◌, ◌+◌, take, sym, arith}
use Rattle.std.proofs.lemmas.Grind.{common_steps}
use Rattle.script_read.specs.Numbers.{value_of}
use Rattle.script_read.proofs.NumberLemmas.{number-above}
use Rattle.script_read.proofs.words.number_below.Goals as goal

pub returns-then-value-limit : goal.returns-then-value-limit
returns-then-value-limit c =
    let above : c.args.limit ≤ value_of (take (c.loop-digit.digit-index + 1) c.args.word.now) = grind (arith, common_steps) in
    sym (number-above c.args.limit (c.loop-digit.digit-index + 1) c.args.word.now above)
