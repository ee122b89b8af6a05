use Rattle.std.proofs.Common.{◌≡◌, map, take}
use Rattle.plans_share.specs.Asked.{asking}
use Rattle.plans_share.proofs.asked.askings.Given as goal

abbrev pub invariant-loop-word : goal.invariant-loop-word
invariant-loop-word l = l.askings.items ≡ map (asking l.at) (take l.word-index l.words)
