use Rattle.std.proofs.Common.{◌≡◌, ◌≤◌, drop}
use Rattle.query_lang.specs.Tokens.{weight_from}
use Rattle.query_lang.proofs.token.weight_of.Given as goal

abbrev pub invariant-loop-b : goal.invariant-loop-b
invariant-loop-b l = record { left : weight_from 0 l.bytes ≡ weight_from l.weight (drop l.b-index l.bytes); light : l.weight ≤ 1000 }
