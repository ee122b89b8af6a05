use Rattle.std.specs.Prelude.{◌≡◌, drop}
use Rattle.query_lang.specs.Chains.{in_turn, is_or_chain}
use Rattle.query_lang.specs.Tokens.{plain}
use Rattle.query_lang.proofs.query.is_or_chain.Given as goal

abbrev pub invariant-loop-placed : goal.invariant-loop-placed
invariant-loop-placed l = is_or_chain (plain l.tokens) ≡ in_turn l.word_is_next (plain (drop l.placed-index l.tokens))
