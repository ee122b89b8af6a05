use Rattle.std.proofs.Common.{◌≡◌, ◌≤◌, ◌++◌, drop}
use Rattle.query_lang.specs.Tokens.{tokens_from, tokens, term_of}
use Rattle.query_lang.proofs.TokenLemmas.{between}
use Rattle.query_lang.proofs.token.tokens_of.Given as goal

abbrev pub invariant-loop-i : goal.invariant-loop-i
invariant-loop-i l = (l.start ≤ l.i) × (l.found.items ++ tokens_from term_of l.start (between l.text l.start l.i) (drop l.i l.text) ≡ tokens term_of l.text)
