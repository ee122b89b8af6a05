use Rattle.std.proofs.Common.{◌-◌, ◌/◌, ◌++◌, List, ℕ, sym, ap, ◌∙◌, append_assoc, arith}
use Rattle.std.proofs.lemmas.Bool.{le-ltb}
use Rattle.std.proofs.lemmas.List.{append-nil}
use Rattle.std.proofs.lemmas.Result.{on_ok_weaker}
use Rattle.pages_codec.specs.Numbers.{number_bytes}
use Rattle.pages_codec.proofs.NumberLemmas.{bytes_step, no_bytes}
use Rattle.pages_codec.proofs.numbers.+put_bytes.Goals as goal

pub returns-then-most-eq0 : goal.returns-then-most-eq0
returns-then-most-eq0 t c = sym (ap (λ (xs : List ℕ). c.args.bytes.now.items ++ xs) (no_bytes c.args.most c.args.number c.if-most-eq0.true) ∙ append-nil c.args.bytes.now.items)

pub returns : goal.returns
returns t c = on_ok_weaker c.put_bytes.result
    (λ e. rw (bytes_step c.args.most c.args.number (omega arith), le-ltb c.args.number 128 (omega arith))
    (e ∙ ap (λ (xs : List ℕ). xs ++ number_bytes (c.args.most - 1) (c.args.number / 128)) c.in_ok-push-2.ensures.items ∙ append_assoc c.args.bytes.now.items _ _))
    c.put_bytes.ensures
