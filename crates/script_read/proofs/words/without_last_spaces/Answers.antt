use Rattle.std.proofs.Common.{arith, ap, sym, ◌∙◌, ◌≡◌, take}
use Rattle.script_read.specs.Words.{without_last_spaces}
use Rattle.script_read.proofs.WordLemmas.{front-space, front-byte}
use Rattle.script_read.proofs.words.without_last_spaces.Goals as goal
use Rattle.script_read.proofs.words.without_last_spaces.Goals.{then-loop-n-test+else-is_space, else-loop-n-test}

pub loop-n-preserved : goal.loop-n-preserved
loop-n-preserved c =
    (omega arith, front-space c.args.line.now c.loop-n.n (omega arith) c.loop-n.invariant.0 (sym c.is_space.ensures ∙ c.if-is_space.true) ∙ c.loop-n.invariant.1)

pub returns-clause-value : goal.returns-clause-value
returns-clause-value c =
    elim c.loop-n-test.branch [
      | then-loop-n-test+else-is_space w ↦ sym (front-byte c.args.line.now c.loop-n.n (omega arith) c.loop-n.invariant.0 (sym w.is_space.ensures ∙ w.if-is_space.false)) ∙ c.loop-n.invariant.1
      | else-loop-n-test w ↦ (let e : c.loop-n.n ≡ 0 = omega arith in ap (λ n. take n c.args.line.now) e ∙ ap (λ n. without_last_spaces (take n c.args.line.now)) (sym e) ∙ c.loop-n.invariant.1)
    ]
