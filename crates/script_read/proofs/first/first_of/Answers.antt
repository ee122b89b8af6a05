use Rattle.std.proofs.Common.{◌∙◌, sym, arith}
use Rattle.std.proofs.lemmas.Result.{IfOk-weaker}
use Rattle.script_read.proofs.LineLemmas.{first-long, first-closed, first-open}
use Rattle.script_read.proofs.first.first_of.Goals as goal

pub returns-then-place : goal.returns-then-place
returns-then-place c = sym (first-long c.args.ended c.args.bytes.now (omega (arith, c.line_length-place.ensures.value)))

pub returns-then-place-bytes : goal.returns-then-place-bytes
returns-then-place-bytes c =
    IfOk-weaker c.closed_line.result _ _
    (λ f e. e ∙ sym (first-closed c.args.ended c.line_length-place.result c.args.bytes.now c.line_length-place.ensures.value (omega arith) (omega arith)))
    c.closed_line.ensures

pub returns : goal.returns
returns c =
    IfOk-weaker c.open_line.result _ _
    (λ f e. e ∙ sym (first-open c.args.ended c.line_length-place.result c.args.bytes.now c.line_length-place.ensures.value (omega arith) (omega arith)))
    c.open_line.ensures
