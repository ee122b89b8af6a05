use Rattle.std.proofs.Common.{◌≤◌, ℕ, ◌∙◌, ap, subst, List, arith, length}
use Rattle.script_read.specs.Lines.{meaning}
use Rattle.script_read.specs.Reading.{IsWithinText}
use Rattle.script_read.proofs.LineLemmas.{asks_for, asks_small}
use Rattle.script_read.proofs.WaitLemmas.{few_wait}
use Rattle.script_read.proofs.passing.long_text.Goals as goal

pub returns-clause-asks : goal.returns-clause-asks
returns-clause-asks c =
    let line = c.without_cr-line.ensures.value in
    let short : length (c.without_cr-line.result.now) ≤ 4096 = omega arith in
    let P : List ℕ → Type 0 = λ l. length l ≤ 4096 in
    asks_for c.line_length-place.result c.args.bytes.now c.in_ok-meaning_of.field-0 c.over_of.result c.line_length-place.ensures.value
    (omega (arith, c.line_length-place.ensures.within)) (subst P line short) (c.in_ok-meaning_of.ensures ∙ ap meaning line) c.over_of.ensures.some

pub returns-clause-small : goal.returns-clause-small
returns-clause-small c =
    let line = c.without_cr-line.ensures.value in
    let short : length (c.without_cr-line.result.now) ≤ 4096 = omega arith in
    let P : List ℕ → Type 0 = λ l. length l ≤ 4096 in
    asks_small c.line_length-place.result c.args.bytes.now c.in_ok-meaning_of.field-0 c.over_of.result c.line_length-place.ensures.value
    (omega (arith, c.line_length-place.ensures.within)) (subst P line short) (c.in_ok-meaning_of.ensures ∙ ap meaning line) c.over_of.ensures.some

pub returns-clause-waits : goal.returns-clause-waits
returns-clause-waits c = λ none ended more.
    let line = c.without_cr-line.ensures.value in
    let short : length (c.without_cr-line.result.now) ≤ 4096 = omega arith in
    let P : List ℕ → Type 0 = λ l. length l ≤ 4096 in
    few_wait ended c.line_length-place.result c.args.bytes.now c.line_length-place.ensures.value (omega (arith, c.line_length-place.ensures.within)) (subst P line short)
    (subst IsWithinText (c.in_ok-meaning_of.ensures ∙ ap meaning line) (c.over_of.ensures.none none)) more
