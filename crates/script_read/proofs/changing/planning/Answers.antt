use Rattle.std.proofs.Common.{◌≡◌, Some, ap, sym, ◌∙◌}
use Rattle.script_read.specs.Words.{word}
use Rattle.script_read.specs.Values.{text}
use Rattle.script_read.proofs.changing.planning.Goals as goal

pub returns-in-Some : goal.returns-in-Some
returns-in-Some c =
    let is : text (word c.args.words.now) ≡ Some c.in-Some.word = ap text (sym c.next_word.ensures.word) ∙ sym c.in_ok-word.ensures ∙ c.in-Some.is in
    rw is (rw c.next_word.ensures.rest at c.planned.ensures)
