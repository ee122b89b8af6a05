use Rattle.std.proofs.Common.{◌≡◌, true, false, ap, sym, ◌∙◌}
use Rattle.std.specs.Prelude.{bytes_eq, codes}
use Rattle.script_read.specs.Words.{word}
use Rattle.script_read.proofs.changing.planned.Goals as goal

pub returns-then-is_named-2 : goal.returns-then-is_named-2
returns-then-is_named-2 c =
    let other : bytes_eq (word c.args.words.now) (codes "guarantee") ≡ false = ap (λ w. bytes_eq w (codes "guarantee")) (sym c.next_word.ensures.word) ∙ sym c.is_named.ensures ∙ c.if-is_named.false in
    let space : bytes_eq (word c.args.words.now) (codes "space") ≡ true = ap (λ w. bytes_eq w (codes "space")) (sym c.next_word.ensures.word) ∙ sym c.is_named-2.ensures ∙ c.if-is_named-2.true in
    rw (other, space) (rw c.next_word.ensures.rest at c.spaced.ensures)
