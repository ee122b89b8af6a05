use Rattle.std.proofs.Common.{◌∙◌, ap, subst, min, ◌-◌, length}
use Rattle.script_read.specs.Reading.{IsSmall}
use Rattle.script_read.proofs.ReaderLemmas.{stands-on}
use Rattle.script_read.proofs.reader.Reader.let_go.Goals as goal

pub returns-clause-stands : goal.returns-clause-stands
returns-clause-stands c =
    let view = c.self.view_is in
    let small : IsSmall c.args.self.now.over = subst IsSmall (ap (λ h. h.over) view) c.self.invariant.2 in
    stands-on c.args.self.now c.args.over c.self.inside.start c.min-n.result c.self.inside.buffer.items (ap (λ h. h.bytes) view) c.requires small
    (c.min-n.ensures ∙ ap (λ l. min (length l) (c.args.over.size - c.args.over.gone)) c.at_hand.ensures.value)
