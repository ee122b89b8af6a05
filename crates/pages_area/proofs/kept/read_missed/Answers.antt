use Rattle.std.proofs.Common.{◌≡◌, None, IsOk, sym, ◌∙◌, nat_eq, rules}
use Rattle.std.specs.Map.{lookup}
use Rattle.pages_area.proofs.EntryLemmas.{front-asked, added-asked, order-asked, of-ok}
use Rattle.pages_area.proofs.kept.read_missed.Goals as goal

pub returns-then-contains-clause-asked : goal.returns-then-contains-clause-asked
returns-then-contains-clause-asked g c =
    c.in_ok-refill.ensures.first
    ∙ front-asked (record { page = c.args.page; bytes = c.refill.new.buf }) c.args.kept.now c.requires.order (sym c.contains.ensures ∙ c.if-contains.true)

pub returns-then-contains-clause-order : goal.returns-then-contains-clause-order
returns-then-contains-clause-order g c =
    order-asked c.args.kept.now c.refill.new.kept (record { page = c.args.page; bytes = c.refill.new.buf }) c.requires.order c.refill.ensures.room
    (returns-then-contains-clause-asked g c)

pub returns-clause-asked : goal.returns-clause-asked
returns-clause-asked g c =
    let none : lookup (nat_eq c.args.page) c.args.kept.now.entries ≡ None = search rules in
    let ok : IsOk c.refill-2.result = search rules in
    added-asked (record { page = c.args.page; bytes = c.refill-2.new.buf }) c.args.kept.now c.add_empty.new.kept c.refill-2.new.kept c.cut.new.kept
    none c.in_ok-add_empty.ensures.added (of-ok c.refill-2.result _ ok c.refill-2.ensures.first) c.cut.ensures.cut

pub returns-clause-order : goal.returns-clause-order
returns-clause-order g c =
    order-asked c.args.kept.now c.cut.new.kept (record { page = c.args.page; bytes = c.refill-2.new.buf }) c.requires.order
    (c.cut.ensures.room ∙ c.refill-2.ensures.room ∙ c.in_ok-add_empty.ensures.added.room) (returns-clause-asked g c)
