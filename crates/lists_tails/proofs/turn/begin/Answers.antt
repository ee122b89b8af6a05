use Rattle.lists_postings.specs.Lists.{IsList}
use Rattle.lists_tails.specs.Steps.{IsPlace}
use Rattle.lists_tails.proofs.Within.{begin-within}
use Rattle.lists_tails.proofs.turn.begin.Goals as goal

pub returns-clause-turned : goal.returns-clause-turned
returns-clause-turned c =
    let p : IsList c.args.list.now.items → IsPlace c.args.doc.0 c.args.list.now.items c.place_of-place.result = rw c.as_slice.ensures.value at c.place_of-place.ensures.place in
    begin-within c.args.doc.0 c.args.at.seconds c.args.new c.args.list.now.items c.put.new.list.items c.place_of-place.result c.in-Some.q (rw c.as_slice.ensures.value at c.place_of-place.ensures.inside) p c.args.at.before_now c.in-Some.ensures.some c.put.ensures.items
