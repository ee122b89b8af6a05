use Rattle.std.proofs.Common.{◌≡◌, ◌-◌, length, take, drop, List, arith}
use Rattle.std.proofs.lemmas.List.{take_all, length-drop}
use Rattle.query_eval.specs.declared.facts.Fact.{Fact}
use Rattle.query_eval.proofs.Groups.{between}
use Rattle.query_eval.proofs.facts.group_of.Goals as goal

pub returns : goal.returns
returns c =
    let facts : List Fact = c.args.facts.now in
    let s = c.first_of-start.result in
    let whole : take (length facts - s) (drop s facts) ≡ drop s facts = take_all (length facts - s) (drop s facts) (omega (arith, length-drop s facts)) in
    rw whole (between (λ f. f.doc.0) c.args.doc.0 facts s c.behind-count.result c.first_of-start.ensures.inside c.first_of-start.ensures.place (rw whole at c.behind-count.ensures.inside) (rw whole at c.behind-count.ensures.place))
