use Rattle.std.proofs.Common.{◌≡◌, ◌-◌, length, take, drop, List, arith}
use Rattle.std.proofs.lemmas.List.{take_all, length-drop}
use Rattle.query_eval.specs.declared.hit.Hit.{Hit}
use Rattle.query_eval.proofs.HitPlaces.{drop_rises, between}
use Rattle.query_eval.proofs.hit.group_of.Goals as goal

pub returns : goal.returns
returns c =
    let hits : List Hit = c.args.hits.now in
    let s = c.first_of-start.result in
    let whole : take (length hits - s) (drop s hits) ≡ drop s hits = take_all (length hits - s) (drop s hits) (omega (arith, length-drop s hits)) in
    between c.args.doc hits s c.behind-count.result c.first_of-start.ensures.inside (c.first_of-start.ensures.place c.requires)
    (rw whole at c.behind-count.ensures.inside) ((rw whole at c.behind-count.ensures.place) (drop_rises hits s c.requires))
