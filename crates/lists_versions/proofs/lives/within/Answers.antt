use Rattle.std.proofs.Common.{◌≡◌, ◌-◌, arith, length, take, drop}
use Rattle.std.proofs.lemmas.List.{take_all, length-drop}
use Rattle.lists_versions.proofs.Changing.{within-is}
use Rattle.lists_versions.proofs.lives.within.Goals as goal

pub returns : goal.returns
returns c =
    let changes = c.args.changes.now in
    let first = c.up_to-first.result in
    let whole : take (length changes - first) (drop first changes) ≡ drop first changes = take_all (length changes - first) (drop first changes) (omega (arith, length-drop first changes)) in
    rw whole (within-is changes c.args.span.from c.args.span.to first c.before-count.result c.up_to-first.ensures.inside c.up_to-first.ensures.place (rw whole at c.before-count.ensures.inside) (rw whole at c.before-count.ensures.place))
