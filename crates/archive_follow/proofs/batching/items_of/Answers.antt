use Rattle.std.proofs.Common.{◌<◌, length, rules}
use Rattle.archive_follow.proofs.BatchLemmas.{act_at}
use Rattle.archive_follow.proofs.batching.items_of.Goals as goal

pub item_of-requires : goal.item_of-requires
item_of-requires c =
    let within : c.loop-act.act-index < length c.args.acts.now = search rules in
    act_at c.args.acts.now c.loop-act.act-index c.act-item.result within (search rules) c.requires.each
