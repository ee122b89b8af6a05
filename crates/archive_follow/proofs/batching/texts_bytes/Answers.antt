use Rattle.std.proofs.Common.{◌<◌, length, take, sum_by, ap, arith, rules}
use Rattle.std.proofs.lemmas.List.Sums.{sum_by_push}
use Rattle.journal_entries.specs.Acts.{act_length}
use Rattle.archive_follow.proofs.BatchLemmas.{act_at, act_short, acts_taken}
use Rattle.archive_follow.proofs.batching.texts_bytes.Goals as goal

pub overflow_add-bytes : goal.overflow_add-bytes
overflow_add-bytes c =
    let within : c.loop-act.act-index < length c.args.acts.now = search rules in
    omega (arith, c.loop-act.invariant.short, within, c.requires.sized.1, act_short c.act-item.result (act_at c.args.acts.now c.loop-act.act-index c.act-item.result within (search rules) c.requires.each), c.text_bytes-bytes.ensures)

pub loop-act-preserved : goal.loop-act-preserved
loop-act-preserved c =
    let within : c.loop-act.act-index < length c.args.acts.now = search rules in
    record {
      is = omega (arith, c.loop-act.invariant.is, c.text_bytes-bytes.ensures, ap (sum_by act_length) (acts_taken c.args.acts.now c.loop-act.act-index c.act-item.result within (search rules)), sum_by_push act_length (take c.loop-act.act-index c.args.acts.now) c.act-item.result);
      short = omega (arith, c.loop-act.invariant.short, act_short c.act-item.result (act_at c.args.acts.now c.loop-act.act-index c.act-item.result within (search rules) c.requires.each), c.text_bytes-bytes.ensures);
    }
