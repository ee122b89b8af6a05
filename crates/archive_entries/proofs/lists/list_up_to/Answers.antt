use Rattle.std.proofs.Common.{◌∙◌}
use Rattle.archive_entries.proofs.ListLemmas.{clipped, clipped_early}
use Rattle.archive_entries.proofs.lists.list_up_to.Goals as goal

pub returns-in-Some-clause-list : goal.returns-in-Some-clause-list
returns-in-Some-clause-list c =
    clipped (λ v. v.items) c.args.list.now c.in-Some.span c.args.horizon.seconds c.clip.result c.in-Some.ensures.value.0 (c.in-Some.ensures.value.1 ∙ c.seconds.ensures.value) c.clip.ensures.clip

pub returns-in-Some-clause-early : goal.returns-in-Some-clause-early
returns-in-Some-clause-early c =
    clipped_early (λ v. v.items) c.args.list.now c.in-Some.span c.args.horizon.seconds c.clip.result (c.in-Some.ensures.value.1 ∙ c.seconds.ensures.value) c.clip.ensures.clip
