use Rattle.std.proofs.Common.{length, ap, ◌∙◌}
use Rattle.archive_plans.proofs.ReadyLemmas.{is_well_cut}
use Rattle.archive_plans.proofs.readying.spell_entry.Goals as goal

pub encode_plan-requires : goal.encode_plan-requires
encode_plan-requires c =
    is_well_cut c.args.draft.list.items _ c.args.draft.cuts.items c.new.ensures (ap length (c.new-2.ensures ∙ c.in_ok-places.ensures.items) ∙ c.requires.many) c.requires.good
