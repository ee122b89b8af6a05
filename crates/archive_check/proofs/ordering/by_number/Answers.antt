use Rattle.lists_index.specs.Indexes.{state_of}
use Rattle.archive_check.proofs.OrderLemmas.{ranked_stand}
use Rattle.archive_check.proofs.ordering.by_number.Goals as goal

pub returns : goal.returns
returns c = record {
  ordered = ranked_stand (state_of c.args.index.now).words c.args.plans.now c.in_ok-ranked.ranked.items c.sort_by_place.new.ranked.items c.in_ok-ranked.ensures.plans c.in_ok-ranked.ensures.places c.sort_by_place.ensures.permutation
      c.in_ok-sort_by_place.ensures.sorted c.sort_by_place.ensures.stable;
}
