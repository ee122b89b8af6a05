-- The plans so far have their places.
use Rattle.std.specs.Prelude.{◌≡◌, map, take, All}
use Rattle.lists_index.specs.Indexes.{state_of}
use Rattle.model_archive.specs.Orders.{place_of}
use Rattle.archive_check.proofs.ordering.placed.Given as goal

abbrev pub invariant-loop-stored : goal.invariant-loop-stored
invariant-loop-stored l = record {
  plans : map (λ t. t.stored.now) l.ranked.items ≡ take l.stored-index l.plans;
  places : All (λ t. t.place ≡ place_of (state_of l.index).words t.stored.now) l.ranked.items;
}
