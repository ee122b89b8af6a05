use Rattle.std.proofs.Common.{[], ◌∷◌}
use Rattle.tests_pages.proofs.tests.free_pages.firsts.Goals as goal

pub give_back-requires : goal.give_back-requires
give_back-requires c = record {
  taken = (c.in_ok-two.two ∷ [], ([], c.in_ok-two.ensures.taken (c.in_ok-one.one ∷ []) (c.in_ok-one.ensures.taken [] c.in-Ok.ensures.taken.0)));
}
