use Rattle.std.proofs.Common.{◌≡◌}
use Rattle.pages_area.specs.Inside.{kept_of, IsInOrder}
use Rattle.pages_area.proofs.RunLemmas.{outside}
use Rattle.pages_area.proofs.kept.let_go.Given as goal

abbrev pub invariant-pages : goal.invariant-pages
invariant-pages l = record {
  left : kept_of l.kept.entries ≡ outside l.fn.first l.page-counter (kept_of l.initial.kept.entries);
  order : IsInOrder l.kept;
}
