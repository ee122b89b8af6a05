use Rattle.std.proofs.lemmas.List.Sorted.{searched}
use Rattle.pages_area.proofs.EdgeLemmas.{no_fall}
use Rattle.pages_area.proofs.edges.place_of.Goals as goal

pub returns : goal.returns
returns c = searched c.args.edges.now c.args.page _ c.binary_search.ensures.position (λ i j. no_fall c.args.edges.now i j c.requires)
