use Rattle.std.proofs.Common.{ap}
use Rattle.std.proofs.lemmas.Bool.{eq-eqb, ne_eqb}
use Rattle.lists_versions.specs.Changes.{valid_at}
use Rattle.lists_versions.proofs.Latest.{changes_of-none}
use Rattle.lists_versions.proofs.Valid.{held_at-later, held_at-other, held_at-same}
use Rattle.lists_versions.proofs.laws.held_as_changes_come.Goals as goal

pub returns : goal.returns
returns g c = record {
  none = λ doc t changes a. ap (valid_at t) (changes_of-none doc changes a);
  other = λ doc t changes d ne. held_at-other doc t changes d (ne_eqb d.doc.0 doc.0 ne);
  later = held_at-later;
  last = λ doc t changes d is. held_at-same doc t changes d (eq-eqb d.doc.0 doc.0 is);
}
