use Rattle.base_types.proofs.Equal.{same_span}
use Rattle.lists_postings.proofs.Longest.{one}
use Rattle.lists_postings.specs.Kinds.{life_kind}
use Rattle.lists_versions.specs.Lives.{lived}
use Rattle.lists_versions.proofs.laws.lives_are_one.Goals as goal

pub returns : goal.returns
returns g c = λ changes. one life_kind (λ p q d f t v i. record { doc = record { 0 = d i }; span = same_span p.span q.span f t i }) (lived changes)
