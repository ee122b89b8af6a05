use Rattle.std.proofs.Common.{◌∙◌, arith, is_some}
use Rattle.std.proofs.lemmas.List.Sorted.{IsNonDecreasingBy-from_sort, sum_by-IsPermutation}
use Rattle.lists_versions.specs.Changes.{held_at}
use Rattle.lists_versions.proofs.Known.{documents-above}
use Rattle.lists_versions.proofs.Ascending.{same_documents, from_sorted, from_above, above-filter}
use Rattle.lists_versions.proofs.directory.Directory.alive.Goals as goal

pub returns : goal.returns
returns c =
    same_documents 0 _ _
    (from_sorted 0 _ (λ _ _. omega arith) (IsNonDecreasingBy-from_sort (λ d. d.0) _ c.sort_unstable.ensures.sorted))
    (from_above 0 0 _ (omega arith) (above-filter (λ d. is_some (held_at d c.args.t.seconds c.args.self.now.changes)) 0 0 _ (omega arith) (documents-above c.args.self.now.changes)))
    (λ q. sum_by-IsPermutation _ _ _ c.sort_unstable.ensures.permutation ∙ c.in_ok-docs.ensures q)
