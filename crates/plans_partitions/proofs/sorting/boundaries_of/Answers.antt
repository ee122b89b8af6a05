use Rattle.std.proofs.Common.{◌≡◌, [], ◌∷◌, ◌++◌, nat_eq, IsPermutation}
use Rattle.std.proofs.lemmas.List.Filters.{dedup_is}
use Rattle.std.proofs.lemmas.List.Kept.{Contains-dedup_nat, Contains-from_dedup}
use Rattle.std.proofs.lemmas.List.Sorted.{Contains-permutation, IsPermutation-sym}
use Rattle.std.proofs.lemmas.Map.Keys.{IsStrictlyIncreasing-dedup}
use Rattle.plans_partitions.proofs.sorting.boundaries_of.Goals as goal

pub returns : goal.returns
returns c =
    let all : c.extend_from_slice-2.new.self.items ≡ ([] ++ c.args.horizon ∷ []) ++ c.args.starts.now ++ c.args.stops.now =
    cc (c.in_ok-push.ensures.items, c.in_ok-extend_from_slice.ensures.items, c.in_ok-extend_from_slice-2.ensures.items) in
    let same : IsPermutation (c.args.horizon ∷ (c.args.starts.now ++ c.args.stops.now)) c.sorted-times.result.items = rw all at c.sorted-times.ensures.same in
    rw (dedup_is nat_eq _ _ c.dedup.ensures.filtered) (record {
      ascending = IsStrictlyIncreasing-dedup _ c.sorted-times.ensures.ascending;
      each = λ t. (λ x. Contains-permutation _ _ t (IsPermutation-sym _ _ same) (Contains-from_dedup nat_eq _ t x), λ x. Contains-dedup_nat _ t (Contains-permutation _ _ t same x));
    })
