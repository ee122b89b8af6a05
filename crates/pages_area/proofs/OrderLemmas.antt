-- The extents that are taken, in another order.
use Rattle.std.proofs.Common.{List, ◌∙◌, sym, arith, append_assoc, cond}
use Rattle.std.specs.List.Sorted.{IsPermutation}
use Rattle.std.proofs.lemmas.List.Sorted.{sum_by-IsPermutation, IsPermutation-append_comm, IsPermutation-append_left, IsPermutation-append_right}
use Rattle.base_types.specs.declared.extent.Extent.{Extent}
use Rattle.pages_area.specs.Edges.{holds}
use Rattle.pages_area.specs.Taken.{PagesState, HasTaken, TakenInAnyOrder, has_pages}
use Rattle.pages_area.proofs.CountLemmas.{counts, taken_by_counts}

pub taken_permuted : (store : PagesState) (xs ys : List Extent) → IsPermutation xs ys → HasTaken store xs → HasTaken store ys
taken_permuted store xs ys moved has =
    let was = counts store xs has in
    taken_by_counts store ys (record {
      once = λ p. omega (arith, sum_by-IsPermutation (holds p) xs ys moved, was.once p);
      counted = sum_by-IsPermutation (λ (e : Extent). cond (has_pages e) 1 0) xs ys moved ∙ was.counted;
      odd = λ p below. was.odd p below ∙ sym (sum_by-IsPermutation (holds p) xs ys moved);
    })

pub taken_swaps : TakenInAnyOrder
taken_swaps store before these those after has =
    taken_permuted store _ _ (IsPermutation-append_right before _ _ (simp append_assoc at (IsPermutation-append_left after _ _ (IsPermutation-append_comm these those)))) has
