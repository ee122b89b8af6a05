-- Plans in the order of the places of their words: there is one such order.
use Rattle.std.proofs.Common.{◌≡◌, ℕ, List, sym, subst, ◌∙◌}
use Rattle.std.specs.List.Sorted.{IsPermutation}
use Rattle.model_archive.specs.declared.stored.StoredPlan.{StoredPlan}
use Rattle.model_archive.specs.Orders.{place_of, AreByNumber}
use Rattle.model_archive.proofs.Sorting.{ascends, rises, in_order, in_order-up, in_order-same, in_order-swaps, one_order}

pub put_in_order : List (List ℕ) → List StoredPlan → List StoredPlan
put_in_order words plans = in_order (place_of words) plans

pub are_put : (words : List (List ℕ)) (plans : List StoredPlan) → AreByNumber words plans (put_in_order words plans)
unfolding put_in_order
are_put words plans = record { ascending = rises (place_of words) (in_order (place_of words) plans) (in_order-up (place_of words) plans); same = λ n. in_order-same (place_of words) n plans }

pub one_way : (words : List (List ℕ)) (plans one other : List StoredPlan) → AreByNumber words plans one → AreByNumber words plans other → one ≡ other
one_way words plans one other a b =
    one_order (place_of words) one other (ascends (place_of words) one a.ascending) (ascends (place_of words) other b.ascending) (λ n. a.same n ∙ sym (b.same n))

-- the plans stand in another order, and that is all
pub are_moved : (words : List (List ℕ)) (plans ordered : List StoredPlan) → AreByNumber words plans ordered → IsPermutation plans ordered
unfolding put_in_order
are_moved words plans ordered by_number =
    subst (IsPermutation plans) (one_way words plans (in_order (place_of words) plans) ordered (are_put words plans) by_number) (in_order-swaps (place_of words) plans)
