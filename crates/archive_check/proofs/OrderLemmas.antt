-- Plans in the order of the numbers of their words.
use Rattle.std.proofs.Common.{◌≡◌, ◌==◌, ℕ, ◌<◌, bytes_eq, List, [], ◌∷◌, length, map, get_or, filter, All, None, ap, sym, ◌∙◌, arith}
use Rattle.std.specs.List.{position_or_len}
use Rattle.std.specs.List.Sorted.{IsNonDecreasingBy, IsPermutation}
use Rattle.std.proofs.lemmas.List.{get_or-map, length-map}
use Rattle.std.proofs.lemmas.List.Elements.{All-nil, All-cons, All-head, All-tail}
use Rattle.std.proofs.lemmas.List.Sorted.{All-permutation}
use Rattle.text_words.specs.Words.{number_of}
use Rattle.text_words.proofs.WordLemmas.{absent-none, new_place}
use Rattle.model_archive.specs.declared.stored.StoredPlan.{StoredPlan}
use Rattle.archive_check.specs.declared.ordering.Ranked.{Ranked}
use Rattle.model_archive.specs.Orders.{place_of, AreByNumber}
use Rattle.model_archive.proofs.Sorting.{ascends, rises, shown-of, shown-up}

-- ---- a place by a number

pub no_place : (word : List ℕ) (words : List (List ℕ)) → None ≡ number_of word words → length words ≡ position_or_len (bytes_eq word) words
no_place word words is = sym (new_place word words (absent-none word words (sym is)))

-- ---- plans as they are ranked

abbrev plan_in : Ranked → StoredPlan
plan_in one = one.stored.now

pub ranked_stand : (words : List (List ℕ)) (plans : List StoredPlan) (old new : List Ranked) → map (λ t. t.stored.now) old ≡ plans → All (λ t. t.place ≡ place_of words t.stored.now) old → IsPermutation old new
    → IsNonDecreasingBy (λ t. t.place) new → ((n : ℕ) → filter (λ t. t.place == n) new ≡ filter (λ t. t.place == n) old) → AreByNumber words plans (map (λ t. t.stored.now) new)
ranked_stand words plans old new are placed moved up stable =
    let P : Ranked → Type 0 = λ t. t.place ≡ place_of words t.stored.now in
    let place : Ranked → ℕ = λ t. t.place in
    let there : All P new = All-permutation P old new moved placed in
    record {
      ascending = rises (place_of words) (map plan_in new) (shown-up plan_in place (place_of words) new there (ascends place new up));
      same = λ n.
          shown-of plan_in place (place_of words) n new there ∙ ap (map plan_in) (stable n) ∙ sym (shown-of plan_in place (place_of words) n old placed)
          ∙ ap (λ (l : List StoredPlan). filter (λ s. place_of words s == n) l) are;
    }

-- what holds of plans holds of them as they are ranked
pub each_ranked : (P : StoredPlan → Type 0) (ranked : List Ranked) → All P (map (λ t. t.stored.now) ranked) → All (λ t. P t.stored.now) ranked
each_ranked P [] all = All-nil (λ t. P t.stored.now)
each_ranked P (t ∷ ranked) all = All-cons (λ u. P u.stored.now) t ranked (All-head P t.stored.now (map plan_in ranked) all) (each_ranked P ranked (All-tail P t.stored.now (map plan_in ranked) all))

-- the plan of one that is ranked, among the plans so
pub plans_within : (ranked : List Ranked) (i : ℕ) → i < length ranked → i < length (map (λ t. t.stored.now) ranked)
plans_within ranked i within = omega (arith, within, length-map ranked plan_in)

pub plan_at : (ranked : List Ranked) (i : ℕ) (one : Ranked) → i < length ranked → one ≡ get_or ranked i one → one.stored.now ≡ get_or (map (λ t. t.stored.now) ranked) i one.stored.now
plan_at ranked i one within is = ap plan_in is ∙ sym (get_or-map plan_in ranked i one one.stored.now within)
