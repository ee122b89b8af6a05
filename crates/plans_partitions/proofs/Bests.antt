-- Least spaces from boundary to boundary, and the least partition that takes the last of them: each is found by a search.
use Rattle.std.proofs.Common.{arith, ap, sym, ◌∙◌, subst, inl, inr, below_none, ◌≡◌, ℕ, zero, suc, ◌+◌, ◌-◌, ◌^◌, ◌<◌, ◌≤◌, List, [], ◌∷◌, ◌++◌, map, length, slice_index, All, refl, below_more, ◌⊎◌, ◌*◌, nat_lt, nat_le, Bool, true, ◌&&◌, ◌||◌, Decides}
use Rattle.std.proofs.lemmas.List.{ext_get_or, length_push}
use Rattle.std.proofs.lemmas.List.Elements.{All-nil, All-cons, All-append, All-head, All-tail, Contains-get_or}
use Rattle.std.proofs.lemmas.Bool.{cases_lt, cases_Bool}
use Rattle.std.proofs.lemmas.Bool.Decides.{nat_tests, not_from_Decides, Decides-below_and}
use Rattle.base_types.specs.declared.time.Time.{Time}
use Rattle.base_types.specs.declared.posting.Posting.{Posting}
use Rattle.base_types.specs.declared.fraction.Fraction.{Fraction}
use Rattle.lists_postings.specs.Sizes.{size, begun, ended}
use Rattle.plans_partitions.specs.Boundaries.{IsBoundary, IsFirst, AreBoundaries}
use Rattle.plans_partitions.specs.Counts.{Counts, Tabulates, AdmissibleBetween, size_between, alive_in}
use Rattle.plans_partitions.specs.Partitions.{IsAdmissible, Covers, space, IsLeast, IsBest, AreBest}
use Rattle.plans_partitions.specs.Laws.{EachListHasBest, OneListOfBest, EachListHasALeast, EachListHasALeastPlan}
use Rattle.plans_partitions.proofs.Places.{rises}
use Rattle.plans_partitions.proofs.Tables.{some_time, first_le, last_is_horizon, admissible_from_counts, counts_from_admissible}
use Rattle.plans_partitions.proofs.Walk.{AreBounds, paths_cost}
use Rattle.plans_partitions.proofs.Reaching.{elementary_admissible}
use Rattle.plans_partitions.proofs.Ordering.{each_has_boundaries}
use Rattle.plans_partitions.proofs.Pushing.{at_end, kept_before}

-- what holds below a number and at it holds below the next
up_to : (P : ℕ → Type 0) (n : ℕ) → ((i : ℕ) → i < n → P i) → P n → (i : ℕ) → i < suc n → P i
up_to P n below at i l = below_more P n below at i (omega (arith, l))

-- of these numbers it holds, and of none that costs less
record IsCheapest (P : ℕ → Type 0) (cost : ℕ → ℕ) (n place : ℕ) : Type 0 where
  pub below : place < n
  pub is : P place
  pub none_cheaper : (i : ℕ) → i < n → P i → cost place ≤ cost i

-- there is a cheapest one, or none at all
cheapest : (P : ℕ → Type 0) (cost : ℕ → ℕ) (n : ℕ) → ((i : ℕ) → i < n → P i ⊎ ¬ (P i)) → ((place : ℕ) × IsCheapest P cost n place) ⊎ ((i : ℕ) → i < n → ¬ (P i))
cheapest P cost zero decide = inr (λ i l. absurd (omega (arith, l)))
cheapest P cost (suc n) decide = go (decide n (omega arith)) (cheapest P cost n (λ i l. decide i (omega (arith, l))))
  where
    -- the last one, which costs no more than any other
    last : P n → ((i : ℕ) → i < n → P i → cost n ≤ cost i) → (place : ℕ) × IsCheapest P cost (suc n) place
    last so le = (n, record { below = omega arith; is = so; none_cheaper = up_to (λ i. P i → cost n ≤ cost i) n le (λ p. omega arith) })

    -- the cheapest of the others, which costs no more than the last
    kept : (place : ℕ) → IsCheapest P cost n place → (P n → cost place ≤ cost n) → (best : ℕ) × IsCheapest P cost (suc n) best
    kept place c le = (place, record { below = omega (arith, c.below); is = c.is; none_cheaper = up_to (λ i. P i → cost place ≤ cost i) n c.none_cheaper le })

    go : P n ⊎ ¬ (P n) → ((place : ℕ) × IsCheapest P cost n place) ⊎ ((i : ℕ) → i < n → ¬ (P i)) → ((place : ℕ) × IsCheapest P cost (suc n) place) ⊎ ((i : ℕ) → i < suc n → ¬ (P i))
    go (inl so) (inl (place, c)) = inl (elim (cases_lt (cost n) (cost place)) [ inl lt ↦ last so (λ i l p. omega (arith, lt, c.none_cheaper i l p)) | inr le ↦ kept place c (λ p. le) ])
    go (inl so) (inr none) = inl (last so (λ i l p. absurd (none i l p)))
    go (inr not_so) (inl (place, c)) = inl (kept place c (λ p. absurd (not_so p)))
    go (inr not_so) (inr none) = inr (up_to (λ i. ¬ (P i)) n none not_so)

-- a test of the elementary intervals below a number: whether the segment is within the factor of each that lies in it
abbrev tested : Counts → Fraction → ℕ → ℕ → ℕ → Bool
tested table factor j k zero = true
tested table factor j k (suc i) = (nat_lt i j || nat_le (size_between table j k * factor.under) (factor.over * alive_in table i)) && tested table factor j k i

-- so it is decided whether a segment is admissible
admissible_or_not : (table : Counts) (factor : Fraction) (j k : ℕ) → AdmissibleBetween table factor j k ⊎ ¬ (AdmissibleBetween table factor j k)
admissible_or_not table factor j k =
    let decides : Decides (tested table factor j k k) ((i : ℕ) → i < k → j ≤ i → size_between table j k * factor.under ≤ factor.over * alive_in table i) =
    Decides-below_and (λ i. nat_lt i j || nat_le (size_between table j k * factor.under) (factor.over * alive_in table i)) (λ i. j ≤ i → size_between table j k * factor.under ≤ factor.over * alive_in table i)
    (tested table factor j k) (λ i. (λ t le. grind (arith, nat_tests), λ w. grind (arith, nat_tests))) refl (λ _. refl) k in elim (cases_Bool (tested table factor j k k)) [
      | inl t ↦ inl (λ i a b. decides.0 t i b a)
      | inr f ↦ inr (λ adm. not_from_Decides _ decides f (λ i b a. adm i a b))
    ]

-- the counts of a list at its boundaries
abbrev counted : List Posting → List ℕ → Counts
counted list times = record { boundaries = times; begun = map (λ x. begun x list) times; ended = map (λ x. ended x list) times }

-- a partition at boundaries that takes so much space
pub record IsWayTo (list : List Posting) (factor : Fraction) (horizon f t number : ℕ) : Type 0 where
  pub cuts : List ℕ
  pub covers : Covers list factor f cuts t
  pub at_boundaries : All (IsBoundary list horizon) cuts
  pub takes : space list f cuts ≡ number

covers_more : (list : List Posting) (factor : Fraction) (cuts : List ℕ) (f t g : ℕ) → Covers list factor f cuts t → t < g → IsAdmissible list factor t g → Covers list factor f (cuts ++ g ∷ []) g
covers_more list factor [] f t g c lt adm = (omega (arith, c, lt), subst (λ x. IsAdmissible list factor x g) (sym c) adm, refl)
covers_more list factor (h ∷ cuts) f t g c lt adm = (c.0, c.1, covers_more list factor cuts h t g c.2 lt adm)

space_more : (list : List Posting) (factor : Fraction) (cuts : List ℕ) (f t g : ℕ) → Covers list factor f cuts t → space list f (cuts ++ g ∷ []) ≡ space list f cuts + size t g list
space_more list factor [] f t g c = omega (arith, ap (λ x. size x g list) c)
space_more list factor (h ∷ cuts) f t g c = omega (arith, space_more list factor cuts h t g c.2)

pub longer_way : (list : List Posting) (factor : Fraction) (horizon f t g number : ℕ) → IsWayTo list factor horizon f t number → t < g → IsAdmissible list factor t g → IsBoundary list horizon g
    → IsWayTo list factor horizon f g (number + size t g list)
longer_way list factor horizon f t g number w lt adm b = record {
  cuts = w.cuts ++ g ∷ [];
  covers = covers_more list factor w.cuts f t g w.covers lt adm;
  at_boundaries = All-append (IsBoundary list horizon) w.cuts (g ∷ []) w.at_boundaries (All-cons (IsBoundary list horizon) g [] b (All-nil (IsBoundary list horizon)));
  takes = omega (arith, space_more list factor w.cuts f t g w.covers, w.takes);
}

-- the numbers at the first n boundaries: a partition takes each, and no last segment would give less
record AreFound (list : List Posting) (factor : Fraction) (horizon : ℕ) (times numbers : List ℕ) (n : ℕ) : Type 0 where
  pub long : length numbers ≡ n
  pub starts : slice_index numbers 0 ≡ 0
  pub ways : (k : ℕ) → k < n → IsWayTo list factor horizon (slice_index times 0) (slice_index times k) (slice_index numbers k)
  pub edges : (k : ℕ) → k < n → (j : ℕ) → j < k → IsAdmissible list factor (slice_index times j) (slice_index times k)
      → slice_index numbers k ≤ slice_index numbers j + size (slice_index times j) (slice_index times k) list

found_first : (list : List Posting) (factor : Fraction) (horizon : ℕ) (times : List ℕ) → AreFound list factor horizon times (0 ∷ []) 1
found_first list factor horizon times = record {
  long = refl;
  starts = refl;
  ways = up_to (λ k. IsWayTo list factor horizon (slice_index times 0) (slice_index times k) (slice_index (0 ∷ []) k)) 0 (below_none _)
      (record { cuts = []; covers = refl; at_boundaries = All-nil (IsBoundary list horizon); takes = refl });
  edges = λ k l j lt adm. absurd (omega (arith, lt, l));
}

-- one boundary more, by its cheapest last segment
found_by : (list : List Posting) (factor : Fraction) (horizon : ℕ) (times numbers : List ℕ) (n left x : ℕ) → AreBoundaries list horizon times → 0 < n → n < length times → AreFound list factor horizon times numbers n
    → left < n → IsAdmissible list factor (slice_index times left) (slice_index times n) → x ≡ slice_index numbers left + size (slice_index times left) (slice_index times n) list
    → ((j : ℕ) → j < n → IsAdmissible list factor (slice_index times j) (slice_index times n) → x ≤ slice_index numbers j + size (slice_index times j) (slice_index times n) list)
    → AreFound list factor horizon times (numbers ++ x ∷ []) (suc n)
found_by list factor horizon times numbers n left x b some l s below adm e cheap =
    let kept = λ (k : ℕ) (m : k < n). kept_before numbers (numbers ++ x ∷ []) n x k s.long refl m in
    let new = at_end numbers (numbers ++ x ∷ []) n x s.long refl in
    record {
      long = omega (arith, length_push numbers x, s.long);
      starts = kept 0 some ∙ s.starts;
      ways = up_to (λ k. IsWayTo list factor horizon (slice_index times 0) (slice_index times k) (slice_index (numbers ++ x ∷ []) k)) n (λ k h. rw (kept k h) (s.ways k h))
          (rw (new, e) (longer_way list factor horizon (slice_index times 0) (slice_index times left) (slice_index times n) (slice_index numbers left) (s.ways left below)
          (rises times b.ascending left n below l) adm ((b.each _).0 (Contains-get_or times n 0 l))));
      edges = up_to (λ k. (j : ℕ) → j < k → IsAdmissible list factor (slice_index times j) (slice_index times k) → slice_index (numbers ++ x ∷ []) k ≤ slice_index (numbers ++ x ∷ []) j + size (slice_index times j) (slice_index times k) list) n
          (λ k h j lt a. omega (arith, kept k h, kept j (omega (arith, lt, h)), s.edges k h j lt a)) (λ j lt a. omega (arith, new, kept j lt, cheap j lt a));
    }

found : (list : List Posting) (factor : Fraction) (horizon : ℕ) (times : List ℕ) → All (λ p. p.span.to ≤ horizon) list → AreBoundaries list horizon times → (n : ℕ) → n < length times
    → (numbers : List ℕ) × AreFound list factor horizon times numbers (suc n)
found list factor horizon times early b zero l = (0 ∷ [], found_first list factor horizon times)
found list factor horizon times early b (suc n) l =
    let table : Counts = counted list times in
    let t : Tabulates list horizon table = record { boundaries = b; begun = refl; ended = refl; early = early } in
    let (numbers, s) = found list factor horizon times early b n (omega (arith, l)) in
    elim (cheapest (λ j. AdmissibleBetween table factor j (suc n)) (λ j. slice_index numbers j + size (slice_index times j) (slice_index times (suc n)) list) (suc n) (λ j m. admissible_or_not table factor j (suc n))) [
      | inl (left, c) ↦ (
        numbers ++ (slice_index numbers left + size (slice_index times left) (slice_index times (suc n)) list) ∷ [],
        found_by list factor horizon times numbers (suc n) left _ b (omega arith) l s c.below (admissible_from_counts list horizon table factor t left (suc n) c.below l c.is) refl
            (λ j lt a. c.none_cheaper j lt (counts_from_admissible list horizon table factor t j (suc n) lt l a)),
      )
      | inr none ↦ absurd (none n (omega arith) (elementary_admissible table factor n (suc n) (omega arith)))
    ]

-- numbers that bound every path, and that partitions take, are best
pub are_best : (list : List Posting) (factor : Fraction) (horizon : ℕ) (times numbers : List ℕ) → AreBounds list factor horizon times numbers → slice_index numbers 0 ≡ 0 → length numbers ≡ length times
    → ((k : ℕ) → k < length times → IsWayTo list factor horizon (slice_index times 0) (slice_index times k) (slice_index numbers k)) → AreBest list factor horizon times numbers
are_best list factor horizon times numbers b starts long ways = record {
  times_are = b.times_are;
  long = long;
  each = λ k l. let w = ways k l in record {
    cuts = w.cuts;
    covers = w.covers;
    at_boundaries = w.at_boundaries;
    takes = w.takes;
    least = λ other c. paths_cost list factor horizon times numbers b starts other k l c;
  };
}

pub each_has_best : EachListHasBest
each_has_best list factor horizon times early b =
    let some : 0 < length times = some_time list horizon times b in
    let (numbers, s) = found list factor horizon times early b (length times - 1) (omega arith) in
    let bounds : AreBounds list factor horizon times numbers = record { times_are = b; edges = λ j k lt l adm. s.edges k (omega arith) j lt adm } in
    (numbers, are_best list factor horizon times numbers bounds s.starts (omega (arith, s.long)) (λ k l. s.ways k (omega arith)))

pub one_list_of_best : OneListOfBest
one_list_of_best list factor horizon times a b x y = ext_get_or 0 a b (x.long ∙ sym y.long) (λ k l.
    let p = x.each k (omega (arith, l, x.long)) in
    let q = y.each k (omega (arith, l, x.long)) in
    omega (arith, p.takes, q.takes, p.least q.cuts q.covers, q.least p.cuts p.covers))

-- the least partition is the best one to the last boundary
pub each_has_a_least : EachListHasALeast
each_has_a_least list factor horizon early =
    let (times, b) = each_has_boundaries list horizon in
    let (numbers, best) = each_has_best list factor horizon times early b in
    let some : 0 < length times = some_time list horizon times b in
    let last : IsBest list factor horizon (slice_index times 0) horizon (slice_index numbers (length times - 1)) = rw (last_is_horizon list horizon times b early) at (best.each (length times - 1) (omega arith)) in
    let least : IsLeast list factor (slice_index times 0) last.cuts horizon = record {
      first = record { is = (b.each _).0 (Contains-get_or times 0 0 some); none_before = λ t c. first_le times b.ascending t ((b.each t).1 c) };
      at_boundaries = last.at_boundaries;
      covers = last.covers;
      least = λ other c. omega (arith, last.takes, last.least other c);
    } in
    (slice_index times 0, (last.cuts, least))

-- cuts lead to no earlier time
pub covers_to : (list : List Posting) (factor : Fraction) (cuts : List ℕ) (f end : ℕ) → Covers list factor f cuts end → f ≤ end
covers_to list factor [] f end c = omega (arith, c)
covers_to list factor (g ∷ cuts) f end c = omega (arith, c.0, covers_to list factor cuts g end c.2)

-- cuts that lead from one time to a later one end with that, and the others are before it
parted : (list : List Posting) (factor : Fraction) (cuts : List ℕ) (f end : ℕ) → Covers list factor f cuts end → f < end → (middle : List ℕ) × ((cuts ≡ middle ++ end ∷ []) × All (λ x. x < end) middle)
parted list factor [] f end c lt = absurd (omega (arith, c, lt))
parted list factor (g ∷ []) f end c lt = ([], (ap (λ x. x ∷ []) c.2, All-nil (λ x. x < end)))
parted list factor (g ∷ h ∷ cuts) f end c lt =
    let m : g < end = omega (arith, c.2.0, covers_to list factor cuts h end c.2.2) in
    let (middle, (e, low)) = parted list factor (h ∷ cuts) g end c.2 m in
    (g ∷ middle, (ap (λ xs. g ∷ xs) e, All-cons (λ x. x < end) g middle m low))

-- numbers below the end of time as times
as_times : (xs : List ℕ) → All (λ x. x < 2 ^ 40) xs → (times : List Time) × (map (λ (t : Time). t.seconds) times ≡ xs)
as_times [] low = ([], refl)
as_times (x ∷ xs) low =
    let (times, e) = as_times xs (All-tail (λ y. y < 2 ^ 40) x xs low) in
    (record { seconds = x; before_now = All-head (λ y. y < 2 ^ 40) x xs low } ∷ times, ap (λ ys. x ∷ ys) e)

-- before the horizon begins what isn't empty
first_before : (list : List Posting) (horizon first : ℕ) → 0 < length list → All (λ p. p.span.to ≤ horizon) list → IsFirst list horizon first → first < horizon
first_before [] horizon first some early f = absurd (omega (arith, some))
first_before (p ∷ list) horizon first some early f =
    let o : p.span.from < p.span.to = p.span.ordered in
    omega (arith, f.none_before p.span.from (1, omega arith, refl), early 0 p (omega arith), o)

pub each_has_a_least_plan : EachListHasALeastPlan
each_has_a_least_plan list factor horizon some early =
    let (first, (cuts, least)) = each_has_a_least list factor horizon.seconds early in
    let now : horizon.seconds < 2 ^ 40 = horizon.before_now in
    let before : first < horizon.seconds = first_before list horizon.seconds first some early least.first in
    let (middle, (e, inside)) = parted list factor cuts first horizon.seconds least.covers before in
    let (plan, f) = as_times middle (λ i d l. omega (arith, inside i d l, now)) in
    (record { seconds = first; before_now = omega arith }, (plan, subst (λ (xs : List ℕ). IsLeast list factor first xs horizon.seconds) (e ∙ ap (λ (xs : List ℕ). xs ++ horizon.seconds ∷ []) (sym f)) least))
