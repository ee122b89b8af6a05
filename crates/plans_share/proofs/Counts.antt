-- Counts of times.
use Rattle.std.specs.Prelude.{◌≡◌, ℕ, ◌+◌, ◌≤◌, Bool, true, false, cond, ◌&&◌, nat_le, nat_lt, bytes_eq, List, [], ◌∷◌, map, filter, count_by, refl}
use Rattle.std.specs.List.Sorted.{IsPermutation}
use Rattle.std.proofs.Common.{arith, ap, ◌∙◌, inl, inr, lt-ltb, le-leb}
use Rattle.std.proofs.lemmas.Bool.{cases_lt, lt-leb, le-ltb}
use Rattle.std.proofs.lemmas.List.Sorted.{sum_by-IsPermutation}
use Rattle.std.proofs.lemmas.List.Sums.{sum_by-cons}
use Rattle.plans_partitions.proofs.Sums.{bit}
use Rattle.plans_share.specs.Asked.{asked_in, count_in, seconds_of}
use Rattle.plans_share.specs.declared.asked.Asking.{Asking}

-- the times up to a start and those of a span are the times up to its end
pub count-split : (a b : ℕ) (times : List ℕ) → a ≤ b → count_in a b times + count_by (λ x. nat_lt x a) times ≡ count_by (λ x. nat_lt x b) times
count-split a b [] l = refl
count-split a b (s ∷ times) l =
    let r : count_in a b times + count_by (λ x. nat_lt x a) times ≡ count_by (λ x. nat_lt x b) times = count-split a b times l in
    omega (arith, sum_by-cons (λ x. bit (nat_le a x && nat_lt x b)) s times, sum_by-cons (λ x. bit (nat_lt x a)) s times, sum_by-cons (λ x. bit (nat_lt x b)) s times, here, r)
  where
    here : bit (nat_le a s && nat_lt s b) + bit (nat_lt s a) ≡ bit (nat_lt s b)
    here = elim (cases_lt s a) [
      | inl k ↦ rw (lt-ltb s a k, lt-leb a s k, lt-ltb s b (omega (arith, k, l))) refl
      | inr k ↦ rw (le-ltb s a k, le-leb a s k) (go (nat_lt s b))
    ]
      where
        go : (c : Bool) → bit (true && c) + bit false ≡ bit c
        go true = refl
        go false = refl

-- the counts of a word's times are those of its pairs
pub of-pairs : (word : List ℕ) (a b : ℕ) (pairs : List Asking) → count_in a b (seconds_of word pairs) ≡ asked_in pairs word a b
of-pairs word a b [] = refl
of-pairs word a b (p ∷ pairs) = go (bytes_eq p.word word) refl (of-pairs word a b pairs)
  where
    go : (c : Bool) → bytes_eq p.word word ≡ c → count_in a b (seconds_of word pairs) ≡ asked_in pairs word a b
        → count_in a b (map (λ (q : Asking). q.at.seconds) (cond c (p ∷ filter (λ q. bytes_eq q.word word) pairs) (filter (λ q. bytes_eq q.word word) pairs))) ≡ asked_in (p ∷ pairs) word a b
    go true e r = omega (arith, sum_by-cons (λ x. bit (nat_le a x && nat_lt x b)) p.at.seconds (seconds_of word pairs), sum_by-cons (λ (q : Asking). bit (bytes_eq q.word word && (nat_le a q.at.seconds && nat_lt q.at.seconds b))) p pairs, ap (λ c. bit (c && (nat_le a p.at.seconds && nat_lt p.at.seconds b))) e, r)
    go false e r = omega (arith, sum_by-cons (λ (q : Asking). bit (bytes_eq q.word word && (nat_le a q.at.seconds && nat_lt q.at.seconds b))) p pairs, ap (λ c. bit (c && (nat_le a p.at.seconds && nat_lt p.at.seconds b))) e, r)

pub in-order : (word : List ℕ) (a b : ℕ) (pairs : List Asking) (seconds times : List ℕ) → seconds ≡ seconds_of word pairs → IsPermutation seconds times → count_in a b times ≡ asked_in pairs word a b
in-order word a b pairs seconds times e p = sum_by-IsPermutation (λ x. bit (nat_le a x && nat_lt x b)) seconds times p ∙ ap (λ l. count_in a b l) e ∙ of-pairs word a b pairs
