-- Matching and score by frequencies that are near.
use Rattle.std.proofs.Common.{◌≡◌, ℕ, zero, suc, ◌*◌, nat_lt, Bool, true, false, cond, not, ◌||◌, ◌&&◌, List, [], ◌∷◌, sum_by, All, refl, sym, ap, ap₂, ◌∙◌, arith}
use Rattle.std.proofs.lemmas.List.Sums.{sum_by-cons}
use Rattle.base_types.specs.declared.tolerance.Tolerance.{Tolerance}
use Rattle.lists_approx.specs.Approximations.{IsNear}
use Rattle.lists_approx.proofs.Near.{near_none, none_near, near_self, near_sum, near_weighted}
use Rattle.query_lang.specs.Grammar.{Query, Has, Lacks, Both, Either}
use Rattle.query_lang.specs.Meaning.{matches, weight, words_of}
use Rattle.query_lang.proofs.Deciding.{agreeing, matches-same}
use Rattle.model_archive.specs.Nearness.{NearByFrequencies}

-- whether there is one
abbrev bit : ℕ → ℕ
bit n = cond (nat_lt 0 n) 1 0

bit-same : (n : ℕ) → nat_lt 0 n ≡ nat_lt 0 (bit n)
bit-same n = go (nat_lt 0 n)
  where
    go : (b : Bool) → b ≡ nat_lt 0 (cond b 1 0)
    go true = refl
    go false = refl

-- a query asks only whether there is one
matches-bits : (f : List ℕ → ℕ) (q : Query) → matches q f ≡ matches q (λ w. bit (f w))
matches-bits f (Has term) = bit-same (f term.key)
matches-bits f (Lacks q) = ap not (matches-bits f q)
matches-bits f (Both p q) = ap₂ (λ a b. a && b) (matches-bits f p) (matches-bits f q)
matches-bits f (Either p q) = ap₂ (λ a b. a || b) (matches-bits f p) (matches-bits f q)

near-bit : (tolerance : Tolerance) (r p : ℕ) → IsNear tolerance r p → bit r ≡ bit p
near-bit tolerance zero p h = sym (ap bit (none_near tolerance zero p h refl))
near-bit tolerance (suc r) zero h = ap bit (near_none tolerance (suc r) zero h refl)
near-bit tolerance (suc r) (suc p) h = grind arith

-- sums by any weights are near
near-sums : (tolerance : Tolerance) (f g weigh : List ℕ → ℕ) (words : List (List ℕ)) → All (λ w. IsNear tolerance (f w) (g w)) words
    → IsNear tolerance (sum_by (λ w. weigh w * f w) words) (sum_by (λ w. weigh w * g w) words)
near-sums tolerance f g weigh [] h = near_self tolerance 0
near-sums tolerance f g weigh (w ∷ words) h =
    rw (sum_by-cons (λ w. weigh w * f w) w words, sum_by-cons (λ w. weigh w * g w) w words)
    (near_sum tolerance (weigh w * f w) (sum_by (λ w. weigh w * f w) words) (weigh w * g w) (sum_by (λ w. weigh w * g w) words)
    (near_weighted tolerance (weigh w) (f w) (g w) (h 0 w (omega arith))) (near-sums tolerance f g weigh words (λ k d l. h (suc k) d (omega (arith, l)))))

pub near_by_frequencies : NearByFrequencies
near_by_frequencies tolerance query often exact h = (
  matches-bits often query
      ∙ matches-same (λ w. bit (often w)) (λ w. bit (exact w)) query
      (agreeing (λ w. bit (often w)) (λ w. bit (exact w)) query (λ k d l. near-bit tolerance (often _) (exact _) (h k d l)))
      ∙ sym (matches-bits exact query),
  near-sums tolerance often exact (weight query) (words_of query) h,
)
