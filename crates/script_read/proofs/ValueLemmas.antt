-- Values that constructors of `base_types` and `base_commands` answer are those of the definitions.
use Rattle.std.specs.Prelude.{◌≡◌, ℕ, ◌*◌, ◌<◌, ◌≤◌, ◌^◌, ◌↔◌, Bool, true, false, nat_lt, List, Option, Some, None, IsSome, IfSome, refl}
use Rattle.std.proofs.Common.{ap, sym, ◌∙◌, ltb-true}
use Rattle.base_types.specs.declared.time.Time.{Time}
use Rattle.base_types.specs.declared.time.Span.{Span}
use Rattle.base_types.specs.declared.fraction.Fraction.{Fraction}
use Rattle.base_types.specs.declared.tolerance.Tolerance.{Tolerance}
use Rattle.base_types.specs.Times.{time_by, time_of}
use Rattle.base_types.proofs.Equal.{same_span, same_tolerance}
use Rattle.base_types.proofs.TimeLemmas.{time_of-seconds}
use Rattle.script_read.proofs.MakingLemmas.{value_is, at_most_is, below_is, told_is, fraction_of_new}
use Rattle.base_commands.specs.declared.count.TopCount.{TopCount}
use Rattle.base_commands.specs.declared.count.BestCount.{BestCount}
use Rattle.base_commands.specs.declared.share.ShareFraction.{ShareFraction}
use Rattle.base_commands.proofs.Equal.{same_top, same_best, same_share}
use Rattle.script_read.specs.Numbers.{number}
use Rattle.script_read.specs.Values.{parts, fraction, tolerance, top_count, best_count, share_fraction, span_of}

-- what `Time::new` answers is the time of so many seconds
pub time_of_new : (n : ℕ) (r : Option Time) → IsSome r ↔ (n < 2 ^ 40) → IfSome r (λ t. t.seconds ≡ n) → r ≡ time_of n
time_of_new n (Some t) valid value = sym (time_of-seconds t.seconds t.before_now) ∙ ap time_of value
time_of_new n None valid value = go (nat_lt n (2 ^ 40)) refl
  where
    go : (b : Bool) (h : nat_lt n (2 ^ 40) ≡ b) → None ≡ time_by n b h
    go true h = let no = valid.1 (ltb-true n (2 ^ 40) h) in cc
    go false h = refl

-- what `Span::new` answers is the span of two times
pub span_of_new : (s t : Time) (r : Option Span) → IsSome r ↔ ((s.seconds < t.seconds) × (t.seconds ≤ 2 ^ 40))
    → IfSome r (λ p. (p.from ≡ s.seconds) × (p.to ≡ t.seconds)) → r ≡ span_of s t
span_of_new s t r valid value =
    below_is s.seconds t.seconds _ r (λ o. (valid.0 o).0) λ h. at_most_is t.seconds (2 ^ 40) _ r (λ o. (valid.0 o).1) λ k.
    told_is _ r (valid.1 (h, k)) value (λ p e. same_span p _ e.0 e.1)

-- what `Fraction::new` answers is the factor of the two numbers of a word
pub fraction_new : (word : List ℕ) (p : ℕ × ℕ) (r : Option Fraction) → Some p ≡ parts word → p.0 < 2 ^ 32 → IsSome r ↔ ((1 ≤ p.1) × (p.1 ≤ p.0))
    → IfSome r (λ f. (f.over ≡ p.0) × (f.under ≡ p.1)) → r ≡ fraction word
fraction_new word p r is small valid value = value_is (parts word) p _ r is (fraction_of_new p.0 p.1 r small valid value)

-- what `Tolerance::new` answers is the tolerance of the two numbers of a word
pub tolerance_new : (word : List ℕ) (p : ℕ × ℕ) (r : Option Tolerance) → Some p ≡ parts word → p.1 < 2 ^ 32 → IsSome r ↔ (p.0 < p.1)
    → IfSome r (λ t. (t.part ≡ p.0) × (t.whole ≡ p.1)) → r ≡ tolerance word
tolerance_new word p r is small valid value =
    value_is (parts word) p _ r is (below_is p.0 p.1 _ r valid.0 λ h. below_is p.1 (2 ^ 32) _ r (λ o. small) λ k. told_is _ r (valid.1 h) value (λ t e. same_tolerance t _ e.0 e.1))

-- what `TopCount::new` and `BestCount::new` answer are the counts of a word's number
pub top_count_new : (word : List ℕ) (n : ℕ) (r : Option TopCount) → Some n ≡ number (2 ^ 32) word → IsSome r ↔ ((1 ≤ n) × (n ≤ 1000000)) → IfSome r (λ c. c.number ≡ n)
    → r ≡ top_count word
top_count_new word n r is valid value =
    value_is (number (2 ^ 32) word) n _ r is
    (at_most_is 1 n _ r (λ o. (valid.0 o).0) λ h. at_most_is n 1000000 _ r (λ o. (valid.0 o).1) λ k. told_is _ r (valid.1 (h, k)) value (λ c e. same_top c _ e))

pub best_count_new : (word : List ℕ) (n : ℕ) (r : Option BestCount) → Some n ≡ number (2 ^ 32) word → IsSome r ↔ ((1 ≤ n) × (n ≤ 1000)) → IfSome r (λ c. c.number ≡ n)
    → r ≡ best_count word
best_count_new word n r is valid value =
    value_is (number (2 ^ 32) word) n _ r is
    (at_most_is 1 n _ r (λ o. (valid.0 o).0) λ h. at_most_is n 1000 _ r (λ o. (valid.0 o).1) λ k. told_is _ r (valid.1 (h, k)) value (λ c e. same_best c _ e))

-- what `ShareFraction::new` answers is a word's factor that is at most 16
pub share_fraction_new : (word : List ℕ) (f : Fraction) (r : Option ShareFraction) → Some f ≡ fraction word → IsSome r ↔ (f.over ≤ 16 * f.under) → IfSome r (λ s. s.fraction ≡ f)
    → r ≡ share_fraction word
share_fraction_new word f r is valid value =
    value_is (fraction word) f _ r is (at_most_is f.over (16 * f.under) _ r valid.0 λ h. told_is _ r (valid.1 h) value (λ s e. same_share s _ e))
