-- What a list approximates depends on its rows alone.
use Rattle.std.specs.Prelude.{ℕ, List}
use Rattle.std.proofs.Common.{sym, subst}
use Rattle.base_types.specs.declared.posting.Posting.{Posting}
use Rattle.base_types.specs.declared.tolerance.Tolerance.{Tolerance}
use Rattle.lists_postings.specs.Lists.{SameRows, frequency}
use Rattle.lists_approx.specs.Approximations.{IsNear, IsLongestFirst, Approximates}

near-same : (tolerance : Tolerance) (other a b : List Posting) → SameRows a b → Approximates tolerance other a → Approximates tolerance other b
near-same tolerance other a b same near d t = subst (λ (n : ℕ). IsNear tolerance (frequency d t other) n) (same d t) (near d t)

pub longest_first_alike : (tolerance : Tolerance) (a b short : List Posting) → SameRows a b → IsLongestFirst tolerance a short → IsLongestFirst tolerance b short
longest_first_alike tolerance a b short same h = record {
  ordered = h.ordered;
  near = near-same tolerance short a b same h.near;
  longest = λ other p q ordered near in_short in_other doc from. h.longest other p q ordered (near-same tolerance other b a (λ d t. sym (same d t)) near) in_short in_other doc from;
  least = λ p r in_short near. h.least p r in_short (λ t from to. subst (λ (n : ℕ). IsNear tolerance r n) (sym (same p.doc.0 t)) (near t from to));
}
